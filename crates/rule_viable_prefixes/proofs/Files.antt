-- Rules one behind the other: where they are refused their tokens do not fit.
use Rattle.rule_viable_prefixes.proofs.Common.{◌≡◌, ◌≢◌, ℕ, zero, suc, ◌<◌, ◌≤◌, List, [], ◌∷◌, ◌++◌, length, None, Result, Ok, Err, refl, sym, ap, subst, ◌∙◌, append_assoc, ◌⊎◌, inl, inr, arith, le_refl, append-nil, codes, Syntax, TooMany, RuleFault, ◌>>=◌, Part, ◌⨾◌, Read, Token, Line, Head, Name, Word, Arrow, Excess, EndsLine, bound, Source, Target, RawRule, SpellsRule, SpellsRules, name_at, precondition_at, witness_at, source_at, arrow_at, target_at, rule_at, rules_at, rules_of, rule_at-shorter, rules_at-is, rules_at-of, line_behind, Fitting, IsNoun, NounFits, RepeatsFlag, Version, Limits}
use Rattle.rule_viable_prefixes.specs.Fits.{line_of}
use Rattle.rule_viable_prefixes.proofs.Lines.{IsNameLine, NamesEndLines, names_behind, name_follows, name_verdict, IsPrecondition, precondition_verdict, IsWitness, witness_verdict, IsHalf, half_opens, some_of_opens, Follows, by_arrow, by_rule, follows_open, source_verdict, target_verdict, IsArrow, arrow_follows, arrow_verdict, verdict_made}
use Rattle.rule_viable_prefixes.proofs.Reasons.{openings_on_line, IsExcused, one_use, repeated, nested, IsMisfit}
use Rattle.rule_viable_prefixes.proofs.FlagRuns.{IsNew, new_on_line}
use Rattle.rule_viable_prefixes.proofs.Outcomes.{lack_wider, repeats_behind, Akin, akin, akin_behind, akin_noun, Alike, same, ended, pair, bare, IsErr}
use Rattle.rule_viable_prefixes.proofs.Tolds.{Excuse, Told, says_wider, SaysFirst}
use Rattle.rule_viable_prefixes.proofs.Rules.{on_new_line, GoesOn, Whole, Within, Missed, Verdict, verdict_both, verdict_wider, begins_line, line_of_both, starts_line}
use Rattle.rule_viable_prefixes.proofs.Roomy.{roomy}

module _ (spare_bytes deepest spare_statements : ℕ) (version : Version) where
  abbrev limits : Limits
  limits = roomy spare_bytes deepest spare_statements

  -- ---- a rule

  abbrev IsRule : Part
  IsRule own = (rule : RawRule) × SpellsRule limits version rule own

  abbrev AreRules : Part
  AreRules own = (rules : List RawRule) × SpellsRules limits version rules own

  -- the last parts of a rule, from its `=>`, its source, its witness or its precondition on
  abbrev FromArrow : Part
  FromArrow = (IsArrow spare_bytes deepest spare_statements version) ⨾ (IsHalf spare_bytes deepest spare_statements version) Target

  abbrev FromSource : Part
  FromSource = IsHalf spare_bytes deepest spare_statements version Source ⨾ FromArrow

  abbrev FromWitness : Part
  FromWitness = (IsWitness spare_bytes deepest spare_statements version) ⨾ FromSource

  abbrev FromPrecondition : Part
  FromPrecondition = (IsPrecondition spare_bytes deepest spare_statements version) ⨾ FromWitness

  rule_made : (own : List Token) → ((IsNameLine spare_bytes deepest spare_statements version) ⨾ FromPrecondition) own → IsRule own
  rule_made own (first, rest1, (number, name, some, le, is_name), (pre, rest2, (p, is_pre), (wit, rest3, (w, is_wit), (source, rest4, (from, is_source), (arrow, target, (arrow_line, is_arrow), (to, is_target), w5), w4), w3), w2), w1) = (
    record { line = number; name = name; precondition = p; witness = w; source = from; target = to },
    record {
      name = (some, le);
      precondition = pre;
      is_precondition = is_pre;
      witness = wit;
      is_witness = is_wit;
      source = source;
      is_source = is_source;
      arrow_line = arrow_line;
      target = target;
      is_target = is_target;
      spelled = w1 ∙ ap (λ (ts : List Token). ts ++ rest1) is_name ∙ ap (λ (ts : List Token). Line number ∷ Head (codes "Name:") ∷ Name name ∷ ts)
          (w2 ∙ ap (λ (ts : List Token). pre ++ ts) (w3 ∙ ap (λ (ts : List Token). wit ++ ts) (w4 ∙ ap (λ (ts : List Token). source ++ ts) (w5 ∙ ap (λ (ts : List Token). ts ++ target) is_arrow))));
    },
  )

  abbrev SampleOf : Part → Type 0
  SampleOf F = (more : List Token) × F more

  with_sample : (L F : Part) → SampleOf L → SampleOf F → SampleOf (L ⨾ F)
  with_sample L F (a, l) (b, f) = (a ++ b, (a, b, l, f, refl))

  no_precondition : SampleOf (IsPrecondition spare_bytes deepest spare_statements version)
  no_precondition = ([], (None, refl))

  no_witness : SampleOf (IsWitness spare_bytes deepest spare_statements version)
  no_witness = ([], (None, refl))

  target_and : (F : Part) → SampleOf F → SampleOf (IsHalf spare_bytes deepest spare_statements version Target ⨾ F)
  target_and F f = some_of_opens spare_bytes deepest spare_statements version (IsHalf spare_bytes deepest spare_statements version Target ⨾ F) (half_opens spare_bytes deepest spare_statements version Target F f)

  left_in : (L M F : Part) → SampleOf (L ⨾ (M ⨾ F)) → SampleOf ((L ⨾ M) ⨾ F)
  left_in L M F (ts, (a, rest, l, (b, c, m, f, second), first)) = (ts, (a ++ b, c, (a, b, l, m, refl), f, first ∙ ap (λ (us : List Token). a ++ us) second ∙ sym (append_assoc a b c)))

  follows_left : (L M F : Part) (token : Token) → ((number : ℕ) → (more : List Token) × (L ⨾ (M ⨾ F)) (Line number ∷ token ∷ more)) → (number : ℕ) → (more : List Token) × ((L ⨾ M) ⨾ F) (Line number ∷ token ∷ more)
  unfolding left_in
  follows_left L M F token opens number = let o = opens number in let s = left_in L M F (Line number ∷ token ∷ o.0, o.1) in (o.0, s.1)

  arrow_and : (F : Part) → SampleOf F → Follows spare_bytes deepest spare_statements version (FromArrow ⨾ F)
  arrow_and F f = by_arrow (follows_left (IsArrow spare_bytes deepest spare_statements version) (IsHalf spare_bytes deepest spare_statements version Target) F Arrow (arrow_follows spare_bytes deepest spare_statements version (IsHalf spare_bytes deepest spare_statements version Target ⨾ F) (target_and F f)))

  source_and : (F : Part) → SampleOf F → SampleOf (FromSource ⨾ F)
  source_and F f = left_in (IsHalf spare_bytes deepest spare_statements version Source) FromArrow F (some_of_opens spare_bytes deepest spare_statements version (IsHalf spare_bytes deepest spare_statements version Source ⨾ (FromArrow ⨾ F)) (half_opens spare_bytes deepest spare_statements version Source (FromArrow ⨾ F) (some_of_opens spare_bytes deepest spare_statements version (FromArrow ⨾ F) (follows_open spare_bytes deepest spare_statements version (FromArrow ⨾ F) (arrow_and F f)))))

  witness_and : (F : Part) → SampleOf F → SampleOf (FromWitness ⨾ F)
  witness_and F f = left_in (IsWitness spare_bytes deepest spare_statements version) FromSource F (with_sample (IsWitness spare_bytes deepest spare_statements version) (FromSource ⨾ F) no_witness (source_and F f))

  precondition_and : (F : Part) → SampleOf F → SampleOf (FromPrecondition ⨾ F)
  precondition_and F f = left_in (IsPrecondition spare_bytes deepest spare_statements version) FromWitness F (with_sample (IsPrecondition spare_bytes deepest spare_statements version) (FromWitness ⨾ F) no_precondition (witness_and F f))

  rule_verdict : (F : Part) (last : ℕ) (tokens : List Token) → Follows spare_bytes deepest spare_statements version F → EndsLine tokens → NamesEndLines tokens → Verdict limits (pair limits) (rule_at limits version last) IsRule F last tokens (rule_at limits version last tokens)
  unfolding rule_at
  rule_verdict F last tokens follows ends names =
      let f = some_of_opens spare_bytes deepest spare_statements version F (follows_open spare_bytes deepest spare_statements version F follows) in
      verdict_wider limits (pair limits) (rule_at limits version last) ((IsNameLine spare_bytes deepest spare_statements version) ⨾ FromPrecondition) IsRule F last tokens (λ own is. rule_made own is) _
      (verdict_both limits (pair limits) (pair limits) (name_at limits last) _ (IsNameLine spare_bytes deepest spare_statements version) FromPrecondition F last tokens ends (name_verdict spare_bytes deepest spare_statements version (FromPrecondition ⨾ F) last tokens (precondition_and F f) ends names) (λ name r1 e1 ends1.
      verdict_both limits (pair limits) (pair limits) (precondition_at limits) _ (IsPrecondition spare_bytes deepest spare_statements version) FromWitness F last r1 ends1 (precondition_verdict spare_bytes deepest spare_statements version (FromWitness ⨾ F) last r1 (witness_and F f) ends1) (λ pre r2 e2 ends2.
      verdict_both limits (pair limits) (pair limits) (witness_at limits) _ (IsWitness spare_bytes deepest spare_statements version) FromSource F last r2 ends2 (witness_verdict spare_bytes deepest spare_statements version (FromSource ⨾ F) last r2 (source_and F f) ends2) (λ wit r3 e3 ends3.
      verdict_both limits (pair limits) (pair limits) (source_at limits version last) _ (IsHalf spare_bytes deepest spare_statements version Source) FromArrow F last r3 ends3 (source_verdict spare_bytes deepest spare_statements version (FromArrow ⨾ F) last r3 (arrow_and F f) ends3) (λ from r4 e4 ends4.
      verdict_both limits (bare limits) (pair limits) (arrow_at last) _ (IsArrow spare_bytes deepest spare_statements version) (IsHalf spare_bytes deepest spare_statements version Target) F last r4 ends4 (arrow_verdict spare_bytes deepest spare_statements version (IsHalf spare_bytes deepest spare_statements version Target ⨾ F) last r4 (target_and F f) ends4) (λ u r5 e5 ends5.
      verdict_made spare_bytes deepest spare_statements version (target_at limits version last) (λ to. record { line = name.0; name = name.1; precondition = pre; witness = wit; source = from; target = to }) (IsHalf spare_bytes deepest spare_statements version Target) F last r5 (target_verdict spare_bytes deepest spare_statements version F last r5 follows ends5)))))))

  -- ---- rules

  rules_made : (own : List Token) → (IsRule ⨾ AreRules) own → AreRules own
  rules_made own (front, back, (rule, one), (rules, others), whole) = (rule ∷ rules, (front, back, one, others, whole))

  rules_open : Follows spare_bytes deepest spare_statements version AreRules
  rules_open = by_rule (λ number.
      let o = follows_left (IsNameLine spare_bytes deepest spare_statements version) FromPrecondition AreRules (Head (codes "Name:")) (name_follows spare_bytes deepest spare_statements version (FromPrecondition ⨾ AreRules) (precondition_and AreRules ([], ([], refl)))) number in
      (o.0, rules_made (Line number ∷ Head (codes "Name:") ∷ o.0) (o.1.0, o.1.1, rule_made o.1.0 o.1.2, o.1.3, o.1.4)))

  -- tokens that spell rules, one or more, are read as a rule and the rest
  rules_first : (last : ℕ) (token : Token) (tokens : List Token) → AreRules (token ∷ tokens) → (x : RawRule × List Token) × (rule_at limits version last (token ∷ tokens) ≡ Ok x) × AreRules x.1
  unfolding rules_at
  rules_first last token tokens (rules, is) =
      let e : rules_at limits version (suc (length tokens)) last (token ∷ tokens) ≡ Ok rules = rules_at-of limits version (suc (length tokens)) last rules (token ∷ tokens) is (omega arith) in
      bound (rule_at limits version last (token ∷ tokens)) _ _ e (λ x p e1.
      bound (rules_at limits version (length tokens) last x.1) _ _ e1 (λ others q e2. (x, p, (others, rules_at-is limits version (length tokens) last x.1 others q))))

  -- the tokens that fit behind a prefix of rules
  abbrev RulesGoOn : ℕ → List Token → Fitting
  RulesGoOn number front token = (more : List Token) × AreRules (Line number ∷ (front ++ token ∷ []) ++ more)

  -- no noun fits behind a prefix of rules
  abbrev NoneGoesOn : ℕ → List Token → Type 0
  NoneGoesOn number front = (noun : List ℕ) → IsNoun noun → (more : List Token) → AreRules (Line number ∷ front ++ Word noun ∷ more) → ⊥

  abbrev RulesLack : ℕ → List Token → List ℕ → Type 0
  RulesLack number front word = RepeatsFlag front word ⊎ NoneGoesOn number front

  -- the fault is at a token behind a prefix that begins with a line's number
  record RefusedWithin (tokens : List Token) (found : RuleFault) : Type 0 where
    number : ℕ
    front : List Token
    behind : List Token
    there : tokens ≡ Line number ∷ front ++ behind
    begins : (more : List Token) × AreRules (Line number ∷ front ++ more)
    misfit : (more : List Token) → Alike behind more → AreRules (Line number ∷ front ++ more) → ⊥
    here : found.line ≡ line_behind number front
    says : SaysFirst limits (openings_on_line front) (RulesGoOn number front) (RulesLack number front) behind found.kind
    new : IsNew front found.kind

  -- the fault is at the end, where another line has to come
  record MissedAtEnd (last : ℕ) (tokens : List Token) (found : RuleFault) : Type 0 where
    begins : (number : ℕ) → (more : List Token) × AreRules ((tokens ++ Line number ∷ []) ++ more)
    here : found.line ≡ last
    says : found.kind ≡ Syntax

  abbrev Refused : ℕ → List Token → RuleFault → Type 0
  Refused last tokens found = RefusedWithin tokens found ⊎ MissedAtEnd last tokens found

  ok_no_err : {X : Type 0} (r : Result X RuleFault) (x : X) → r ≡ Ok x → IsErr limits r → ⊥
  ok_no_err r x p (e, q) = let both = sym p ∙ q in absurd cc

  rule_refused : (last : ℕ) (tokens : List Token) (found : RuleFault) → Within limits (rule_at limits version last) IsRule AreRules tokens found ⊎ Missed limits IsRule AreRules last tokens found → Refused last tokens found
  rule_refused last tokens found (inl w) = inl (record {
    number = w.number;
    front = w.front;
    behind = w.behind;
    there = w.there;
    begins = (w.begins.0, rules_made (Line w.number ∷ w.front ++ w.begins.0) w.begins.1);
    misfit = λ more alike rules.
        let f = rules_first last (Line w.number) (w.front ++ more) rules in
        ok_no_err (rule_at limits version last (Line w.number ∷ w.front ++ more)) f.0 f.1 (w.refused more alike);
    here = w.here;
    says = says_wider limits (openings_on_line w.front) (openings_on_line w.front) (omega arith) (GoesOn limits IsRule AreRules w.number w.front) (RulesGoOn w.number w.front) (λ token c. (c.0, rules_made (Line w.number ∷ (w.front ++ token ∷ []) ++ c.0) c.1)) w.behind
        (λ word r is_word. lack_wider limits [] w.front w.front word refl (λ n noun is_noun more rules.
        let f = rules_first last (Line w.number) (w.front ++ Word noun ∷ more) rules in
        ok_no_err (rule_at limits version last (Line w.number ∷ w.front ++ Word noun ∷ more)) f.0 f.1 (n noun is_noun more))) found.kind w.says;
    new = w.new;
  })
  rule_refused last tokens found (inr m) = inr (record { begins = λ number. let c = m.begins number in (c.0, rules_made ((tokens ++ Line number ∷ []) ++ c.0) c.1); here = m.here; says = m.says })

  -- the fault is behind a rule that was read
  refused_behind : (last : ℕ) (tokens : List Token) (x : RawRule × List Token) (found : RuleFault) → EndsLine tokens → (o : Whole limits (pair limits) (rule_at limits version last) IsRule tokens x) → Refused last o.rest found → Refused last tokens found
  refused_behind last tokens x found ends o (inr m) = inr (record {
    begins = λ number.
        let c = m.begins number in
        let whole : (tokens ++ Line number ∷ []) ++ c.0 ≡ o.own ++ ((o.rest ++ Line number ∷ []) ++ c.0) =
        ap (λ (ts : List Token). (ts ++ Line number ∷ []) ++ c.0) o.there ∙ ap (λ (ts : List Token). ts ++ c.0) (append_assoc o.own o.rest (Line number ∷ [])) ∙ append_assoc o.own (o.rest ++ Line number ∷ []) c.0 in
        (c.0, rules_made ((tokens ++ Line number ∷ []) ++ c.0) (o.own, (o.rest ++ Line number ∷ []) ++ c.0, o.is_own, c.1, whole));
    here = m.here;
    says = m.says;
  })
  refused_behind last tokens x found ends o (inl w) = by_own o.own refl
    where
      rules_of : (own ts : List Token) → o.own ≡ own → AreRules ts → AreRules (own ++ ts)
      rules_of own ts is rules = rules_made (own ++ ts) (own, ts, subst IsRule is o.is_own, rules, refl)

      -- the rule is read whatever is behind it, so tokens behind it that spell no rules are no rules with it
      no_rules : (token : Token) (own more : List Token) → o.own ≡ token ∷ own → Akin (w.front ++ w.behind) (w.front ++ more) → (AreRules (Line w.number ∷ (w.front ++ more)) → ⊥) → AreRules (token ∷ own ++ Line w.number ∷ (w.front ++ more)) → ⊥
      no_rules token own more is alike misfit rules =
          let f = rules_first last token (own ++ Line w.number ∷ (w.front ++ more)) rules in
          let kept : rule_at limits version last (token ∷ own ++ Line w.number ∷ (w.front ++ more)) ≡ Ok (o.value, Line w.number ∷ (w.front ++ more)) =
          subst (λ (ts : List Token). rule_at limits version last (ts ++ Line w.number ∷ (w.front ++ more)) ≡ Ok (o.value, Line w.number ∷ (w.front ++ more))) is
          (o.kept w.number (w.front ++ w.behind) (w.front ++ more) w.there alike) in
          let rest : f.0.1 ≡ Line w.number ∷ (w.front ++ more) = ap (λ (y : RawRule × List Token). y.1) (Rattle.rule_tokens.proofs.Steps.ok_is f.0 (o.value, Line w.number ∷ (w.front ++ more)) (sym f.1 ∙ kept)) in
          misfit (subst AreRules rest f.2)

      by_own : (own : List Token) → o.own ≡ own → Refused last tokens found
      by_own [] none = absurd (no_rule o.is_own none)
        where
          no_rule : IsRule o.own → o.own ≡ [] → ⊥
          no_rule (rule, is) empty = let e = sym empty ∙ is.spelled in absurd cc
      by_own (token ∷ own) is =
          let start = starts_line limits token own o.rest (subst EndsLine (o.there ∙ ap (λ (ts : List Token). ts ++ o.rest) is) ends) in
          let as_line : o.own ≡ Line start.0 ∷ own = is ∙ ap (λ (u : Token). u ∷ own) start.1 in
          inl (record {
            number = start.0;
            front = own ++ Line w.number ∷ w.front;
            behind = w.behind;
            there = o.there ∙ ap (λ (ts : List Token). ts ++ o.rest) as_line ∙ ap (λ (ts : List Token). Line start.0 ∷ own ++ ts) w.there ∙ ap (λ (ts : List Token). Line start.0 ∷ ts) (sym (append_assoc own (Line w.number ∷ w.front) w.behind));
            begins = (w.begins.0, subst (λ (ts : List Token). AreRules (Line start.0 ∷ ts)) (sym (append_assoc own (Line w.number ∷ w.front) w.begins.0)) (rules_of (Line start.0 ∷ own) (Line w.number ∷ w.front ++ w.begins.0) as_line w.begins.1));
            misfit = λ more alike rules. no_rules (Line start.0) own more as_line (akin_behind w.front w.behind more (akin alike)) (w.misfit more alike) (subst (λ (ts : List Token). AreRules (Line start.0 ∷ ts)) (append_assoc own (Line w.number ∷ w.front) more) rules);
            here = w.here ∙ sym (line_of_both limits own w.front start.0 w.number);
            says = says_wider limits (openings_on_line w.front) (openings_on_line (own ++ Line w.number ∷ w.front)) (let same_line = on_new_line limits own w.front 0 w.number in omega (arith, same_line)) (RulesGoOn w.number w.front) (RulesGoOn start.0 (own ++ Line w.number ∷ w.front))
                (λ token a.
                let whole : (own ++ (Line w.number ∷ w.front)) ++ token ∷ [] ≡ own ++ Line w.number ∷ (w.front ++ token ∷ []) = append_assoc own (Line w.number ∷ w.front) (token ∷ []) in
                let all : ((own ++ (Line w.number ∷ w.front)) ++ token ∷ []) ++ a.0 ≡ own ++ Line w.number ∷ ((w.front ++ token ∷ []) ++ a.0) =
                ap (λ (ts : List Token). ts ++ a.0) whole ∙ append_assoc own (Line w.number ∷ (w.front ++ token ∷ [])) a.0 in
                (a.0, subst (λ (ts : List Token). AreRules (Line start.0 ∷ ts)) (sym all) (rules_of (Line start.0 ∷ own) (Line w.number ∷ (w.front ++ token ∷ []) ++ a.0) as_line a.1)))
                w.behind
                (λ word r is_word. lack_wider limits (own ++ Line w.number ∷ []) w.front (own ++ Line w.number ∷ w.front) word (sym (append_assoc own (Line w.number ∷ []) w.front)) (λ n noun is_noun more rules.
                no_rules (Line start.0) own (Word noun ∷ more) as_line (akin_noun w.front w.behind word r is_word noun is_noun more) (n noun is_noun more)
                (subst (λ (ts : List Token). AreRules (Line start.0 ∷ ts)) (append_assoc own (Line w.number ∷ w.front) (Word noun ∷ more)) rules))) found.kind w.says;
            new = new_on_line own w.number w.front found.kind w.new;
          })

  rules_refused : (n last : ℕ) (tokens : List Token) (found : RuleFault) → length tokens ≤ n → EndsLine tokens → NamesEndLines tokens → rules_at limits version n last tokens ≡ Err found → Refused last tokens found
  unfolding rules_at
  rules_refused n last [] found few ends names e = absurd cc
  rules_refused zero last (token ∷ tokens) found few ends names e = absurd (omega arith)
  rules_refused (suc n) last (token ∷ tokens) found few ends names e =
      by n (λ rest shorter ends_ names_ e_. rules_refused n last rest found shorter ends_ names_ e_) few (rule_at limits version last (token ∷ tokens)) refl (rule_verdict AreRules last (token ∷ tokens) rules_open ends names) e
    where
      others : (n : ℕ) (rest : List Token) (y : RawRule) (r : Result (List RawRule) RuleFault) → (r >>= λ others. Ok (y ∷ others)) ≡ Err found → r ≡ Err found
      others n rest y (Ok rules) e = absurd cc
      others n rest y (Err f) e = let same_fault = e in cc

      by : (n : ℕ) → ((rest : List Token) → length rest ≤ n → EndsLine rest → NamesEndLines rest → rules_at limits version n last rest ≡ Err found → Refused last rest found) → length (token ∷ tokens) ≤ suc n
          → (r : Read RawRule) → rule_at limits version last (token ∷ tokens) ≡ r → Verdict limits (pair limits) (rule_at limits version last) IsRule AreRules last (token ∷ tokens) r → (r >>= λ first. (rules_at limits version n last first.1 >>= λ others. Ok (first.0 ∷ others))) ≡ Err found → Refused last (token ∷ tokens) found
      by n further few (Err f) is v e = subst (Refused last (token ∷ tokens)) (let same_fault = e in cc) (rule_refused last (token ∷ tokens) f v)
      by n further few (Ok x) is o e =
          let fewer : length x.1 < length (token ∷ tokens) = rule_at-shorter limits version last (token ∷ tokens) x is in
          let rest : x.1 ≡ o.rest = ap (λ (y : RawRule × List Token). y.1) o.is in
          let short : length o.rest ≤ n = omega (arith, ap length rest) in
          let read : rules_at limits version n last o.rest ≡ Err found = subst (λ (ts : List Token). rules_at limits version n last ts ≡ Err found) rest (others n x.1 x.0 (rules_at limits version n last x.1) e) in
          refused_behind last (token ∷ tokens) x found ends o (further o.rest short o.ends (names_behind o.own o.rest (subst NamesEndLines o.there names)) read)

  -- ---- where the fault stands

  -- the tokens begin rules, and a token fits behind them
  abbrev pub Fit : List Token → Type 0
  Fit front = (rules : List RawRule) × (more : List Token) × SpellsRules limits version rules (front ++ more)

  abbrev pub FitBehind : List Token → Fitting
  FitBehind front token = Fit (front ++ token ∷ [])

  abbrev pub LineFit : List Token → Type 0
  LineFit front = (number : ℕ) × FitBehind front (Line number)

  -- the fault is at a token, and says why it does not fit; the tokens before it begin with a line's number
  pub record AtRuleToken (tokens : List Token) (found : RuleFault) : Type 0 where
    pub number : ℕ
    pub inner : List Token
    pub token : Token
    pub behind : List Token
    pub stands : tokens ≡ Line number ∷ inner ++ token ∷ behind
    pub fits : Fit (Line number ∷ inner)
    pub misfit : ¬ FitBehind (Line number ∷ inner) token
    pub line : found.line ≡ line_behind number inner
    pub told : token ≢ Excess → IsMisfit limits (openings_on_line inner) (FitBehind (Line number ∷ inner)) token behind found.kind
    pub excess : token ≡ Excess → found.kind ≡ TooMany
    pub no_noun : found.kind ≡ Syntax → (word : List ℕ) → token ≡ Word word → NounFits (FitBehind (Line number ∷ inner)) → IsExcused limits (FitBehind (Line number ∷ inner)) (Line number ∷ inner) word
    pub new : IsNew inner found.kind

  -- the fault is at the end of the tokens
  pub record AtRulesEnd (tokens : List Token) (last : ℕ) (found : RuleFault) : Type 0 where
    pub fits : Fit tokens
    pub no_rules : (rules : List RawRule) → ¬ SpellsRules limits version rules tokens
    pub kind : found.kind ≡ Syntax
    pub line : (LineFit tokens × (found.line ≡ last)) ⊎ ((¬ LineFit tokens) × (found.line ≡ line_of tokens))

  no_rules_refused : (n last : ℕ) (tokens : List Token) (found : RuleFault) → length tokens ≤ n → rules_at limits version n last tokens ≡ Err found → (rules : List RawRule) → SpellsRules limits version rules tokens → ⊥
  no_rules_refused n last tokens found few e rules is = ok_no_err (rules_at limits version n last tokens) rules (rules_at-of limits version n last rules tokens is few) (found, e)

  at_token_or_end : (last : ℕ) (tokens : List Token) (found : RuleFault) (w : RefusedWithin tokens found) → (behind : List Token) → w.behind ≡ behind → AtRuleToken tokens found ⊎ AtRulesEnd tokens last found
  at_token_or_end last tokens found w (token ∷ behind) is = inl (record {
    number = w.number;
    inner = w.front;
    token = token;
    behind = behind;
    stands = w.there ∙ ap (λ (ts : List Token). Line w.number ∷ w.front ++ ts) is;
    fits = (w.begins.1.0, w.begins.0, w.begins.1.1);
    misfit = λ fits.
        w.misfit (token ∷ fits.1) (subst (λ (ts : List Token). Alike ts (token ∷ fits.1)) (sym is) (same token behind fits.1))
        (fits.0, subst (λ (ts : List Token). SpellsRules limits version fits.0 (Line w.number ∷ ts)) (append_assoc w.front (token ∷ []) fits.1) fits.2);
    line = w.here;
    told = told.misfit;
    excess = told.excess;
    no_noun = λ syntax_ word is_word noun. by word (told.lacks syntax_ word is_word) noun;
    new = w.new;
  })
    where
      told : Told limits (openings_on_line w.front) (FitBehind (Line w.number ∷ w.front)) (RulesLack w.number w.front) token behind found.kind
      told = says_wider limits (openings_on_line w.front) (openings_on_line w.front) (omega arith) (RulesGoOn w.number w.front) (FitBehind (Line w.number ∷ w.front)) (λ other a. (a.1.0, a.0, a.1.1)) (token ∷ behind) (λ word r is_word n. n) found.kind
          (subst (λ (ts : List Token). SaysFirst limits (openings_on_line w.front) (RulesGoOn w.number w.front) (RulesLack w.number w.front) ts found.kind) is w.says)

      by : (word : List ℕ) → Excuse limits (openings_on_line w.front) (FitBehind (Line w.number ∷ w.front)) word ⊎ RulesLack w.number w.front word → NounFits (FitBehind (Line w.number ∷ w.front)) → IsExcused limits (FitBehind (Line w.number ∷ w.front)) (Line w.number ∷ w.front) word
      by word (inl (inl is_word)) noun = one_use is_word
      by word (inl (inr deep)) noun = nested deep
      by word (inr (inl repeats)) noun = repeated (repeats_behind limits (Line w.number ∷ []) w.front (Line w.number ∷ w.front) word refl repeats)
      by word (inr (inr none)) (noun, is_noun, (rules, more, spelled)) =
          absurd (none noun is_noun more (rules, subst (λ (ts : List Token). SpellsRules limits version rules (Line w.number ∷ ts)) (append_assoc w.front (Word noun ∷ []) more) spelled))
  at_token_or_end last tokens found w [] is =
      let whole : tokens ≡ Line w.number ∷ w.front = w.there ∙ ap (λ (ts : List Token). Line w.number ∷ w.front ++ ts) is ∙ ap (λ (ts : List Token). Line w.number ∷ ts) (append-nil w.front) in
      let at_end : (more : List Token) → EndsLine more → Alike w.behind more = λ more ends. subst (λ (ts : List Token). Alike ts more) (sym is) (ended [] more tt ends) in
      inr (record {
        fits = (w.begins.1.0, w.begins.0, subst (λ (ts : List Token). SpellsRules limits version w.begins.1.0 (ts ++ w.begins.0)) (sym whole) w.begins.1.1);
        no_rules = λ rules spelled. w.misfit [] (at_end [] tt) (rules, subst (SpellsRules limits version rules) (whole ∙ sym (ap (λ (ts : List Token). Line w.number ∷ ts) (append-nil w.front))) spelled);
        kind = subst (λ (ts : List Token). SaysFirst limits (openings_on_line w.front) (RulesGoOn w.number w.front) (RulesLack w.number w.front) ts found.kind) is w.says;
        line = inr (
          (λ fits.
              w.misfit (Line fits.0 ∷ fits.1.1) (at_end (Line fits.0 ∷ fits.1.1) tt)
              (fits.1.0, subst (SpellsRules limits version fits.1.0) (append_assoc tokens (Line fits.0 ∷ []) fits.1.1 ∙ ap (λ (ts : List Token). ts ++ Line fits.0 ∷ fits.1.1) whole) fits.1.2)),
          w.here ∙ sym (begins_line limits w.number 0 w.front) ∙ sym (ap line_of whole),
        );
      })

  pub where_rules_refused : (last : ℕ) (tokens : List Token) (found : RuleFault) → EndsLine tokens → NamesEndLines tokens → rules_of limits version last tokens ≡ Err found → AtRuleToken tokens found ⊎ AtRulesEnd tokens last found
  where_rules_refused last tokens found ends names e = by (rules_refused (length tokens) last tokens found (le_refl _) ends names e)
    where
      by : Refused last tokens found → AtRuleToken tokens found ⊎ AtRulesEnd tokens last found
      by (inl w) = at_token_or_end last tokens found w w.behind refl
      by (inr m) =
          let c = m.begins 0 in
          inr (record {
            fits = (c.1.0, Line 0 ∷ c.0, subst (SpellsRules limits version c.1.0) (append_assoc tokens (Line 0 ∷ []) c.0) c.1.1);
            no_rules = no_rules_refused (length tokens) last tokens found (le_refl _) e;
            kind = m.says;
            line = inl ((0, (c.1.0, c.0, c.1.1)), m.here);
          })
