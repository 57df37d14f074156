-- What the parsers of formulas do on a line.
use Rattle.rule_viable_prefixes.proofs.Common.{◌≡◌, ℕ, zero, suc, ◌+◌, ◌≤◌, Bool, true, false, List, [], ◌∷◌, ◌++◌, length, Option, Some, None, Result, Ok, Err, refl, sym, ap, subst, ◌∙◌, append_assoc, inl, inr, arith, codes, list_any, bytes_eq, append-nil, append_cancel_right, Pred, Eq, same_word, is_constant, Syntax, TooMany, RuleFault, ◌>>=◌, literal_value, Part, Is, ◌⨾◌, Read, fault, unexpected, Token, Line, Register, Word, Fact, Number, Mark, EndsLine, bound, Opening, Encloses, Tests, Compares, Predicate, RawFormula, HasOneUse, MaskedValueIsZero, IsKnownNonZero, And, Or, RawNode, opens_formula, comparison_at, compares_at, tests_at, one_use_at, masked_at, non_zero_at, joins, members_of, more_alternatives, alternatives_of, turns_at, encloses_at, member_at, outer_member_at, is_outer, or_alternatives, formula_at, comparison_mark, comparison_in, predicate_in, predicate_word, predicate_node, Standing, Outermost, Level, Member, Members, Alternatives, SpellsFormula, SpellsWholeFormula, compares, tests, masked, non_zero, turns, encloses, member, both, members, either, last_place, SpellsWholeTerm, leaf, parenthesised, opening_in, start_at, mark_at, primary_at, term_at, loosest, comparison_at-is, opening_at-is, member_at-is, members_of-is, alternatives_of-is, outer_member_at-is, joins_shortens, stands_within, stands_outermost, term_plain, formula_says, term_compares, within_read, member-turns, member-encloses, member-tests, member-compares, turns-too_deep, encloses-too_deep, spells_some, term_at-is, mark_at-is, Fitting, IsNoun, IsFlagWord, Limits}
use Rattle.rule_tokens.specs.declared.fact.BitFact.TheVariants as facts
use Rattle.rule_terms.specs.declared.place.TermPlace.TheVariants.{Constant}
use Rattle.rule_terms.specs.declared.raw.RawFormula.TheVariants.{Compare, Not}
use Rattle.rule_terms.specs.declared.raw.RawNode.TheVariants as raw_nodes
use Rattle.rule_terms.specs.Chains.{Reader as Behind}
use Rattle.rule_terms.specs.FormulaReaders.{opening_at, register_at}
use Rattle.rule_terms.specs.Formulas.{Within, one_use}
use Rattle.rule_viable_prefixes.proofs.Reasons as kinds
use Rattle.rule_viable_prefixes.proofs.Reasons.{Nests, IsTooDeep}
use Rattle.rule_viable_prefixes.proofs.Nouns.{constant_noun, not_in_formulas, predicate_other, one_use_other}
use Rattle.rule_viable_prefixes.proofs.Outcomes.{lack_wider, Lack, NoNoun, Takes, Alike, same, ended, NoLine, Spelling, Sample, pair, bare, Reader, IsErr, IsErrOn, Outcome, Good, then, passed, led, led_in, opened, opens_one, alike_as, widen, Branch, takes, refuses, by_token, with_none, widened, on_line, then_done, own_last}
use Rattle.rule_viable_prefixes.proofs.Tolds.{Told, IsTold, says_syntax, says_too_many, says_deep, says_deep_fact, says_wider, says_carried, says_unexpected}
use Rattle.rule_viable_prefixes.proofs.FlagRuns.{IsNew, new_behind}
use Rattle.rule_viable_prefixes.proofs.Parentheses.{word_and_equals, seen_again, unseen_again, shorter, longer, cut, opens_at_end, closes, formula_seen, BeginsTerm, loosened, not_both, term_instead, Enclosed, parenthesis_begins}
use Rattle.rule_viable_prefixes.proofs.Parts.{Spelled, then_seq, ends_alike, refused_token, then_end, chain_good}
use Rattle.rule_viable_prefixes.proofs.Terms.{entered, Named, is_short, is_long, named, mark_good, IsTerm, Term, term_good, Closed, parenthesis_missed}
use Rattle.rule_viable_prefixes.proofs.Roomy.{roomy}

module _ (spare_bytes deepest spare_statements : ℕ) where
  abbrev limits : Limits
  limits = roomy spare_bytes deepest spare_statements

  -- the limits with this much nesting left
  abbrev levels : ℕ → Limits
  levels nesting = roomy spare_bytes nesting spare_statements

  -- ---- what spells a formula, of any nodes

  abbrev pub IsFormula : Standing → Level → ℕ → Part
  IsFormula standing level nesting own = (start : ℕ) → (nodes : List RawFormula) × SpellsFormula limits standing level nesting start nodes own

  abbrev IsComparison : Part
  IsComparison own = (pred : Pred) × Is (Mark (comparison_mark pred)) own

  abbrev IsCompared : ℕ → Part
  IsCompared nesting = IsTerm spare_bytes deepest spare_statements Constant nesting loosest ⨾ IsComparison ⨾ (IsTerm spare_bytes deepest spare_statements) Constant nesting loosest

  compared : (standing : Standing) (nesting : ℕ) (own : List Token) → IsCompared nesting own → IsFormula standing Member nesting own
  compared standing nesting own (front, back, l, (middle, last, (pred, is), r, whole), all) = λ start.
      let left = l 0 in
      let right = r 0 in
      let same : own ≡ front ++ Mark (comparison_mark pred) ∷ last = all ∙ ap (λ (ts : List Token). front ++ ts) (whole ∙ ap (λ (ts : List Token). ts ++ last) is) in
      (Compare pred left.0 right.0 ∷ [], subst (λ (ts : List Token). SpellsFormula limits standing Member nesting start (Compare pred left.0 right.0 ∷ []) ts) (sym same) (compares pred left.1 right.1))

  -- ---- comparisons

  comparison_branch : (nesting line : ℕ) (token : Token) → Branch (levels nesting) (pair limits) (comparison_at line) (Spelled limits IsComparison) line token
  unfolding comparison_at
  comparison_branch nesting line (Mark mark) = by (comparison_in mark) refl
    where
      by : (found : Option Pred) → comparison_in mark ≡ found → Branch (levels nesting) (pair limits) (comparison_at line) (Spelled limits IsComparison) line (Mark mark)
      by (Some pred) f = takes pred tt (pred, comparison_at-is limits line (Mark mark ∷ []) (pred, []) (rw f refl)) (λ more. rw f refl)
      by None f = refuses (λ more. (fault line Syntax, rw f refl, refl, says_syntax (levels nesting) (Mark mark) more tt))
  comparison_branch nesting line token = refuses (λ more. (unexpected line (token ∷ more), refl, refl, says_unexpected (levels nesting) line token more (λ word is. inr (inr (λ noun is_noun others. (unexpected line (Word noun ∷ others), refl))))))

  comparison_good : (nesting line : ℕ) → Good (levels nesting) (pair limits) (comparison_at line) (Spelled limits IsComparison) line
  unfolding comparison_at
  comparison_good nesting line = by_token (levels nesting) (Eq, Mark (comparison_mark Eq) ∷ [], (Eq, refl)) (comparison_branch nesting line) (fault line Syntax, refl, refl, refl)

  compares_good : (nesting line : ℕ) (before : List RawFormula) → Good (levels nesting) (pair limits) (compares_at limits nesting line before) (Spelled limits (IsCompared nesting)) line
  unfolding compares_at
  compares_good nesting line before =
      then_seq (levels nesting) {s = (pair limits)} {t = (pair limits)} _ (term_good spare_bytes deepest spare_statements Constant nesting line) (λ left.
      then_seq (levels nesting) {s = (pair limits)} {t = (pair limits)} _ (comparison_good nesting line) (λ pred.
      then_done (levels nesting) {s = (pair limits)} {L = Term spare_bytes deepest spare_statements Constant nesting loosest} (λ right. before ++ Compare pred left right ∷ []) _ (λ x rest. refl) (λ x own is. is) (term_good spare_bytes deepest spare_statements Constant nesting line)))

  -- ---- predicates

  tested : (standing : Standing) (predicate : Predicate) (nesting : ℕ) (own : List Token) → (Is (Mark (codes "(")) ⨾ (IsTerm spare_bytes deepest spare_statements) Constant nesting loosest ⨾ Is (Mark (codes ")"))) own → IsFormula standing Member (suc nesting) (Word (predicate_word predicate) ∷ own)
  tested standing predicate nesting own (mark, back, o, (inside, close, is, c, whole), all) = λ start.
      let term = is 0 in
      let same : own ≡ Mark (codes "(") ∷ inside ++ Mark (codes ")") ∷ [] = all ∙ ap (λ (ts : List Token). ts ++ back) o ∙ ap (λ (ts : List Token). Mark (codes "(") ∷ ts) (whole ∙ ap (λ (ts : List Token). inside ++ ts) c) in
      (predicate_node predicate term.0 ∷ [], subst (λ (ts : List Token). SpellsFormula limits standing Member (suc nesting) start (predicate_node predicate term.0 ∷ []) (Word (predicate_word predicate) ∷ ts)) (sym same) (tests predicate term.1))

  close_done : {B : Type 0} (value : B) (nesting line : ℕ) → Good (levels nesting) (pair limits) (λ ts. mark_at (codes ")") line ts >>= λ behind. Ok (value, behind)) (Spelled limits (Is (Mark (codes ")")))) line
  close_done value nesting line = then_done (levels nesting) {s = (bare limits)} {L = Spelled limits (Is (Mark (codes ")")))} (λ u. value) (λ behind. Ok (value, behind)) (λ u rest. refl) (λ u own is. is) (mark_good (levels nesting) (codes ")") line)

  tests_good : (predicate : Predicate) (nesting line : ℕ) (before : List RawFormula) → Good (levels (suc nesting)) (pair limits) (tests_at limits predicate (suc nesting) line before) (Spelled limits (Is (Mark (codes "(")) ⨾ (IsTerm spare_bytes deepest spare_statements) Constant nesting loosest ⨾ Is (Mark (codes ")")))) line
  unfolding tests_at
  tests_good predicate nesting line before =
      widened (levels (suc nesting)) (λ x own c. (Mark (codes "(") ∷ [], c.0, refl, c.1, c.2))
      (entered spare_bytes deepest spare_statements nesting line _ (Spelled limits (IsTerm spare_bytes deepest spare_statements Constant nesting loosest ⨾ Is (Mark (codes ")"))))
      (then_seq (levels nesting) {s = (pair limits)} {t = (pair limits)} _ (term_good spare_bytes deepest spare_statements Constant nesting line) (λ term. close_done (before ++ predicate_node predicate term ∷ []) nesting line)))

  -- the fault of a predicate where no level of nesting is left
  abbrev IsShallow : {X : Type 0} → ℕ → List Token → Result X RuleFault → Type 0
  IsShallow line tokens r = (e : RuleFault) × (r ≡ Err e) × (e.line ≡ line) × IsTold limits tokens e.kind

  tests_shallow : (predicate : Predicate) (line : ℕ) (before : List RawFormula) (tokens : List Token) → IsShallow line tokens (tests_at limits predicate zero line before tokens)
  unfolding tests_at
  tests_shallow predicate line before tokens = by (mark_at (codes "(") line tokens) refl
    where
      by : (r : Result (List Token) RuleFault) → mark_at (codes "(") line tokens ≡ r → IsShallow line tokens (tests_at limits predicate zero line before tokens)
      by (Ok rest) e = (fault line TooMany, rw e refl, refl, inl refl)
      by (Err f) e = (f, rw e refl, on_line (levels zero) (mark_good (levels zero) (codes "(") line) tokens f e, parenthesis_missed limits line tokens f e)

  abbrev IsName : Part
  IsName own = (name : List ℕ) × (length name ≤ limits.name_bytes) × Is (Register name) own

  register_branch : (nesting line : ℕ) (token : Token) → Branch (levels nesting) (pair limits) (register_at limits line) (Spelled limits IsName) line token
  register_branch nesting line (Register name) = by (named limits line name)
    where
      by : Named limits line name → Branch (levels nesting) (pair limits) (register_at limits line) (Spelled limits IsName) line (Register name)
      by (is_short le n) = takes name tt (name, le, refl) (λ more. rw n refl)
      by (is_long long n) = refuses (λ more. (fault line TooMany, rw n refl, refl, says_too_many (levels nesting) (Register name) more (kinds.register name (codes "a", long, omega arith, tt, tt, (codes "a", [], (codes "a", omega arith, refl))))))
  register_branch nesting line token = refuses (λ more. (unexpected line (token ∷ more), refl, refl, says_unexpected (levels nesting) line token more (λ word is. inr (inr (λ noun is_noun others. (unexpected line (Word noun ∷ others), refl))))))

  register_good : (nesting line : ℕ) → Good (levels nesting) (pair limits) (register_at limits line) (Spelled limits IsName) line
  register_good nesting line = by_token (levels nesting) ([], Register [] ∷ [], ([], omega arith, refl)) (register_branch nesting line) (fault line Syntax, refl, refl, refl)

  used_once : (nesting : ℕ) (own : List Token) → (Is (Mark (codes "(")) ⨾ IsName ⨾ Is (Mark (codes ")"))) own → IsFormula Outermost Member nesting (Word (codes "hasOneUse") ∷ own)
  used_once nesting own (mark, back, o, (inside, close, (name, le, is), c, whole), all) = λ start.
      let same : own ≡ Mark (codes "(") ∷ Register name ∷ Mark (codes ")") ∷ [] = all ∙ ap (λ (ts : List Token). ts ++ back) o ∙ ap (λ (ts : List Token). Mark (codes "(") ∷ ts) (whole ∙ ap (λ (ts : List Token). ts ++ close) is ∙ ap (λ (ts : List Token). Register name ∷ ts) c) in
      (HasOneUse name ∷ [], subst (λ (ts : List Token). SpellsFormula limits Outermost Member nesting start (HasOneUse name ∷ []) (Word (codes "hasOneUse") ∷ ts)) (sym same) (one_use le))

  one_use_good : (line : ℕ) (before : List RawFormula) → Good limits (pair limits) (one_use_at limits line before) (Spelled limits (Is (Mark (codes "(")) ⨾ IsName ⨾ Is (Mark (codes ")")))) line
  unfolding one_use_at
  one_use_good line before =
      then_seq limits {s = (bare limits)} {t = (pair limits)} _ (mark_good limits (codes "(") line) (λ u.
      then_seq limits {s = (pair limits)} {t = (pair limits)} _ (register_good deepest line) (λ name. close_done (before ++ HasOneUse name ∷ []) deepest line))

  known_non_zero : (nesting : ℕ) (own : List Token) → (Is (Mark (codes "(")) ⨾ IsName ⨾ Is (Mark (codes ")"))) own → IsFormula Outermost Member nesting (Fact facts.IsKnownNonZero ∷ own)
  known_non_zero nesting own (mark, back, o, (inside, close, (name, le, is), c, whole), all) = λ start.
      let same : own ≡ Mark (codes "(") ∷ Register name ∷ Mark (codes ")") ∷ [] = all ∙ ap (λ (ts : List Token). ts ++ back) o ∙ ap (λ (ts : List Token). Mark (codes "(") ∷ ts) (whole ∙ ap (λ (ts : List Token). ts ++ close) is ∙ ap (λ (ts : List Token). Register name ∷ ts) c) in
      (IsKnownNonZero name ∷ [], subst (λ (ts : List Token). SpellsFormula limits Outermost Member nesting start (IsKnownNonZero name ∷ []) (Fact facts.IsKnownNonZero ∷ ts)) (sym same) (non_zero le))

  non_zero_good : (line : ℕ) (before : List RawFormula) → Good limits (pair limits) (non_zero_at limits line before) (Spelled limits (Is (Mark (codes "(")) ⨾ IsName ⨾ Is (Mark (codes ")")))) line
  unfolding non_zero_at
  non_zero_good line before =
      then_seq limits {s = (bare limits)} {t = (pair limits)} _ (mark_good limits (codes "(") line) (λ u.
      then_seq limits {s = (pair limits)} {t = (pair limits)} _ (register_good deepest line) (λ name. close_done (before ++ IsKnownNonZero name ∷ []) deepest line))

  -- a register and a term, behind the `(` of `MaskedValueIsZero`
  abbrev IsMasked : ℕ → Part
  IsMasked nesting = IsName ⨾ Is (Mark (codes ",")) ⨾ IsTerm spare_bytes deepest spare_statements Constant nesting loosest ⨾ Is (Mark (codes ")"))

  value_masked : (nesting : ℕ) (own : List Token) → (Is (Mark (codes "(")) ⨾ IsMasked nesting) own → IsFormula Outermost Member (suc nesting) (Fact facts.MaskedValueIsZero ∷ own)
  value_masked nesting own (mark, back, o, (first, others, (name, le, n), (comma, after, m, (inside, close, is, c, last), behind), whole), all) = λ start.
      let term = is 0 in
      let same : own ≡ Mark (codes "(") ∷ Register name ∷ Mark (codes ",") ∷ inside ++ Mark (codes ")") ∷ [] =
      all ∙ ap (λ (ts : List Token). ts ++ back) o
      ∙ ap (λ (ts : List Token). Mark (codes "(") ∷ ts) (whole ∙ ap (λ (ts : List Token). ts ++ others) n
      ∙ ap (λ (ts : List Token). Register name ∷ ts) (behind ∙ ap (λ (ts : List Token). ts ++ after) m
      ∙ ap (λ (ts : List Token). Mark (codes ",") ∷ ts) (last ∙ ap (λ (ts : List Token). inside ++ ts) c))) in
      (MaskedValueIsZero name term.0 ∷ [], subst (λ (ts : List Token). SpellsFormula limits Outermost Member (suc nesting) start (MaskedValueIsZero name term.0 ∷ []) (Fact facts.MaskedValueIsZero ∷ ts)) (sym same) (masked le term.1))

  masked_good : (nesting line : ℕ) (before : List RawFormula) → Good (levels (suc nesting)) (pair limits) (masked_at limits (suc nesting) line before) (Spelled limits (Is (Mark (codes "(")) ⨾ IsMasked nesting)) line
  unfolding masked_at
  masked_good nesting line before =
      widened (levels (suc nesting)) (λ x own c. (Mark (codes "(") ∷ [], c.0, refl, c.1, c.2))
      (entered spare_bytes deepest spare_statements nesting line _ (Spelled limits (IsMasked nesting))
      (then_seq (levels nesting) {s = (pair limits)} {t = (pair limits)} _ (register_good nesting line) (λ name.
      then_seq (levels nesting) {s = (bare limits)} {t = (pair limits)} _ (mark_good (levels nesting) (codes ",") line) (λ u.
      then_seq (levels nesting) {s = (pair limits)} {t = (pair limits)} _ (term_good spare_bytes deepest spare_statements Constant nesting line) (λ term. close_done (before ++ MaskedValueIsZero name term ∷ []) nesting line)))))

  masked_shallow : (line : ℕ) (before : List RawFormula) (tokens : List Token) → IsShallow line tokens (masked_at limits zero line before tokens)
  unfolding masked_at
  masked_shallow line before tokens = by (mark_at (codes "(") line tokens) refl
    where
      by : (r : Result (List Token) RuleFault) → mark_at (codes "(") line tokens ≡ r → IsShallow line tokens (masked_at limits zero line before tokens)
      by (Ok rest) e = (fault line TooMany, rw e refl, refl, inl refl)
      by (Err f) e = (f, rw e refl, on_line (levels zero) (mark_good (levels zero) (codes "(") line) tokens f e, parenthesis_missed limits line tokens f e)

  -- ---- chains of members

  joins_good : (operator : ℕ → ℕ → RawFormula) (part : Behind (List RawFormula)) (P : Part) (nesting line : ℕ) → ((before : List RawFormula) → Good (levels nesting) (pair limits) (part before) (Spelled limits P) line) → (before : List RawFormula) → Good (levels nesting) (pair limits) (joins operator part before) (Spelled limits P) line
  joins_good operator part P nesting line good before = then_done (levels nesting) {s = (pair limits)} {L = Spelled limits P} (λ x. x ++ operator (last_place (length before)) (last_place (length x)) ∷ []) _ (λ x rest. refl) (λ x own is. is) (good before)

  -- the tokens that fit behind a prefix of such a formula, whatever place its first node has
  abbrev GoesOn : Standing → Level → ℕ → Part
  GoesOn standing level nesting own = (start : ℕ) (front : List Token) (nodes : List RawFormula) → SpellsFormula limits standing level nesting start nodes front → (all : List RawFormula) × SpellsFormula limits standing level nesting start all (front ++ own)

  goes_nowhere : (standing : Standing) (level : Level) (nesting : ℕ) → GoesOn standing level nesting []
  goes_nowhere standing level nesting start front nodes is = (nodes, subst (λ (ts : List Token). SpellsFormula limits standing level nesting start nodes ts) (sym (append-nil front)) is)

  goes_and : (standing : Standing) (nesting : ℕ) (own back : List Token) → IsFormula standing Member nesting own → GoesOn standing Members nesting back → GoesOn standing Members nesting (Mark (codes "&&") ∷ own ++ back)
  goes_and standing nesting own back one onward start front nodes is =
      let right = one (start + length nodes) in
      let more = onward start (front ++ Mark (codes "&&") ∷ own) _ (both is right.1) in
      (more.0, subst (λ (ts : List Token). SpellsFormula limits standing Members nesting start more.0 ts) (append_assoc front (Mark (codes "&&") ∷ own) back) more.1)

  goes_or : (nesting : ℕ) (own back : List Token) → IsFormula Within Members nesting own → GoesOn Within Alternatives nesting back → GoesOn Within Alternatives nesting (Mark (codes "||") ∷ own ++ back)
  goes_or nesting own back one onward start front nodes is =
      let right = one (start + length nodes) in
      let more = onward start (front ++ Mark (codes "||") ∷ own) _ (either is right.1) in
      (more.0, subst (λ (ts : List Token). SpellsFormula limits Within Alternatives nesting start more.0 ts) (append_assoc front (Mark (codes "||") ∷ own) back) more.1)

  abbrev MembersGood : Standing → ℕ → ℕ → Behind (List RawFormula) → Type 0
  MembersGood standing nesting line read = (before : List RawFormula) → Good (levels nesting) (pair limits) (read before) (Spelled limits (IsFormula standing Member nesting)) line

  abbrev ReadsMembers : Standing → ℕ → Behind (List RawFormula) → Type 0
  ReadsMembers standing nesting read = Rattle.rule_terms.proofs.FormulaReadings.Reads limits standing Member nesting read

  members_good : (standing : Standing) (nesting line : ℕ) (read : Behind (List RawFormula)) → ReadsMembers standing nesting read → MembersGood standing nesting line read → (before : List RawFormula) → Good (levels nesting) (pair limits) (members_of read before) (Spelled limits (IsFormula standing Members nesting)) line
  members_good standing nesting line read reads good before =
      then (levels nesting) {s = (pair limits)} {t = (pair limits)} _ {L = Spelled limits (IsFormula standing Member nesting)} {M = λ x. Spelled limits (GoesOn standing Members nesting)}
      (λ x y front back one onward start. let f = one start in onward start front f.0 (member f.1)) (good before)
      (λ first. chain_good (levels nesting) (codes "&&") (joins And read) (IsFormula standing Member nesting) (GoesOn standing Members nesting) line refl (joins_shortens limits And standing Member nesting read reads)
      (record { none = goes_nowhere standing Members nesting; more = λ front back one onward. goes_and standing nesting front back one onward }) (joins_good And read (IsFormula standing Member nesting) nesting line good) first)

  more_alternatives_good : (nesting line : ℕ) (read : Behind (List RawFormula)) → ReadsMembers Within nesting read → MembersGood Within nesting line read → (before : List RawFormula) → Good (levels nesting) (pair limits) (more_alternatives read before) (Spelled limits (GoesOn Within Alternatives nesting)) line
  more_alternatives_good nesting line read reads good before =
      chain_good (levels nesting) (codes "||") (joins Or (members_of read)) (IsFormula Within Members nesting) (GoesOn Within Alternatives nesting) line refl (joins_shortens limits Or Within Members nesting (members_of read) (members_of-is limits Within nesting read reads))
      (record { none = goes_nowhere Within Alternatives nesting; more = λ front back one onward. goes_or nesting front back one onward }) (joins_good Or (members_of read) (IsFormula Within Members nesting) nesting line (members_good Within nesting line read reads good)) before

  alternatives_good : (nesting line : ℕ) (read : Behind (List RawFormula)) → ReadsMembers Within nesting read → MembersGood Within nesting line read → (before : List RawFormula) → Good (levels nesting) (pair limits) (alternatives_of read before) (Spelled limits (IsFormula Within Alternatives nesting)) line
  alternatives_good nesting line read reads good before =
      then (levels nesting) {s = (pair limits)} {t = (pair limits)} _ {L = Spelled limits (IsFormula Within Members nesting)} {M = λ x. Spelled limits (GoesOn Within Alternatives nesting)}
      (λ x y front back one onward start. let f = one start in onward start front f.0 (members f.1)) (members_good Within nesting line read reads good before)
      (λ first. more_alternatives_good nesting line read reads good first)

  enclosed_good : (nesting line : ℕ) (read : Behind (List RawFormula)) → ReadsMembers Within nesting read → MembersGood Within nesting line read → (before : List RawFormula) → Good (levels nesting) (pair limits) (encloses_at line read before) (Spelled limits (Closed spare_bytes deepest spare_statements (IsFormula Within Alternatives nesting))) line
  enclosed_good nesting line read reads good before =
      then (levels nesting) {s = (pair limits)} {t = (pair limits)} _ {L = Spelled limits (IsFormula Within Alternatives nesting)} {M = λ x. Spelled limits (Is (Mark (codes ")")))}
      (λ x y front back one close. (front, one, ap (λ (ts : List Token). front ++ ts) close)) (alternatives_good nesting line read reads good before)
      (λ formula. close_done formula nesting line)

  closed_formula : (standing : Standing) (nesting : ℕ) (own : List Token) → Closed spare_bytes deepest spare_statements (IsFormula Within Alternatives nesting) own → IsFormula standing Member (suc nesting) (Mark (codes "(") ∷ own)
  closed_formula standing nesting own (inside, is, whole) = λ start.
      let f = is start in
      (f.0, subst (λ (ts : List Token). SpellsFormula limits standing Member (suc nesting) start f.0 (Mark (codes "(") ∷ ts)) (sym whole) (encloses f.1))

  turned : (standing : Standing) (nesting : ℕ) (own : List Token) → IsFormula Within Member nesting own → IsFormula standing Member (suc nesting) (Mark (codes "!") ∷ own)
  turned standing nesting own is = λ start. let f = is start in (_, turns f.1)

  turns_good : (nesting line : ℕ) (read : Behind (List RawFormula)) → MembersGood Within nesting line read → (before : List RawFormula) → Good (levels nesting) (pair limits) (turns_at read before) (Spelled limits (IsFormula Within Member nesting)) line
  turns_good nesting line read good before = then_done (levels nesting) {s = (pair limits)} {L = Spelled limits (IsFormula Within Member nesting)} (λ x. x ++ Not (last_place (length x)) ∷ []) _ (λ x rest. refl) (λ x own is. is) (good before)

  -- ---- parentheses, around a formula or a term

  opening_open : (tokens : List Token) → opens_formula 0 tokens ≡ true → Encloses ≡ opening_at (Mark (codes "(") ∷ tokens)
  unfolding opening_at
  opening_open tokens h = rw h refl

  opening_closed : (tokens : List Token) → opens_formula 0 tokens ≡ false → Compares ≡ opening_at (Mark (codes "(") ∷ tokens)
  unfolding opening_at
  opening_closed tokens h = rw h refl

  -- what a `(` begins is read as a formula where the search finds one, and else as a term
  as_formula : (nesting line : ℕ) (before : List RawFormula) (tokens : List Token) → opens_formula 0 tokens ≡ true → member_at limits (suc nesting) line before (Mark (codes "(") ∷ tokens) ≡ encloses_at line (member_at limits nesting line) before tokens
  as_formula nesting line before tokens h = member-encloses limits (suc nesting) line nesting before (Mark (codes "(") ∷ tokens) (opening_open tokens h) refl

  as_term : (nesting line : ℕ) (before : List RawFormula) (tokens : List Token) → opens_formula 0 tokens ≡ false → member_at limits nesting line before (Mark (codes "(") ∷ tokens) ≡ compares_at limits nesting line before (Mark (codes "(") ∷ tokens)
  as_term nesting line before tokens h = member-compares limits nesting line before (Mark (codes "(") ∷ tokens) (opening_closed tokens h)

  zero_term : (nesting : ℕ) → SpellsWholeTerm limits Constant nesting (raw_nodes.Literal (literal_value []) ∷ []) (Number [] ∷ [])
  zero_term nesting = loosened spare_bytes deepest spare_statements nesting 0 (raw_nodes.Literal (literal_value []) ∷ []) (Number [] ∷ []) (leaf (raw_nodes.Literal (literal_value [])) (Number [] ∷ []) ([], refl, refl))

  -- ` == 0`, which completes a comparison of a term
  abbrev equals_zero : List Token
  equals_zero = Mark (comparison_mark Eq) ∷ Number [] ∷ []

  -- a term in parentheses that is compared with 0 is read as a comparison
  term_is_read : (nesting line : ℕ) (before : List RawFormula) (front more : List Token) (nodes : List RawNode) → SpellsWholeTerm limits Constant nesting nodes (front ++ more)
      → (x : List RawFormula × List Token) × (compares_at limits (suc nesting) line before (Mark (codes "(") ∷ front ++ (more ++ Mark (codes ")") ∷ equals_zero)) ≡ Ok x)
  term_is_read nesting line before front more nodes is =
      let own : List Token = front ++ more in
      let first : SpellsWholeTerm limits Constant (suc nesting) nodes (Mark (codes "(") ∷ own ++ Mark (codes ")") ∷ []) = loosened spare_bytes deepest spare_statements (suc nesting) 0 nodes (Mark (codes "(") ∷ own ++ Mark (codes ")") ∷ []) (parenthesised is) in
      let all : List Token = (Mark (codes "(") ∷ own ++ Mark (codes ")") ∷ []) ++ equals_zero in
      let read : member_at limits (suc nesting) line before (all ++ []) ≡ Ok (before ++ Compare Eq nodes (raw_nodes.Literal (literal_value []) ∷ []) ∷ [], []) =
      within_read limits (compares {standing = Within} {start = length before} Eq first (zero_term (suc nesting))) refl line before [] refl tt in
      let whole : all ++ [] ≡ Mark (codes "(") ∷ front ++ (more ++ Mark (codes ")") ∷ equals_zero) =
      append-nil all ∙ ap (λ (ts : List Token). Mark (codes "(") ∷ ts) (append_assoc own (Mark (codes ")") ∷ []) equals_zero ∙ append_assoc front more (Mark (codes ")") ∷ equals_zero)) in
      let compared_ : Compares ≡ opening_at (all ++ []) = sym (ap opening_at (append_assoc (Mark (codes "(") ∷ own ++ Mark (codes ")") ∷ []) equals_zero []) ∙ term_compares limits first (equals_zero ++ [])) in
      (_, subst (λ (ts : List Token). compares_at limits (suc nesting) line before ts ≡ Ok (before ++ Compare Eq nodes (raw_nodes.Literal (literal_value []) ∷ []) ∷ [], [])) whole (sym (member-compares limits (suc nesting) line before (all ++ []) compared_) ∙ read))

  -- a formula in parentheses that compares a term with 0 is read as a formula
  formula_is_read : (nesting line : ℕ) (before : List RawFormula) (own : List Token) (nodes : List RawNode) → SpellsWholeTerm limits Constant nesting nodes own
      → (x : List RawFormula × List Token) × (encloses_at line (member_at limits nesting line) before (own ++ (equals_zero ++ Mark (codes ")") ∷ [])) ≡ Ok x)
  formula_is_read nesting line before own nodes is =
      let node : RawFormula = Compare Eq nodes (raw_nodes.Literal (literal_value []) ∷ []) in
      let inside : SpellsFormula limits Within Alternatives nesting (length before) (node ∷ []) (own ++ equals_zero) = members (member (compares Eq is (zero_term nesting))) in
      let all : List Token = (own ++ equals_zero) ++ Mark (codes ")") ∷ [] in
      let read : member_at limits (suc nesting) line before (Mark (codes "(") ∷ all ++ []) ≡ Ok (before ++ node ∷ [], []) = within_read limits (encloses {standing = Within} inside) refl line before [] refl tt in
      let whole : all ++ [] ≡ own ++ (equals_zero ++ Mark (codes ")") ∷ []) = append-nil all ∙ append_assoc own equals_zero (Mark (codes ")") ∷ []) in
      let seen : opens_formula 0 (all ++ []) ≡ true = rw (append-nil all) (formula_says limits inside 0 (Mark (codes ")") ∷ [])) in
      (_, subst (λ (ts : List Token). encloses_at line (member_at limits nesting line) before ts ≡ Ok (before ++ node ∷ [], [])) whole (sym (as_formula nesting line before (all ++ []) seen) ∙ read))

  -- a result that is nothing read is a fault
  not_read : {X : Type 0} (r : Result X RuleFault) → ((x : X) → r ≡ Ok x → ⊥) → IsErr limits r
  not_read (Ok x) no_ok = absurd (no_ok x refl)
  not_read (Err e) no_ok = (e, refl)

  ok_no_err : {X : Type 0} (r : Result X RuleFault) (x : X) → r ≡ Ok x → IsErr limits r → ⊥
  ok_no_err r x p (e, q) = let both_ = sym p ∙ q in absurd cc

  -- Where the search finds a formula, and that is refused behind a prefix, no other tokens behind the prefix are read
  -- as a term.
  no_term_instead : (nesting line : ℕ) (before : List RawFormula) (front behind more : List Token) → opens_formula 0 (front ++ behind) ≡ true → Alike behind more
      → ((others : List Token) → Alike behind others → IsErr limits (encloses_at line (member_at limits nesting line) before (front ++ others)))
      → opens_formula 0 (front ++ more) ≡ false → (x : List RawFormula × List Token) → compares_at limits (suc nesting) line before (Mark (codes "(") ∷ front ++ more) ≡ Ok x → ⊥
  unfolding compares_at
  no_term_instead nesting line before front behind more seen alike refused unseen x e =
      bound (term_at limits Constant (suc nesting) line (Mark (codes "(") ∷ front ++ more)) _ _ e (λ left p e1.
      let t = term_at-is limits Constant (suc nesting) line (Mark (codes "(") ∷ front ++ more) left p in
      first t.own left.1 (spells_some limits t.is_own) t.whole (λ tokens same. parenthesis_begins spare_bytes deepest spare_statements t.is_own refl tokens same))
    where
      inside : (depth : ℕ) (nodes : List RawNode) (own after : List Token) → nesting ≡ depth → SpellsWholeTerm limits Constant depth nodes own → (g : List Token) → own ≡ front ++ g → more ≡ g ++ Mark (codes ")") ∷ after
          → (stood others : List Token) → Alike stood others → stood ≡ behind → others ≡ more → ⊥
      inside depth nodes own after deep is [] p q stood others (same t a b) s r =
          let first_ : t ≡ Mark (codes ")") = let e = r ∙ q in cc in
          let plain : opens_formula 0 (own ++ t ∷ a) ≡ false = term_plain limits is 0 (t ∷ a) ∙ ap (λ (u : Token). opens_formula 0 (u ∷ a)) first_ ∙ closes spare_bytes deepest spare_statements a in
          let seen_here : opens_formula 0 (front ++ t ∷ a) ≡ true = subst (λ (ts : List Token). opens_formula 0 (front ++ ts) ≡ true) (sym s) seen in
          not_both spare_bytes deepest spare_statements (opens_formula 0 (front ++ t ∷ a)) seen_here (subst (λ (ts : List Token). opens_formula 0 (ts ++ t ∷ a) ≡ false) (p ∙ append-nil front) plain)
      inside depth nodes own after deep is (v ∷ g) p q stood others (same t a b) s r =
          let first_ : t ≡ v = let e = r ∙ q in cc in
          let read = formula_is_read depth line before own nodes is in
          let tail : List Token = g ++ (equals_zero ++ Mark (codes ")") ∷ []) in
          let as_front : own ++ (equals_zero ++ Mark (codes ")") ∷ []) ≡ front ++ t ∷ tail =
          ap (λ (ts : List Token). ts ++ (equals_zero ++ Mark (codes ")") ∷ [])) p ∙ append_assoc front (v ∷ g) (equals_zero ++ Mark (codes ")") ∷ []) ∙ ap (λ (u : Token). front ++ u ∷ tail) (sym first_) in
          ok_no_err (encloses_at line (member_at limits nesting line) before (front ++ t ∷ tail)) read.0
          (subst (λ (ts : List Token). encloses_at line (member_at limits nesting line) before ts ≡ Ok read.0) as_front (subst (λ (k : ℕ). encloses_at line (member_at limits k line) before (own ++ (equals_zero ++ Mark (codes ")") ∷ [])) ≡ Ok read.0) (sym deep) read.1))
          (refused (t ∷ tail) (subst (λ (ts : List Token). Alike ts (t ∷ tail)) s (same t a tail)))
      inside depth nodes own after deep is g p q stood others (ended a b u v) s r =
          let seen_here : opens_formula 0 (front ++ a) ≡ true = subst (λ (ts : List Token). opens_formula 0 (front ++ ts) ≡ true) (sym s) seen in
          not_both spare_bytes deepest spare_statements (opens_formula 0 (front ++ a)) seen_here (opens_at_end spare_bytes deepest spare_statements front a b u v ∙ ap (λ (ts : List Token). opens_formula 0 (front ++ ts)) r ∙ unseen)

      where_cut : Enclosed spare_bytes deepest spare_statements (suc nesting) (front ++ more) → ⊥
      where_cut e = elim (cut spare_bytes deepest spare_statements front more e.inside (Mark (codes ")") ∷ e.after) e.whole) as (λ _. ⊥) [
        | shorter g p q ↦ inside e.depth e.nodes e.inside e.after (let d = e.deep in cc) e.is_inside g p q behind more alike refl refl
        | longer t g p q ↦
            let first_ : t ≡ Mark (codes ")") = let h = q in cc in
            let plain : opens_formula 0 (e.inside ++ (t ∷ g ++ behind)) ≡ false = term_plain limits e.is_inside 0 (t ∷ g ++ behind) ∙ ap (λ (u : Token). opens_formula 0 (u ∷ g ++ behind)) first_ ∙ closes spare_bytes deepest spare_statements (g ++ behind) in
            not_both spare_bytes deepest spare_statements (opens_formula 0 (front ++ behind)) seen (rw (p, append_assoc e.inside (t ∷ g) behind) plain)
      ]

      first : (own rest : List Token) → 1 ≤ length own → Mark (codes "(") ∷ front ++ more ≡ own ++ rest → ((tokens : List Token) → own ≡ Mark (codes "(") ∷ tokens → Enclosed spare_bytes deepest spare_statements (suc nesting) tokens) → ⊥
      first [] rest some whole begins = absurd (omega arith)
      first (t ∷ own) rest some whole begins =
          let is : t ≡ Mark (codes "(") = let h = whole in cc in
          let tail : front ++ more ≡ own ++ rest = let h = whole in cc in
          let e = begins own (ap (λ (u : Token). u ∷ own) is) in
          where_cut (record {
            depth = e.depth;
            nodes = e.nodes;
            inside = e.inside;
            after = e.after ++ rest;
            deep = e.deep;
            is_inside = e.is_inside;
            whole = tail ∙ ap (λ (ts : List Token). ts ++ rest) e.whole ∙ append_assoc e.inside (Mark (codes ")") ∷ e.after) rest;
          })

  -- Where the search finds no formula, and the comparison is refused behind a prefix, no other tokens behind the prefix
  -- are read as a formula.
  no_formula_instead : (nesting line : ℕ) (before : List RawFormula) (front behind more : List Token) → opens_formula 0 (front ++ behind) ≡ false → Alike behind more
      → ((others : List Token) → Alike behind others → IsErr limits (compares_at limits (suc nesting) line before (Mark (codes "(") ∷ front ++ others)))
      → opens_formula 0 (front ++ more) ≡ true → (x : List RawFormula × List Token) → encloses_at line (member_at limits nesting line) before (front ++ more) ≡ Ok x → ⊥
  no_formula_instead nesting line before front behind more unseen alike refused seen x e =
      bound (alternatives_of (member_at limits nesting line) before (front ++ more)) _ _ e (λ formula p e1.
      bound (mark_at (codes ")") line formula.1) _ _ e1 (λ rest q e2.
      let a = alternatives_of-is limits nesting (member_at limits nesting line) (member_at-is limits Within nesting line) before (front ++ more) formula p in
      where_cut a.nodes a.own rest a.is_own (a.whole ∙ ap (λ (ts : List Token). a.own ++ ts) (mark_at-is limits (codes ")") line formula.1 rest q))))
    where
      inside : (nodes : List RawFormula) (own rest : List Token) → SpellsFormula limits Within Alternatives nesting (length before) nodes own → (g : List Token) → own ≡ front ++ g → more ≡ g ++ Mark (codes ")") ∷ rest
          → (stood others : List Token) → Alike stood others → stood ≡ behind → others ≡ more → ⊥
      inside nodes own rest is [] p q stood others alike_ s r = not_both spare_bytes deepest spare_statements (opens_formula 0 (front ++ behind)) (formula_seen spare_bytes deepest spare_statements is front [] behind 0 (sym (append-nil front) ∙ sym p ∙ sym (append-nil own))) unseen
      inside nodes own rest is (v ∷ g) p q stood others (same t a b) s r =
          let first : t ≡ v = let e = r ∙ q in cc in
          let unseen_here : opens_formula 0 ((front ++ t ∷ []) ++ a) ≡ false = rw (append_assoc front (t ∷ []) a) (subst (λ (ts : List Token). opens_formula 0 (front ++ ts) ≡ false) (sym s) unseen) in
          let begun : BeginsTerm spare_bytes deepest spare_statements nesting (front ++ t ∷ []) = term_instead spare_bytes deepest spare_statements is (front ++ t ∷ []) g a 0 (p ∙ ap (λ (u : Token). front ++ u ∷ g) (sym first) ∙ sym (append_assoc front (t ∷ []) g)) unseen_here in
          let read = term_is_read nesting line before (front ++ t ∷ []) begun.0 begun.1 begun.2 in
          let tail : List Token = begun.0 ++ Mark (codes ")") ∷ equals_zero in
          ok_no_err (compares_at limits (suc nesting) line before (Mark (codes "(") ∷ front ++ t ∷ tail)) read.0
          (subst (λ (ts : List Token). compares_at limits (suc nesting) line before (Mark (codes "(") ∷ ts) ≡ Ok read.0) (append_assoc front (t ∷ []) tail) read.1)
          (refused (t ∷ tail) (subst (λ (ts : List Token). Alike ts (t ∷ tail)) s (same t a tail)))
      inside nodes own rest is (v ∷ g) p q stood others (ended a b u w) s r =
          let unseen_here : opens_formula 0 (front ++ a) ≡ false = subst (λ (ts : List Token). opens_formula 0 (front ++ ts) ≡ false) (sym s) unseen in
          not_both spare_bytes deepest spare_statements (opens_formula 0 (front ++ a)) (opens_at_end spare_bytes deepest spare_statements front a b u w ∙ ap (λ (ts : List Token). opens_formula 0 (front ++ ts)) r ∙ seen) unseen_here

      where_cut : (nodes : List RawFormula) (own rest : List Token) → SpellsFormula limits Within Alternatives nesting (length before) nodes own → front ++ more ≡ own ++ Mark (codes ")") ∷ rest → ⊥
      where_cut nodes own rest is whole = elim (cut spare_bytes deepest spare_statements front more own (Mark (codes ")") ∷ rest) whole) as (λ _. ⊥) [
        | shorter g p q ↦ inside nodes own rest is g p q behind more alike refl refl
        | longer t g p q ↦ (not_both spare_bytes deepest spare_statements) (opens_formula 0 (front ++ behind)) (formula_seen spare_bytes deepest spare_statements is front (t ∷ g) behind 0 p) unseen
      ]

  -- ---- a member

  inline_one : (token : Token) (own : List Token) → NoLine limits token → Rattle.rule_viable_prefixes.proofs.Outcomes.Inline limits own → Rattle.rule_viable_prefixes.proofs.Outcomes.Inline limits (token ∷ own)
  inline_one token own stays inline = Rattle.rule_viable_prefixes.proofs.Outcomes.inline_token limits token own stays inline

  abbrev MemberIs : Standing → ℕ → ℕ → List RawFormula → List Token → Type 0
  MemberIs standing nesting line before tokens = Outcome (levels nesting) (pair limits) (member_at limits nesting line before) (Spelled limits (IsFormula standing Member nesting)) line tokens (member_at limits nesting line before tokens)

  word_alike : (noun : List ℕ) (more : List Token) → Alike (word_and_equals spare_bytes deepest spare_statements noun) (Word noun ∷ more)
  word_alike noun more = same (Word noun) (Mark (codes "==") ∷ []) more

  refused_alike : (Q : List Token → Type 0) (noun : List ℕ) → ((more : List Token) → Q (Word noun ∷ more)) → (others : List Token) → Alike (word_and_equals spare_bytes deepest spare_statements noun) others → Q others
  refused_alike Q noun h others (same t a b) = h b
  refused_alike Q noun h others (ended a b p q) = absurd p

  refused_word : (Q : List Token → Type 0) (noun : List ℕ) → ((more : List Token) → Q (Word noun ∷ more)) → (others : List Token) → Alike (Word noun ∷ []) others → Q others
  refused_word Q noun h others (same t a b) = h b
  refused_word Q noun h others (ended a b p q) = absurd p

  -- behind a `(` where the search finds a formula
  formula_outcome : (standing : Standing) (nesting line : ℕ) (before : List RawFormula) → ((b : List RawFormula) → Good (levels nesting) (pair limits) (member_at limits nesting line b) (Spelled limits (IsFormula Within Member nesting)) line)
      → (rest : List Token) → opens_formula 0 rest ≡ true → MemberIs standing (suc nesting) line before (Mark (codes "(") ∷ rest)
  formula_outcome standing nesting line before good rest seen =
      subst (Outcome (levels (suc nesting)) (pair limits) (member_at limits (suc nesting) line before) (Spelled limits (IsFormula standing Member (suc nesting))) line (Mark (codes "(") ∷ rest)) (sym (as_formula nesting line before rest seen))
      (by (encloses_at line (member_at limits nesting line) before rest) ((enclosed_good nesting line (member_at limits nesting line) (member_at-is limits Within nesting line) good before).outcome rest))
    where
      by : (r : Read (List RawFormula)) → Outcome (levels nesting) (pair limits) (encloses_at line (member_at limits nesting line) before) (Spelled limits (Closed spare_bytes deepest spare_statements (IsFormula Within Alternatives nesting))) line rest r
          → Outcome (levels (suc nesting)) (pair limits) (member_at limits (suc nesting) line before) (Spelled limits (IsFormula standing Member (suc nesting))) line (Mark (codes "(") ∷ rest) r
      by (Ok x) o = record {
        value = o.value;
        own = Mark (codes "(") ∷ o.own;
        rest = o.rest;
        is_own = closed_formula standing nesting o.own o.is_own;
        inline = inline_one (Mark (codes "(")) o.own tt o.inline;
        there = ap (λ (ts : List Token). Mark (codes "(") ∷ ts) o.there;
        is = o.is;
        kept = λ more alike. as_formula nesting line before (o.own ++ more) (formula_seen spare_bytes deepest spare_statements (o.is_own.1 0).1 o.own (Mark (codes ")") ∷ []) more 0 o.is_own.2) ∙ o.kept more alike;
        apart = own_last limits (Mark (codes "(")) o.own tt o.apart;
      }
      by (Err e) o = record {
        front = Mark (codes "(") ∷ o.front;
        behind = o.behind;
        there = ap (λ (ts : List Token). Mark (codes "(") ∷ ts) o.there;
        begins = (o.begins.0, o.begins.1, closed_formula standing nesting (o.front ++ o.begins.1) o.begins.2);
        inline = inline_one (Mark (codes "(")) o.front tt o.inline;
        refused = λ more alike. failed more alike (opens_formula 0 (o.front ++ more)) refl;
        here = o.here;
        says = says_carried (levels nesting) (levels (suc nesting)) (opened o.front) (opened (Mark (codes "(") ∷ o.front)) refl (λ far. opens_one (codes "(") nesting refl o.front far) (Takes limits (Spelled limits (Closed spare_bytes deepest spare_statements (IsFormula Within Alternatives nesting))) o.front) (Takes limits (Spelled limits (IsFormula standing Member (suc nesting))) (Mark (codes "(") ∷ o.front))
            (λ token b. (b.0, b.1, closed_formula standing nesting ((o.front ++ token ∷ []) ++ b.1) b.2)) o.behind (λ word r is_word. lack_wider limits (Mark (codes "(") ∷ []) o.front (Mark (codes "(") ∷ o.front) word refl (λ n noun is_noun more. no_noun n noun is_noun more (opens_formula 0 (o.front ++ Word noun ∷ more)) refl)) e.kind o.says;
        new = new_behind (Mark (codes "(") ∷ []) o.front e.kind (inl (λ word flag is. cc)) o.new;
      }
        where
          seen_here : opens_formula 0 (o.front ++ o.behind) ≡ true
          seen_here = ap (opens_formula 0) (sym o.there) ∙ seen

          no_noun : NoNoun limits (encloses_at line (member_at limits nesting line) before) o.front → (noun : List ℕ) → IsNoun noun → (more : List Token) → (b : Bool) → opens_formula 0 (o.front ++ Word noun ∷ more) ≡ b → IsErr limits (member_at limits (suc nesting) line before (Mark (codes "(") ∷ o.front ++ Word noun ∷ more))
          no_noun n noun is_noun more true h = let f = n noun is_noun more in (f.0, as_formula nesting line before (o.front ++ Word noun ∷ more) h ∙ f.1)
          no_noun n noun is_noun more false h =
              not_read (member_at limits (suc nesting) line before (Mark (codes "(") ∷ o.front ++ Word noun ∷ more))
              (λ x ok. no_term_instead nesting line before o.front (word_and_equals spare_bytes deepest spare_statements noun) (Word noun ∷ more) (seen_again spare_bytes deepest spare_statements noun o.front o.behind 0 seen_here) (word_alike noun more)
              (λ others alike. refused_alike (λ ts. IsErr limits (encloses_at line (member_at limits nesting line) before (o.front ++ ts))) noun (n noun is_noun) others alike) h x (sym (as_term (suc nesting) line before (o.front ++ Word noun ∷ more) h) ∙ ok))

          failed : (more : List Token) → Alike o.behind more → (b : Bool) → opens_formula 0 (o.front ++ more) ≡ b → IsErr limits (member_at limits (suc nesting) line before (Mark (codes "(") ∷ o.front ++ more))
          failed more alike true h = let f = o.refused more alike in (f.0, as_formula nesting line before (o.front ++ more) h ∙ f.1)
          failed more alike false h =
              not_read (member_at limits (suc nesting) line before (Mark (codes "(") ∷ o.front ++ more))
              (λ x ok. no_term_instead nesting line before o.front o.behind more (ap (opens_formula 0) (sym o.there) ∙ seen) alike o.refused h x (sym (as_term (suc nesting) line before (o.front ++ more) h) ∙ ok))

  -- behind a `(` where it finds none
  term_outcome : (standing : Standing) (nesting line : ℕ) (before : List RawFormula) (rest : List Token) → opens_formula 0 rest ≡ false → MemberIs standing (suc nesting) line before (Mark (codes "(") ∷ rest)
  term_outcome standing nesting line before rest unseen =
      subst (Outcome (levels (suc nesting)) (pair limits) (member_at limits (suc nesting) line before) (Spelled limits (IsFormula standing Member (suc nesting))) line (Mark (codes "(") ∷ rest)) (sym (as_term (suc nesting) line before rest unseen))
      (by (compares_at limits (suc nesting) line before (Mark (codes "(") ∷ rest)) ((compares_good (suc nesting) line before).outcome (Mark (codes "(") ∷ rest)))
    where
      by : (r : Read (List RawFormula)) → Outcome (levels (suc nesting)) (pair limits) (compares_at limits (suc nesting) line before) (Spelled limits (IsCompared (suc nesting))) line (Mark (codes "(") ∷ rest) r
          → Outcome (levels (suc nesting)) (pair limits) (member_at limits (suc nesting) line before) (Spelled limits (IsFormula standing Member (suc nesting))) line (Mark (codes "(") ∷ rest) r
      by (Ok x) o = record {
        value = o.value;
        own = o.own;
        rest = o.rest;
        is_own = compared standing (suc nesting) o.own o.is_own;
        inline = o.inline;
        there = o.there;
        is = o.is;
        kept = λ more alike. member-compares limits (suc nesting) line before (o.own ++ more) (still o.own more o.is_own) ∙ o.kept more alike;
        apart = o.apart;
      }
        where
          still : (own more : List Token) → IsCompared (suc nesting) own → Compares ≡ opening_at (own ++ more)
          still own more (front, back, l, behind, all) = sym (ap (λ (ts : List Token). opening_at (ts ++ more)) all ∙ ap opening_at (append_assoc front back more) ∙ term_compares limits (l 0).1 (back ++ more))
      by (Err e) o = of_front o.front refl
        where
          no_front : o.front ≡ [] → ⊥
          no_front none =
              let read = term_is_read nesting line before [] (Number [] ∷ []) (raw_nodes.Literal (literal_value []) ∷ []) (zero_term nesting) in
              let there : o.behind ≡ Mark (codes "(") ∷ rest = sym (o.there ∙ ap (λ (ts : List Token). ts ++ o.behind) none) in
              let more : List Token = Number [] ∷ Mark (codes ")") ∷ equals_zero in
              let err = o.refused (Mark (codes "(") ∷ more) (subst (λ (ts : List Token). Alike ts (Mark (codes "(") ∷ more)) (sym there) (same (Mark (codes "(")) rest more)) in
              ok_no_err (compares_at limits (suc nesting) line before (Mark (codes "(") ∷ more)) read.0 read.1
              (subst (λ (ts : List Token). IsErr limits (compares_at limits (suc nesting) line before (ts ++ Mark (codes "(") ∷ more))) none err)

          failed : (front more : List Token) → o.front ≡ Mark (codes "(") ∷ front → rest ≡ front ++ o.behind → Alike o.behind more → (b : Bool) → opens_formula 0 (front ++ more) ≡ b → IsErr limits (member_at limits (suc nesting) line before (Mark (codes "(") ∷ front ++ more))
          failed front more is there alike false h =
              let f = o.refused more alike in
              (f.0, as_term (suc nesting) line before (front ++ more) h ∙ subst (λ (ts : List Token). compares_at limits (suc nesting) line before (ts ++ more) ≡ Err f.0) is f.1)
          failed front more is there alike true h =
              not_read (member_at limits (suc nesting) line before (Mark (codes "(") ∷ front ++ more))
              (λ x ok. no_formula_instead nesting line before front o.behind more (ap (opens_formula 0) (sym there) ∙ unseen) alike
              (λ others a. subst (λ (ts : List Token). IsErr limits (compares_at limits (suc nesting) line before (ts ++ others))) is (o.refused others a)) h x (sym (as_formula nesting line before (front ++ more) h) ∙ ok))

          no_noun : (front : List Token) → o.front ≡ Mark (codes "(") ∷ front → rest ≡ front ++ o.behind → NoNoun limits (compares_at limits (suc nesting) line before) (Mark (codes "(") ∷ front) → (noun : List ℕ) → IsNoun noun → (more : List Token) → (b : Bool) → opens_formula 0 (front ++ Word noun ∷ more) ≡ b → IsErr limits (member_at limits (suc nesting) line before (Mark (codes "(") ∷ front ++ Word noun ∷ more))
          no_noun front is there n noun is_noun more false h = let f = n noun is_noun more in (f.0, as_term (suc nesting) line before (front ++ Word noun ∷ more) h ∙ f.1)
          no_noun front is there n noun is_noun more true h =
              not_read (member_at limits (suc nesting) line before (Mark (codes "(") ∷ front ++ Word noun ∷ more))
              (λ x ok. no_formula_instead nesting line before front (Word noun ∷ []) (Word noun ∷ more)
              (unseen_again spare_bytes deepest spare_statements noun (not_in_formulas noun is_noun) front o.behind 0 (ap (opens_formula 0) (sym there) ∙ unseen)) (same (Word noun) [] more)
              (λ others alike. refused_word (λ ts. IsErr limits (compares_at limits (suc nesting) line before (Mark (codes "(") ∷ front ++ ts))) noun (n noun is_noun) others alike) h x (sym (as_formula nesting line before (front ++ Word noun ∷ more) h) ∙ ok))

          of_front : (f : List Token) → o.front ≡ f → Outcome (levels (suc nesting)) (pair limits) (member_at limits (suc nesting) line before) (Spelled limits (IsFormula standing Member (suc nesting))) line (Mark (codes "(") ∷ rest) (Err e)
          of_front [] none = absurd (no_front none)
          of_front (t ∷ front) is =
              let all : Mark (codes "(") ∷ rest ≡ t ∷ front ++ o.behind = o.there ∙ ap (λ (ts : List Token). ts ++ o.behind) is in
              let first : t ≡ Mark (codes "(") = let h = all in cc in
              let there : rest ≡ front ++ o.behind = let h = all in cc in
              let whole : o.front ≡ Mark (codes "(") ∷ front = is ∙ ap (λ (u : Token). u ∷ front) first in
              record {
                front = Mark (codes "(") ∷ front;
                behind = o.behind;
                there = ap (λ (ts : List Token). Mark (codes "(") ∷ ts) there;
                begins = (o.begins.0, o.begins.1, subst (λ (ts : List Token). IsFormula standing Member (suc nesting) (ts ++ o.begins.1)) whole (compared standing (suc nesting) (o.front ++ o.begins.1) o.begins.2));
                inline = subst (Rattle.rule_viable_prefixes.proofs.Outcomes.Inline limits) whole o.inline;
                refused = λ more alike. failed front more whole there alike (opens_formula 0 (front ++ more)) refl;
                here = o.here;
                says = says_wider (levels (suc nesting)) (opened o.front) (opened (Mark (codes "(") ∷ front)) (omega (arith, ap opened whole)) (Takes limits (Spelled limits (IsCompared (suc nesting))) o.front) (Takes limits (Spelled limits (IsFormula standing Member (suc nesting))) (Mark (codes "(") ∷ front))
                    (λ token b. (b.0, b.1, subst (λ (ts : List Token). IsFormula standing Member (suc nesting) ((ts ++ token ∷ []) ++ b.1)) whole (compared standing (suc nesting) ((o.front ++ token ∷ []) ++ b.1) b.2))) o.behind
                    (λ word r is_word. lack_wider limits [] o.front (Mark (codes "(") ∷ front) word (sym whole) (λ n noun is_noun more. no_noun front whole there (subst (NoNoun limits (compares_at limits (suc nesting) line before)) whole n) noun is_noun more (opens_formula 0 (front ++ Word noun ∷ more)) refl)) e.kind o.says;
                new = subst (λ (ts : List Token). IsNew ts e.kind) whole o.new;
              }

  -- the tokens that fit where a member begins
  abbrev FitsAt : Standing → ℕ → Fitting
  FitsAt standing nesting = Takes limits (Spelled limits (IsFormula standing Member nesting) {A = List RawFormula}) []

  -- a member may begin with any term of one token
  member_takes : (standing : Standing) (nesting : ℕ) (token : Token) → IsTerm spare_bytes deepest spare_statements Constant nesting loosest (token ∷ []) → FitsAt standing nesting token
  member_takes standing nesting token left =
      let right : IsTerm spare_bytes deepest spare_statements Constant nesting loosest (Number [] ∷ []) = λ start. (_, loosened spare_bytes deepest spare_statements nesting start _ (Number [] ∷ []) (leaf (raw_nodes.Literal (literal_value [])) (Number [] ∷ []) ([], refl, refl))) in
      ([], equals_zero, compared standing nesting (token ∷ equals_zero) (token ∷ [], equals_zero, left, (Mark (comparison_mark Eq) ∷ [], Number [] ∷ [], (Eq, refl), right, refl), refl))

  too_deep : (standing : Standing) (token : Token) → Nests token → IsTooDeep (levels zero) 0 (FitsAt standing zero) token
  too_deep standing token nests =
      let left : IsTerm spare_bytes deepest spare_statements Constant zero loosest (Number (codes "0") ∷ []) = λ start. (_, loosened spare_bytes deepest spare_statements zero start _ (Number (codes "0") ∷ []) (leaf (raw_nodes.Literal (literal_value (codes "0"))) (Number (codes "0") ∷ []) (codes "0", refl, refl))) in
      (omega arith, nests, member_takes standing zero (Number (codes "0")) left)

  too_deep_parenthesis : (standing : Standing) (line : ℕ) (before : List RawFormula) (more : List Token) → IsErrOn (levels zero) (FitsAt standing zero) (Lack limits (member_at limits zero line before) []) line (Mark (codes "(") ∷ more) (member_at limits zero line before (Mark (codes "(") ∷ more))
  unfolding compares_at term_at primary_at start_at opening_in
  too_deep_parenthesis standing line before more = by (opens_formula 0 more) refl
    where
      says : Told (levels zero) 0 (FitsAt standing zero) (Lack limits (member_at limits zero line before) []) (Mark (codes "(")) more TooMany
      says = says_too_many (levels zero) (Mark (codes "(")) more (kinds.nesting (Mark (codes "(")) (too_deep standing (Mark (codes "(")) kinds.parenthesis))

      by : (b : Bool) → opens_formula 0 more ≡ b → IsErrOn (levels zero) (FitsAt standing zero) (Lack limits (member_at limits zero line before) []) line (Mark (codes "(") ∷ more) (member_at limits zero line before (Mark (codes "(") ∷ more))
      by true h = (fault line TooMany, encloses-too_deep limits zero line before (Mark (codes "(") ∷ more) (fault line TooMany) (opening_open more h) refl, refl, says)
      by false h = (fault line TooMany, as_term zero line before more h, refl, says)

  -- a member that begins with a constant is read
  constant_read : (nesting line : ℕ) (before : List RawFormula) → (x : List RawFormula × List Token) × (member_at limits nesting line before (Word (codes "C") ∷ equals_zero) ≡ Ok x) × (compares_at limits nesting line before (Word (codes "C") ∷ equals_zero) ≡ Ok x)
  unfolding is_constant
  constant_read nesting line before =
      let nodes : List RawNode = raw_nodes.Constant (codes "C") ∷ [] in
      let first : SpellsWholeTerm limits Constant nesting nodes (Word (codes "C") ∷ []) = loosened spare_bytes deepest spare_statements nesting 0 nodes (Word (codes "C") ∷ []) (leaf (raw_nodes.Constant (codes "C")) (Word (codes "C") ∷ []) (refl, omega arith, refl)) in
      let read : member_at limits nesting line before (Word (codes "C") ∷ equals_zero) ≡ Ok (before ++ Compare Eq nodes (raw_nodes.Literal (literal_value []) ∷ []) ∷ [], []) =
      within_read limits (compares {standing = Within} {start = length before} Eq first (zero_term nesting)) refl line before [] refl tt in
      let opened : Compares ≡ opening_at (Word (codes "C") ∷ equals_zero) = sym (term_compares limits first equals_zero) in
      (_, read, sym (member-compares limits nesting line before (Word (codes "C") ∷ equals_zero) opened) ∙ read)

  compares_reads : (nesting line : ℕ) (before : List RawFormula) → NoNoun limits (compares_at limits nesting line before) [] → ⊥
  compares_reads nesting line before n = let r = constant_read nesting line before in ok_no_err (compares_at limits nesting line before (Word (codes "C") ∷ equals_zero)) r.0 r.2 (n (codes "C") constant_noun equals_zero)

  member_reads : (nesting line : ℕ) (before : List RawFormula) → NoNoun limits (member_at limits nesting line before) [] → ⊥
  member_reads nesting line before n = let r = constant_read nesting line before in ok_no_err (member_at limits nesting line before (Word (codes "C") ∷ equals_zero)) r.0 r.1 (n (codes "C") constant_noun equals_zero)

  no_append : (front : List Token) (token : Token) (back : List Token) → front ++ token ∷ back ≡ [] → ⊥
  no_append [] token back e = absurd cc
  no_append (t ∷ front) token back e = absurd cc

  no_front_of : (front back : List Token) → 1 ≤ length front → [] ≡ front ++ back → ⊥
  no_front_of [] back some e = absurd (omega arith)
  no_front_of (t ∷ front) back some e = absurd cc

  some_compared : (nesting : ℕ) → IsCompared nesting [] → ⊥
  some_compared nesting (front, back, l, others, all) = no_front_of front back (spells_some limits (l 0).1) all

  formula_some : {standing : Standing} {level : Level} {nesting start : ℕ} {nodes : List RawFormula} {own : List Token} → SpellsFormula limits standing level nesting start nodes own → own ≡ [] → ⊥
  formula_some (compares {front = front} {back = back} pred l r) e = no_append front (Mark (comparison_mark pred)) back e
  formula_some (tests predicate is) e = absurd cc
  formula_some (one_use le) e = absurd cc
  formula_some (masked le is) e = absurd cc
  formula_some (non_zero le) e = absurd cc
  formula_some (turns is) e = absurd cc
  formula_some (encloses is) e = absurd cc
  formula_some (member is) e = formula_some is e
  formula_some (members is) e = formula_some is e
  formula_some (both {front = front} {back = back} l r) e = no_append front (Mark (codes "&&")) back e
  formula_some (either {front = front} {back = back} l r) e = no_append front (Mark (codes "||")) back e

  -- a member that begins with another token than `(`, `!` and a predicate
  comparison_outcome : (standing : Standing) (nesting line : ℕ) (before : List RawFormula) (tokens : List Token) → ((more : List Token) → Alike tokens more → Compares ≡ opening_at more) → MemberIs standing nesting line before tokens
  comparison_outcome standing nesting line before tokens h =
      widen (levels nesting) (pair limits) (member_at limits nesting line before) (Spelled limits (IsCompared nesting)) (Spelled limits (IsFormula standing Member nesting)) line tokens (λ x own is. compared standing nesting own is) (member_at limits nesting line before tokens)
      (alike_as (levels nesting) (pair limits) (member_at limits nesting line before) (compares_at limits nesting line before) (Spelled limits (IsCompared nesting)) line tokens (λ x is. some_compared nesting is) (compares_reads nesting line before) (λ more alike. member-compares limits nesting line before more (h more alike))
      ((compares_good nesting line before).outcome tokens))

  compares_alike : (token : Token) (rest : List Token) → ((more : List Token) → Compares ≡ opening_at (token ∷ more)) → (more : List Token) → Alike (token ∷ rest) more → Compares ≡ opening_at more
  unfolding opening_at
  compares_alike token rest h more (same t a b) = h b
  compares_alike token rest h more (ended a [] p q) = refl
  compares_alike token rest h more (ended a (Line number ∷ b) p q) = refl
  compares_alike token rest h more (ended a b p q) = absurd q

  compares_at_end : (more : List Token) → EndsLine more → Compares ≡ opening_at more
  unfolding opening_at
  compares_at_end [] ends = refl
  compares_at_end (Line number ∷ more) ends = refl
  compares_at_end more ends = absurd ends

  -- the parsers one level of nesting further in, where a level is left
  abbrev Inner : ℕ → ℕ → Type 0
  Inner zero line = Unit {0}
  Inner (suc nesting) line = (before : List RawFormula) → Good (levels nesting) (pair limits) (member_at limits nesting line before) (Spelled limits (IsFormula Within Member nesting)) line

  member_sample : (standing : Standing) (nesting line : ℕ) (before : List RawFormula) → Sample limits (Spelled limits (IsFormula standing Member nesting) {A = List RawFormula})
  member_sample standing nesting line before = let s = (compares_good nesting line before).sample in (s.0, s.1, compared standing nesting s.1 s.2)

  parenthesis_outcome : (standing : Standing) (nesting line : ℕ) (before : List RawFormula) (rest : List Token) → Inner nesting line → MemberIs standing nesting line before (Mark (codes "(") ∷ rest)
  parenthesis_outcome standing zero line before rest inner =
      refused_token (levels zero) (pair limits) (member_at limits zero line before) (Spelled limits (IsFormula standing Member zero)) line (Mark (codes "(")) rest (member_sample standing zero line before) (λ p. p) (too_deep_parenthesis standing line before)
  parenthesis_outcome standing (suc nesting) line before rest inner = by (opens_formula 0 rest) refl
    where
      by : (b : Bool) → opens_formula 0 rest ≡ b → MemberIs standing (suc nesting) line before (Mark (codes "(") ∷ rest)
      by true h = formula_outcome standing nesting line before inner rest h
      by false h = term_outcome standing nesting line before rest h

  turned_outcome : (standing : Standing) (nesting line : ℕ) (before : List RawFormula) (rest : List Token) → Inner nesting line → MemberIs standing nesting line before (Mark (codes "!") ∷ rest)
  unfolding opening_at
  turned_outcome standing zero line before rest inner =
      refused_token (levels zero) (pair limits) (member_at limits zero line before) (Spelled limits (IsFormula standing Member zero)) line (Mark (codes "!")) rest (member_sample standing zero line before) (λ p. p)
      (λ more. (fault line TooMany, turns-too_deep limits zero line before (Mark (codes "!") ∷ more) (fault line TooMany) refl refl, refl, says_too_many (levels zero) (Mark (codes "!")) more (kinds.nesting (Mark (codes "!")) (too_deep standing (Mark (codes "!")) kinds.negation))))
  turned_outcome standing (suc nesting) line before rest inner =
      led_in (levels nesting) (levels (suc nesting)) refl (Mark (codes "!")) (λ front far. opens_one (codes "!") nesting refl front far) (pair limits) (member_at limits (suc nesting) line before) (turns_at (member_at limits nesting line) before) (Spelled limits (IsFormula standing Member (suc nesting))) line rest tt (λ more. member-turns limits (suc nesting) line nesting before (Mark (codes "!") ∷ more) refl refl)
      (widen (levels nesting) (pair limits) (turns_at (member_at limits nesting line) before) (Spelled limits (IsFormula Within Member nesting)) (λ x own. IsFormula standing Member (suc nesting) (Mark (codes "!") ∷ own)) line rest (λ x own is. turned standing nesting own is) (turns_at (member_at limits nesting line) before rest) ((turns_good nesting line (member_at limits nesting line) inner before).outcome rest))

  predicate_outcome : (standing : Standing) (nesting line : ℕ) (before : List RawFormula) (word : List ℕ) (rest : List Token) (predicate : Predicate) → predicate_in word ≡ Some predicate → MemberIs standing nesting line before (Word word ∷ rest)
  unfolding opening_at
  predicate_outcome standing zero line before word rest predicate f =
      refused_token (levels zero) (pair limits) (member_at limits zero line before) (Spelled limits (IsFormula standing Member zero)) line (Word word) rest (member_sample standing zero line before) (λ p. p)
      (λ more. let e = tests_shallow predicate line before more in (e.0, member-tests limits zero line predicate before (Word word ∷ more) (rw f refl) ∙ e.1, e.2, says_deep (levels zero) word (too_deep standing (Word word) nests) more e.0.kind e.3))
    where
      opened : opening_at (Word word ∷ []) ≡ Tests predicate
      opened = rw f refl

      nests : Nests (Word word)
      nests =
          let is : Word word ∷ [] ≡ Word (predicate_word predicate) ∷ [] = subst (λ (o : Opening). Rattle.rule_terms.proofs.FormulaReadings.StartsSo limits o (Word word ∷ [])) opened (opening_at-is limits (Word word ∷ [])) in
          let first : Word (predicate_word predicate) ≡ Word word = let h = is in cc in
          subst Nests first (kinds.test predicate)
  predicate_outcome standing (suc nesting) line before word rest predicate f =
      let opened : opening_at (Word word ∷ []) ≡ Tests predicate = rw f refl in
      let is : Word word ∷ [] ≡ Word (predicate_word predicate) ∷ [] = subst (λ (o : Opening). Rattle.rule_terms.proofs.FormulaReadings.StartsSo limits o (Word word ∷ [])) opened (opening_at-is limits (Word word ∷ [])) in
      led (levels (suc nesting)) (pair limits) (member_at limits (suc nesting) line before) (tests_at limits predicate (suc nesting) line before) (Spelled limits (IsFormula standing Member (suc nesting))) line (Word word) rest (λ flag. predicate_other predicate (subst IsFlagWord (let word_is : word ≡ predicate_word predicate = cc in word_is) flag)) (λ more. member-tests limits (suc nesting) line predicate before (Word word ∷ more) (rw f refl))
      (widen (levels (suc nesting)) (pair limits) (tests_at limits predicate (suc nesting) line before) (Spelled limits (Is (Mark (codes "(")) ⨾ (IsTerm spare_bytes deepest spare_statements) Constant nesting loosest ⨾ Is (Mark (codes ")")))) (λ x own. IsFormula standing Member (suc nesting) (Word word ∷ own)) line rest
      (λ x own h. subst (λ (ts : List Token). IsFormula standing Member (suc nesting) (ts ++ own)) (sym is) (tested standing predicate nesting own h)) (tests_at limits predicate (suc nesting) line before rest) ((tests_good predicate nesting line before).outcome rest))

  member_outcome : (standing : Standing) (nesting line : ℕ) (before : List RawFormula) (tokens : List Token) → Inner nesting line → MemberIs standing nesting line before tokens
  unfolding opening_at
  member_outcome standing nesting line before [] inner = comparison_outcome standing nesting line before [] (λ more alike. compares_at_end more (ends_alike limits [] more alike tt))
  member_outcome standing nesting line before (Line number ∷ rest) inner = comparison_outcome standing nesting line before (Line number ∷ rest) (λ more alike. compares_at_end more (ends_alike limits (Line number ∷ rest) more alike tt))
  member_outcome standing nesting line before (Word word ∷ rest) inner = by (predicate_in word) refl
    where
      by : (found : Option Predicate) → predicate_in word ≡ found → MemberIs standing nesting line before (Word word ∷ rest)
      by (Some predicate) f = predicate_outcome standing nesting line before word rest predicate f
      by None f = comparison_outcome standing nesting line before (Word word ∷ rest) (compares_alike (Word word) rest (λ more. rw f refl))
  member_outcome standing nesting line before (Mark mark ∷ rest) inner = by (bytes_eq mark (codes "!")) refl
    where
      other : (b : Bool) → bytes_eq mark (codes "!") ≡ false → bytes_eq mark (codes "(") ≡ b → MemberIs standing nesting line before (Mark mark ∷ rest)
      other true g h = subst (λ (m : List ℕ). MemberIs standing nesting line before (Mark m ∷ rest)) (sym (same_word mark (codes "(") h)) (parenthesis_outcome standing nesting line before rest inner)
      other false g h = comparison_outcome standing nesting line before (Mark mark ∷ rest) (compares_alike (Mark mark) rest (λ more. rw (g, h) refl))

      by : (b : Bool) → bytes_eq mark (codes "!") ≡ b → MemberIs standing nesting line before (Mark mark ∷ rest)
      by true g = subst (λ (m : List ℕ). MemberIs standing nesting line before (Mark m ∷ rest)) (sym (same_word mark (codes "!") g)) (turned_outcome standing nesting line before rest inner)
      by false g = other (bytes_eq mark (codes "(")) g refl
  member_outcome standing nesting line before (token ∷ rest) inner = comparison_outcome standing nesting line before (token ∷ rest) (compares_alike token rest (λ more. refl))

  member_good : (standing : Standing) (nesting line : ℕ) (before : List RawFormula) → Good (levels nesting) (pair limits) (member_at limits nesting line before) (Spelled limits (IsFormula standing Member nesting)) line
  member_good standing zero line before = record { sample = member_sample standing zero line before; outcome = λ tokens. member_outcome standing zero line before tokens tt }
  member_good standing (suc nesting) line before = record { sample = member_sample standing (suc nesting) line before; outcome = λ tokens. member_outcome standing (suc nesting) line before tokens (member_good Within nesting line) }

  -- ---- the whole formula

  abbrev OuterIs : ℕ → List RawFormula → List Token → Type 0
  OuterIs line before tokens = Outcome limits (pair limits) (outer_member_at limits line before) (Spelled limits (IsFormula Outermost Member limits.nested)) line tokens (outer_member_at limits line before tokens)

  outer_as_member : (line : ℕ) (before : List RawFormula) (tokens : List Token) → ((more : List Token) → Alike tokens more → outer_member_at limits line before more ≡ member_at limits limits.nested line before more) → OuterIs line before tokens
  outer_as_member line before tokens h = alike_as limits (pair limits) (outer_member_at limits line before) (member_at limits limits.nested line before) (Spelled limits (IsFormula Outermost Member limits.nested)) line tokens (λ x is. formula_some (is 0).1 refl) (member_reads limits.nested line before) h ((member_good Outermost limits.nested line before).outcome tokens)

  outer_alike : (line : ℕ) (before : List RawFormula) (token : Token) (rest : List Token) → ((more : List Token) → outer_member_at limits line before (token ∷ more) ≡ member_at limits limits.nested line before (token ∷ more)) → (more : List Token) → Alike (token ∷ rest) more → outer_member_at limits line before more ≡ member_at limits limits.nested line before more
  unfolding outer_member_at
  outer_alike line before token rest h more (same t a b) = h b
  outer_alike line before token rest h more (ended a [] p q) = refl
  outer_alike line before token rest h more (ended a (Line number ∷ b) p q) = refl
  outer_alike line before token rest h more (ended a b p q) = absurd q

  -- behind `MaskedValueIsZero`, by a reader that goes on so behind it
  masked_outcome : (nesting line : ℕ) (before : List RawFormula) (rest : List Token) (R : Reader limits (List RawFormula × List Token)) → ((more : List Token) → R (Fact facts.MaskedValueIsZero ∷ more) ≡ masked_at limits nesting line before more)
      → Outcome (levels nesting) (pair limits) R (Spelled limits (IsFormula Outermost Member nesting)) line (Fact facts.MaskedValueIsZero ∷ rest) (R (Fact facts.MaskedValueIsZero ∷ rest))
  masked_outcome zero line before rest R h =
      refused_token (levels zero) (pair limits) R (Spelled limits (IsFormula Outermost Member zero)) line (Fact facts.MaskedValueIsZero) rest (member_sample Outermost zero line before) (λ p. p)
      (λ more. let e = masked_shallow line before more in (e.0, h more ∙ e.1, e.2, says_deep_fact (levels zero) facts.MaskedValueIsZero (too_deep Outermost (Fact facts.MaskedValueIsZero) kinds.masked) more e.0.kind e.3))
  masked_outcome (suc nesting) line before rest R h =
      led (levels (suc nesting)) (pair limits) R (masked_at limits (suc nesting) line before) (Spelled limits (IsFormula Outermost Member (suc nesting))) line (Fact facts.MaskedValueIsZero) rest tt h
      (widen (levels (suc nesting)) (pair limits) (masked_at limits (suc nesting) line before) (Spelled limits (Is (Mark (codes "(")) ⨾ IsMasked nesting)) (λ x own. IsFormula Outermost Member (suc nesting) (Fact facts.MaskedValueIsZero ∷ own)) line rest
      (λ x own is. value_masked nesting own is) (masked_at limits (suc nesting) line before rest) ((masked_good nesting line before).outcome rest))

  outer_outcome : (line : ℕ) (before : List RawFormula) (tokens : List Token) → OuterIs line before tokens
  unfolding outer_member_at
  outer_outcome line before [] = outer_as_member line before [] (λ more alike. by more (ends_alike limits [] more alike tt))
    where
      by : (more : List Token) → EndsLine more → outer_member_at limits line before more ≡ member_at limits limits.nested line before more
      by [] ends = refl
      by (Line number ∷ more) ends = refl
      by more ends = absurd ends
  outer_outcome line before (Word word ∷ rest) = by (bytes_eq word (codes "hasOneUse")) refl
    where
      by : (b : Bool) → bytes_eq word (codes "hasOneUse") ≡ b → OuterIs line before (Word word ∷ rest)
      by true h = led limits (pair limits) (outer_member_at limits line before) (one_use_at limits line before) (Spelled limits (IsFormula Outermost Member limits.nested)) line (Word word) rest (λ flag. one_use_other (subst IsFlagWord (same_word word (codes "hasOneUse") h) flag)) (λ more. rw h refl)
          (widen limits (pair limits) (one_use_at limits line before) (Spelled limits (Is (Mark (codes "(")) ⨾ IsName ⨾ Is (Mark (codes ")")))) (λ x own. IsFormula Outermost Member limits.nested (Word word ∷ own)) line rest
          (λ x own is. subst (λ (w : List ℕ). IsFormula Outermost Member limits.nested (Word w ∷ own)) (sym (same_word word (codes "hasOneUse") h)) (used_once limits.nested own is)) (one_use_at limits line before rest) ((one_use_good line before).outcome rest))
      by false h = outer_as_member line before (Word word ∷ rest) (outer_alike line before (Word word) rest (λ more. rw h refl))
  outer_outcome line before (Fact facts.MaskedValueIsZero ∷ rest) = masked_outcome deepest line before rest (outer_member_at limits line before) (λ more. refl)
  outer_outcome line before (Fact facts.IsKnownNonZero ∷ rest) =
      led limits (pair limits) (outer_member_at limits line before) (non_zero_at limits line before) (Spelled limits (IsFormula Outermost Member limits.nested)) line (Fact facts.IsKnownNonZero) rest tt (λ more. refl)
      (widen limits (pair limits) (non_zero_at limits line before) (Spelled limits (Is (Mark (codes "(")) ⨾ IsName ⨾ Is (Mark (codes ")")))) (λ x own. IsFormula Outermost Member limits.nested (Fact facts.IsKnownNonZero ∷ own)) line rest
      (λ x own is. known_non_zero limits.nested own is) (non_zero_at limits line before rest) ((non_zero_good line before).outcome rest))
  outer_outcome line before (token ∷ rest) = outer_as_member line before (token ∷ rest) (outer_alike line before token rest (λ more. refl))

  outer_good : (line : ℕ) (before : List RawFormula) → Good limits (pair limits) (outer_member_at limits line before) (Spelled limits (IsFormula Outermost Member limits.nested)) line
  outer_good line before = record { sample = member_sample Outermost limits.nested line before; outcome = outer_outcome line before }

  -- the members of the outermost `&&`: a formula without `hasOneUse` may also stand inside another
  abbrev First : Spelling limits (List RawFormula)
  First x own = IsFormula Outermost Members limits.nested own × (list_any is_outer x ≡ false → (nodes : List RawFormula) × SpellsFormula limits Within Members limits.nested 0 nodes own)

  abbrev first_at : ℕ → Reader limits (List RawFormula × List Token)
  first_at line tokens = members_of (outer_member_at limits line) [] tokens

  any_first : (own : List Token) → IsFormula Outermost Members limits.nested own → First (HasOneUse [] ∷ []) own
  any_first own is = (is, λ none. absurd cc)

  first_within : (line : ℕ) (tokens own : List Token) (x : List RawFormula) (rest : List Token) → first_at line tokens ≡ Ok (x, rest) → tokens ≡ own ++ rest → list_any is_outer x ≡ false → (nodes : List RawFormula) × SpellsFormula limits Within Members limits.nested 0 nodes own
  first_within line tokens own x rest e whole none =
      let a = members_of-is limits Outermost limits.nested (outer_member_at limits line) (outer_member_at-is limits line) [] tokens (x, rest) e in
      let same_own : a.own ≡ own = append_cancel_right a.own own rest (sym a.whole ∙ whole) in
      (a.nodes, subst (λ (ts : List Token). SpellsFormula limits Within Members limits.nested 0 a.nodes ts) same_own (stands_within limits a.is_own (subst (λ (ns : List RawFormula). list_any is_outer ns ≡ false) a.made none)))

  first_good : (line : ℕ) → Good limits (pair limits) (first_at line) First line
  first_good line = record { sample = (HasOneUse [] ∷ [], good.sample.1, any_first good.sample.1 good.sample.2); outcome = λ tokens. by tokens (first_at line tokens) refl (good.outcome tokens) }
    where
      good : Good limits (pair limits) (members_of (outer_member_at limits line) []) (Spelled limits (IsFormula Outermost Members limits.nested)) line
      good = members_good Outermost limits.nested line (outer_member_at limits line) (outer_member_at-is limits line) (outer_good line) []

      by : (tokens : List Token) (r : Read (List RawFormula)) → first_at line tokens ≡ r → Outcome limits (pair limits) (members_of (outer_member_at limits line) []) (Spelled limits (IsFormula Outermost Members limits.nested)) line tokens r → Outcome limits (pair limits) (first_at line) First line tokens r
      by tokens (Ok x) e o = record {
        value = o.value;
        own = o.own;
        rest = o.rest;
        is_own = (o.is_own, first_within line tokens o.own o.value o.rest (e ∙ ap Ok o.is) o.there);
        inline = o.inline;
        there = o.there;
        is = o.is;
        kept = o.kept;
        apart = o.apart;
      }
      by tokens (Err f) e o = record { front = o.front; behind = o.behind; there = o.there; begins = (HasOneUse [] ∷ [], o.begins.1, any_first (o.front ++ o.begins.1) o.begins.2); inline = o.inline; refused = o.refused; here = o.here; says = says_wider limits (opened o.front) (opened o.front) (omega arith) (Takes limits (Spelled limits (IsFormula Outermost Members limits.nested) {A = List RawFormula}) o.front) (Takes limits First o.front) (λ token b. (HasOneUse [] ∷ [], b.1, any_first ((o.front ++ token ∷ []) ++ b.1) b.2)) o.behind (λ word r is_word n. n) f.kind o.says; new = o.new }

  -- what the tokens spell behind members of which one may be `hasOneUse`
  abbrev After : Bool → Part
  After true own = own ≡ []
  After false own = GoesOn Within Alternatives limits.nested own

  after_good : (line : ℕ) (asks : Bool) (x : List RawFormula) → Good limits (pair limits) (or_alternatives limits line asks x) (Spelled limits (After asks)) line
  after_good line true x = record { sample = (x, [], refl); outcome = λ tokens. passed limits (pair limits) (or_alternatives limits line true x) (Spelled limits (After true)) line tokens x refl (λ more alike. refl) }
  after_good line false x = more_alternatives_good limits.nested line (member_at limits limits.nested line) (member_at-is limits Within limits.nested line) (member_good Within limits.nested line) x

  abbrev pub IsWholeFormula : Part
  IsWholeFormula own = (nodes : List RawFormula) × SpellsWholeFormula limits nodes own

  whole_formula : (asks : Bool) (x : List RawFormula) (front back : List Token) → list_any is_outer x ≡ asks → First x front → After asks back → IsWholeFormula (front ++ back)
  whole_formula true x front back e one none = with_none limits IsWholeFormula front back none (let f = one.0 0 in (f.0, members f.1))
  whole_formula false x front back e one onward =
      let f = one.1 e in
      let all = onward 0 front f.0 (members f.1) in
      (all.0, stands_outermost limits all.1)

  pub formula_good : (line : ℕ) → Good limits (pair limits) (formula_at limits line) (Spelled limits IsWholeFormula) line
  unfolding formula_at
  formula_good line =
      then limits {s = (pair limits)} {t = (pair limits)} _ {L = First} {M = λ x. Spelled limits (After (list_any is_outer x))} (λ x y front back one after. whole_formula (list_any is_outer x) x front back refl one after) (first_good line)
      (λ first. then_end limits _ (λ whole. whole) (λ whole rest. refl) (after_good line (list_any is_outer first) first))
