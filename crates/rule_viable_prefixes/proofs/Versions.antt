-- Rule files: the fault of the version's line, or of the rules behind it, is where the tokens stop being a viable
-- prefix.
use Rattle.rule_viable_prefixes.proofs.Common.{◌≡◌, ◌≢◌, ℕ, Bool, true, false, cond, List, [], ◌∷◌, ◌++◌, Option, Some, None, Result, Ok, Err, refl, sym, ap, subst, ◌∙◌, append_assoc, ◌⊎◌, inl, inr, arith, append-nil, codes, bytes_eq, same_word, is_digit, RuleFaultKind, Syntax, LeftOut, TooMany, Version, One, Limits, misplaced_word, unexpected, RuleFault, Token, Line, Head, Word, Number, Bad, Excess, version_in, EndsLine, ok_is, version_in-is, RawRule, SpellsRules, SpellsVersion, SpellsFile, version_number_at, version_at, rules_at, rules_of, all_rules, version_read, line_behind, NounFits}
use Rattle.rule_viable_prefixes.specs.Fits.{line_of}
use Rattle.rule_viable_prefixes.proofs.FitsWithin.{FitsWithin, FitsBehindWithin, LineFitsWithin}
use Rattle.rule_viable_prefixes.proofs.Reasons.{openings_on_line, IsExcused, one_use, repeated, nested, IsMisfit, itself, IsOtherVersion}
use Rattle.rule_viable_prefixes.proofs.Files.{Fit, FitBehind, LineFit, AtRuleToken, AtRulesEnd, where_rules_refused}
use Rattle.rule_viable_prefixes.proofs.FlagRuns.{IsNew, new_behind, none_new, new_on_line}
use Rattle.rule_viable_prefixes.proofs.Lines.{NamesEndLines}
use Rattle.rule_viable_prefixes.proofs.Outcomes.{repeats_behind}
use Rattle.rule_viable_prefixes.proofs.Tolds.{Told, misfit_carried, says_unexpected}
use Rattle.rule_viable_prefixes.proofs.Roomy.{roomy}
use Rattle.rule_viable_prefixes.proofs.Rules.{on_new_line, begins_line, line_of_both}

module _ (spare_bytes deepest spare_statements : ℕ) where
  abbrev limits : Limits
  limits = roomy spare_bytes deepest spare_statements

  -- ---- where the fault stands

  -- the fault is at a token, and says why it does not fit
  pub record AtToken (tokens : List Token) (found : RuleFault) : Type 0 where
    pub front : List Token
    pub token : Token
    pub behind : List Token
    pub stands : tokens ≡ front ++ token ∷ behind
    pub fits : FitsWithin limits front
    pub misfit : ¬ FitsBehindWithin limits front token
    pub line : found.line ≡ line_of front
    pub told : token ≢ Excess → IsMisfit limits (openings_on_line front) (FitsBehindWithin limits front) token behind found.kind ⊎ IsOtherVersion front token found.kind
    pub excess : token ≡ Excess → found.kind ≡ TooMany
    pub no_noun : found.kind ≡ Syntax → (word : List ℕ) → token ≡ Word word → NounFits (FitsBehindWithin limits front) → IsExcused limits (FitsBehindWithin limits front) front word
    pub new : IsNew front found.kind

  -- the fault is at the end of the tokens
  pub record AtEnd (tokens : List Token) (last : ℕ) (found : RuleFault) : Type 0 where
    pub fits : FitsWithin limits tokens
    pub no_rules : (rules : List RawRule) → ¬ SpellsFile limits rules tokens
    pub kind : found.kind ≡ Syntax
    pub line : (LineFitsWithin limits tokens × (found.line ≡ last)) ⊎ ((¬ LineFitsWithin limits tokens) × (found.line ≡ line_of tokens))

  abbrev IsRefused : ℕ → List Token → RuleFault → Type 0
  IsRefused last tokens found = AtToken tokens found ⊎ AtEnd tokens last found

  -- ---- behind the version

  -- the token is no head
  abbrev IsOther : Token → Type 0
  IsOther (Head head) = ⊥
  IsOther token = Unit {0}

  -- the first token behind the version, or another one in its place that is no head
  data IsNext (behind : List Token) (token : Token) : Type 0 where
    first : (rest : List Token) → behind ≡ token ∷ rest → IsNext behind token
    other : IsOther token → IsNext behind token

  -- The version is read from the first tokens, whatever comes behind.
  record IsRead (own : List Token) (version : Version) (tokens : List Token) : Type 0 where
    spells : SpellsVersion version own
    kept : (number : ℕ) (inner behind : List Token) → tokens ≡ Line number ∷ inner ++ behind → (token : Token) → IsNext behind token → (more : List Token)
        → version_at (own ++ Line number ∷ (inner ++ token ∷ more)) ≡ Ok (version, Line number ∷ (inner ++ token ∷ more))
    whole : version_at (own ++ tokens) ≡ Ok (version, tokens)

  -- rules that the tokens spell are spelled by what is behind the version
  rules_behind : (version : Version) (rules : List RawRule) (tokens behind : List Token) → version_at tokens ≡ Ok (version, behind) → SpellsFile limits rules tokens → SpellsRules limits version rules behind
  rules_behind version rules tokens behind e is =
      let read = version_read limits rules tokens is in
      subst (λ (x : Version × List Token). SpellsRules limits x.0 rules x.1) (ok_is read.0 (version, behind) (sym read.1 ∙ e)) read.2

  both_behind : (own front : List Token) (token : Token) (more : List Token) → ((own ++ front) ++ token ∷ []) ++ more ≡ own ++ ((front ++ token ∷ []) ++ more)
  both_behind own front token more =
      ap (λ (ts : List Token). ts ++ more) (append_assoc own front (token ∷ [])) ∙ append_assoc own (front ++ token ∷ []) more

  module _ (own : List Token) (version : Version) (tokens : List Token) (o : IsRead own version tokens) where
    abbrev IsFit : List Token → Type 0
    IsFit front = Fit spare_bytes deepest spare_statements version front

    abbrev FitNext : List Token → Token → Type 0
    FitNext front token = FitBehind spare_bytes deepest spare_statements version front token

    -- a viable prefix of rules is one of the file, behind the version
    up : (front : List Token) → IsFit front → FitsWithin limits (own ++ front)
    up front (rules, more, is) = (rules, more, (version, (own, front ++ more, o.spells, is, append_assoc own front more)))

    up_next : (front : List Token) (token : Token) → FitNext front token → FitsBehindWithin limits (own ++ front) token
    up_next front token (rules, more, is) = (rules, more, (version, (own, (front ++ token ∷ []) ++ more, o.spells, is, both_behind own front token more)))

    -- and the other way round
    down : (number : ℕ) (inner behind : List Token) → tokens ≡ Line number ∷ inner ++ behind → (token : Token) → IsNext behind token → FitsBehindWithin limits (own ++ Line number ∷ inner) token → FitNext (Line number ∷ inner) token
    down number inner behind stands token next (rules, more, is) =
        let one : (inner ++ token ∷ []) ++ more ≡ inner ++ token ∷ more = append_assoc inner (token ∷ []) more in
        let read : version_at (own ++ (Line number ∷ ((inner ++ token ∷ []) ++ more))) ≡ Ok (version, Line number ∷ ((inner ++ token ∷ []) ++ more)) =
        subst (λ (ts : List Token). version_at (own ++ Line number ∷ ts) ≡ Ok (version, Line number ∷ ts)) (sym one) (o.kept number inner behind stands token next more) in
        (rules, more, rules_behind version rules (own ++ (Line number ∷ ((inner ++ token ∷ []) ++ more))) (Line number ∷ ((inner ++ token ∷ []) ++ more)) read (subst (SpellsFile limits rules) (both_behind own (Line number ∷ inner) token more) is))

    token_lifted : (found : RuleFault) → AtRuleToken spare_bytes deepest spare_statements version tokens found → AtToken (own ++ tokens) found
    token_lifted found at =
        let front : List Token = Line at.number ∷ at.inner in
        record {
          front = own ++ front;
          token = at.token;
          behind = at.behind;
          stands = ap (λ (ts : List Token). own ++ ts) at.stands ∙ sym (append_assoc own front (at.token ∷ at.behind));
          fits = up front at.fits;
          misfit = λ fits. at.misfit (down at.number at.inner (at.token ∷ at.behind) at.stands at.token (first at.behind refl) fits);
          line = at.line ∙ sym (line_of_both limits own at.inner 0 at.number);
          told = λ read. inl (misfit_carried limits limits (openings_on_line at.inner) (openings_on_line (own ++ front)) refl (λ far. let same_line = on_new_line limits own at.inner 0 at.number in omega (arith, far, same_line)) (FitNext front) (FitsBehindWithin limits (own ++ front)) (up_next front) at.token at.behind found.kind (at.told read));
          excess = at.excess;
          no_noun = λ syntax_ word is noun. excused word (at.no_noun syntax_ word is (noun_down noun));
          new = new_on_line own at.number at.inner found.kind at.new;
        }
      where
        noun_down : NounFits (FitsBehindWithin limits (own ++ Line at.number ∷ at.inner)) → NounFits (FitNext (Line at.number ∷ at.inner))
        noun_down (noun, is_noun, fits) = (noun, is_noun, down at.number at.inner (at.token ∷ at.behind) at.stands (Word noun) (other tt) fits)

        excused : (word : List ℕ) → IsExcused limits (FitNext (Line at.number ∷ at.inner)) (Line at.number ∷ at.inner) word → IsExcused limits (FitsBehindWithin limits (own ++ Line at.number ∷ at.inner)) (own ++ Line at.number ∷ at.inner) word
        excused word (one_use is) = one_use is
        excused word (repeated again) = repeated (repeats_behind limits own (Line at.number ∷ at.inner) (own ++ Line at.number ∷ at.inner) word refl again)
        excused word (nested (far, nests, fits)) = nested ((let same_line = on_new_line limits own at.inner 0 at.number in omega (arith, far, same_line)), nests, up_next (Line at.number ∷ at.inner) (Number (codes "0")) fits)

    end_lifted : (last number : ℕ) (inner : List Token) (found : RuleFault) → tokens ≡ Line number ∷ inner → AtRulesEnd spare_bytes deepest spare_statements version tokens last found → AtEnd (own ++ tokens) last found
    end_lifted last number inner found is at = record {
      fits = up tokens at.fits;
      no_rules = λ rules spelled. at.no_rules rules (rules_behind version rules (own ++ tokens) tokens o.whole spelled);
      kind = at.kind;
      line = line at.line;
    }
      where
        stands : tokens ≡ Line number ∷ inner ++ []
        stands = is ∙ ap (λ (ts : List Token). Line number ∷ ts) (sym (append-nil inner))

        line : (LineFit spare_bytes deepest spare_statements version tokens × (found.line ≡ last)) ⊎ ((¬ LineFit spare_bytes deepest spare_statements version tokens) × (found.line ≡ line_of tokens))
            → (LineFitsWithin limits (own ++ tokens) × (found.line ≡ last)) ⊎ ((¬ LineFitsWithin limits (own ++ tokens)) × (found.line ≡ line_of (own ++ tokens)))
        line (inl ((next, fits), here)) = inl ((next, up_next tokens (Line next) fits), here)
        line (inr (none, here)) = inr (
          (λ fits.
              none (fits.0, subst (λ (ts : List Token). FitNext ts (Line fits.0)) (sym is) (down number inner [] stands (Line fits.0) (other tt) (subst (λ (ts : List Token). FitsBehindWithin limits (own ++ ts) (Line fits.0)) is fits.1)))),
          here ∙ ap line_of is ∙ begins_line limits number 0 inner ∙ sym (line_of_both limits own inner 0 number) ∙ sym (ap (λ (ts : List Token). line_of (own ++ ts)) is),
        )

    lifted : (last : ℕ) (found : RuleFault) → EndsLine tokens → NamesEndLines tokens → rules_of limits version last tokens ≡ Err found → IsRefused last (own ++ tokens) found
    unfolding rules_at
    lifted last found ends names e = by (where_rules_refused spare_bytes deepest spare_statements version last tokens found ends names e)
      where
        at_end : (ts : List Token) → tokens ≡ ts → EndsLine ts → rules_of limits version last ts ≡ Err found → AtRulesEnd spare_bytes deepest spare_statements version tokens last found → AtEnd (own ++ tokens) last found
        at_end [] is ends e at = absurd cc
        at_end (Line number ∷ inner) is ends e at = end_lifted last number inner found is at
        at_end ts is ends e at = absurd ends

        by : AtRuleToken spare_bytes deepest spare_statements version tokens found ⊎ AtRulesEnd spare_bytes deepest spare_statements version tokens last found → IsRefused last (own ++ tokens) found
        by (inl at) = inl (token_lifted found at)
        by (inr at) = inr (at_end tokens refl ends e at)

  -- ---- where the version is read

  -- the beginning of a version's line
  abbrev begun : ℕ → List Token → List Token
  begun line rest = Line line ∷ Head (codes "Version:") ∷ rest

  said_reads : (line : ℕ) (text : List ℕ) (version : Version) (rest : List Token) → version_in text ≡ Some version → EndsLine rest → version_at (begun line (Number text ∷ rest)) ≡ Ok (version, rest)
  unfolding version_at version_number_at
  said_reads line text version [] is ends = rw is refl
  said_reads line text version (Line number ∷ rest) is ends = rw is refl
  said_reads line text version rest is ends = absurd ends

  said : (line : ℕ) (text : List ℕ) (version : Version) (rest : List Token) → version_in text ≡ Some version → EndsLine rest → IsRead (begun line (Number text ∷ [])) version rest
  said line text version rest is ends =
      let known = version_in-is text version is in
      record {
        spells = inl (record { line = line; digits = text; are_digits = known.0; number = known.1; spelled = refl });
        kept = λ number inner behind stands token next more. said_reads line text version (Line number ∷ (inner ++ token ∷ more)) is tt;
        whole = said_reads line text version rest is ends;
      }

  -- the first line says no version
  abbrev SaysNone : List Token → Type 0
  SaysNone (Line line ∷ Head head ∷ rest) = bytes_eq head (codes "Version:") ≡ false
  SaysNone tokens = Unit {0}

  none_reads : (tokens : List Token) → SaysNone tokens → version_at tokens ≡ Ok (One, tokens)
  unfolding version_at
  none_reads [] none = refl
  none_reads (Line line ∷ []) none = refl
  none_reads (Line line ∷ Head head ∷ rest) none = rw none refl
  none_reads (Line line ∷ token ∷ rest) none = refl
  none_reads (token ∷ rest) none = refl

  next_none : (number : ℕ) (behind : List Token) (token : Token) (more : List Token) → SaysNone (Line number ∷ behind) → IsNext behind token → SaysNone (Line number ∷ token ∷ more)
  next_none number behind (Head head) more none (first rest is) = subst (λ (ts : List Token). SaysNone (Line number ∷ ts)) is none
  next_none number behind (Head head) more none (other is) = absurd is
  next_none number behind token more none next = tt

  none_kept : (number : ℕ) (inner behind : List Token) (token : Token) (more : List Token) → SaysNone (Line number ∷ (inner ++ behind)) → IsNext behind token → SaysNone (Line number ∷ (inner ++ token ∷ more))
  none_kept number [] behind token more none next = next_none number behind token more none next
  none_kept number (Head head ∷ inner) behind token more none next = none
  none_kept number (t ∷ inner) behind token more none next = tt

  unsaid : (tokens : List Token) → SaysNone tokens → IsRead [] One tokens
  unsaid tokens none = record {
    spells = inr (refl, refl);
    kept = λ number inner behind stands token next more. none_reads (Line number ∷ (inner ++ token ∷ more)) (none_kept number inner behind token more (subst SaysNone stands none) next);
    whole = none_reads tokens none;
  }

  -- ---- where the version is refused

  one_line : (line : ℕ) → SpellsFile limits [] (begun line (Number (codes "1") ∷ []))
  unfolding is_digit
  one_line line = (One, (begun line (Number (codes "1") ∷ []), [], inl (record { line = line; digits = codes "1"; are_digits = refl; number = refl; spelled = refl }), refl, refl))

  head_fits : (line : ℕ) → FitsWithin limits (begun line [])
  head_fits line = ([], Number (codes "1") ∷ [], one_line line)

  -- a head is no flag
  head_new : (line : ℕ) (kind : RuleFaultKind) → IsNew (begun line []) kind
  head_new line kind = new_behind (begun line []) [] kind (inl (λ word flag is. cc)) (none_new kind)

  -- tokens whose version is refused spell no rules
  none_spelled : (rules : List RawRule) (tokens : List Token) (found : RuleFault) → version_at tokens ≡ Err found → SpellsFile limits rules tokens → ⊥
  none_spelled rules tokens found e is = let read = version_read limits rules tokens is in let both = sym e ∙ read.1 in absurd cc

  -- the number is missing at the end of the text
  number_missed : (line last : ℕ) → IsRefused last (begun line []) (unexpected line [])
  unfolding version_at version_number_at line_behind
  number_missed line last = inr (record {
    fits = head_fits line;
    no_rules = λ rules is. none_spelled rules (begun line []) (unexpected line []) refl is;
    kind = refl;
    line = inr ((λ fits. none_spelled fits.1.0 (begun line (Line fits.0 ∷ fits.1.1)) (unexpected line (Line fits.0 ∷ fits.1.1)) refl fits.1.2), refl);
  })

  -- a token that doesn't fit, and no noun in its place
  unexpected_token : (line : ℕ) (front : List Token) (token : Token) (behind : List Token) → FitsWithin limits front → line ≡ line_of front → ¬ FitsBehindWithin limits front token
      → ((noun : List ℕ) → ¬ FitsBehindWithin limits front (Word noun)) → ((kind : RuleFaultKind) → IsNew front kind) → AtToken (front ++ token ∷ behind) (unexpected line (token ∷ behind))
  unexpected_token line front token behind fits here misfit none new = record {
    front = front;
    token = token;
    behind = behind;
    stands = refl;
    fits = fits;
    misfit = misfit;
    line = on_line token ∙ here;
    told = λ read. inl (told.misfit read);
    excess = told.excess;
    no_noun = λ syntax_ word is noun. absurd (none noun.0 noun.2);
    new = new (unexpected line (token ∷ behind)).kind;
  }
    where
      on_line : (t : Token) → (unexpected line (t ∷ behind)).line ≡ line
      on_line Bad = refl
      on_line Excess = refl
      on_line t = refl

      told : Told limits (openings_on_line front) (FitsBehindWithin limits front) (λ word. NounFits (FitsBehindWithin limits front) → ⊥) token behind (unexpected line (token ∷ behind)).kind
      told = says_unexpected limits line token behind (λ word is. inr (λ noun. none noun.0 noun.2))

  -- behind `Version:` a token that is no number
  number_expected : (line last : ℕ) (token : Token) (rest : List Token) → ((more : List Token) → version_at (begun line (token ∷ more)) ≡ Err (unexpected line (token ∷ more))) → IsRefused last (begun line (token ∷ rest)) (unexpected line (token ∷ rest))
  unfolding version_at version_number_at line_behind
  number_expected line last token rest h = inl (unexpected_token line (begun line []) token rest (head_fits line) refl
      (λ fits. none_spelled fits.0 (begun line (token ∷ fits.1)) (unexpected line (token ∷ fits.1)) (h fits.1) fits.2)
      (λ noun fits. none_spelled fits.0 (begun line (Word noun ∷ fits.1)) (unexpected line (Word noun ∷ fits.1)) refl fits.2) (head_new line))

  -- the number of an unknown version
  left_out_number : (line last : ℕ) (text : List ℕ) (rest : List Token) → version_in text ≡ None → IsRefused last (begun line (Number text ∷ rest)) (misplaced_word line text)
  unfolding version_at version_number_at line_behind
  left_out_number line last text rest none = by (bytes_eq text (codes "hasOneUse"))
    where
      by : (b : Bool) → IsRefused last (begun line (Number text ∷ rest)) (record { line = line; kind = cond b Syntax (LeftOut text) })
      by b = inl (record {
        front = begun line [];
        token = Number text;
        behind = rest;
        stands = refl;
        fits = head_fits line;
        misfit = λ fits. none_spelled fits.0 (begun line (Number text ∷ fits.1)) (misplaced_word line text) (rw none refl) fits.2;
        line = refl;
        told = λ read. why b;
        excess = λ is. absurd cc;
        no_noun = λ syntax_ word is. absurd cc;
        new = head_new line (cond b Syntax (LeftOut text));
      })
        where
          why : (c : Bool) → IsMisfit limits (openings_on_line (begun line [])) (FitsBehindWithin limits (begun line [])) (Number text) rest (cond c Syntax (LeftOut text)) ⊎ IsOtherVersion (begun line []) (Number text) (cond c Syntax (LeftOut text))
          why true = inl (itself (λ is. cc))
          why false = inr (line, text, refl, refl, refl)

  fault_is : (d e : RuleFault) → ◌≡◌ {A = Result (List RawRule) RuleFault} (Err d) (Err e) → d ≡ e
  fault_is d e is = let equal = is in cc

  -- behind the number of a version
  number_read : (last line : ℕ) (text : List ℕ) (version : Version) (rest : List Token) (found : RuleFault) → version_in text ≡ Some version → NamesEndLines rest → all_rules limits last (begun line (Number text ∷ rest)) ≡ Err found → IsRefused last (begun line (Number text ∷ rest)) found
  unfolding version_at version_number_at line_behind
  number_read last line text version [] found is names e =
      let read : all_rules limits last (begun line (Number text ∷ [])) ≡ rules_of limits version last [] = rw is refl in
      lifted (begun line (Number text ∷ [])) version [] (said line text version [] is tt) last found tt names (sym read ∙ e)
  number_read last line text version (Line number ∷ rest) found is names e =
      let read : all_rules limits last (begun line (Number text ∷ Line number ∷ rest)) ≡ rules_of limits version last (Line number ∷ rest) = rw is refl in
      lifted (begun line (Number text ∷ [])) version (Line number ∷ rest) (said line text version (Line number ∷ rest) is tt) last found tt names (sym read ∙ e)
  number_read last line text version (token ∷ rest) found is names e =
      let read : all_rules limits last (begun line (Number text ∷ token ∷ rest)) ≡ Err (unexpected line (token ∷ rest)) = rw is refl in
      let known = version_in-is text version is in
      let own : List Token = begun line (Number text ∷ []) in
      subst (IsRefused last (begun line (Number text ∷ token ∷ rest))) (fault_is (unexpected line (token ∷ rest)) found (sym read ∙ e))
      (inl (unexpected_token line own token rest
      ([], [], (version, (own, [], inl (record { line = line; digits = text; are_digits = known.0; number = known.1; spelled = refl }), refl, refl))) refl
      (λ fits. none_spelled fits.0 (begun line (Number text ∷ token ∷ fits.1)) (unexpected line (token ∷ fits.1)) (rw is refl) fits.2)
      (λ noun fits. none_spelled fits.0 (begun line (Number text ∷ Word noun ∷ fits.1)) (unexpected line (Word noun ∷ fits.1)) (rw is refl) fits.2)
      (λ kind. new_behind own [] kind (inl (λ word flag same. cc)) (none_new kind))))

  numbered : (last line : ℕ) (text : List ℕ) (rest : List Token) (found : RuleFault) → NamesEndLines rest → all_rules limits last (begun line (Number text ∷ rest)) ≡ Err found → (version : Option Version) → version_in text ≡ version → IsRefused last (begun line (Number text ∷ rest)) found
  unfolding version_at version_number_at
  numbered last line text rest found names e (Some version) is = number_read last line text version rest found is names e
  numbered last line text rest found names e None is =
      let read : all_rules limits last (begun line (Number text ∷ rest)) ≡ Err (misplaced_word line text) = rw is refl in
      subst (IsRefused last (begun line (Number text ∷ rest))) (fault_is (misplaced_word line text) found (sym read ∙ e)) (left_out_number line last text rest is)

  headed : (last line : ℕ) (rest : List Token) (found : RuleFault) → NamesEndLines rest → all_rules limits last (begun line rest) ≡ Err found → IsRefused last (begun line rest) found
  unfolding version_at version_number_at
  headed last line [] found names e = subst (IsRefused last (begun line [])) (fault_is (unexpected line []) found e) (number_missed line last)
  headed last line (Number text ∷ rest) found names e = numbered last line text rest found names e (version_in text) refl
  headed last line (token ∷ rest) found names e = subst (IsRefused last (begun line (token ∷ rest))) (fault_is (unexpected line (token ∷ rest)) found e) (number_expected line last token rest (λ more. refl))

  -- ---- the whole file

  without : (last : ℕ) (tokens : List Token) (found : RuleFault) → EndsLine tokens → NamesEndLines tokens → all_rules limits last tokens ≡ Err found → SaysNone tokens → IsRefused last tokens found
  without last tokens found ends names e none =
      let read : all_rules limits last tokens ≡ rules_of limits One last tokens = rw (none_reads tokens none) refl in
      lifted [] One tokens (unsaid tokens none) last found ends names (sym read ∙ e)

  pub where_refused : (last : ℕ) (tokens : List Token) (found : RuleFault) → EndsLine tokens → NamesEndLines tokens → all_rules limits last tokens ≡ Err found → AtToken tokens found ⊎ AtEnd tokens last found
  where_refused last (Line line ∷ Head head ∷ rest) found ends names e = by (bytes_eq head (codes "Version:")) refl
    where
      by : (b : Bool) → bytes_eq head (codes "Version:") ≡ b → IsRefused last (Line line ∷ Head head ∷ rest) found
      by false h = without last (Line line ∷ Head head ∷ rest) found ends names e h
      by true h =
          let is = same_word head (codes "Version:") h in
          subst (λ (word : List ℕ). IsRefused last (Line line ∷ Head word ∷ rest) found) (sym is)
          (headed last line rest found names (subst (λ (word : List ℕ). all_rules limits last (Line line ∷ Head word ∷ rest) ≡ Err found) is e))
  where_refused last tokens found ends names e = without last tokens found ends names e tt

  -- the number of an unknown version is told so
  pub version_told : (last line : ℕ) (text : List ℕ) (rest : List Token) (found : RuleFault) → all_rules limits last (begun line (Number text ∷ rest)) ≡ Err found → found.kind ≡ Syntax → ¬ FitsBehindWithin limits (begun line []) (Number text) → text ≡ codes "hasOneUse"
  unfolding version_at version_number_at
  version_told last line text rest found e syntax_ misfit = by (version_in text) refl
    where
      kind : (b : Bool) → bytes_eq text (codes "hasOneUse") ≡ b → cond b Syntax (LeftOut text) ≡ Syntax → text ≡ codes "hasOneUse"
      kind true h told = same_word text (codes "hasOneUse") h
      kind false h told = absurd cc

      by : (version : Option Version) → version_in text ≡ version → text ≡ codes "hasOneUse"
      by (Some version) is =
          let known = version_in-is text version is in
          absurd (misfit ([], [], (version, (begun line (Number text ∷ []), [], inl (record { line = line; digits = text; are_digits = known.0; number = known.1; spelled = refl }), refl, refl))))
      by None is =
          let read : all_rules limits last (begun line (Number text ∷ rest)) ≡ Err (misplaced_word line text) = rw is refl in
          kind (bytes_eq text (codes "hasOneUse")) refl (ap (λ (f : RuleFault). f.kind) (fault_is (misplaced_word line text) found (sym read ∙ e)) ∙ syntax_)
