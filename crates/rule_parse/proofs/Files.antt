-- Rule files: the line of the version, and the rules behind it.
use Rattle.rule_parse.proofs.Common.{◌≡◌, ℕ, true, false, inl, inr, List, [], ◌∷◌, ◌++◌, length, Ok, refl, ap, ◌∙◌, ⊎_elim, codes, bytes_eq, le_refl, same_word, RawRule, SpellsRules, SpellsVersion, SpellsFile, version_number_at, version_at, all_rules, Version, One, Limits, or_left_out, line_end, Token, Line, Head, Number, version_in, EndsLine, line_end-of, done, bound, read_as, not_left_out, chosen, Takes, line_end-is, version_in-is, version_in-of}
use Rattle.rule_parse.proofs.Readings.{rules_at-is}
use Rattle.rule_parse.proofs.Spellings.{rules_at-of}

-- ---- the version

number_read : (line : ℕ) (tokens : List Token) (x : Version × List Token) → version_number_at line tokens ≡ Ok x → Takes (SpellsVersion x.0) (Line line ∷ Head (codes "Version:") ∷ tokens) x.1
unfolding version_number_at
number_read line (Number text ∷ rest) x e =
    bound (or_left_out line text (version_in text) rest) _ _ e (λ found f e1.
    bound (line_end line found.1) _ _ e1 (λ behind ends e2.
    let known = not_left_out line text (version_in text) rest found f in
    let is = version_in-is text found.0 known.0 in
    read_as (λ (y : Version × List Token). Takes (SpellsVersion y.0) (Line line ∷ Head (codes "Version:") ∷ Number text ∷ rest) y.1) (found.0, behind) x e2
    (record {
      own = Line line ∷ Head (codes "Version:") ∷ Number text ∷ [];
      is_own = inl (record { line = line; digits = text; are_digits = is.0; number = is.1; spelled = refl });
      whole = ap (λ (ts : List Token). Line line ∷ Head (codes "Version:") ∷ Number text ∷ ts) (known.1 ∙ line_end-is line found.1 behind ends);
    })))
number_read line tokens x e = absurd cc

no_version : (tokens : List Token) (x : Version × List Token) → done (One, tokens) ≡ Ok x → Takes (SpellsVersion x.0) tokens x.1
no_version tokens x e =
    read_as (λ (y : Version × List Token). Takes (SpellsVersion y.0) tokens y.1) (One, tokens) x e (record { own = []; is_own = inr (refl, refl); whole = refl })

headed : (line : ℕ) (head : List ℕ) (rest : List Token) (x : Version × List Token) → head ≡ codes "Version:" → version_number_at line rest ≡ Ok x → Takes (SpellsVersion x.0) (Line line ∷ Head head ∷ rest) x.1
headed line head rest x is e = rw is (number_read line rest x e)

pub version_at-is : (tokens : List Token) (x : Version × List Token) → version_at tokens ≡ Ok x → Takes (SpellsVersion x.0) tokens x.1
unfolding version_at
version_at-is (Line line ∷ Head head ∷ rest) x e = ⊎_elim
    (λ (h : (bytes_eq head (codes "Version:") ≡ true) × (version_number_at line rest ≡ Ok x)). headed line head rest x (same_word head (codes "Version:") h.0) h.1)
    (λ (h : (bytes_eq head (codes "Version:") ≡ false) × (done (One, Line line ∷ Head head ∷ rest) ≡ Ok x)). no_version (Line line ∷ Head head ∷ rest) x h.1)
    (chosen (bytes_eq head (codes "Version:")) (version_number_at line rest) (done (One, Line line ∷ Head head ∷ rest)) (Ok x) e)
version_at-is tokens x e = no_version tokens x e

-- rules begin with no line of `Version:`
record Begins (tokens : List Token) : Type 0 where
  ends : EndsLine tokens
  no_line : version_at tokens ≡ Ok (One, tokens)

rules_begin : (limits : Limits) (version : Version) (raws : List RawRule) (tokens : List Token) → SpellsRules limits version raws tokens → Begins tokens
unfolding version_at
rules_begin limits version [] tokens is = rw is (record { ends = tt; no_line = refl })
rules_begin limits version (raw ∷ raws) tokens (own, rest, one, more, whole) = rw (whole, one.spelled) (record { ends = tt; no_line = refl })

pub version_at-of : (version : Version) (own rest : List Token) → SpellsVersion version own → EndsLine rest → version_at rest ≡ Ok (One, rest) → version_at (own ++ rest) ≡ Ok (version, rest)
unfolding version_at version_number_at
version_at-of version own rest (inl line) ends no_line =
    rw (line.spelled, version_in-of line.digits version line.are_digits line.number, line_end-of line.line rest ends) refl
version_at-of version own rest (inr (one, none)) ends no_line = rw (one, none) no_line

-- ---- the whole file

-- the parser reads the file's version, and its rules are spelled by the tokens behind
pub version_read : (limits : Limits) (raws : List RawRule) (tokens : List Token) → SpellsFile limits raws tokens → (x : Version × List Token) × (version_at tokens ≡ Ok x) × SpellsRules limits x.0 raws x.1
version_read limits raws tokens (version, (front, back, is_version, is, whole)) =
    let begins = rules_begin limits version raws back is in
    ((version, back), ap version_at whole ∙ version_at-of version front back is_version begins.ends begins.no_line, is)

pub all_rules-is : (limits : Limits) (last : ℕ) (tokens : List Token) (raws : List RawRule) → all_rules limits last tokens ≡ Ok raws → SpellsFile limits raws tokens
all_rules-is limits last tokens raws e =
    bound (version_at tokens) _ _ e (λ version v e1.
    let taken = version_at-is tokens version v in
    (version.0, (taken.own, version.1, taken.is_own, rules_at-is limits version.0 (length version.1) last version.1 raws e1, taken.whole)))

pub all_rules-of : (limits : Limits) (last : ℕ) (raws : List RawRule) (tokens : List Token) → SpellsFile limits raws tokens → all_rules limits last tokens ≡ Ok raws
all_rules-of limits last raws tokens (version, (front, back, is_version, is, whole)) =
    let begins = rules_begin limits version raws back is in
    let read = version_at-of version front back is_version begins.ends begins.no_line in
    rw (whole, read) (rules_at-of limits version (length back) last raws back is (le_refl _))
