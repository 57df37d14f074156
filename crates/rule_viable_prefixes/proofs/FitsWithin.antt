-- Viable prefixes within limits of names, nesting and statements.
use Rattle.rule_viable_prefixes.proofs.Common.{◌≡◌, ℕ, List, [], ◌∷◌, ◌++◌, sym, subst, ◌∙◌, append_assoc, Limits, Token, Line, RawRule, SpellsFile}

abbrev pub FitsWithin : Limits → List Token → Type 0
FitsWithin limits front = (rules : List RawRule) × (more : List Token) × SpellsFile limits rules (front ++ more)

abbrev pub FitsBehindWithin : Limits → List Token → Token → Type 0
FitsBehindWithin limits front token = FitsWithin limits (front ++ token ∷ [])

abbrev pub LineFitsWithin : Limits → List Token → Type 0
LineFitsWithin limits front = (number : ℕ) × FitsBehindWithin limits front (Line number)

pub fits_front : (limits : Limits) (front back : List Token) → FitsWithin limits (front ++ back) → FitsWithin limits front
fits_front limits front back (rules, more, is) = (rules, back ++ more, subst (SpellsFile limits rules) (append_assoc front back more) is)

-- a prefix of a viable one fits with its next token
pub fits_before : (limits : Limits) (whole front : List Token) (token : Token) (others : List Token) → whole ≡ front ++ token ∷ others → FitsWithin limits whole → FitsBehindWithin limits front token
fits_before limits whole front token others is fits = fits_front limits (front ++ token ∷ []) others (subst (FitsWithin limits) (is ∙ sym (append_assoc front (token ∷ []) others)) fits)
