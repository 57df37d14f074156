-- What the grammar spells is read, where the line of its last token ends behind it.
use Rattle.rule_tokens.proofs.Common.{◌≡◌, ℕ, ◌≤◌, List, [], ◌∷◌, ◌++◌, length, Ok, refl, le-leb, Limits, name_within, type_at, line_end, SpellsType, Token, Line}
use Rattle.rule_tokens.proofs.Types.{type_in-of}

-- no token of this line is left
abbrev pub EndsLine : List Token → Type 0
EndsLine [] = Unit {0}
EndsLine (Line next ∷ rest) = Unit {0}
EndsLine tokens = ⊥

pub name_within-of : (limits : Limits) (line : ℕ) (name : List ℕ) → length name ≤ limits.name_bytes → name_within limits line name ≡ Ok name
unfolding name_within
name_within-of limits line name le = rw (le-leb (length name) limits.name_bytes le) refl

pub type_at-of : (line width : ℕ) (own rest : List Token) → SpellsType width own → type_at line (own ++ rest) ≡ Ok (width, rest)
unfolding type_at
type_at-of line width own rest (written, type, is) = rw (is, type_in-of written width type) refl

pub line_end-of : (line : ℕ) (rest : List Token) → EndsLine rest → line_end line rest ≡ Ok rest
line_end-of line [] ends = refl
line_end-of line (Line next ∷ rest) ends = refl
line_end-of line tokens ends = absurd ends
