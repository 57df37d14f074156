-- The typings of a rule over a list of widths.
use Rattle.std.specs.Prelude.{◌≡◌, ◌↔◌, ℕ, ◌<◌, ◌≤◌, ◌⊎◌, List, [], ◌∷◌, length, Option, None, Some, Contains, AllPairs, slice_get}
use Rattle.rule_core.specs.declared.rule.Rule.{Rule}
use Rattle.rule_core.specs.Positions.{Fixed}
use Rattle.rule_core.specs.Typing.{IsTyping}
use Rattle.rule_typing.specs.declared.answer.Typings.{Typings}
use Rattle.rule_typing.specs.declared.answer.Typings.TheVariants as found
use Rattle.rule_typing.specs.FittingWidths.{MayHaveWidth}

-- a typing that gives each class its fixed width, or one of the list
pub record IsListed (rule : Rule) (widths typing : List ℕ) : Type 0 where
  pub typed : IsTyping rule typing
  pub chosen : (c N : ℕ) → slice_get typing c ≡ Some N → Fixed rule c N ⊎ Contains widths N

-- the first list comes before the second in lexicographic order
abbrev pub ComesBefore : List ℕ → List ℕ → Type 0
ComesBefore [] [] = ⊥
ComesBefore [] (b ∷ bs) = Unit {0}
ComesBefore (a ∷ as_) [] = ⊥
ComesBefore (a ∷ as_) (b ∷ bs) = (a < b) ⊎ ((a ≡ b) × ComesBefore as_ bs)

-- the list is all of them, in lexicographic order
pub record AreAllTypings (rule : Rule) (widths : List ℕ) (typings : List (List ℕ)) : Type 0 where
  pub all : (typing : List ℕ) → Contains typings typing ↔ IsListed rule widths typing
  pub in_order : AllPairs ComesBefore typings

-- all typings, where there are at most `most`, or that there are more
abbrev pub IsAnswer : Rule → List ℕ → ℕ → Typings → Type 0
IsAnswer rule widths most (found.All typings) = AreAllTypings rule widths typings × (length typings ≤ most)
IsAnswer rule widths most found.TooMany = (typings : List (List ℕ)) × AreAllTypings rule widths typings × (most < length typings)

-- class c may have the width N: it is fixed or one of the list, and fits the class by itself
abbrev pub MayChoose : Rule → List ℕ → ℕ → ℕ → Type 0
MayChoose rule widths c N = (Fixed rule c N ⊎ Contains widths N) × MayHaveWidth rule c N

-- the first list in lexicographic order of which P holds, if there is one
abbrev pub IsFirstOf : (List ℕ → Type 0) → Option (List ℕ) → Type 0
IsFirstOf P None = (typing : List ℕ) → ¬ P typing
IsFirstOf P (Some typing) = P typing × ((other : List ℕ) → P other → (typing ≡ other) ⊎ ComesBefore typing other)
