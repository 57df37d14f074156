-- The steps of a log whose hints are kept as bytes.
use Rattle.std.specs.Prelude.{⊤, ℕ, ◌+◌, ◌-◌, ◌/◌, ◌%◌, ◌^◌, ◌<◌, ◌==◌, if◌then◌else◌, List, [], ◌∷◌, All}
use Rattle.clauses.specs.Literal.{Lit}
use Rattle.clauses.specs.declared.step.Step.{Step}
use Rattle.packed_log.specs.Numbers.{first_number, first_list, behind_list}

-- The number by its difference from the one before (zigzag code): 2 * d where it is d more, 2 * d - 1 where it is d
-- less.
abbrev pub moved : ℕ → ℕ → ℕ
moved before difference = if difference % 2 == 0 then before + difference / 2 else before - (difference / 2 + 1)

-- the numbers of a list of differences, each from the number before it
abbrev pub numbers_from : ℕ → List ℕ → List ℕ
numbers_from before [] = []
numbers_from before (difference ∷ differences) = moved before difference ∷ numbers_from (moved before difference) differences

-- the hints that the bytes begin with: a list of differences, that of the first hint from 0
abbrev pub first_hints : List ℕ → List ℕ
first_hints bytes = numbers_from 0 (first_list bytes)

-- the steps of these clauses, in order, whose hints follow one another in the bytes
abbrev pub steps : List (List Lit) → List ℕ → List Step
steps [] bytes = []
steps (clause ∷ clauses) bytes = record { clause = clause; hints = first_hints bytes } ∷ steps clauses (behind_list bytes)

-- the length and the differences of the first hints fit in 64 bits, and the hints in 32
pub record HintsFit (bytes : List ℕ) : Type 0 where
  pub few : first_number bytes < 2 ^ 64
  pub differences : All (λ difference. difference < 2 ^ 64) (first_list bytes)
  pub hints : All (λ hint. hint < 2 ^ 32) (first_hints bytes)

-- the hints of the steps of all these clauses fit so
abbrev pub AllHintsFit : List (List Lit) → List ℕ → Type 0
AllHintsFit [] bytes = ⊤
AllHintsFit (clause ∷ clauses) bytes = HintsFit bytes × AllHintsFit clauses (behind_list bytes)
