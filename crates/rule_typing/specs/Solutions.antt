-- Widths for the classes, each chosen from a set for its class, so that all casts go to a narrower or a wider type as
-- they must.
use Rattle.std.specs.Prelude.{◌≡◌, ℕ, ◌<◌, ◌≤◌, ◌↔◌, List, length, Option, None, Some, true, slice_get, slice_index}
use Rattle.rule_core.specs.declared.rule.Rule.{Rule}
use Rattle.rule_core.specs.Positions.{Smaller}
use Rattle.rule_typing.specs.declared.widths.Widths.{Widths}

-- the width N is in the set
abbrev pub Has : Widths → ℕ → Type 0
Has set N = (1 ≤ N) × (slice_get set.has N ≡ Some true)

-- the set has exactly the widths of which P holds
abbrev pub HasExactly : Widths → (ℕ → Type 0) → Type 0
HasExactly set P = (N : ℕ) → Has set N ↔ P N

-- the least number of which P holds, if it holds of any
abbrev pub IsLeast : (ℕ → Type 0) → Option ℕ → Type 0
IsLeast P None = (N : ℕ) → ¬ P N
IsLeast P (Some N) = P N × ((M : ℕ) → P M → N ≤ M)

-- the width of a class is below that of another where a cast asks for it
abbrev pub MeetsSmaller : Rule → List ℕ → Type 0
MeetsSmaller rule typing = (c d N M : ℕ) → Smaller rule c d → slice_get typing c ≡ Some N → slice_get typing d ≡ Some M → N < M

-- one width from each set, in the order of the classes
pub record AreOf (sets : List Widths) (widths : List ℕ) : Type 0 where
  pub count : length widths ≡ length sets
  pub each : (c : ℕ) (set : Widths) → slice_get sets c ≡ Some set → Has set (slice_index widths c)

-- such widths that meet the constraints of the rule's casts, too
pub record Solves (rule : Rule) (sets : List Widths) (widths : List ℕ) : Type 0 where
  pub chosen : AreOf sets widths
  pub smaller : MeetsSmaller rule widths

-- no width of the first list is larger than the one at its place in the second
abbrev pub AtMost : List ℕ → List ℕ → Type 0
AtMost low high = (c : ℕ) → slice_index low c ≤ slice_index high c

-- a solution in which the first `kept` widths are those of `first`, and no other is smaller than in `first`
pub record SolvesFrom (rule : Rule) (sets : List Widths) (kept : ℕ) (first widths : List ℕ) : Type 0 where
  pub solves : Solves rule sets widths
  pub keeps : (c : ℕ) → c < kept → slice_index widths c ≡ slice_index first c
  pub rises : AtMost first widths

-- of the lists of which P holds, the one in which the width of every class is the least
pub record AreLeast (P : List ℕ → Type 0) (widths : List ℕ) : Type 0 where
  pub holds : P widths
  pub least : (others : List ℕ) → P others → AtMost widths others

-- that list, if P holds of any
abbrev pub FindsLeast : (List ℕ → Type 0) → Option (List ℕ) → Type 0
FindsLeast P None = (widths : List ℕ) → ¬ P widths
FindsLeast P (Some widths) = AreLeast P widths

-- N may stand at place c of a list that begins with `beginning` and goes on with a width above the bound
abbrev pub GoesOn : List ℕ → ℕ → ℕ → ℕ → Type 0
GoesOn beginning bound c N = (c < length beginning → N ≡ slice_index beginning c) × (c ≡ length beginning → bound < N)

-- a solution that begins so and goes on with a width above the bound
pub record SolvesBehind (rule : Rule) (sets : List Widths) (beginning : List ℕ) (bound : ℕ) (widths : List ℕ) : Type 0 where
  pub solves : Solves rule sets widths
  pub goes_on : (c : ℕ) → c < length widths → GoesOn beginning bound c (slice_index widths c)
