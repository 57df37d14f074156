-- Which pairs of a rule and a typing a match asks the verdict of, and what a table of verdicts says of them.
use Rattle.std.specs.Prelude.{◌≡◌, ◌≢◌, ◌↔◌, ℕ, List, Some, take, AllPairs, Contains, slice_get}
use Rattle.verdict_core.specs.declared.verdicts.Row.{Row}
use Rattle.verdict_core.specs.declared.verdicts.Verdict.{Verdict}
use Rattle.verdict_core.specs.declared.verdicts.Verdict.TheVariants.{Admitted}
use Rattle.bindings.specs.declared.rule_match.Match.{Match}

-- a rule, by its place in the file, at a typing
abbrev pub Pair : Type 0
Pair = ℕ × List ℕ

-- the pair that decides whether a match is rewritten, and the pair that a row has the verdict on
abbrev pub pair_of : Match → Pair
pair_of m = (m.rule, m.binding.typing)

abbrev pub pair_in : Row → Pair
pair_in row = (row.rule, row.typing)

-- ---- what a table says

-- the table has a row for the pair, with a verdict of which P holds
abbrev pub HasVerdict : List Row → (Verdict → Type 0) → Pair → Type 0
HasVerdict table P pair = (row : Row) × Contains table row × (pair_in row ≡ pair) × P row.verdict

-- the table has `Admitted` for the match's pair; or, `IsTurnedDown`, another verdict
abbrev pub IsAdmitted : List Row → Match → Type 0
IsAdmitted table m = HasVerdict table (λ verdict. verdict ≡ Admitted) (pair_of m)

abbrev pub IsTurnedDown : List Row → Match → Type 0
IsTurnedDown table m = HasVerdict table (λ verdict. verdict ≢ Admitted) (pair_of m)

-- ---- the order in which pairs are first asked

-- before q is first asked, p has been
abbrev pub IsAskedBefore : List Pair → Pair → Pair → Type 0
IsAskedBefore asked p q = (k : ℕ) → slice_get asked k ≡ Some q → Contains (take k asked) p

-- these are all pairs that are asked, each once, in the order in which they are first asked
pub record AreFirstAsked (asked pairs : List Pair) : Type 0 where
  pub same : (p : Pair) → Contains pairs p ↔ Contains asked p
  pub once : (i j : ℕ) (p : Pair) → slice_get pairs i ≡ Some p → slice_get pairs j ≡ Some p → i ≡ j
  pub in_order : AllPairs (IsAskedBefore asked) pairs
