-- What becomes of the entries of a module.
use Rattle.std.specs.Prelude.{◌≡◌, ℕ, Bool, List, [], ◌∷◌, ◌++◌, Some, slice_get}
use Rattle.ir_core.specs.declared.module.Entry.{Entry}
use Rattle.ir_core.specs.declared.module.Entry.TheVariants as entries
use Rattle.ir_core.specs.Checks.{MeetsChecks}
use Rattle.rule_core.specs.declared.rule.Rule.{Rule}
use Rattle.ir_meaning.specs.HistoryLaws.{NumbersFit}
use Rattle.strategy.specs.declared.module.Counts.{Counts}
use Rattle.asked_verdicts.specs.declared.verdicts.Verdicts.{Verdicts}
use Rattle.strategy_core.specs.Asked.{Pair}
use Rattle.strategy_core.specs.Countable.{IsCountable}
use Rattle.strategy_core.specs.PlainStrategy.{AreOptimised}
use Rattle.asked_verdicts.specs.Asks.{Asks}

-- a function among the entries passes its checks, its literals are numbers of their widths, and its sizes fit 32 bits
abbrev pub EntryIsReady : ℕ → Entry → Type 0
EntryIsReady steps (entries.Kept line) = Unit {0}
EntryIsReady steps (entries.Function f) = MeetsChecks f × NumbersFit f × IsCountable steps f

-- the same of each of these entries
abbrev pub EntriesAreReady : ℕ → List Entry → Type 0
EntriesAreReady steps entries = (place : ℕ) (e : Entry) → slice_get entries place ≡ Some e → EntryIsReady steps e

-- The strategy gives the new entries for the old ones. For each that is a function its count of rewrites is appended,
-- and whether it is limited.
pub record OptimisesEntries (fold across : Bool) (rules : List Rule) (conflicts steps : ℕ) (old new : List Entry) (before after : Verdicts) (all all' : Counts) : Type 0 where
  pub pairs : List Pair
  pub counts : List ℕ
  pub limited : List Bool
  pub asks : Asks rules conflicts pairs before after
  pub optimised : AreOptimised fold across rules after.table steps old new counts limited pairs
  pub counts_added : all'.counts ≡ all.counts ++ counts
  pub limited_added : all'.limited ≡ all.limited ++ limited

-- the same for one entry
abbrev pub OptimisesEntry : Bool → Bool → List Rule → ℕ → ℕ → Entry → Entry → Verdicts → Verdicts → Counts → Counts → Type 0
OptimisesEntry fold across rules conflicts steps old new before after all all' =
    OptimisesEntries fold across rules conflicts steps (old ∷ []) (new ∷ []) before after all all'
