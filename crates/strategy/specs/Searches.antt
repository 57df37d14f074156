-- What one search leads to, and what all searches make of a function.
use Rattle.std.specs.Prelude.{◌≡◌, ℕ, Bool, true, false, List}
use Rattle.ir_core.specs.declared.function.Function.{Function}
use Rattle.rule_core.specs.declared.rule.Rule.{Rule}
use Rattle.asked_verdicts.specs.declared.verdicts.Verdicts.{Verdicts}
use Rattle.strategy_core.specs.Asked.{Pair}
use Rattle.asked_verdicts.specs.Asks.{Asks}
use Rattle.strategy_core.specs.PlainStrategy.{IsTidied, IsStep, IsLastSearch, IsOptimised}

-- Either a step is made; or no match is admitted, the function stays, and this was its last search, whatever number of
-- steps is left.
abbrev pub StepsOrEnds : Bool → Bool → List Rule → ℕ → Function → Function → Verdicts → Verdicts → Bool → Type 0
StepsOrEnds fold across rules conflicts f new old verdicts true = (pairs : List Pair) × Asks rules conflicts pairs old verdicts × IsStep fold across rules verdicts.table f new pairs
StepsOrEnds fold across rules conflicts f new old verdicts false = (pairs : List Pair) × Asks rules conflicts pairs old verdicts × (new ≡ f)
    × ((left : ℕ) → IsLastSearch across rules verdicts.table left f false pairs)

-- what becomes of a function within `steps` steps, and which pairs are asked for it
abbrev pub OptimisesFunction : Bool → Bool → List Rule → ℕ → ℕ → Function → Function → Verdicts → Verdicts → ℕ → Bool → Type 0
OptimisesFunction fold across rules conflicts steps old new before after count limited =
    (pairs : List Pair) × Asks rules conflicts pairs before after × IsOptimised fold across rules after.table steps old new count limited pairs

-- the same for a function that is tidied already
abbrev pub OptimisesTidied : Bool → Bool → List Rule → ℕ → ℕ → Function → Function → Verdicts → Verdicts → ℕ → Bool → Type 0
OptimisesTidied fold across rules conflicts steps tidied new before after count limited =
    (old : Function) → IsTidied fold old tidied → OptimisesFunction fold across rules conflicts steps old new before after count limited
