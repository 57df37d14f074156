-- What matching needs to know of a whole function.
use Rattle.std.specs.Prelude.{◌≡◌}
use Rattle.ir_core.specs.declared.function.Function.{Function}
use Rattle.assigned_flow.specs.Successors.{successors_of}
use Rattle.use_counts.specs.Tables.{AreCounts}
use Rattle.bindings.specs.declared.facts.FunctionFacts.{FunctionFacts}

-- the successors of each block, and each register's count of uses
pub record AreFactsOf (f : Function) (facts : FunctionFacts) : Type 0 where
  pub flow : facts.flow ≡ successors_of f
  pub uses : AreCounts f facts.uses
