-- Laws of modules that are read, and of runs of them.
use Rattle.std.specs.Prelude.{ℕ, List, Contains}
use Rattle.ops.specs.declared.value.Value.{Value}
use Rattle.ir_core.specs.declared.module.Module.{Module}
use Rattle.ir_core.specs.declared.module.Entry.TheVariants as entries
use Rattle.ir_core.specs.declared.function.Function.{Function}
use Rattle.ir_core.specs.declared.outcome.Outcome.{Outcome}
use Rattle.ir_core.specs.Refines.{AreArguments}
use Rattle.ir_core.specs.Run.{HasOutcome, HasZeroOutcome}
use Rattle.ir_reader.specs.Faults.{IsModuleText}
use Rattle.run_text.specs.Runs.{IsRun, IsMisnamed}

-- each function of the module has an outcome at all arguments, for every bound on the blocks entered
abbrev pub ModuleHasOutcomes : Module → Type 0
ModuleHasOutcomes m = (f : Function) → Contains m.entries (entries.Function f)
    → (args : List Value) → AreArguments f.parameters args
    → (n : ℕ) → (o : Outcome) × HasZeroOutcome f args n o × HasOutcome f args n o

-- each module that is read from a text has outcomes
abbrev pub ModulesReadHaveOutcomes : Type 0
ModulesReadHaveOutcomes = (bytes : List ℕ) (m : Module) → IsModuleText bytes m → ModuleHasOutcomes m

-- where a run writes something, the module has the function, and the arguments fit it
abbrev pub RunsAreNotMisnamed : Type 0
RunsAreNotMisnamed = (bytes name : List ℕ) (words : List (List ℕ)) (blocks : ℕ) (text : List ℕ) → IsRun bytes name words blocks text → IsMisnamed bytes name words → ⊥
