-- What `run` writes of a function of a module at arguments.
use Rattle.std.specs.Prelude.{◌≡◌, ℕ, ◌≤◌, List, length, Contains}
use Rattle.ops.specs.declared.value.Value.{Value}
use Rattle.ir_core.specs.declared.module.Module.{Module}
use Rattle.ir_core.specs.declared.module.Entry.TheVariants as entries
use Rattle.ir_core.specs.declared.function.Function.{Function}
use Rattle.ir_core.specs.declared.outcome.Outcome.{Outcome}
use Rattle.ir_core.specs.Run.{HasZeroOutcome}
use Rattle.ir_reader.specs.Text.{most_bytes}
use Rattle.ir_reader.specs.Faults.{IsModuleText}
use Rattle.run_text.specs.Arguments.{AreSaid, DoNotFit}
use Rattle.run_text.specs.OutcomeText.{outcome_text}

-- the text is that of the module, and not too long
pub record IsReadAs (bytes : List ℕ) (m : Module) : Type 0 where
  pub source : IsModuleText bytes m
  pub limit : length bytes ≤ most_bytes

-- the module has this function, under this name
pub record IsNamed (m : Module) (name : List ℕ) (f : Function) : Type 0 where
  pub entry : Contains m.entries (entries.Function f)
  pub name_is : f.name ≡ name

-- what is written of a function of the text's module, known by its name, at the values that the words spell, after at
-- most `blocks` blocks entered
pub record IsRun (bytes name : List ℕ) (words : List (List ℕ)) (blocks : ℕ) (text : List ℕ) : Type 0 where
  pub read : Module
  pub source : IsReadAs bytes read
  pub f : Function
  pub named : IsNamed read name f
  pub values : List Value
  pub said : AreSaid f.parameters words values
  pub o : Outcome
  pub outcome : HasZeroOutcome f values blocks o
  pub text_is : text ≡ outcome_text o

-- the module has no function of this name, or the words don't fit its parameters
pub data HasNoRun (m : Module) (name : List ℕ) (words : List (List ℕ)) : Type 0 where
  unnamed : ((f : Function) → IsNamed m name f → ⊥) → HasNoRun m name words
  unfit : (f : Function) → IsNamed m name f → DoNotFit f.parameters words → HasNoRun m name words

-- the text is a module's, where the name and the words give nothing to run
pub record IsMisnamed (bytes name : List ℕ) (words : List (List ℕ)) : Type 0 where
  pub read : Module
  pub source : IsReadAs bytes read
  pub no_run : HasNoRun read name words
