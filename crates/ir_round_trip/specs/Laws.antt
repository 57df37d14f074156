-- What a function, a module or a text that is written canonically is read as, and which modules have the forms for it.
use Rattle.std.specs.Prelude.{◌≡◌, ℕ, ◌≤◌, List, length, Some, slice_get, All}
use Rattle.ir_core.specs.declared.module.Module.{Module}
use Rattle.ir_core.specs.declared.module.Entry.TheVariants as entries
use Rattle.ir_core.specs.declared.function.Function.{Function}
use Rattle.ir_core.specs.declared.function.Block.{Block}
use Rattle.ir_core.specs.declared.instruction.Inst.{Inst}
use Rattle.ir_core.specs.declared.instruction.Op.TheVariants.{Phi}
use Rattle.ir_core.specs.declared.operand.Operand.{Operand}
use Rattle.ir_core.specs.Blocks.{IsBlock}
use Rattle.ir_core.specs.Checks.{IsInst, MeetsChecks, ModuleMeetsChecks}
use Rattle.ir_tokens.specs.declared.raw.RawModule.{RawModule}
use Rattle.ir_tokens.specs.declared.raw.RawFunction.{RawFunction}
use Rattle.needed.specs.Cleaned.{IsCleaned, ModuleCleaned}
use Rattle.ir_text.specs.Forms.{FunctionHasForms, ModuleHasForms}
use Rattle.ir_resolve.specs.FaultKinds.{HasNameOf}
use Rattle.ir_reader.specs.Faults.{IsFunctionOf, AreEntriesOf, IsModuleText}
use Rattle.ir_text.specs.Laws.{HasFewThings}
use Rattle.ir_text.specs.PrintedText.{text_of}
use Rattle.ir_text.specs.CanonicalModule.{WritesFunction, WritesModule}

-- A function that meets its checks, and is written canonically behind functions of other names, is read as that
-- function.
abbrev pub CanonicalFunctionsMean : Type 0
CanonicalFunctionsMean = (earlier : List RawFunction) (raw : RawFunction) (f : Function)
    → WritesFunction raw f → MeetsChecks f → ¬ HasNameOf earlier f.name → IsFunctionOf earlier raw f

-- The entries of a module that meets its checks, and is written canonically, are read as those of that module.
abbrev pub CanonicalModulesRead : Type 0
CanonicalModulesRead = (raw : RawModule) (m : Module) → WritesModule raw m → ModuleMeetsChecks m → AreEntriesOf raw.entries m.entries

-- The printed text of a module that meets its checks, and whose parts have their forms and its functions few enough
-- things, is read as the module.
abbrev pub PrintedTextsRead : Type 0
PrintedTextsRead = (m : Module) → ModuleHasForms m → ModuleMeetsChecks m → HasFewThings m → IsModuleText (text_of m) m

-- The module of a text, which is made of bytes, has the forms that let its printed text be read as the module.
abbrev pub ModuleTextsHaveForms : Type 0
ModuleTextsHaveForms = (text : List ℕ) (m : Module) → All (λ b. b ≤ 255) text → IsModuleText text m → ModuleHasForms m

-- the module of a text meets all checks of a module
abbrev pub ModuleTextsMeetChecks : Type 0
ModuleTextsMeetChecks = (text : List ℕ) (m : Module) → IsModuleText text m → ModuleMeetsChecks m

-- A cleaned function has the forms that the old one has, whether that meets its checks or not: names, types and numbers
-- stay as they are.
abbrev pub CleanedFunctionsHaveForms : Type 0
CleanedFunctionsHaveForms = (f g : Function) → FunctionHasForms f → IsCleaned f g → FunctionHasForms g

-- and so has a cleaned module
abbrev pub CleanedModulesHaveForms : Type 0
CleanedModulesHaveForms = (m n : Module) → ModuleHasForms m → ModuleCleaned m n → ModuleHasForms n

-- a function has at most n parameters, n blocks, n instructions in each, and n entries in each phi
pub record HasAtMost (n : ℕ) (f : Function) : Type 0 where
  pub parameters : length f.parameters ≤ n
  pub blocks : length f.blocks ≤ n
  pub insts : (b : ℕ) (block : Block) → IsBlock f b block → length block.insts ≤ n
  pub entries : (b k : ℕ) (inst : Inst) (phi : List (Operand × ℕ)) → IsInst f b k inst → inst.op ≡ Phi phi → length phi ≤ n

-- for each function of the module of a text, this holds with the number of the text's bytes
abbrev pub ModuleTextsAreSmall : Type 0
ModuleTextsAreSmall = (text : List ℕ) (m : Module) → IsModuleText text m
    → (k : ℕ) (f : Function) → slice_get m.entries k ≡ Some (entries.Function f) → HasAtMost (length text) f
