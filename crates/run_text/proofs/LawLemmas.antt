-- The laws of modules that are read and of those that are written.
use Rattle.run_text.proofs.Common.{Some, Contains, ap, ◌∙◌, slice_get-get_or, Module, Entry, Function, MeetsChecks, ModuleMeetsChecks, FunctionsHaveOutcomes, ModuleHasOutcomes}
use Rattle.ir_core.specs.declared.module.Entry.TheVariants as entries

-- a function of a module that meets its checks does so
pub function_meets : (m : Module) (f : Function) → ModuleMeetsChecks m → Contains m.entries (entries.Function f) → MeetsChecks f
function_meets m f meets at = meets.functions at.0 f (slice_get-get_or m.entries at.0 (entries.Function f) at.1 ∙ ap (λ (e : Entry). Some e) at.2)

pub module_has_outcomes : FunctionsHaveOutcomes → (m : Module) → ModuleMeetsChecks m → ModuleHasOutcomes m
module_has_outcomes all m meets f at = all f (function_meets m f meets at)
