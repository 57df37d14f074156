-- Literals of a module with the forms of a printed text are numbers of their widths.
use Rattle.optimised_forms.proofs.Common.{◌≡◌, ℕ, Some, subst, slice_get, slice_get_within, get_or_from_slice_get, Function, Entry, Module, NumbersFit, OperandFits, FunctionHasForms, EntryHasForms, ModuleHasForms, FormedModulesNumbersFit}
use Rattle.ir_core.specs.declared.module.Entry.TheVariants as entries

pub numbers_fit : (f : Function) → FunctionHasForms f → NumbersFit f
numbers_fit f forms b k i r n is number = subst OperandFits number (forms.reads b k i r is).operand

pub entry_forms : (m : Module) → ModuleHasForms m → (k : ℕ) (e : Entry) → slice_get m.entries k ≡ Some e → EntryHasForms e
entry_forms m forms k e at = subst EntryHasForms (get_or_from_slice_get m.entries k e e at) (forms k e (slice_get_within m.entries k e at))

pub modules_fit : FormedModulesNumbersFit
modules_fit m forms k f at = numbers_fit f (entry_forms m forms k (entries.Function f) at)
