-- What holds of a module that is returned.
use Rattle.ir_reader.proofs.Common.{ℕ, List, Result, Ok, Err, IfOk, Module, ModuleMeetsChecks, Fault, Refusal, IrFaultKind, IsModuleText}
use Rattle.ir_reader.proofs.CheckLemmas.{module_meets}

pub answer_meets : (text : List ℕ) (r : Result Module (Refusal (Fault IrFaultKind))) → IfOk r (IsModuleText text) → IfOk r ModuleMeetsChecks
answer_meets text (Ok m) is = module_meets text m is
answer_meets text (Err e) is = tt
