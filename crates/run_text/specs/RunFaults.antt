-- Why a run of a function of a text is refused.
use Rattle.std.specs.Prelude.{ℕ, List}
use Rattle.refusal.specs.declared.refusal.Refusal.{Refusal}
use Rattle.refusal.specs.declared.refusal.Refusal.TheVariants.{Refused, NoMemory}
use Rattle.ir_reader.specs.IrFaultKind.{IrFaultKind}
use Rattle.refusal.specs.declared.fault.Fault.{Fault}
use Rattle.ir_reader.specs.Faults.{IsFault}
use Rattle.run_text.specs.declared.fault.RunFault.{RunFault}
use Rattle.run_text.specs.declared.fault.RunFault.TheVariants.{Module, Argument}
use Rattle.run_text.specs.Runs.{IsMisnamed}

-- The fault is the text's first one; or the text is a module's, and no function has the name, or the arguments don't
-- fit its parameters.
abbrev pub IsRunFault : List ℕ → List ℕ → List (List ℕ) → RunFault → Type 0
IsRunFault text name arguments (Module fault) = IsFault text fault
IsRunFault text name arguments Argument = IsMisnamed text name arguments

-- the refusal of a module's text as that of a run
abbrev pub of_text : Refusal (Fault IrFaultKind) → Refusal RunFault
of_text (Refused fault) = Refused (Module fault)
of_text NoMemory = NoMemory
