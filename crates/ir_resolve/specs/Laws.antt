-- What holds of every function as written.
use Rattle.std.specs.Prelude.{◌≡◌, ◌⊎◌, List}
use Rattle.ir_core.specs.declared.function.Function.{Function}
use Rattle.ir_tokens.specs.declared.raw.RawFunction.{RawFunction}
use Rattle.refusal.specs.declared.fault.Fault.{Fault}
use Rattle.ir_tokens.specs.declared.fault.IrFaultKind.{IrFaultKind}
use Rattle.ir_resolve.specs.Means.{Means}
use Rattle.ir_resolve.specs.Faults.{HasNoFault, IsFirstNameFault}

-- Behind these functions, a function as written has one first fault, or it has none and means one function.
pub record FunctionsHaveOneMeaningOrFault : Type 0 where
  pub some : (earlier : List RawFunction) (raw : RawFunction)
      → (HasNoFault earlier raw × ((f : Function) × Means raw f)) ⊎ ((fault : Fault IrFaultKind) × IsFirstNameFault earlier raw fault)
  pub one_meaning : (earlier : List RawFunction) (raw : RawFunction) (f g : Function)
      → HasNoFault earlier raw → Means raw f → Means raw g → f ≡ g
  pub one_fault : (earlier : List RawFunction) (raw : RawFunction) (a b : Fault IrFaultKind)
      → IsFirstNameFault earlier raw a → IsFirstNameFault earlier raw b → a ≡ b
  pub not_both : (earlier : List RawFunction) (raw : RawFunction) (fault : Fault IrFaultKind)
      → HasNoFault earlier raw → ¬ IsFirstNameFault earlier raw fault
