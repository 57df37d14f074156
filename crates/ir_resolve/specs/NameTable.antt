-- A symbol table that says what the function's identifiers refer to.
use Rattle.std.specs.Prelude.{◌≡◌, ◌↔◌, ℕ, List}
use Rattle.ir_tokens.specs.declared.called.Identifier.{Identifier}
use Rattle.ir_core.specs.declared.operand.Register.{Register}
use Rattle.ir_tokens.specs.declared.raw.RawFunction.{RawFunction}
use Rattle.refusal.specs.declared.fault.Fault.{Fault}
use Rattle.ir_tokens.specs.declared.fault.IrFaultKind.{IrFaultKind}
use Rattle.ir_tokens.specs.declared.fault.IrFaultKind.TheVariants.{Unknown, TypeClash}
use Rattle.ir_resolve.specs.FirstLines.{IsFirstLine}
use Rattle.ir_resolve.specs.Written.{Thing, Calls}
use Rattle.ir_resolve.specs.FaultKinds.{CallsRegister, UnknownAt, TypeClashAt}
use Rattle.ir_resolve.specs.Views.{Known, CallsIn, CallsRegisterIn}

-- each identifier refers to the same things, and to registers of the same widths, in the table and in the function
pub record Tabulates (raw : RawFunction) (known : List Known) : Type 0 where
  pub things : (x : Identifier) (thing : Thing) → CallsIn known x thing ↔ Calls raw x thing
  pub registers : (x : Identifier) (r : Register) (width : ℕ) → CallsRegisterIn known x r width ↔ CallsRegister raw x r width

-- the first fault of uses: first come uses of what is not defined, and then types
pub data IsFaultOfUses (raw : RawFunction) (fault : Fault IrFaultKind) : Type 0 where
  unknown : fault.kind ≡ Unknown → IsFirstLine (UnknownAt raw) fault.line → IsFaultOfUses raw fault
  clash : fault.kind ≡ TypeClash → ((line : ℕ) → ¬ UnknownAt raw line) → IsFirstLine (TypeClashAt raw) fault.line → IsFaultOfUses raw fault
