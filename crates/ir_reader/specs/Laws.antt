-- What holds of every text.
use Rattle.std.specs.Prelude.{◌≡◌, ◌⊎◌, ℕ, ◌≤◌, List, length}
use Rattle.ir_core.specs.declared.module.Module.{Module}
use Rattle.ir_parse.specs.Text.{most_bytes}
use Rattle.refusal.specs.declared.fault.Fault.{Fault}
use Rattle.ir_tokens.specs.declared.fault.IrFaultKind.{IrFaultKind}
use Rattle.ir_reader.specs.Faults.{IsModuleText, IsFault}

-- a text spells one module or has one fault, and within the limit never does both
pub record TextsHaveOneModuleOrFault : Type 0 where
  pub some : (text : List ℕ) → ((m : Module) × IsModuleText text m) ⊎ ((fault : Fault IrFaultKind) × IsFault text fault)
  pub one_module : (text : List ℕ) (a b : Module) → IsModuleText text a → IsModuleText text b → a ≡ b
  pub one_fault : (text : List ℕ) (a b : Fault IrFaultKind) → IsFault text a → IsFault text b → a ≡ b
  pub not_both : (text : List ℕ) (m : Module) (fault : Fault IrFaultKind) → length text ≤ most_bytes → IsModuleText text m → IsFault text fault → ⊥
