-- What holds of every text.
use Rattle.std.specs.Prelude.{◌≡◌, ◌↔◌, ◌⊎◌, ℕ, ◌≤◌, List, length, Ok}
use Rattle.ir_tokens.specs.Tokens.{Placed}
use Rattle.refusal.specs.declared.fault.Fault.{Fault}
use Rattle.ir_tokens.specs.declared.fault.IrFaultKind.{IrFaultKind}
use Rattle.ir_tokens.specs.declared.raw.RawModule.{RawModule}
use Rattle.ir_parse.specs.Grammar.{SpellsModule}
use Rattle.ir_parse.specs.ModuleReaders.{module_of}
use Rattle.ir_parse.specs.Text.{most_bytes, IsRaw, IsTextFault}

-- the parser, which reads from left to right, gives a module exactly where the grammar spells it
abbrev pub ModulesAreReadAsSpelled : Type 0
ModulesAreReadAsSpelled = (tokens : List Placed) (m : RawModule) → (module_of tokens ≡ Ok m) ↔ SpellsModule m tokens

-- a text has one module or one fault, and a text within the limit never has both
pub record TextsHaveOneReadingOrFault : Type 0 where
  pub some : (text : List ℕ) → ((m : RawModule) × IsRaw text m) ⊎ ((fault : Fault IrFaultKind) × IsTextFault text fault)
  pub one_reading : (text : List ℕ) (a b : RawModule) → IsRaw text a → IsRaw text b → a ≡ b
  pub one_fault : (text : List ℕ) (a b : Fault IrFaultKind) → IsTextFault text a → IsTextFault text b → a ≡ b
  pub not_both : (text : List ℕ) (m : RawModule) (fault : Fault IrFaultKind) → length text ≤ most_bytes → IsRaw text m → IsTextFault text fault → ⊥
