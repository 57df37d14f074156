-- Texts of modules: the module as written, or the first fault.
use Rattle.std.specs.Prelude.{◌≡◌, ℕ, ◌<◌, ◌≤◌, ◌^◌, List, length, Err}
use Rattle.ir_tokens.specs.Order.{AreTokens}
use Rattle.ir_tokens.specs.Tokens.{Placed}
use Rattle.ir_tokens.specs.declared.fault.IrFaultKind.TheVariants.{TooLong}
use Rattle.refusal.specs.declared.fault.Fault.{Fault}
use Rattle.ir_tokens.specs.declared.fault.IrFaultKind.{IrFaultKind}
use Rattle.ir_tokens.specs.declared.raw.RawModule.{RawModule}
use Rattle.ir_instructions.specs.Readers.{fault}
use Rattle.ir_parse.specs.Grammar.{SpellsModule}
use Rattle.ir_parse.specs.ModuleReaders.{module_of}

-- how many bytes a text may have at most
abbrev pub most_bytes : ℕ
most_bytes = 2 ^ 24

-- the text, however long, spells this module
pub record IsRaw (text : List ℕ) (module_read : RawModule) : Type 0 where
  pub tokens : List Placed
  pub are_tokens : AreTokens text tokens
  pub spelled : SpellsModule module_read tokens

-- The first fault: the text is too long, or else the first token that does not fit, with its line and the kind.
pub data IsTextFault (text : List ℕ) (found : Fault IrFaultKind) : Type 0 where
  too_long : most_bytes < length text → found ≡ fault 1 TooLong → IsTextFault text found
  misfit : length text ≤ most_bytes → (tokens : List Placed) → AreTokens text tokens → module_of tokens ≡ Err found → IsTextFault text found
