-- The parser of the smallest productions: marks, words, registers, types, operands and attachments. Each function reads
-- from left to right, and gives what it read, or the fault of the first token that does not fit.
use Rattle.std.specs.Prelude.{ℕ, ◌==◌, Bool, true, false, if◌then◌else◌, List, ◌∷◌, Option, None, Some, Result, Ok, Err, codes}
use Rattle.std.specs.Str.{bytes_eq}
use Rattle.ops.specs.Number.{Number as Numeral}
use Rattle.scan.specs.IrTokens.{is_plain_name}
use Rattle.ir_tokens.specs.Identifiers.{identifier_of}
use Rattle.ir_tokens.specs.Numbers.{constant_of, is_number}
use Rattle.ir_tokens.specs.Tokens.{Placed, Word, Number, Register, Metadata, Mark}
use Rattle.ir_tokens.specs.declared.fault.IrFaultKind.TheVariants.{Syntax, LeftOut, ConstRange}
use Rattle.ir_tokens.specs.declared.fault.IrFaultKind.TheVariants as misfits
use Rattle.refusal.specs.declared.fault.Fault.{Fault}
use Rattle.ir_tokens.specs.declared.fault.IrFaultKind.{IrFaultKind}
use Rattle.ir_instructions.specs.declared.place.Expected.TheVariants as places
use Rattle.ir_tokens.specs.declared.raw.RawIdentifier.{RawIdentifier}
use Rattle.ir_tokens.specs.declared.raw.TypedOperand.{TypedOperand}
use Rattle.ir_tokens.specs.declared.raw.RawOperand.{RawOperand}
use Rattle.ir_tokens.specs.declared.raw.RawValue.TheVariants as values
use Rattle.ir_instructions.specs.declared.word.TypeWord.{TypeWord}
use Rattle.ir_instructions.specs.declared.word.TypeWord.TheVariants as types
use Rattle.ir_instructions.specs.Readers.{Reader, fault, unexpected, ◌>>=◌, done, given, or_left_out, repeat_at}
use Rattle.ir_instructions.specs.Keywords.{type_in, truth_in, value_in}
use Rattle.ir_instructions.specs.Punctuation as marks

-- ---- lookahead

-- the mark
abbrev pub is_mark : ℕ → List Placed → Bool
is_mark wanted ((line, Mark mark) ∷ rest) = mark == wanted
is_mark wanted tokens = false

-- the word
abbrev pub is_keyword : List ℕ → List Placed → Bool
is_keyword wanted ((line, Word word) ∷ rest) = bytes_eq word wanted
is_keyword wanted tokens = false

abbrev pub is_register : List Placed → Bool
is_register ((line, Register name) ∷ rest) = true
is_register tokens = false

abbrev pub is_metadata : List Placed → Bool
is_metadata ((line, Metadata text) ∷ rest) = true
is_metadata tokens = false

-- ---- one token

-- this mark
unfoldable pub mark_at : ℕ → Reader (Unit {0})
mark_at wanted ((line, Mark mark) ∷ rest) = if mark == wanted then Ok (tt, rest) else Err (fault line Syntax)
mark_at wanted tokens = Err (unexpected places.Fixed tokens)

-- this word
unfoldable pub keyword_at : List ℕ → Reader (Unit {0})
keyword_at wanted ((line, Word word) ∷ rest) = if bytes_eq word wanted then Ok (tt, rest) else Err (fault line Syntax)
keyword_at wanted tokens = Err (unexpected places.Fixed tokens)

abbrev pub identified : ℕ → List ℕ → RawIdentifier
identified line written = record { line = line; identifier = identifier_of written }

unfoldable pub register_at : Reader RawIdentifier
register_at ((line, Register written) ∷ rest) = Ok (identified line written, rest)
register_at tokens = Err (unexpected places.Fixed tokens)

-- `label` and a register
unfoldable pub target_at : Reader RawIdentifier
target_at = do
  _ ← keyword_at (codes "label")
  register_at

-- a type
abbrev pub type_word : ℕ → List ℕ → TypeWord → Reader ℕ
type_word line word types.Other rest = Err (fault line (LeftOut word))
type_word line word types.OutOfRange rest = Err (fault line misfits.Width)
type_word line word (types.Integer width) rest = Ok (width, rest)

unfoldable pub type_at : Reader ℕ
type_at ((line, Word word) ∷ rest) = type_word line word (type_in word) rest
type_at tokens = Err (unexpected places.Type tokens)

-- ---- operands

-- the operand that a number is at a width, or the fault that it is out of range
abbrev pub number_value : ℕ → Option Numeral → Result RawOperand (Fault IrFaultKind)
number_value line (Some number) = Ok (record { line = line; value = values.Number number })
number_value line None = Err (fault line ConstRange)

-- a value at this width
unfoldable pub operand_at : ℕ → Reader RawOperand
operand_at width ((line, Register written) ∷ rest) = Ok (record { line = line; value = values.Register (identifier_of written) }, rest)
operand_at width ((line, Number digits) ∷ rest) = given (number_value line (constant_of digits width)) rest
operand_at width ((line, Word word) ∷ rest) = (or_left_out line word (value_in word) >>= λ value. done (record { line = line; value = value })) rest
operand_at width tokens = Err (unexpected places.Choice tokens)

-- the value of a case
unfoldable pub case_value_at : ℕ → Reader RawOperand
case_value_at width ((line, Number digits) ∷ rest) = given (number_value line (constant_of digits width)) rest
case_value_at width ((line, Word word) ∷ rest) = (or_left_out line word (truth_in word) >>= λ value. done (record { line = line; value = value })) rest
case_value_at width tokens = Err (unexpected places.Choice tokens)

-- a type and a value
unfoldable pub typed_at : Reader TypedOperand
typed_at = do
  width ← type_at
  operand ← operand_at width
  done (record { width = width; operand = operand })

-- ---- attachments

-- metadata whose name or number passes the test
unfoldable pub metadata_at : (List ℕ → Bool) → Reader (Unit {0})
metadata_at test ((line, Metadata text) ∷ rest) = if test text then Ok (tt, rest) else Err (fault line Syntax)
metadata_at test tokens = Err (unexpected places.Fixed tokens)

unfoldable pub attachment_at : Reader (Unit {0})
attachment_at = do
  _ ← metadata_at is_plain_name
  metadata_at is_number

unfoldable pub attachments_at : Reader (Unit {0})
attachments_at = repeat_at is_metadata (λ before. attachment_at) tt

unfoldable pub tail_attachment_at : Reader (Unit {0})
tail_attachment_at = do
  _ ← mark_at marks.comma
  attachment_at

unfoldable pub tail_at : Reader (Unit {0})
tail_at = repeat_at (is_mark marks.comma) (λ before. tail_attachment_at) tt
