-- The parser of instructions and terminators: each function reads one production from left to right, and gives its
-- syntax tree, or the fault of the first token that does not fit.
use Rattle.std.specs.Prelude.{ℕ, ◌==◌, Bool, false, not, if◌then◌else◌, List, [], ◌∷◌, Option, None, Some, is_some, Ok, Err, codes}
use Rattle.ops.specs.declared.opcode.Opcode.{Opcode}
use Rattle.ops.specs.declared.opcode.Flags.{Flags}
use Rattle.ops.specs.declared.comparison.Pred.{Pred}
use Rattle.ops.specs.declared.conversion.Cast.{Cast}
use Rattle.ops.specs.Flags.{no_flags, flags_of, flags_of_cast, flags_of_icmp}
use Rattle.ops.specs.declared.keywords.flag.Flag.{Flag}
use Rattle.ops.specs.Keywords.{pred_in}
use Rattle.ops.specs.FlagKeywords.{flag_in, has_flag, with_flag}
use Rattle.ir_tokens.specs.Tokens.{Placed, Word, Mark}
use Rattle.ir_tokens.specs.declared.fault.IrFaultKind.TheVariants.{Syntax}
use Rattle.ir_tokens.specs.declared.fault.IrFaultKind.TheVariants as misfits
use Rattle.ir_tokens.specs.declared.fault.IrFaultKind.{IrFaultKind}
use Rattle.ir_instructions.specs.declared.place.Expected.TheVariants as places
use Rattle.ir_tokens.specs.declared.raw.RawInst.{RawInst}
use Rattle.ir_tokens.specs.declared.raw.RawOp.{RawOp}
use Rattle.ir_tokens.specs.declared.raw.RawOp.TheVariants.{Binary, Compare, Select, Convert, Freeze, Phi}
use Rattle.ir_tokens.specs.declared.raw.RawValue.TheVariants as values
use Rattle.ir_tokens.specs.declared.raw.RawIncoming.{RawIncoming}
use Rattle.ir_tokens.specs.declared.raw.RawTerminator.{RawTerminator}
use Rattle.ir_tokens.specs.declared.raw.RawTerminator.TheVariants.{Return, Unreachable, Jump, Branch, Switch}
use Rattle.ir_tokens.specs.declared.raw.RawCase.{RawCase}
use Rattle.ir_instructions.specs.declared.word.TypeWord.{TypeWord}
use Rattle.ir_instructions.specs.declared.word.TypeWord.TheVariants as types
use Rattle.ir_instructions.specs.declared.word.Operation.{Operation}
use Rattle.ir_instructions.specs.declared.word.Operation.TheVariants as operations
use Rattle.ir_instructions.specs.declared.word.Ending.{Ending}
use Rattle.ir_instructions.specs.declared.word.Ending.TheVariants as endings
use Rattle.ir_instructions.specs.Readers.{Reader, fault, unexpected, ◌>>=◌, done, or_left_out, repeat_at, each_at}
use Rattle.ir_instructions.specs.Keywords.{operation_in, ending_in}
use Rattle.ir_instructions.specs.Punctuation as marks
pub use Rattle.ir_instructions.specs.TokenReaders.{is_mark, is_keyword, is_register, is_metadata, identified, type_word, number_value}
unfoldable pub use Rattle.ir_instructions.specs.TokenReaders.{mark_at, keyword_at, register_at, target_at, type_at, operand_at, case_value_at, typed_at, metadata_at, attachment_at, attachments_at, tail_attachment_at, tail_at}
use Rattle.ir_instructions.specs.CallReaders.{call_at, marked_call_at}

-- ---- instructions

-- a flag that the instruction takes is next
abbrev pub is_flag : Flags → List Placed → Bool
is_flag taken ((line, Word word) ∷ rest) = is_some (flag_in taken word)
is_flag taken tokens = false

-- the flags before with this one added, which must not be among them
abbrev pub add_flag : Flags → ℕ → Option Flag → Reader Flags
add_flag before line (Some flag) rest = if has_flag before flag then Err (fault line Syntax) else Ok (with_flag before flag, rest)
add_flag before line None rest = Err (fault line Syntax)

unfoldable pub flag_at : Flags → Flags → Reader Flags
flag_at taken before ((line, Word word) ∷ rest) = add_flag before line (flag_in taken word) rest
flag_at taken before tokens = Err (unexpected places.Fixed tokens)

unfoldable pub flags_at : Flags → Reader Flags
flags_at taken = repeat_at (is_flag taken) (flag_at taken) no_flags

unfoldable pub binary_at : Opcode → Reader RawOp
binary_at op = do
  flags ← flags_at (flags_of op)
  width ← type_at
  left ← operand_at width
  _ ← mark_at marks.comma
  right ← operand_at width
  done (Binary op flags width left right)

unfoldable pub pred_at : Reader Pred
pred_at ((line, Word word) ∷ rest) = or_left_out line word (pred_in word) rest
pred_at tokens = Err (unexpected places.Choice tokens)

unfoldable pub compare_at : Reader RawOp
compare_at = do
  flags ← flags_at flags_of_icmp
  pred ← pred_at
  width ← type_at
  left ← operand_at width
  _ ← mark_at marks.comma
  right ← operand_at width
  done (Compare pred flags.samesign width left right)

unfoldable pub select_at : Reader RawOp
select_at = do
  condition ← typed_at
  _ ← mark_at marks.comma
  if_true ← typed_at
  _ ← mark_at marks.comma
  if_false ← typed_at
  done (Select condition if_true if_false)

unfoldable pub convert_at : Cast → Reader RawOp
convert_at cast = do
  flags ← flags_at (flags_of_cast cast)
  from ← typed_at
  _ ← keyword_at (codes "to")
  to ← type_at
  done (Convert cast flags from.width from.operand to)

unfoldable pub freeze_at : Reader RawOp
freeze_at = do
  typed ← typed_at
  done (Freeze typed.width typed.operand)

unfoldable pub incoming_at : ℕ → Reader RawIncoming
incoming_at width = do
  _ ← mark_at marks.open_bracket
  value ← operand_at width
  _ ← mark_at marks.comma
  block ← register_at
  _ ← mark_at marks.close_bracket
  done (record { value = value; block = block })

-- a further incoming value is next: a `,` that no attachment follows
abbrev pub begins_incoming : List Placed → Bool
begins_incoming ((line, Mark mark) ∷ rest) = if mark == marks.comma then not (is_metadata rest) else false
begins_incoming tokens = false

unfoldable pub further_incoming_at : ℕ → Reader RawIncoming
further_incoming_at width = do
  _ ← mark_at marks.comma
  incoming_at width

-- any number of further incoming values, behind those in front
abbrev pub incomings_at : ℕ → List RawIncoming → Reader (List RawIncoming)
incomings_at width front = each_at begins_incoming (further_incoming_at width) front

unfoldable pub phi_at : Reader RawOp
phi_at = do
  width ← type_at
  first ← incoming_at width
  incomings ← incomings_at width (first ∷ [])
  done (Phi width incomings)

-- an operation behind its first word, which is on this line
abbrev pub operation_at : ℕ → Operation → Reader RawOp
operation_at line (operations.Binary op) = binary_at op
operation_at line operations.Compare = compare_at
operation_at line operations.Select = select_at
operation_at line (operations.Convert cast) = convert_at cast
operation_at line operations.Freeze = freeze_at
operation_at line operations.Phi = phi_at
operation_at line operations.Call = call_at line
operation_at line operations.Tail = marked_call_at
operation_at line operations.NoTail = marked_call_at

unfoldable pub op_at : Reader RawOp
op_at ((line, Word word) ∷ rest) = (or_left_out line word (operation_in word) >>= operation_at line) rest
op_at tokens = Err (unexpected places.Choice tokens)

unfoldable pub inst_at : Reader RawInst
inst_at = do
  result ← register_at
  _ ← mark_at marks.equals
  op ← op_at
  _ ← tail_at
  done (record { result = result; op = op })

unfoldable pub insts_at : Reader (List RawInst)
insts_at = each_at is_register inst_at []

-- ---- terminators

unfoldable pub return_at : Reader RawTerminator
return_at = do
  typed ← typed_at
  done (Return typed.width typed.operand)

unfoldable pub jump_at : Reader RawTerminator
jump_at = do
  target ← target_at
  done (Jump target)

unfoldable pub conditional_at : Reader RawTerminator
conditional_at = do
  typed ← typed_at
  _ ← mark_at marks.comma
  if_true ← target_at
  _ ← mark_at marks.comma
  if_false ← target_at
  done (Branch typed.width typed.operand if_true if_false)

unfoldable pub branch_at : Reader RawTerminator
branch_at tokens = if is_keyword (codes "label") tokens then jump_at tokens else conditional_at tokens

unfoldable pub case_at : Reader RawCase
case_at = do
  width ← type_at
  value ← case_value_at width
  _ ← mark_at marks.comma
  target ← target_at
  done (record { width = width; value = value; target = target })

-- another case is next: the `]` is not
abbrev pub begins_case : List Placed → Bool
begins_case tokens = not (is_mark marks.close_bracket tokens)

unfoldable pub cases_at : Reader (List RawCase)
cases_at = do
  _ ← mark_at marks.open_bracket
  cases ← each_at begins_case case_at []
  _ ← mark_at marks.close_bracket
  done cases

unfoldable pub switch_at : Reader RawTerminator
switch_at = do
  typed ← typed_at
  _ ← mark_at marks.comma
  default ← target_at
  cases ← cases_at
  done (Switch typed.width typed.operand default cases)

-- a terminator behind its first word
abbrev pub ending_at : Ending → Reader RawTerminator
ending_at endings.Return = return_at
ending_at endings.Unreachable = done Unreachable
ending_at endings.Branch = branch_at
ending_at endings.Switch = switch_at

-- a terminator, with the line of its first word
unfoldable pub terminator_at : Reader (ℕ × RawTerminator)
terminator_at ((line, Word word) ∷ rest) = (or_left_out line word (ending_in word) >>= ending_at >>= λ end. done (line, end)) rest
terminator_at tokens = Err (unexpected places.Instruction tokens)
