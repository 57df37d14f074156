-- The parser of calls of integer intrinsics: each function reads one production from left to right, and gives its
-- syntax tree, or the fault of the first token that does not fit.
use Rattle.std.specs.Prelude.{ℕ, ◌==◌, Bool, false, not, ◌&&◌, ◌||◌, if◌then◌else◌, List, [], ◌∷◌, drop, Option, None, Some, Ok, Err, codes}
use Rattle.std.specs.Str.{bytes_eq}
use Rattle.ops.specs.declared.opcode.Opcode.{Opcode}
use Rattle.ops.specs.declared.opcode.Unary.{Unary}
use Rattle.ops.specs.Truths.{has_truth}
use Rattle.ir_tokens.specs.declared.called.Identifier.{Identifier}
use Rattle.ir_tokens.specs.declared.called.Identifier.TheVariants.{Named, Numbered}
use Rattle.ir_tokens.specs.Identifiers.{identifier_of}
use Rattle.ir_tokens.specs.Numbers.{constant_of}
use Rattle.ir_tokens.specs.Tokens.{Placed, KeptGroup, Word, Number, Function, Group, Quoted, Mark}
use Rattle.ir_tokens.specs.declared.fault.IrFaultKind.{IrFaultKind}
use Rattle.ir_tokens.specs.declared.fault.IrFaultKind.TheVariants.{Syntax, LeftOut}
use Rattle.ir_tokens.specs.declared.raw.RawArguments.{RawArguments}
use Rattle.ir_tokens.specs.declared.raw.RawArguments.TheVariants as arguments
use Rattle.ir_tokens.specs.declared.raw.RawOp.{RawOp}
use Rattle.ir_tokens.specs.declared.raw.RawOp.TheVariants.{Call}
use Rattle.ir_tokens.specs.declared.raw.RawOperand.{RawOperand}
use Rattle.ir_tokens.specs.declared.raw.RawValue.{RawValue}
use Rattle.ir_tokens.specs.declared.raw.TypedOperand.{TypedOperand}
use Rattle.ir_instructions.specs.declared.intrinsic.Intrinsic.{Intrinsic}
use Rattle.ir_instructions.specs.declared.intrinsic.Intrinsic.TheVariants as intrinsics
use Rattle.ir_instructions.specs.declared.place.Expected.TheVariants as places
use Rattle.ir_instructions.specs.Intrinsics.{intrinsic_in}
use Rattle.ir_instructions.specs.ItemReaders.{begins_item, item_at, items_at}
use Rattle.ir_instructions.specs.Keywords.{truth_in}
use Rattle.ir_instructions.specs.Readers.{Reader, fault, unexpected, ◌>>=◌, done, given, each_at, repeat_at}
use Rattle.ir_instructions.specs.TokenReaders.{is_mark, mark_at, number_value, operand_at, type_at}
use Rattle.ir_instructions.specs.Punctuation as marks

-- ---- arguments

-- the end of an argument is next
abbrev pub ends_argument : List Placed → Bool
ends_argument tokens = is_mark marks.comma tokens || is_mark marks.close_paren tokens

-- an item is next that is not the argument's value, since that stands directly before the end
abbrev pub begins_inner_item : List Placed → Bool
begins_inner_item tokens = begins_item tokens && not (ends_argument (drop 1 tokens))

unfoldable pub inner_items_at : Reader (List (List ℕ))
inner_items_at = each_at begins_inner_item item_at []

unfoldable pub argument_at : Reader TypedOperand
argument_at = do
  width ← type_at
  _ ← inner_items_at
  operand ← operand_at width
  done (record { width = width; operand = operand })

-- The kind of fault of a word that is no truth value: directly before the end of an argument only its value may stand,
-- so that it is a syntax error; elsewhere the word is also no item, and is not supported.
abbrev pub no_truth_kind : List ℕ → List Placed → IrFaultKind
no_truth_kind word rest = if ends_argument rest then Syntax else LeftOut word

-- a truth value: a number, `true` or `false`
abbrev pub truth_of_word : ℕ → List ℕ → Option RawValue → Reader RawOperand
truth_of_word line word (Some value) rest = Ok (record { line = line; value = value }, rest)
truth_of_word line word None rest = Err (fault line (no_truth_kind word rest))

unfoldable pub truth_value_at : ℕ → Reader RawOperand
truth_value_at width ((line, Number digits) ∷ rest) = given (number_value line (constant_of digits width)) rest
truth_value_at width ((line, Word word) ∷ rest) = truth_of_word line word (truth_in word) rest
truth_value_at width tokens = Err (unexpected places.Fixed tokens)

unfoldable pub truth_argument_at : Reader TypedOperand
truth_argument_at = do
  width ← type_at
  _ ← inner_items_at
  operand ← truth_value_at width
  done (record { width = width; operand = operand })

unfoldable pub further_truth_at : Reader (Option TypedOperand)
further_truth_at = do
  _ ← mark_at marks.comma
  truth ← truth_argument_at
  done (Some truth)

-- the truth value behind an operand, if the intrinsic takes one
unfoldable pub truth_at : Unary → Reader (Option TypedOperand)
truth_at op tokens = if has_truth op then further_truth_at tokens else Ok (None, tokens)

unfoldable pub two_arguments_at : Opcode → Reader RawArguments
two_arguments_at op = do
  left ← argument_at
  _ ← mark_at marks.comma
  right ← argument_at
  done (arguments.Binary op left right)

unfoldable pub one_argument_at : Unary → Reader RawArguments
one_argument_at op = do
  operand ← argument_at
  truth ← truth_at op
  done (arguments.Unary op operand truth)

abbrev pub arguments_at : Intrinsic → Reader RawArguments
arguments_at (intrinsics.Binary op) = two_arguments_at op
arguments_at (intrinsics.Unary op) = one_argument_at op

-- ---- the callee

-- the intrinsic and the width that the callee's name spells
abbrev pub callee_named : Identifier → Option (Intrinsic × ℕ)
callee_named (Named name) = intrinsic_in name
callee_named (Numbered n) = None

-- every other callee is not supported; the fault names the word `call`, on its line
abbrev pub or_no_callee : ℕ → Option (Intrinsic × ℕ) → Reader (Intrinsic × ℕ)
or_no_callee line (Some named) rest = Ok (named, rest)
or_no_callee line None rest = Err (fault line (LeftOut (codes "call")))

unfoldable pub callee_at : ℕ → Reader (Intrinsic × ℕ)
callee_at line ((at, Function written) ∷ rest) = or_no_callee line (callee_named (identifier_of written)) rest
callee_at line tokens = Err (unexpected places.Fixed tokens)

-- ---- items behind the call

-- a token on this line is next
abbrev pub is_on_line : ℕ → List Placed → Bool
is_on_line line ((at, token) ∷ rest) = at == line
is_on_line line [] = false

abbrev pub begins_late_item : ℕ → List Placed → Bool
begins_late_item line tokens = is_on_line line tokens && begins_item tokens

-- the value behind a key and its `=`, which has to be on the line
unfoldable pub late_value_at : ℕ → Reader (Unit {0})
late_value_at line ((at, Quoted value) ∷ rest) = if at == line then Ok (tt, rest) else Err (fault at Syntax)
late_value_at line tokens = Err (unexpected places.Fixed tokens)

unfoldable pub late_quoted_at : ℕ → Reader (Unit {0})
late_quoted_at line tokens =
    if is_on_line line tokens && is_mark marks.equals tokens then (mark_at marks.equals >>= λ _. late_value_at line) tokens else Ok (tt, tokens)

-- the kept group behind a word, if there is one on the line
unfoldable pub late_group_at : ℕ → Reader (Unit {0})
late_group_at line ((at, KeptGroup group) ∷ rest) = if at == line then Ok (tt, rest) else Ok (tt, (at, KeptGroup group) ∷ rest)
late_group_at line tokens = Ok (tt, tokens)

unfoldable pub late_item_at : ℕ → Reader (Unit {0})
late_item_at line ((at, Word word) ∷ rest) = late_group_at line rest
late_item_at line ((at, Number digits) ∷ rest) = Ok (tt, rest)
late_item_at line ((at, Group text) ∷ rest) = Ok (tt, rest)
late_item_at line ((at, Quoted key) ∷ rest) = late_quoted_at line rest
late_item_at line tokens = Err (unexpected places.Fixed tokens)

abbrev pub each_late_item_at : ℕ → Reader (Unit {0})
each_late_item_at line = repeat_at (begins_late_item line) (λ before. late_item_at line) tt

-- there is another token
unfoldable pub some_token_at : Reader (Unit {0})
some_token_at [] = Err (unexpected places.Fixed [])
some_token_at (t ∷ rest) = Ok (tt, t ∷ rest)

unfoldable pub late_items_at : ℕ → Reader (Unit {0})
late_items_at line = each_late_item_at line >>= λ _. some_token_at

-- `)`, and its line
unfoldable pub close_at : Reader ℕ
close_at ((line, Mark mark) ∷ rest) = if mark == marks.close_paren then Ok (line, rest) else Err (fault line Syntax)
close_at tokens = Err (unexpected places.Fixed tokens)

-- ---- calls

-- a call, behind the word `call` on this line
unfoldable pub call_at : ℕ → Reader RawOp
call_at line = do
  _ ← items_at
  width ← type_at
  callee ← callee_at line
  _ ← mark_at marks.open_paren
  arguments ← arguments_at callee.0
  close ← close_at
  _ ← late_items_at close
  done (Call (record { line = line; width = width; named = callee.1; arguments = arguments }))

-- `call` behind `tail` or `notail`, for its line; another word is not supported
unfoldable pub call_word_at : Reader ℕ
call_word_at ((line, Word word) ∷ rest) = if bytes_eq word (codes "call") then Ok (line, rest) else Err (fault line (LeftOut word))
call_word_at tokens = Err (unexpected places.Choice tokens)

unfoldable pub marked_call_at : Reader RawOp
marked_call_at = do
  line ← call_word_at
  call_at line
