-- Words and marks of rules.
use Rattle.std.specs.Prelude.{ℕ, Bool, true, false, not, ◌&&◌, if◌then◌else◌, List, [], ◌∷◌, find, Option, None, Some, codes}
use Rattle.std.specs.Option.{option_map_or}
use Rattle.std.specs.Str.{bytes_eq}
use Rattle.ops.specs.declared.opcode.Opcode.TheVariants.{Add, Sub, Mul, UDiv, SDiv, URem, SRem, Shl, LShr, AShr, And, Or, Xor, UMin, UMax, SMin, SMax}
use Rattle.ops.specs.declared.opcode.Unary.{Unary as Intrinsic}
use Rattle.ops.specs.declared.opcode.Unary.TheVariants.{Abs, CtPop, CtLz, CtTz}
use Rattle.ops.specs.declared.conversion.Cast.TheVariants.{Trunc, ZExt, SExt}
use Rattle.ops.specs.Intrinsics.{is_intrinsic}
use Rattle.ops.specs.Keywords.{opcode_keyword, unary_keyword, cast_keyword}
use Rattle.rule_tokens.specs.Tokens.{Token, Word, Opcode}
use Rattle.rule_tokens.specs.declared.version.Version.{Version}
use Rattle.rule_tokens.specs.declared.version.Version.TheVariants.{One, Two}
use Rattle.rule_parse.specs.declared.raw.RawArgument.{RawArgument}
use Rattle.rule_parse.specs.declared.raw.RawArgument.TheVariants as arguments
use Rattle.rule_terms.specs.declared.raw.RawNode.{RawNode}
use Rattle.rule_terms.specs.declared.raw.RawNode.TheVariants.{Literal, Constant}
use Rattle.rule_parse.specs.declared.word.Operation.{Operation}
use Rattle.rule_parse.specs.declared.word.Operation.TheVariants.{Binary, Compare, Unary, Select, Convert, Freeze}

abbrev pub operation_word : Operation → List ℕ
operation_word (Binary op) = opcode_keyword op
operation_word Compare = codes "icmp"
operation_word (Unary op) = unary_keyword op
operation_word Select = codes "select"
operation_word (Convert cast) = cast_keyword cast
operation_word Freeze = codes "freeze"

abbrev pub operations : List Operation
operations =
    Binary Add ∷ Binary Sub ∷ Binary Mul ∷ Binary UDiv ∷ Binary SDiv ∷ Binary URem ∷ Binary SRem ∷ Binary Shl ∷ Binary LShr ∷ Binary AShr
    ∷ Binary And ∷ Binary Or ∷ Binary Xor ∷ Compare ∷ Select ∷ Convert Trunc ∷ Convert ZExt ∷ Convert SExt ∷ Freeze
    ∷ Binary UMin ∷ Binary UMax ∷ Binary SMin ∷ Binary SMax ∷ Unary Abs ∷ Unary CtPop ∷ Unary CtLz ∷ Unary CtTz ∷ []

-- version 2 brought the operation
abbrev pub is_of_second : Operation → Bool
is_of_second (Binary op) = is_intrinsic op
is_of_second (Unary op) = true
is_of_second Freeze = true
is_of_second operation = false

abbrev pub is_second : Version → Bool
is_second One = false
is_second Two = true

-- the version has the operation
abbrev pub is_known : Operation → Version → Bool
is_known operation version = if is_of_second operation then is_second version else true

-- the operation's word is that of a function of terms too, so its opcode is a kind of token of its own (`abs`)
abbrev pub is_apart : Operation → Bool
is_apart (Unary Abs) = true
is_apart operation = false

-- an opcode token, or a word
abbrev pub token_with : Bool → List ℕ → Token
token_with true word = Opcode word
token_with false word = Word word

-- the opcode of an operation
abbrev pub opcode_token : Operation → Token
opcode_token operation = token_with (is_apart operation) (operation_word operation)

-- whether the opcode of the operation is an opcode token, where `true` asks for those, or a word
abbrev pub is_told : Bool → Operation → Bool
is_told true operation = is_apart operation
is_told false operation = not (is_apart operation)

-- the operation of the version that an opcode token (`apart`) or a word with these bytes names
unfoldable pub operation_in : Version → Bool → List ℕ → Option Operation
operation_in version apart word = find (λ operation. bytes_eq word (operation_word operation) && is_known operation version && is_told apart operation) operations

-- the flag by which the truth value of an intrinsic is true
abbrev pub truth_flag : Intrinsic → Option (List ℕ)
truth_flag Abs = Some (codes "minpoison")
truth_flag CtPop = None
truth_flag CtLz = Some (codes "zeropoison")
truth_flag CtTz = Some (codes "zeropoison")

-- the word is that flag
abbrev pub is_truth_flag : Intrinsic → List ℕ → Bool
is_truth_flag op word = option_map_or (bytes_eq word) (truth_flag op) false

abbrev pub truth_word : Bool → List ℕ
truth_word true = codes "true"
truth_word false = codes "false"

-- the operand of a source that a word is, where it is no constant: `true`, `false` or `undef`
unfoldable pub source_word_in : List ℕ → Option RawArgument
source_word_in word =
    if bytes_eq word (codes "true") then Some (arguments.Truth true)
    else (if bytes_eq word (codes "false") then Some (arguments.Truth false)
    else (if bytes_eq word (codes "undef") then Some arguments.Undef else None))

-- a term as an operand: a single literal or constant is kept as such
unfoldable pub argument_of : List RawNode → RawArgument
argument_of (Literal z ∷ []) = arguments.Literal z
argument_of (Constant name ∷ []) = arguments.Constant name
argument_of nodes = arguments.Term nodes
