-- Which tokens that do not fit are taken for unsupported parts of LLVM IR (left out), and not for syntax errors, by
-- what is expected in their place. Tokens that do fit don't matter here.
use Rattle.std.specs.Prelude.{ℕ, ◌==◌, Bool, true, false, ◌||◌, if◌then◌else◌, List, [], ◌∷◌, take, codes}
use Rattle.ir_tokens.specs.declared.fault.IrFaultKind.{IrFaultKind}
use Rattle.ir_tokens.specs.declared.fault.IrFaultKind.TheVariants.{BadByte, Syntax, LeftOut}
use Rattle.ir_instructions.specs.declared.place.Expected.{Expected}
use Rattle.ir_instructions.specs.declared.place.Expected.TheVariants as places
use Rattle.ir_instructions.specs.Punctuation as marks
use Rattle.ir_tokens.specs.Tokens.{Token, End, Other, Bad, Kept, KeptGroup, Label, Word, Number, Register, Function, Group, Metadata, Quoted, Mark}

-- the token is a word
abbrev pub is_word : Token → Bool
is_word (Word word) = true
is_word token = false

-- `<`, `{` or `[`, with which vector, structure and array types begin
abbrev pub begins_type : Token → Bool
begins_type (Mark mark) = (mark == marks.less) || (mark == marks.open_brace) || (mark == marks.open_bracket)
begins_type token = false

-- `#`, with which a debug record begins
abbrev pub begins_record : Token → Bool
begins_record (Mark mark) = mark == marks.hash
begins_record token = false

-- the token is taken for an unsupported part of LLVM IR there
unfoldable pub leaves_out : Expected → Token → Bool
leaves_out places.Entry token = true
leaves_out places.Type token = is_word token || begins_type token
leaves_out places.Instruction token = is_word token || begins_record token
leaves_out places.Choice token = is_word token
leaves_out places.Fixed token = false

-- how the fault names a token that is not supported: the word, or the first byte
unfoldable pub shown : Token → List ℕ
shown (Word word) = word
shown (Kept text) = take 1 text
shown (KeptGroup text) = take 1 text
shown (Label text) = take 1 text
shown (Number digits) = take 1 digits
shown (Register name) = codes "%"
shown (Function name) = codes "@"
shown (Group text) = codes "#"
shown (Metadata text) = codes "!"
shown (Quoted text) = take 1 text
shown (Mark mark) = mark ∷ []
shown token = []

-- the kind of fault of a token that does not fit
unfoldable pub misfit : Expected → Token → IrFaultKind
misfit place Bad = BadByte
misfit place Other = Syntax
misfit place End = Syntax
misfit place token = if leaves_out place token then LeftOut (shown token) else Syntax
