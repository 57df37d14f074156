-- The tokens of a module's text, each with its line.
use Rattle.std.specs.Prelude.{ℕ, ◌-◌, List, [], ◌∷◌, length, take, drop, Bool, true, false}
use Rattle.scan.specs.declared.ir.token.TokenKind.{TokenKind}
use Rattle.scan.specs.declared.ir.token.TokenKind.TheVariants as kinds

-- a token, with its bytes
pub data Token : Type 0 where
  -- the end of the text
  End : Token
  -- a printable byte that begins no token, or the `(` of a kept group that isn't closed on its line
  Other : Token
  -- an invalid byte
  Bad : Token
  -- a line that is kept as it is, from its first token to its last byte that is no blank
  Kept : (text : List ℕ) → Token
  -- a group in brackets that is kept as it is, with its brackets
  KeptGroup : (text : List ℕ) → Token
  -- without the `:`
  Label : (text : List ℕ) → Token
  Word : (text : List ℕ) → Token
  -- with its `-`
  Number : (text : List ℕ) → Token
  -- without the `%`
  Register : (text : List ℕ) → Token
  -- without the `@`
  Function : (text : List ℕ) → Token
  -- with its `#`
  Group : (text : List ℕ) → Token
  -- without the `!`
  Metadata : (text : List ℕ) → Token
  -- with its quotes
  Quoted : (text : List ℕ) → Token
  Mark : (byte : ℕ) → Token

-- a token with its line, which counts from 1; that of the end is the last line
abbrev pub Placed : Type 0
Placed = ℕ × Token

-- the mark that these bytes are, which is one byte
abbrev pub mark_of : List ℕ → Token
mark_of [] = Other
mark_of (b ∷ bytes) = Mark b

-- the token of a kind and its bytes, if it extends no further
abbrev pub token_of : TokenKind → List ℕ → Token
token_of kinds.End bytes = End
token_of kinds.Other bytes = Other
token_of kinds.Label bytes = Label (take (length bytes - 1) bytes)
token_of kinds.Word bytes = Word bytes
token_of kinds.Number bytes = Number bytes
token_of kinds.Register bytes = Register (drop 1 bytes)
token_of kinds.Function bytes = Function (drop 1 bytes)
token_of kinds.Group bytes = Group bytes
token_of kinds.Metadata bytes = Metadata (drop 1 bytes)
token_of kinds.Quoted bytes = Quoted bytes
token_of kinds.Mark bytes = mark_of bytes

-- reading ends with the token: it is the end of the text, or one that the grammar allows nowhere
abbrev pub is_last : Token → Bool
is_last End = true
is_last Other = true
is_last Bad = true
is_last token = false
