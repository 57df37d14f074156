-- Identifiers of registers, functions and blocks, as written (LLVM Language Reference, "Identifiers").
use Rattle.std.specs.Prelude.{ℕ, ◌-◌, ◌^◌, ◌==◌, min, if◌then◌else◌, List, [], ◌∷◌, length, take}
use Rattle.scan.specs.Bytes.{are_digits}
use Rattle.scan.specs.Quoted.{unquoted}
use Rattle.ir_tokens.specs.declared.called.Identifier.{Identifier}
use Rattle.ir_tokens.specs.declared.called.Identifier.TheVariants.{Named, Numbered}
use Rattle.ir_tokens.specs.Numbers.{decimal_value}

-- the name that is written: the bytes that a quoted text stands for, or the text itself
unfoldable pub name_of : List ℕ → List ℕ
name_of [] = []
name_of (b ∷ rest) = if b == 34 then unquoted (take (length rest - 1) rest) else b ∷ rest

-- the identifier that is written: a number if it is digits, held up to 2^64 - 1, and else a name
unfoldable pub identifier_of : List ℕ → Identifier
identifier_of written = if are_digits written then Numbered (min (decimal_value written) (2 ^ 64 - 1)) else Named (name_of written)
