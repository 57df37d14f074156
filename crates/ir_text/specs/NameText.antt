-- Names as they are printed (LLVM Language Reference, "Identifiers").
use Rattle.std.specs.Prelude.{ℕ, ◌+◌, ◌/◌, ◌%◌, ◌==◌, nat_lt, not, ◌||◌, ◌&&◌, if◌then◌else◌, List, [], ◌∷◌, ◌++◌}
use Rattle.std.specs.List.{flat_map}
use Rattle.scan.specs.Bytes.{is_printable}
use Rattle.scan.specs.IrTokens.{is_plain_name}

-- the hexadecimal digit of a number below 16, in upper case
unfoldable pub hex_digit : ℕ → ℕ
hex_digit n = if nat_lt n 10 then 48 + n else 55 + n

-- A byte as it is written between quotes: printable ASCII other than `"` and `\` as it is, and every other byte as `\`
-- and two hexadecimal digits.
unfoldable pub escaped : ℕ → List ℕ
escaped b = if is_printable b && not ((b == 34) || (b == 92)) then b ∷ [] else 92 ∷ hex_digit (b / 16) ∷ hex_digit (b % 16) ∷ []

-- a name between quotes
unfoldable pub quoted_text : List ℕ → List ℕ
quoted_text name = 34 ∷ (flat_map escaped name ++ 34 ∷ [])

-- a name: as it is if it is plain, and else between quotes
unfoldable pub name_text : List ℕ → List ℕ
name_text name = if is_plain_name name then name else quoted_text name
