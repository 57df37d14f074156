-- Quoted texts: as they are written, and the bytes that they stand for.
use Rattle.std.specs.Prelude.{ℕ, ◌+◌, ◌-◌, ◌*◌, ◌==◌, nat_le, Bool, not, ◌&&◌, ◌||◌, if◌then◌else◌, List, [], ◌∷◌, ◌++◌}
use Rattle.std.specs.Str.{bytes_eq}
use Rattle.std.specs.List.{list_all, before_first, after_first}
use Rattle.scan.specs.Bytes.{is_digit}

-- the byte may stand between quotes: it is neither `"` nor a line feed
unfoldable pub is_quotable : ℕ → Bool
is_quotable b = not ((b == 34) || (b == 10))

-- the bytes between the first two quotes of a text; none where there are no two
abbrev pub in_quotes : List ℕ → List ℕ
in_quotes text = before_first (λ b. b == 34) (after_first (λ b. b == 34) text)

-- a quoted text: such bytes between quotes, and nothing more
unfoldable pub is_quoted : List ℕ → Bool
is_quoted text = bytes_eq text (34 ∷ (in_quotes text ++ 34 ∷ [])) && list_all is_quotable (in_quotes text)

-- a hexadecimal digit
unfoldable pub is_hex : ℕ → Bool
is_hex b = is_digit b || (nat_le 65 b && nat_le b 70) || (nat_le 97 b && nat_le b 102)

-- its value
unfoldable pub hex_value : ℕ → ℕ
hex_value b = if nat_le b 57 then b - 48 else (if nat_le b 70 then b - 55 else b - 87)

-- The bytes that these, between quotes, stand for. Escapes are read from left to right: `\\` is a backslash, and `\`
-- before two hexadecimal digits is the byte of that number. Any other backslash stands for itself.
unfoldable pub unquoted : List ℕ → List ℕ
unquoted [] = []
unquoted (a ∷ []) = a ∷ []
unquoted (a ∷ b ∷ []) = if (a == 92) && (b == 92) then 92 ∷ [] else a ∷ b ∷ []
unquoted (a ∷ b ∷ c ∷ rest) =
    if (a == 92) && (b == 92) then 92 ∷ unquoted (c ∷ rest)
    else (if (a == 92) && is_hex b && is_hex c then (16 * hex_value b + hex_value c) ∷ unquoted rest
    else a ∷ unquoted (b ∷ c ∷ rest))
