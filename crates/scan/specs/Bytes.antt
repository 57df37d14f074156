-- Kinds of bytes.
use Rattle.std.specs.Prelude.{ℕ, ◌==◌, nat_le, Bool, false, not, ◌||◌, ◌&&◌, List, [], ◌∷◌}
use Rattle.std.specs.List.{list_all}

-- a blank: a space, a tab or a carriage return
unfoldable pub is_blank : ℕ → Bool
is_blank b = (b == 32) || (b == 9) || (b == 13)

-- a blank or a line feed
unfoldable pub is_space : ℕ → Bool
is_space b = is_blank b || (b == 10)

-- printable ASCII
unfoldable pub is_printable : ℕ → Bool
is_printable b = nat_le 32 b && nat_le b 126

-- neither printable ASCII, nor a blank, nor a line feed: invalid outside comments
unfoldable pub is_bad : ℕ → Bool
is_bad b = not (is_printable b || is_space b)

-- a decimal digit
unfoldable pub is_digit : ℕ → Bool
is_digit b = nat_le 48 b && nat_le b 57

-- a letter
unfoldable pub is_letter : ℕ → Bool
is_letter b = (nat_le 65 b && nat_le b 90) || (nat_le 97 b && nat_le b 122)

-- a plain name may begin with it: a letter, `-`, `$`, `.` or `_`
unfoldable pub begins_name : ℕ → Bool
begins_name b = is_letter b || (b == 45) || (b == 36) || (b == 46) || (b == 95)

-- a word of a module may begin with it: a plain name may, and it is no `-`
unfoldable pub begins_word : ℕ → Bool
begins_word b = begins_name b && not (b == 45)

-- a plain name may hold it
unfoldable pub is_name_byte : ℕ → Bool
is_name_byte b = begins_name b || is_digit b

-- a word of a rule may hold it: a letter, a digit or `_`
unfoldable pub is_word_byte : ℕ → Bool
is_word_byte b = is_letter b || is_digit b || (b == 95)

-- a register of a rule may hold it: a letter, a digit, `_` or `.`
unfoldable pub is_register_byte : ℕ → Bool
is_register_byte b = is_word_byte b || (b == 46)

-- the text begins with such a byte
abbrev pub begins_with : (ℕ → Bool) → List ℕ → Bool
begins_with p [] = false
begins_with p (b ∷ bs) = p b

-- one such byte or more, and no other
abbrev pub is_run : (ℕ → Bool) → List ℕ → Bool
is_run p text = begins_with p text && list_all p text

-- one digit or more
abbrev pub are_digits : List ℕ → Bool
are_digits text = is_run is_digit text

-- the byte c, and a run of such bytes behind it
abbrev pub is_run_behind : ℕ → (ℕ → Bool) → List ℕ → Bool
is_run_behind c p [] = false
is_run_behind c p (b ∷ text) = (b == c) && is_run p text
