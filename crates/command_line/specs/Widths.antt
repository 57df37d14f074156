-- Lists of widths, as `1-8,16`.
use Rattle.std.specs.Prelude.{◌≡◌, ℕ, zero, suc, ◌==◌, ◌&&◌, Bool, true, not, List, [], ◌∷◌, ◌++◌, if◌then◌else◌, filter, nat_le, slice_index}
use Rattle.std.specs.List.{list_all, list_any, slice_split, before_first, after_first}
use Rattle.std.specs.Str.{all_ascii_digits}
use Rattle.std.specs.Str.Parse.{digits_value}

-- a comma and a hyphen
abbrev pub is_comma : ℕ → Bool
is_comma b = b == 44

abbrev pub is_hyphen : ℕ → Bool
is_hyphen b = b == 45

-- the number that decimal digits spell
abbrev pub number : List ℕ → ℕ
number digits = digits_value 10 digits

-- digits alone, without a leading zero, of a number from 1 to 64
abbrev pub is_width : List ℕ → Bool
is_width text = all_ascii_digits text && not (slice_index text 0 == 48) && nat_le 1 (number text) && nat_le (number text) 64

-- the ends of an item, which is `a` or `a-b`: a, and b, which is a where it is missing
abbrev pub first_of_item : List ℕ → List ℕ
first_of_item item = before_first is_hyphen item

abbrev pub last_of_item : List ℕ → List ℕ
last_of_item item = if list_any is_hyphen item then after_first is_hyphen item else item

-- the item is well-formed: two widths, the first not above the second
abbrev pub is_item : List ℕ → Bool
is_item item = is_width (first_of_item item) && is_width (last_of_item item) && nat_le (number (first_of_item item)) (number (last_of_item item))

-- the item's span holds the width
abbrev pub names : ℕ → List ℕ → Bool
names width item = nat_le (number (first_of_item item)) width && nat_le width (number (last_of_item item))

-- the items of a list, without the commas between them
abbrev pub items : List ℕ → List (List ℕ)
items text = slice_split is_comma text

-- each item is well-formed
abbrev pub is_width_list : List ℕ → Bool
is_width_list text = list_all is_item (items text)

-- the numbers from 1 to n, in order
unfoldable pub up_to : ℕ → List ℕ
up_to zero = []
up_to (suc n) = up_to n ++ suc n ∷ []

-- the widths in some item's span, ascending and each once
abbrev pub widths_named : List ℕ → List ℕ
widths_named text = filter (λ width. list_any (names width) (items text)) (up_to 64)

-- the text is a list of widths, and these are its widths
abbrev pub IsWidthList : List ℕ → List ℕ → Type 0
IsWidthList text widths = (is_width_list text ≡ true) × (widths ≡ widths_named text)
