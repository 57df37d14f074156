-- The values that arguments spell for parameters.
use Rattle.std.specs.Prelude.{◌≡◌, ◌≢◌, ◌⊎◌, ℕ, ◌^◌, ◌==◌, nat_le, nat_lt, Bool, not, ◌&&◌, ◌||◌, if◌then◌else◌, List, length, map, Contains, slice_index, Option, None, Some, codes}
use Rattle.std.specs.List.{zip}
use Rattle.std.specs.Str.{all_ascii_digits, bytes_eq}
use Rattle.std.specs.Str.Parse.{digits_value}
use Rattle.ops.specs.Integer.{bits}
use Rattle.ops.specs.declared.value.Value.{Value}
use Rattle.ops.specs.declared.value.Value.TheVariants.{Poison}
use Rattle.ir_core.specs.declared.function.Parameter.{Parameter}

-- the number that decimal digits spell
abbrev pub number : List ℕ → ℕ
number digits = digits_value 10 digits

-- digits alone, without a leading zero but for 0 itself
abbrev pub is_decimal : List ℕ → Bool
is_decimal text = all_ascii_digits text && nat_le 1 (length text) && (not (slice_index text 0 == 48) || (length text == 1))

-- the number of iN that a decimal spells, if it is from 0 to 2^N - 1
abbrev pub decimal_said : ℕ → List ℕ → Option Value
decimal_said width text = if is_decimal text && nat_lt (number text) (2 ^ width) then Some (bits width (number text)) else None

-- at i1, `true` and `false` are words for numbers
abbrev pub is_true : ℕ → List ℕ → Bool
is_true width text = (width == 1) && bytes_eq text (codes "true")

abbrev pub is_false : ℕ → List ℕ → Bool
is_false width text = (width == 1) && bytes_eq text (codes "false")

-- the value of iN that an argument spells: `poison`, at i1 `true` or `false`, or a decimal
abbrev pub value_said : ℕ → List ℕ → Option Value
value_said width text =
    if bytes_eq text (codes "poison") then Some Poison
    else (if is_true width text then Some (bits 1 1)
    else (if is_false width text then Some (bits 1 0)
    else decimal_said width text))

-- what each word spells at the width of its parameter
abbrev pub values_said : List Parameter → List (List ℕ) → List (Option Value)
values_said parameters words = map (λ p. value_said p.0.width p.1) (zip parameters words)

-- there is one word for each parameter, and these are the values that they spell
pub record AreSaid (parameters : List Parameter) (words : List (List ℕ)) (values : List Value) : Type 0 where
  pub count : length words ≡ length parameters
  pub said : values_said parameters words ≡ map (λ v. Some v) values

-- there are more words than parameters, or fewer, or one spells no value of its parameter's width
abbrev pub DoNotFit : List Parameter → List (List ℕ) → Type 0
DoNotFit parameters words = (length words ≢ length parameters) ⊎ Contains (values_said parameters words) None

-- the text begins with a plus sign, or with a zero before other bytes: `parse` may take it, but it is no decimal here
abbrev pub begins_as_none : List ℕ → Bool
begins_as_none text = (slice_index text 0 == 43) || ((slice_index text 0 == 48) && nat_lt 1 (length text))
