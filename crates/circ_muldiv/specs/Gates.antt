-- How many gates the circuits of products, quotients and overflows add at most, for words of `width` bits.
use Rattle.std.specs.Prelude.{ℕ, Bool, true, false, ◌+◌, ◌-◌, ◌*◌}
use Rattle.circuits.specs.Gates.{adder_gates, comparison_gates, select_gates}

-- A row of a product: for each bit a conjunction and a full adder.
abbrev pub row_gates : ℕ → ℕ
row_gates width = width + adder_gates width

-- A product, and whether it overflows: for the first row a conjunction for each bit; then a row of each smaller width,
-- and four gates for each of these that tell whether it loses a true bit.
abbrev pub product_gates : ℕ → ℕ
product_gates width = width + 3 * width * (width - 1) + 4 * (width - 1)

-- An absolute value: a negation, and a choice by the sign.
abbrev pub absolute_gates : ℕ → ℕ
absolute_gates width = adder_gates width + select_gates width

-- Whether a sum or a difference overflows: the sum, and three gates for the signs.
abbrev pub overflow_add_gates : ℕ → ℕ
overflow_add_gates width = adder_gates width + 3

-- Whether a product overflows: of unsigned numbers the product with its overflow; of signed ones that of the two
-- absolute values, and a comparison with the greatest absolute value.
abbrev pub overflow_mul_gates : Bool → ℕ → ℕ
overflow_mul_gates false width = product_gates width
overflow_mul_gates true width = 2 * absolute_gates width + product_gates width + comparison_gates width + 2

-- One step of a division: a difference of one more bit, and a choice by it.
abbrev pub division_step_gates : ℕ → ℕ
division_step_gates width = adder_gates (width + 1) + select_gates width

-- A quotient and a remainder: a step for each bit of the dividend.
abbrev pub division_gates : ℕ → ℕ
division_gates width = width * division_step_gates width

-- A signed quotient and remainder: two absolute values, the quotient and the remainder of these, whether the signs
-- differ, and for each of the two results a negation and a choice.
abbrev pub signed_division_gates : ℕ → ℕ
signed_division_gates width = 4 * absolute_gates width + division_gates width + 1
