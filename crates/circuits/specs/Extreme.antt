-- The smaller and the larger of two numbers of one width, unsigned or signed.
use Rattle.std.specs.Prelude.{ℕ, Bool, true, false, nat_lt, int_lt, if◌then◌else◌}
use Rattle.circuits.specs.Word.{signed}

-- a is below b
abbrev pub is_less : Bool → ℕ → ℕ → ℕ → Bool
is_less true width a b = int_lt (signed width a) (signed width b)
is_less false width a b = nat_lt a b

abbrev pub smaller : Bool → ℕ → ℕ → ℕ → ℕ
smaller is_signed width a b = if is_less is_signed width a b then a else b

abbrev pub larger : Bool → ℕ → ℕ → ℕ → ℕ
larger is_signed width a b = if is_less is_signed width a b then b else a
