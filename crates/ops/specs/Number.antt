-- Numbers of an integer type `iN`.
use Rattle.std.specs.Prelude.{ℕ}

-- a number and the width of its type, in bits
pub record Number : Type 0 where
  pub width : ℕ
  pub number : ℕ
