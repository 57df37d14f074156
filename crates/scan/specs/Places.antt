-- What contracts see of a cursor.
use Rattle.std.specs.Prelude.{ℕ, List}

-- a text, and a place in it: a byte offset, at most the text's length
pub record Place : Type 0 where
  pub text : List ℕ
  pub at : ℕ
