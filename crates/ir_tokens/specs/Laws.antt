-- What holds of the tokens of every text.
use Rattle.std.specs.Prelude.{◌≡◌, ℕ, List}
use Rattle.ir_tokens.specs.Order.{AreTokens}
use Rattle.ir_tokens.specs.Tokens.{Placed}

-- a text has exactly one list of tokens
pub record TextsHaveOneListOfTokens : Type 0 where
  pub some : (text : List ℕ) → (tokens : List Placed) × AreTokens text tokens
  pub one : (text : List ℕ) (a b : List Placed) → AreTokens text a → AreTokens text b → a ≡ b
