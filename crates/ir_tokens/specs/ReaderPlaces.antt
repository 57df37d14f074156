-- How far a reader has come in the tokens of a text.
use Rattle.std.specs.Prelude.{◌≡◌, ◌<◌, ◌≤◌, ℕ, Bool, true, false, List, ◌++◌, length, take, fold}
use Rattle.ir_tokens.specs.declared.place.Section.{Section}
use Rattle.ir_tokens.specs.declared.place.Section.TheVariants.{AtEntry}
use Rattle.ir_tokens.specs.declared.reader.TokenReader.{TokenReader}
use Rattle.ir_tokens.specs.Order.{AreTokens, TokensFrom}
use Rattle.ir_tokens.specs.Places.{place_behind}
use Rattle.ir_tokens.specs.Tokens.{Placed}

-- the reader is one of this text
pub record StandsIn (text : List ℕ) (reader : TokenReader) : Type 0 where
  pub of_text : reader.text.now ≡ text
  pub cursor : reader.cursor.text ≡ text
  pub within : reader.cursor.at ≤ length text

-- the reader has read these tokens: with any tokens of the rest of the text behind them, they are tokens of the text
pub record HasPassed (text : List ℕ) (front : List Placed) (reader : TokenReader) : Type 0 where
  pub stands : StandsIn text reader
  pub leads : (tokens : List Placed) → TokensFrom text reader.place reader.cursor.at tokens → AreTokens text (front ++ tokens)

-- if the text ended, the tokens in front are all its tokens, and else they are those that the reader has read
abbrev pub HasCome : List ℕ → List Placed → Bool → TokenReader → Type 0
HasCome text front true reader = AreTokens text front
HasCome text front false reader = HasPassed text front reader

-- the context behind tokens of which the first stands in this context
abbrev pub place_behind_all : Section → List Placed → Section
place_behind_all place tokens = fold place_behind place tokens

-- an entry may begin in the context
abbrev pub MayBegin : Section → Type 0
MayBegin (AtEntry before) = Unit {0}
MayBegin place = ⊥

-- The tokens are those of one entry that begins in this context: there is at least one, another entry may begin behind
-- none of them but the last, and one may begin behind the last, unless the text ended.
pub record IsOneEntry (place : Section) (tokens : List Placed) (ends : Bool) : Type 0 where
  pub some : 0 < length tokens
  pub before : (k : ℕ) → 0 < k → k < length tokens → ¬ MayBegin (place_behind_all place (take k tokens))
  pub behind : ends ≡ false → MayBegin (place_behind_all place tokens)
