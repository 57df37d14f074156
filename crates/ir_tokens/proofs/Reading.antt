-- Reading one more token of a text.
use Rattle.ir_tokens.proofs.Common.{◌≡◌, ℕ, false, List, [], ◌∷◌, ◌++◌, sym, subst, append_assoc, Section, IsTokenAt, TokensFrom, AreTokens, token, place_behind, Placed, is_last}

-- the tokens in front, and then any tokens of the text from this offset on, are tokens of the whole text
abbrev pub SoFar : List ℕ → Section → ℕ → List Placed → Type 0
SoFar text place at front = (tokens : List Placed) → TokensFrom text place at tokens → AreTokens text (front ++ tokens)

pub token_read : (text : List ℕ) (place : Section) (at end : ℕ) (front : List Placed) (t : Placed) → SoFar text place at front → IsTokenAt text place at t end → is_last t.1 ≡ false → SoFar text (place_behind place t) end (front ++ t ∷ [])
token_read text place at end front t so_far is more tokens h = subst (AreTokens text) (sym (append_assoc front (t ∷ []) tokens)) (so_far (t ∷ tokens) (token is more h))
