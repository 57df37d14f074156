-- A reader moves over one more token.
use Rattle.ir_tokens.proofs.Common.{◌≡◌, ℕ, true, false, List, [], ◌∷◌, ◌++◌, sym, ap, subst, ◌∙◌, append_assoc, Section, IsTokenAt, AreTokens, last, place_behind, Placed, is_last}
use Rattle.ir_tokens.proofs.Reading.{SoFar, token_read}

pub token_passed : (text own : List ℕ) (place : Section) (at end : ℕ) (front some new : List Placed) (t : Placed) → own ≡ text → new ≡ some ++ t ∷ [] → SoFar text place at (front ++ some) → IsTokenAt own place at t end → is_last t.1 ≡ false → SoFar text (place_behind place t) end (front ++ new)
token_passed text own place at end front some new t same more so_far is goes =
    subst (SoFar text (place_behind place t) end) (append_assoc front some (t ∷ []) ∙ ap (λ l. front ++ l) (sym more))
    (token_read text place at end (front ++ some) t so_far (subst (λ x. IsTokenAt x place at t end) same is) goes)

pub last_passed : (text own : List ℕ) (place : Section) (at end : ℕ) (front some new : List Placed) (t : Placed) → own ≡ text → new ≡ some ++ t ∷ [] → SoFar text place at (front ++ some) → IsTokenAt own place at t end → is_last t.1 ≡ true → AreTokens text (front ++ new)
last_passed text own place at end front some new t same more so_far is ends =
    subst (AreTokens text) (append_assoc front some (t ∷ []) ∙ ap (λ l. front ++ l) (sym more)) (so_far (t ∷ []) (last (subst (λ x. IsTokenAt x place at t end) same is) ends))
