-- A list that is overwritten from its front: elements of ys before a place, and of xs from there on.
use Rattle.rule_typing.proofs.Common.{◌≡◌, ℕ, zero, suc, ◌+◌, ◌<◌, List, [], ◌∷◌, ◌++◌, length, take, drop, refl, ap, ◌∙◌, arith, get_or, add-one, slice_set}

pub seam_length : {X : Type 0} (ys xs : List X) (i : ℕ) → length ys ≡ length xs → length (take i ys ++ drop i xs) ≡ length xs
seam_length ys xs zero same = refl
seam_length [] [] (suc i) same = refl
seam_length [] (a ∷ xs) (suc i) same = absurd (omega arith)
seam_length (b ∷ ys) [] (suc i) same = absurd (omega arith)
seam_length (b ∷ ys) (a ∷ xs) (suc i) same = ap suc (seam_length ys xs i (omega arith))

pub seam_get : {X : Type 0} (ys xs : List X) (i : ℕ) (d : X) → length ys ≡ length xs → get_or (take i ys ++ drop i xs) i d ≡ get_or xs i d
seam_get ys xs zero d same = refl
seam_get [] [] (suc i) d same = refl
seam_get [] (a ∷ xs) (suc i) d same = absurd (omega arith)
seam_get (b ∷ ys) [] (suc i) d same = absurd (omega arith)
seam_get (b ∷ ys) (a ∷ xs) (suc i) d same = seam_get ys xs i d (omega arith)

pub seam_set : {X : Type 0} (ys xs : List X) (i : ℕ) (y : X) → length ys ≡ length xs → i < length xs → y ≡ get_or ys i y → slice_set (take i ys ++ drop i xs) i y ≡ take (suc i) ys ++ drop (suc i) xs
seam_set ys [] zero y same within is = absurd (omega arith)
seam_set [] (a ∷ xs) zero y same within is = absurd (omega arith)
seam_set (b ∷ ys) (a ∷ xs) zero y same within is = ap (λ x. x ∷ xs) is
seam_set ys [] (suc i) y same within is = absurd (omega arith)
seam_set [] (a ∷ xs) (suc i) y same within is = absurd (omega arith)
seam_set (b ∷ ys) (a ∷ xs) (suc i) y same within is = ap (λ l. b ∷ l) (seam_set ys xs i y (omega arith) (omega arith) is)

-- one more element is overwritten
pub seam_next : {X : Type 0} (ys xs now : List X) (i : ℕ) (x y : X) → now ≡ take i ys ++ drop i xs → length ys ≡ length xs → i < length xs → x ≡ get_or now i x → (x ≡ get_or xs i x → y ≡ get_or ys i y) → slice_set now i y ≡ take (i + 1) ys ++ drop (i + 1) xs
seam_next ys xs now i x y seam same within read written =
    let stood : x ≡ get_or xs i x = read ∙ ap (λ l. get_or l i x) seam ∙ seam_get ys xs i x same in
    ap (λ l. slice_set l i y) seam ∙ seam_set ys xs i y same within (written stood) ∙ rw add-one refl
