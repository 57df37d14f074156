-- Lists in which others replace an item.
use Rattle.substitution.proofs.Common.{◌≡◌, ℕ, ◌+◌, ◌-◌, ◌<◌, List, ◌++◌, length, take, drop, sym, ap, ◌∙◌, arith, append_assoc, drop-append_seam, take-append_seam, drop-append-add, length-append, drop-drop, length-take}

module _ {A : Type 0} where
  rotated : (xs ys : List A) (n : ℕ) → n ≡ length xs → drop n (xs ++ ys) ++ take n (xs ++ ys) ≡ ys ++ xs
  rotated xs ys n is = ap (λ k. drop k (xs ++ ys) ++ take k (xs ++ ys)) is ∙ ap (λ l. l ++ take (length xs) (xs ++ ys)) (drop-append_seam xs ys) ∙ ap (λ l. ys ++ l) (take-append_seam xs ys)

  -- all but the item behind xs
  without : (xs ys : List A) (n : ℕ) → n ≡ length xs → take n (xs ++ ys) ++ drop (n + 1) (xs ++ ys) ≡ xs ++ drop 1 ys
  without xs ys n is = ap (λ k. take k (xs ++ ys) ++ drop (k + 1) (xs ++ ys)) is ∙ ap (λ l. l ++ drop (length xs + 1) (xs ++ ys)) (take-append_seam xs ys) ∙ ap (λ l. xs ++ l) (drop-append-add xs ys 1)

  -- The result of the rotations and appends: those from the place on come first, then those before it; all of them go
  -- behind what is put, those before the place to the front, and the item at the place is removed.
  pub put_in : (all put first room last : List A) (p count n : ℕ) → p < length all → first ≡ drop p all ++ take p all → room ≡ put ++ first → n ≡ length room - p
      → last ≡ drop n room ++ take n room → count ≡ length put → take (p + count) last ++ drop (p + count + 1) last ≡ take p all ++ put ++ drop (p + 1) all
  put_in all put first room last p count n within rotates joins long moves counts =
      let front : length (take p all) ≡ p = omega (arith, length-take p all) in
      let whole : room ≡ (put ++ drop p all) ++ take p all = joins ∙ ap (λ l. put ++ l) rotates ∙ sym (append_assoc put (drop p all) (take p all)) in
      let size = ap length whole in
      let short : n ≡ length (put ++ drop p all) = omega (arith, length-append (put ++ drop p all) (take p all)) in
      let ends : last ≡ take p all ++ (put ++ drop p all) = moves ∙ ap (λ l. drop n l ++ take n l) whole ∙ rotated (put ++ drop p all) (take p all) n short in
      let grouped : last ≡ (take p all ++ put) ++ drop p all = ends ∙ sym (append_assoc (take p all) put (drop p all)) in
      let at : p + count ≡ length (take p all ++ put) = omega (arith, length-append (take p all) put) in
      ap (λ l. take (p + count) l ++ drop (p + count + 1) l) grouped ∙ without (take p all ++ put) (drop p all) (p + count) at ∙ ap (λ l. take p all ++ put ++ l) (drop-drop 1 p all)
