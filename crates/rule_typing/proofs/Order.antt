-- Lexicographic order of lists of one length, by the first place at which they differ.
use Rattle.rule_typing.proofs.Common.{◌≡◌, ◌⊎◌, inl, inr, ℕ, zero, suc, ◌<◌, List, [], ◌∷◌, length, refl, ◌∙◌, arith, slice_index, cases_lt, ComesBefore, AtMost}

-- the lists are equal before place p
abbrev pub Alike : ℕ → List ℕ → List ℕ → Type 0
Alike p xs ys = (c : ℕ) → c < p → slice_index xs c ≡ slice_index ys c

abbrev pub DifferAt : ℕ → List ℕ → List ℕ → Type 0
DifferAt p xs ys = (p < length xs) × Alike p xs ys × (slice_index xs p < slice_index ys p)

pub before_from : (xs ys : List ℕ) (p : ℕ) → length xs ≡ length ys → DifferAt p xs ys → ComesBefore xs ys
before_from [] ys p same (within, alike, less) = absurd (omega arith)
before_from (x ∷ xs) [] p same differ = absurd (omega arith)
before_from (x ∷ xs) (y ∷ ys) zero same (within, alike, less) = inl less
before_from (x ∷ xs) (y ∷ ys) (suc p) same (within, alike, less) =
    inr (alike 0 (omega arith), before_from xs ys p (omega arith) (omega arith, λ c below. alike (suc c) (omega arith), less))

alike_more : (x y : ℕ) (xs ys : List ℕ) (p : ℕ) → x ≡ y → Alike p xs ys → Alike (suc p) (x ∷ xs) (y ∷ ys)
alike_more x y xs ys p same alike zero less = same
alike_more x y xs ys p same alike (suc c) less = alike c (omega arith)

pub differ_from : (xs ys : List ℕ) → length xs ≡ length ys → ComesBefore xs ys → (p : ℕ) × DifferAt p xs ys
differ_from [] [] same before = absurd before
differ_from [] (y ∷ ys) same before = absurd (omega arith)
differ_from (x ∷ xs) [] same before = absurd before
differ_from (x ∷ xs) (y ∷ ys) same (inl less) = (0, (omega arith, λ c below. absurd (omega arith), less))
differ_from (x ∷ xs) (y ∷ ys) same (inr (first, before)) =
    let (p, (within, alike, less)) = differ_from xs ys (omega arith) before in (suc p, (omega arith, alike_more x y xs ys p first alike, less))

pub same_or_before : (xs ys : List ℕ) → length xs ≡ length ys → AtMost xs ys → (xs ≡ ys) ⊎ ComesBefore xs ys
same_or_before [] [] same most = inl refl
same_or_before [] (y ∷ ys) same most = absurd (omega arith)
same_or_before (x ∷ xs) [] same most = absurd (omega arith)
same_or_before (x ∷ xs) (y ∷ ys) same most = elim (cases_lt x y) [
  | inl less ↦ inr (inl less)
  | inr not_less ↦
      let first : x ≡ y = let h = most 0 in omega arith in
      elim (same_or_before xs ys (omega arith) (λ c. most (suc c))) [ inl rest ↦ inl (rw (first, rest) refl) | inr before ↦ inr (inr (first, before)) ]
]

pub before_along : (xs ys zs : List ℕ) → ComesBefore xs ys → ComesBefore ys zs → ComesBefore xs zs
before_along [] [] zs first second = absurd first
before_along [] (y ∷ ys) [] first second = absurd second
before_along [] (y ∷ ys) (z ∷ zs) first second = tt
before_along (x ∷ xs) [] zs first second = absurd first
before_along (x ∷ xs) (y ∷ ys) [] first second = absurd second
before_along (x ∷ xs) (y ∷ ys) (z ∷ zs) (inl less) (inl less') = inl (omega arith)
before_along (x ∷ xs) (y ∷ ys) (z ∷ zs) (inl less) (inr (same', before')) = inl (omega arith)
before_along (x ∷ xs) (y ∷ ys) (z ∷ zs) (inr (same, before)) (inl less') = inl (omega arith)
before_along (x ∷ xs) (y ∷ ys) (z ∷ zs) (inr (same, before)) (inr (same', before')) = inr (same ∙ same', before_along xs ys zs before before')
