-- Tables of keywords: the entry that is found is spelled by the word, and each word that is spelled is found.
use Rattle.ops.proofs.Common.{◌≡◌, ℕ, Bool, true, false, cond, List, [], ◌∷◌, Option, Some, refl, subst, find, bytes_eq, bytes_eq-Decides, Pred, Eq, Ne, Ugt, Uge, Ult, Ule, Sgt, Sge, Slt, Sle, predicate_keyword, predicates, pred_in}

pub same_word : (word wanted : List ℕ) → bytes_eq word wanted ≡ true → word ≡ wanted
same_word word wanted e = (bytes_eq-Decides word wanted).0 e

pub word_is : (word : List ℕ) → bytes_eq word word ≡ true
word_is word = (bytes_eq-Decides word word).1 refl

-- what is found passes the test
first_passes : {A : Type 0} (p : A → Bool) (x y : A) (rest : Option A) (b : Bool) → p x ≡ b → (rest ≡ Some y → p y ≡ true) → cond b (Some x) rest ≡ Some y → p y ≡ true
first_passes p x y rest true h others e = let same : x ≡ y = cc in subst (λ z. p z ≡ true) same h
first_passes p x y rest false h others e = others e

pub found-passes : {A : Type 0} (p : A → Bool) (xs : List A) (y : A) → find p xs ≡ Some y → p y ≡ true
found-passes p [] y e = absurd cc
found-passes p (x ∷ xs) y e = first_passes p x y (find p xs) (p x) refl (found-passes p xs y) e

pub pred_in-is : (word : List ℕ) (pred : Pred) → pred_in word ≡ Some pred → word ≡ predicate_keyword pred
unfolding pred_in
pred_in-is word pred e = same_word word (predicate_keyword pred) (found-passes (λ (p : Pred). bytes_eq word (predicate_keyword p)) predicates pred e)

pub pred_in-of : (pred : Pred) → pred_in (predicate_keyword pred) ≡ Some pred
unfolding pred_in
pred_in-of Eq = refl
pred_in-of Ne = refl
pred_in-of Ugt = refl
pred_in-of Uge = refl
pred_in-of Ult = refl
pred_in-of Ule = refl
pred_in-of Sgt = refl
pred_in-of Sge = refl
pred_in-of Slt = refl
pred_in-of Sle = refl
