-- Lists of numbers as bytes: their length, then the numbers.
use Rattle.packed_log.proofs.Common.{◌≡◌, ℕ, zero, suc, ◌+◌, ◌^◌, ◌<◌, List, [], ◌∷◌, ◌++◌, All, refl, sym, ap, subst, ◌∙◌, append_assoc, arith, add-one, append-nil, All-head, All-tail, first_number, behind_number, numbers, behind, first_list, behind_list, Adds, IsNumber}

pub numbers_more : (count : ℕ) (bytes : List ℕ) → numbers (suc count) bytes ≡ numbers count bytes ++ first_number (behind count bytes) ∷ []
numbers_more zero bytes = refl
numbers_more (suc count) bytes = ap (λ (k : List ℕ). first_number bytes ∷ k) (numbers_more count (behind_number bytes))

pub behind_more : (count : ℕ) (bytes : List ℕ) → behind (suc count) bytes ≡ behind_number (behind count bytes)
behind_more zero bytes = refl
behind_more (suc count) bytes = behind_more count (behind_number bytes)

-- what is true of each of the first numbers of the bytes is true of the one at a place
pub of_each : (P : ℕ → Type 0) (count place : ℕ) (bytes : List ℕ) → place < count → All P (numbers count bytes) → P (first_number (behind place bytes))
of_each P zero place bytes within all = absurd (omega (arith, within))
of_each P (suc count) zero bytes within all = All-head P _ _ all
of_each P (suc count) (suc place) bytes within all = of_each P count place (behind_number bytes) (omega (arith, within)) (All-tail P _ _ all)

-- The word is exactly these numbers, `count` of them, whatever bytes follow it.
pub record AreNumbers (count : ℕ) (ns word : List ℕ) : Type 0 where
  pub first : (rest : List ℕ) → numbers count (word ++ rest) ≡ ns
  pub behind_is : (rest : List ℕ) → behind count (word ++ rest) ≡ rest

one_more : (count n : ℕ) (ns word last : List ℕ) → AreNumbers count ns word → IsNumber n last → AreNumbers (suc count) (ns ++ n ∷ []) (word ++ last)
one_more count n ns word last h k = record {
  first = λ rest.
      ap (numbers (suc count)) (append_assoc word last rest) ∙ numbers_more count (word ++ (last ++ rest))
      ∙ ap (λ (s : List ℕ). s ++ first_number (behind count (word ++ (last ++ rest))) ∷ []) (h.first (last ++ rest))
      ∙ ap (λ (s : List ℕ). ns ++ first_number s ∷ []) (h.behind_is (last ++ rest)) ∙ ap (λ (m : ℕ). ns ++ m ∷ []) (k.first rest);
  behind_is = λ rest.
      ap (behind (suc count)) (append_assoc word last rest) ∙ behind_more count (word ++ (last ++ rest))
      ∙ ap behind_number (h.behind_is (last ++ rest)) ∙ k.behind rest;
}

-- To the old bytes were added the length `total` of a list, and the first `count` of its numbers, of which R holds.
pub record ListSoFar (total count : ℕ) (R : List ℕ → Type 0) (old new : List ℕ) : Type 0 where
  pub head : List ℕ
  pub is_head : IsNumber total head
  pub ns : List ℕ
  pub word : List ℕ
  pub are : AreNumbers count ns word
  pub right : R ns
  pub is : new ≡ old ++ (head ++ word)

-- The word is exactly the list, whatever bytes follow it.
pub record IsList (ns word : List ℕ) : Type 0 where
  pub first : (rest : List ℕ) → first_list (word ++ rest) ≡ ns
  pub behind_is : (rest : List ℕ) → behind_list (word ++ rest) ≡ rest
  pub few : (rest : List ℕ) → first_number (word ++ rest) < 2 ^ 64

pub list_begins : (total : ℕ) (R : List ℕ → Type 0) (old new : List ℕ) → Adds (IsNumber total) old new → R [] → ListSoFar total 0 R old new
list_begins total R old new adds right = record {
  head = adds.0;
  is_head = adds.2;
  ns = [];
  word = [];
  are = record { first = λ rest. refl; behind_is = λ rest. refl };
  right = right;
  is = adds.1 ∙ ap (λ (s : List ℕ). old ++ s) (sym (append-nil adds.0));
}

pub list_more : (total count n : ℕ) (R S : List ℕ → Type 0) (old new newer : List ℕ) → ListSoFar total count R old new → ((ns : List ℕ) → R ns → S (ns ++ n ∷ [])) → Adds (IsNumber n) new newer → ListSoFar total (count + 1) S old newer
list_more total count n R S old new newer h step adds = record {
  head = h.head;
  is_head = h.is_head;
  ns = h.ns ++ n ∷ [];
  word = h.word ++ adds.0;
  are = subst (λ (k : ℕ). AreNumbers k (h.ns ++ n ∷ []) (h.word ++ adds.0)) (sym (add-one count)) (one_more count n h.ns h.word adds.0 h.are adds.2);
  right = step h.ns h.right;
  is = adds.1 ∙ ap (λ (s : List ℕ). s ++ adds.0) h.is ∙ append_assoc old (h.head ++ h.word) adds.0 ∙ ap (λ (s : List ℕ). old ++ s) (append_assoc h.head h.word adds.0);
}

-- what was added is a list of numbers of which R holds
pub record AddsList (R : List ℕ → Type 0) (old new : List ℕ) : Type 0 where
  pub ns : List ℕ
  pub right : R ns
  pub adds : Adds (IsList ns) old new

pub list_done : (total : ℕ) (R : List ℕ → Type 0) (old new : List ℕ) → total < 2 ^ 64 → ListSoFar total total R old new → AddsList R old new
list_done total R old new few h = record {
  ns = h.ns;
  right = h.right;
  adds = (
    h.head ++ h.word,
    h.is,
    record {
      first = λ rest. ap first_list (append_assoc h.head h.word rest) ∙ ap (λ (k : ℕ). numbers k (behind_number (h.head ++ (h.word ++ rest)))) (h.is_head.first (h.word ++ rest))
          ∙ ap (numbers total) (h.is_head.behind (h.word ++ rest)) ∙ h.are.first rest;
      behind_is = λ rest. ap behind_list (append_assoc h.head h.word rest) ∙ ap (λ (k : ℕ). behind k (behind_number (h.head ++ (h.word ++ rest)))) (h.is_head.first (h.word ++ rest))
          ∙ ap (behind total) (h.is_head.behind (h.word ++ rest)) ∙ h.are.behind_is rest;
      few = λ rest. subst (λ (k : ℕ). k < 2 ^ 64) (sym (ap first_number (append_assoc h.head h.word rest) ∙ h.is_head.first (h.word ++ rest))) few;
    },
  );
}
