-- The least number above all of a list, for lists one behind the other.
use Rattle.rule_typing.proofs.Common.{◌≡◌, inl, inr, ℕ, ◌+◌, ◌<◌, ◌≤◌, max, List, [], ◌∷◌, ◌++◌, length, get_or, take, refl, sym, ap, subst, ◌∙◌, arith, Contains, flat_map, Some, nat_cmp, ord_max, cases_eq, cases_lt, nat_tests, take_more, flat_map-append, slice_get-get_or, Contains-append_left, Contains-append_right, Contains-append_cases, Rule, Register, Node, classes_of, classes_of_node, Contains-from_get, IsClassified, HasClasses, IsPast}
use Rattle.std.proofs.Common.{append-nil}
use Rattle.rule_core.specs.declared.rule.Node.TheVariants as nodes

pub past_one : (a n : ℕ) → n ≡ a + 1 → IsPast (a ∷ []) n
past_one a n is = record {
  past = λ c (k, within, e). let h : k ≡ 0 = omega arith in let same : a ≡ c = subst (λ j. get_or (a ∷ []) j c ≡ c) h e in omega arith;
  least = λ c less. (a, (0, omega arith, refl), omega arith);
}

pub past_both : (xs ys : List ℕ) (m n k : ℕ) → IsPast xs m → IsPast ys n → k ≡ max m n → IsPast (xs ++ ys) k
past_both xs ys m n k p q is = record {
  past = λ c among. elim (Contains-append_cases xs ys c among) [ inl left ↦ let h = p.past c left in omega arith | inr right ↦ let h = q.past c right in omega arith ];
  least = λ c less. elim (cases_lt c m) [
    | inl within ↦ let (d, among, at_most) = p.least c within in (d, Contains-append_left xs ys d among, at_most)
    | inr past ↦ let (d, among, at_most) = q.least c (omega arith) in (d, Contains-append_right xs ys d among, at_most)
  ];
}

pub past_next : (X : Type 0) (classes : X → List ℕ) (xs : List X) (i : ℕ) (x : X) (m n k : ℕ) → i < length xs → x ≡ get_or xs i x → IsPast (flat_map classes (take i xs)) m → IsPast (classes x) n → k ≡ max m n
    → IsPast (flat_map classes (take (i + 1) xs)) k
past_next X classes xs i x m n k within is p q most =
    rw (take_more xs i x within, ← is, flat_map-append classes (take i xs) (x ∷ []), append-nil (classes x))
    (past_both (flat_map classes (take i xs)) (classes x) m n k p q most)

-- the classes of a classified rule are the numbers below the least one above them
pub all_below : (rule : Rule) (n : ℕ) → IsClassified rule → IsPast (classes_of rule) n → HasClasses rule n
all_below rule n classified p c = (
  p.past c,
  λ less.
      let (d, (k, within, is), at_most) = p.least c less in
      elim (cases_eq c d) [
        | inl same ↦ subst (Contains (classes_of rule)) (sym same) (k, within, is)
        | inr other ↦
            let (q, before, there) = classified.numbers k d c (slice_get-get_or (classes_of rule) k d within ∙ ap (λ x. Some x) is) (omega arith) in
            Contains-from_get (classes_of rule) q c there
      ],
)

pub past_two : (r x n : ℕ) → n ≡ max r x + 1 → IsPast (r ∷ x ∷ []) n
past_two r x n is = past_both (r ∷ []) (x ∷ []) (r + 1) (x + 1) n (past_one r (r + 1) refl) (past_one x (x + 1) refl) (omega arith)

pub past_three : (r x y n : ℕ) → n ≡ max (max r x) y + 1 → IsPast (r ∷ x ∷ y ∷ []) n
past_three r x y n is = past_both (r ∷ x ∷ []) (y ∷ []) (max r x + 1) (y + 1) n (past_two r x (max r x + 1) refl) (past_one y (y + 1) refl) (omega arith)

pub past_four : (r x y z n : ℕ) → n ≡ max (max (max r x) y) z + 1 → IsPast (r ∷ x ∷ y ∷ z ∷ []) n
past_four r x y z n is =
    past_both (r ∷ x ∷ y ∷ []) (z ∷ []) (max (max r x) y + 1) (z + 1) n (past_three r x y (max (max r x) y + 1) refl) (past_one z (z + 1) refl) (omega arith)

-- any node but `width( )` has one position
pub past_node : (c : ℕ) (node : Node) → ((r : Register) (d : ℕ) → node ≡ nodes.Width r d → ⊥) → IsPast (classes_of_node c node) (c + 1)
past_node c (nodes.Literal z) other = past_one c (c + 1) refl
past_node c (nodes.Constant k) other = past_one c (c + 1) refl
past_node c (nodes.Register r) other = past_one c (c + 1) refl
past_node c (nodes.Choice k) other = past_one c (c + 1) refl
past_node c (nodes.Width r d) other = absurd (other r d refl)
past_node c (nodes.Unary function a) other = past_one c (c + 1) refl
past_node c (nodes.Binary op a b) other = past_one c (c + 1) refl

other_greater : (a b : ℕ) → a < b → ord_max nat_cmp a b ≡ b
other_greater a b less = grind (arith, nat_tests)

first_greater : (a b : ℕ) → b ≤ a → ord_max nat_cmp a b ≡ max a b
first_greater a b most = grind (arith, nat_tests)

-- `max` of two numbers of 64 bits
pub greater : (a b : ℕ) → ord_max nat_cmp a b ≡ max a b
greater a b = elim (cases_lt a b) [
  | inl less ↦ let e : max a b ≡ b = omega arith in other_greater a b less ∙ sym e
  | inr most ↦ first_greater a b most
]
