-- Labels of a list in which some are given anew, and of a new list.
use Rattle.places.proofs.Common.{◌≡◌, ℕ, zero, suc, ◌+◌, ◌-◌, ◌*◌, ◌<◌, ◌≤◌, cond, eqb, inl, inr, List, [], ◌∷◌, length, get_or, refl, sym, ap, subst, ◌∙◌, arith, range_with_len, cases_eq, cond-true, cond-false, eq-eqb, ne_eqb, get_or_past, length-range_with_len, get_or-range_with_len, Node, none, node_of, no_node, AreLinked, IsListing, first_node_at}
use Rattle.places.proofs.Members.{at_place}
use Rattle.places.proofs.Linking.{linked-room}

-- the label of each number is above that of the one before it by more than d
pub listing-room : (nodes : List Node) (d first : ℕ) (ns : List ℕ) (at : ℕ) → IsListing nodes d first ns → at < length nodes → (node_of nodes (node_of nodes at).before).label + d < (node_of nodes at).label
listing-room nodes d first ns at h within =
    let there = at_place ns at (h.all at within) in
    subst (λ n. (node_of nodes (node_of nodes n).before).label + d < (node_of nodes n).label) there.is (linked-room nodes d none first ns _ h.linked there.within)

-- The links are as they were.
pub record SameLinks (old new : List Node) : Type 0 where
  pub many : length new ≡ length old
  pub before : (n : ℕ) → (node_of new n).before ≡ (node_of old n).before
  pub after : (n : ℕ) → (node_of new n).after ≡ (node_of old n).after

-- The links lead through the same numbers, whose labels are above one another.
relinked : (old new : List Node) (q a : ℕ) (ns : List ℕ) → SameLinks old new → ((k : ℕ) → k < length ns → (node_of new (get_or (q ∷ ns) k none)).label < (node_of new (get_or ns k none)).label)
    → AreLinked old 0 q a ns → AreLinked new 0 q a ns
relinked old new q a [] same up h = h
relinked old new q a (n ∷ ns) same up h =
    let many = same.many in
    let within = h.0.within in
    let here : (node_of new q).label < (node_of new n).label = up 0 (omega arith) in (
      record { is = h.0.is; within = omega arith; back = same.before n ∙ h.0.back; up = omega arith },
      subst (λ x. AreLinked new 0 n x ns) (sym (same.after n)) (relinked old new n _ ns same (λ k lt. up (suc k) (omega arith)) h.1),
    )

pub relabelled : (old new : List Node) (first : ℕ) (ns : List ℕ) → IsListing old 0 first ns → SameLinks old new
    → ((k : ℕ) → k < length ns → (node_of new (get_or (none ∷ ns) k none)).label < (node_of new (get_or ns k none)).label) → IsListing new 0 first ns
relabelled old new first ns h same up =
    let same_many = same.many in
    let few = h.few in
    let many = h.many in
    record { few = omega arith; many = omega arith; all = λ n within. h.all n (omega arith); linked = relinked old new none first ns same up h.linked }

-- a new list is linked, and its labels increase
linked-first : (nodes : List Node) (count gap : ℕ) → 0 < gap → length nodes ≡ count → ((k : ℕ) → k < count → node_of nodes k ≡ first_node_at count gap k)
    → (k m q : ℕ) → k + m ≡ count → q ≡ cond (eqb k 0) none (k - 1) → (node_of nodes q).label ≡ k * gap → AreLinked nodes 0 q (cond (eqb k count) none k) (range_with_len k m)
linked-first nodes count gap wide many are k zero q all before label = cond-true _ _ _ (eq-eqb k count (omega arith))
linked-first nodes count gap wide many are k (suc m) q all before label =
    let inside : k < count = omega arith in
    let node = are k inside in
    let own : (node_of nodes k).label ≡ (k + 1) * gap = ap (λ (x : Node). x.label) node in
    let later : k + 1 ≡ 0 → ⊥ = λ e. omega arith in
    let ahead : k ≡ count → ⊥ = λ e. omega arith in (
      record {
        is = cond-false _ _ _ (ne_eqb k count ahead);
        within = omega arith;
        back = ap (λ (x : Node). x.before) node ∙ sym before;
        up = omega arith;
      },
      subst (λ x. AreLinked nodes 0 k x (range_with_len (k + 1) m)) (sym (ap (λ (x : Node). x.after) node))
          (linked-first nodes count gap wide many are (k + 1) m k (omega arith) (sym (cond-false _ _ _ (ne_eqb (k + 1) 0 later) ∙ (omega arith))) own),
    )

pub first-listing : (nodes : List Node) (count gap : ℕ) → 0 < gap → count ≤ none → length nodes ≡ count → ((k : ℕ) → k < count → node_of nodes k ≡ first_node_at count gap k)
    → IsListing nodes 0 (cond (eqb count 0) none 0) (range_with_len 0 count)
first-listing nodes count gap wide few many are =
    let all = length-range_with_len 0 count in
    let unset : (node_of nodes none).label ≡ 0 * gap = ap (λ (x : Node). x.label) (get_or_past nodes none no_node (omega arith)) ∙ (omega arith) in
    let turned : cond (eqb 0 count) none 0 ≡ cond (eqb count 0) none 0 =
    elim (cases_eq count 0) [
      | inl e ↦ cond-true _ _ _ (eq-eqb 0 count (sym e)) ∙ sym (cond-true _ _ _ (eq-eqb count 0 e))
      | inr ne ↦ cond-false _ _ _ (ne_eqb 0 count (λ e. ne (sym e))) ∙ sym (cond-false _ _ _ (ne_eqb count 0 ne))
    ] in
    record {
      few = omega arith;
      many = omega arith;
      all = λ n within. (n, omega arith, get_or-range_with_len 0 count n n (omega arith) ∙ (omega arith));
      linked = subst (λ x. AreLinked nodes 0 none x (range_with_len 0 count)) turned (linked-first nodes count gap wide many are 0 count none (omega arith) refl unset);
    }
