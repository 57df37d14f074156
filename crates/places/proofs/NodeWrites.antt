-- What nodes are once a field of one is written.
use Rattle.places.proofs.Common.{◌≡◌, ℕ, suc, ◌+◌, ◌<◌, ◌≤◌, cond, eqb, ◌⊎◌, None, Some, Contains, inl, inr, List, [], ◌∷◌, ◌++◌, length, set, Result, Ok, Err, refl, sym, ap, subst, ◌∙◌, arith, length-set, length-append, get_or-set_same, get_or-set_other, ◌↔◌, slice_get, OnErr, cases_eq, cases_lt, cond-true, cond-false, eq-eqb, ne_eqb, get_or_past, get_or_append_left, get_or_push, set_past, Node, none, place_in, put_before, node_of, no_node, IsListing, numbers_from, linked_in}
use Rattle.places.proofs.Linking.{numbers-listing, linked-within, linked-after, linked-before, some-at, labels-order}
use Rattle.places.proofs.Members.{at_place}
use Rattle.places.proofs.LinkedIn.{IsPut, put-listing}

-- a write that leaves a field of the node as it was leaves it in all nodes
pub kept-field : {A : Type 0} (f : Node → A) (nodes : List Node) (i : ℕ) (y : Node) → f y ≡ f (node_of nodes i) → (k : ℕ) → f (node_of (set nodes i y) k) ≡ f (node_of nodes k)
kept-field f nodes i y same k =
    elim (cases_eq i k) [
      | inl e ↦ elim (cases_lt i (length nodes)) [
        | inl within ↦ subst (λ j. f (node_of (set nodes i y) j) ≡ f (node_of nodes j)) e (ap f (get_or-set_same nodes i y no_node within) ∙ same)
        | inr past ↦ ap (λ l. f (node_of l k)) (set_past nodes i y past)
      ]
      | inr ne ↦ ap f (get_or-set_other nodes i k y no_node (λ e. ne (sym e)))
    ]

pub written-field : {A : Type 0} (f : Node → A) (nodes : List Node) (i : ℕ) (y : Node) (v : A) → f y ≡ v → (k : ℕ) → k < length nodes → f (node_of (set nodes i y) k) ≡ cond (eqb i k) v (f (node_of nodes k))
written-field f nodes i y v is k within =
    elim (cases_eq i k) [
      | inl e ↦
          subst (λ j. f (node_of (set nodes i y) j) ≡ v) e (ap f (get_or-set_same nodes i y no_node (let same = e in omega arith)) ∙ is)
          ∙ sym (cond-true _ _ _ (eq-eqb i k e))
      | inr ne ↦ ap f (get_or-set_other nodes i k y no_node (λ e. ne (sym e))) ∙ sym (cond-false _ _ _ (ne_eqb i k ne))
    ]

-- the nodes with a new one pushed and linked in before another
abbrev pub put_in : List Node → ℕ → ℕ → ℕ → List Node
put_in nodes at p label = linked_in (nodes ++ record { label = label; before = p; after = at } ∷ []) at p (length nodes)

pub put_in-is : (nodes : List Node) (at p label : ℕ) → at < length nodes → (p ≡ none) ⊎ (p < length nodes) → length nodes < none → (node_of nodes at).before ≡ p → (node_of nodes p).label < label → label < (node_of nodes at).label
    → IsPut nodes (put_in nodes at p label) (length nodes) at p
put_in-is nodes at p label within outside few was low high = record {
  many = refl;
  longer = length-set back p z ∙ length-set more at y ∙ more_length;
  within = within;
  was = was;
  own_before = kept-field (λ (x : Node). x.before) back p z refl (length nodes) ∙ written-field (λ (x : Node). x.before) more at y (length nodes) refl (length nodes) own_within
      ∙ cond-false _ _ _ (ne_eqb at (length nodes) (λ e. omega arith)) ∙ ap (λ (x : Node). x.before) own;
  own_after = written-field (λ (x : Node). x.after) back p z (length nodes) refl (length nodes) (let e = length-set more at y in omega (arith, own_within))
      ∙ cond-false _ _ _ (ne_eqb p (length nodes) p_other) ∙ kept-field (λ (x : Node). x.after) more at y refl (length nodes) ∙ ap (λ (x : Node). x.after) own;
  low = subst (λ l. (node_of nodes p).label < l) (sym own_label) low;
  high = subst (λ l. l < (node_of nodes at).label) (sym own_label) high;
  labels = λ k other. all_labels k ∙ ap (λ (x : Node). x.label) (kept k other);
  befores = λ k inside. kept-field (λ (x : Node). x.before) back p z refl k ∙ written-field (λ (x : Node). x.before) more at y (length nodes) refl k (omega (arith, more_length))
      ∙ ap (λ b. cond (eqb at k) (length nodes) b) (ap (λ (x : Node). x.before) (get_or_append_left nodes _ no_node k inside));
  afters = λ k inside. written-field (λ (x : Node). x.after) back p z (length nodes) refl k (let e = length-set more at y in omega (arith, more_length))
      ∙ ap (λ a. cond (eqb p k) (length nodes) a) (kept-field (λ (x : Node). x.after) more at y refl k ∙ ap (λ (x : Node). x.after) (get_or_append_left nodes _ no_node k inside));
}
  where
    x : Node
    x = record { label = label; before = p; after = at }

    more : List Node
    more = nodes ++ x ∷ []

    y : Node
    y = record { label = (node_of more at).label; before = length nodes; after = (node_of more at).after }

    back : List Node
    back = set more at y

    z : Node
    z = record { label = (node_of back p).label; before = (node_of back p).before; after = length nodes }

    more_length : length more ≡ suc (length nodes)
    more_length = length-append nodes (x ∷ []) ∙ (omega arith)

    own_within : length nodes < length more
    own_within = omega (arith, more_length)

    own : node_of more (length nodes) ≡ x
    own = get_or_push nodes x no_node (length nodes) refl

    all_labels : (k : ℕ) → (node_of (set back p z) k).label ≡ (node_of more k).label
    all_labels k = kept-field (λ (x : Node). x.label) back p z refl k ∙ kept-field (λ (x : Node). x.label) more at y refl k

    own_label : (node_of (set back p z) (length nodes)).label ≡ label
    own_label = all_labels (length nodes) ∙ ap (λ (x : Node). x.label) own

    p_other : p ≡ length nodes → ⊥
    p_other e = elim outside [ inl is ↦ omega arith | inr lt ↦ omega arith ]

    kept : (k : ℕ) → (k ≡ length nodes → ⊥) → node_of more k ≡ node_of nodes k
    kept k other =
        elim (cases_lt k (length nodes)) [
          | inl lt ↦ get_or_append_left nodes (x ∷ []) no_node k lt
          | inr ge ↦ get_or_past more k no_node (omega (arith, more_length)) ∙ sym (get_or_past nodes k no_node ge)
        ]

-- numbers that the list is are those that its links lead through
pub listing-own : (nodes : List Node) (d first : ℕ) (ns : List ℕ) → IsListing nodes d first ns → IsListing nodes d first (numbers_from nodes first)
listing-own nodes d first ns h = subst (IsListing nodes d first) (sym (numbers-listing nodes d first ns h)) h

-- one more number is linked in
pub put-done : (nodes new : List Node) (first at p label number : ℕ) (ns : List ℕ) → IsListing nodes 0 first ns → at < length nodes → length nodes + 1 ≤ none → p ≡ (node_of nodes at).before → number ≡ length nodes
    → (node_of nodes p).label < label → label < (node_of nodes at).label → new ≡ linked_in (nodes ++ record { label = label; before = p; after = at } ∷ []) at p number → IsListing new 0 (cond (eqb p none) number first) (put_before ns at number)
put-done nodes new first at p label number ns h within few was is low high new_is =
    let there = at_place ns at (h.all at within) in
    let behind : (p ≡ none) ⊎ (p < length nodes) =
    subst (λ q. (q ≡ none) ⊎ (q < length nodes)) (ap (λ n. (node_of nodes n).before) there.is ∙ sym was) (linked-before nodes 0 none first ns (place_in ns at) h.linked there.within) in
    let done = put-listing nodes (put_in nodes at p label) (length nodes) at p first ns (put_in-is nodes at p label within behind (omega arith) (sym was) low high) (omega arith) h in
    subst (λ l. IsListing l 0 (cond (eqb p none) number first) (put_before ns at number)) (sym new_is)
    (subst (λ m. IsListing (linked_in (nodes ++ record { label = label; before = p; after = at } ∷ []) at p m) 0 (cond (eqb p none) m first) (put_before ns at m)) (sym is) done)

pub listing-inside : (nodes : List Node) (d first : ℕ) (ns : List ℕ) (n : ℕ) → IsListing nodes d first ns → Contains ns n → n < length nodes
listing-inside nodes d first ns n h c =
    let there = at_place ns n c in
    subst (λ m. m < length nodes) there.is (linked-within nodes d none first ns (place_in ns n) h.linked there.within)

pub listing-next : (nodes : List Node) (d first : ℕ) (ns : List ℕ) (n : ℕ) → IsListing nodes d first ns → Contains ns n → cond (eqb (node_of nodes n).after none) None (Some (node_of nodes n).after) ≡ slice_get ns (suc (place_in ns n))
listing-next nodes d first ns n h c =
    let there = at_place ns n c in
    let few = h.few in
    some-at nodes d none first ns (suc (place_in ns n)) (node_of nodes n).after (omega arith) h.linked
    (ap (λ m. (node_of nodes m).after) (sym there.is) ∙ linked-after nodes d none first ns (place_in ns n) h.linked there.within)

pub listing-order : (nodes : List Node) (d first : ℕ) (ns : List ℕ) (m n : ℕ) → IsListing nodes d first ns → Contains ns m → Contains ns n → ((node_of nodes m).label < (node_of nodes n).label) ↔ (place_in ns m < place_in ns n)
listing-order nodes d first ns m n h in_m in_n = labels-order nodes d none first ns m n h.linked (at_place ns m in_m) (at_place ns n in_n)

pub on_err : {T E : Type 0} (r : Result T E) (P : Type 0) → P → OnErr r P
on_err (Ok x) P p = tt
on_err (Err e) P p = p
