-- What links say of the number at a place: its neighbours, and that labels increase.
use Rattle.places.proofs.Common.{◌≡◌, ℕ, zero, suc, ◌+◌, ◌<◌, ◌≤◌, cond, eqb, ◌⊎◌, inl, inr, List, [], ◌∷◌, length, get_or, None, Some, refl, sym, ap, subst, ◌∙◌, arith, ◌↔◌, slice_get, cases_eq, cases_lt, cases_order, cond-true, cond-false, eq-eqb, ne_eqb, get_or_past, slice_get-get_or, slice_get_past, Node, none, place_in, node_of, AreLinked, IsListing, walked, numbers_from}
use Rattle.places.proofs.Members.{AtPlace, at_place, contains_at}

pub linked-head : (nodes : List Node) (d q a : ℕ) (ns : List ℕ) → AreLinked nodes d q a ns → a ≡ get_or ns 0 none
linked-head nodes d q a [] h = h
linked-head nodes d q a (n ∷ ns) h = h.0.is

pub linked-within : (nodes : List Node) (d q a : ℕ) (ns : List ℕ) (k : ℕ) → AreLinked nodes d q a ns → k < length ns → get_or ns k none < length nodes
linked-within nodes d q a [] k h lt = absurd (omega arith)
linked-within nodes d q a (n ∷ ns) zero h lt = h.0.within
linked-within nodes d q a (n ∷ ns) (suc k) h lt = linked-within nodes d n _ ns k h.1 (omega arith)

pub linked-after : (nodes : List Node) (d q a : ℕ) (ns : List ℕ) (k : ℕ) → AreLinked nodes d q a ns → k < length ns → (node_of nodes (get_or ns k none)).after ≡ get_or ns (suc k) none
linked-after nodes d q a [] k h lt = absurd (omega arith)
linked-after nodes d q a (n ∷ ns) zero h lt = linked-head nodes d n _ ns h.1
linked-after nodes d q a (n ∷ ns) (suc k) h lt = linked-after nodes d n _ ns k h.1 (omega arith)

-- what stands before the number at a place
pub linked-pred : (nodes : List Node) (d q a : ℕ) (ns : List ℕ) (k : ℕ) → AreLinked nodes d q a ns → k < length ns → (node_of nodes (get_or ns k none)).before ≡ get_or (q ∷ ns) k none
linked-pred nodes d q a [] k h lt = absurd (omega arith)
linked-pred nodes d q a (n ∷ ns) zero h lt = h.0.back
linked-pred nodes d q a (n ∷ ns) (suc k) h lt = linked-pred nodes d n _ ns k h.1 (omega arith)

-- the label of a number is above that of the one before it
pub linked-rise : (nodes : List Node) (d q a : ℕ) (ns : List ℕ) (k : ℕ) → AreLinked nodes d q a ns → k < length ns → (node_of nodes (get_or (q ∷ ns) k none)).label + d < (node_of nodes (get_or ns k none)).label
linked-rise nodes d q a [] k h lt = absurd (omega arith)
linked-rise nodes d q a (n ∷ ns) zero h lt = h.0.up
linked-rise nodes d q a (n ∷ ns) (suc k) h lt = linked-rise nodes d n _ ns k h.1 (omega arith)

pub linked-room : (nodes : List Node) (d q a : ℕ) (ns : List ℕ) (k : ℕ) → AreLinked nodes d q a ns → k < length ns → (node_of nodes (node_of nodes (get_or ns k none)).before).label + d < (node_of nodes (get_or ns k none)).label
linked-room nodes d q a ns k h lt = subst (λ p. (node_of nodes p).label + d < (node_of nodes (get_or ns k none)).label) (sym (linked-pred nodes d q a ns k h lt)) (linked-rise nodes d q a ns k h lt)

-- the predecessor of a number is that of the first, or a number of the list
pub linked-before : (nodes : List Node) (d q a : ℕ) (ns : List ℕ) (k : ℕ) → AreLinked nodes d q a ns → k < length ns → ((node_of nodes (get_or ns k none)).before ≡ q) ⊎ ((node_of nodes (get_or ns k none)).before < length nodes)
linked-before nodes d q a [] k h lt = absurd (omega arith)
linked-before nodes d q a (n ∷ ns) zero h lt = inl h.0.back
linked-before nodes d q a (n ∷ ns) (suc k) h lt =
    elim (linked-before nodes d n _ ns k h.1 (omega arith)) [
      | inl is ↦ inr (subst (λ p. p < length nodes) (sym is) h.0.within)
      | inr within ↦ inr within
    ]

linked-above : (nodes : List Node) (d q a : ℕ) (ns : List ℕ) (k : ℕ) → AreLinked nodes d q a ns → k < length ns → (node_of nodes q).label < (node_of nodes (get_or ns k none)).label
linked-above nodes d q a [] k h lt = absurd (omega arith)
linked-above nodes d q a (n ∷ ns) zero h lt = let up = h.0.up in omega arith
linked-above nodes d q a (n ∷ ns) (suc k) h lt = let up = h.0.up in let above = linked-above nodes d n _ ns k h.1 (omega arith) in omega arith

-- labels increase along the list
pub linked-up : (nodes : List Node) (d q a : ℕ) (ns : List ℕ) (j k : ℕ) → AreLinked nodes d q a ns → j < k → k < length ns → (node_of nodes (get_or ns j none)).label < (node_of nodes (get_or ns k none)).label
linked-up nodes d q a [] j k h up lt = absurd (omega arith)
linked-up nodes d q a (n ∷ ns) j zero h up lt = absurd (omega arith)
linked-up nodes d q a (n ∷ ns) zero (suc k) h up lt = linked-above nodes d n _ ns k h.1 (omega arith)
linked-up nodes d q a (n ∷ ns) (suc j) (suc k) h up lt = linked-up nodes d n _ ns j k h.1 (omega arith) (omega arith)

-- the walk along the links goes through these numbers
pub walked-linked : (nodes : List Node) (d q a many : ℕ) (ns : List ℕ) → length nodes ≤ none → length ns ≤ many → AreLinked nodes d q a ns → walked nodes many a ≡ ns
walked-linked nodes d q a zero [] few le h = refl
walked-linked nodes d q a zero (n ∷ ns) few le h = absurd (omega arith)
walked-linked nodes d q a (suc many) [] few le h = cond-true _ _ _ (eq-eqb a none h)
walked-linked nodes d q a (suc many) (n ∷ ns) few le h =
    let within = h.0.within in
    let is = h.0.is in
    let there : a ≡ none → ⊥ = λ e. omega arith in
    cond-false _ _ _ (ne_eqb a none there) ∙ ap (λ x. x ∷ walked nodes many (node_of nodes x).after) is
    ∙ ap (λ l. n ∷ l) (walked-linked nodes d n _ many ns few (omega arith) h.1)

pub numbers-listing : (nodes : List Node) (d first : ℕ) (ns : List ℕ) → IsListing nodes d first ns → numbers_from nodes first ≡ ns
numbers-listing nodes d first ns h =
    let few = h.few in let many = h.many in walked-linked nodes d none first (length nodes) ns (omega arith) (omega arith) h.linked

-- the number at a place of the list, or none behind its end
pub some-at : (nodes : List Node) (d q a : ℕ) (ns : List ℕ) (k n : ℕ) → length nodes ≤ none → AreLinked nodes d q a ns → n ≡ get_or ns k none → cond (eqb n none) None (Some n) ≡ slice_get ns k
some-at nodes d q a ns k n few h is =
    elim (cases_lt k (length ns)) [
      | inl lt ↦
          let within = linked-within nodes d q a ns k h lt in
          let there : n ≡ none → ⊥ = λ e. omega arith in
          cond-false _ _ _ (ne_eqb n none there) ∙ ap Some is ∙ sym (slice_get-get_or ns k none lt)
      | inr ge ↦ cond-true _ _ _ (eq-eqb n none (is ∙ get_or_past ns k none ge)) ∙ sym (slice_get_past ns k ge)
    ]

-- of two numbers the one with the lower label stands first
pub labels-order : (nodes : List Node) (d q a : ℕ) (ns : List ℕ) (m n : ℕ) → AreLinked nodes d q a ns → AtPlace ns m → AtPlace ns n → ((node_of nodes m).label < (node_of nodes n).label) ↔ (place_in ns m < place_in ns n)
labels-order nodes d q a ns m n h at_m at_n =
    let j = place_in ns m in
    let k = place_in ns n in
    let label : ℕ → ℕ = λ i. (node_of nodes (get_or ns i none)).label in
    let is_m : label j ≡ (node_of nodes m).label = ap (λ x. (node_of nodes x).label) at_m.is in
    let is_n : label k ≡ (node_of nodes n).label = ap (λ x. (node_of nodes x).label) at_n.is in (
      λ lower. elim (cases_order j k) [
        | inl same ↦ absurd (let e : label j ≡ label k = ap label same in omega arith)
        | inr either ↦ elim either [
          | inl below ↦ below
          | inr above ↦ absurd (let up : label k < label j = linked-up nodes d q a ns k j h above at_m.within in omega arith)
        ]
      ],
      λ below. let up : label j < label k = linked-up nodes d q a ns j k h below at_n.within in omega arith,
    )

-- at two places there are two numbers
pub linked-apart : (nodes : List Node) (d q a : ℕ) (ns : List ℕ) (j k : ℕ) → AreLinked nodes d q a ns → j < length ns → k < length ns → (j ≡ k → ⊥) → get_or ns j none ≡ get_or ns k none → ⊥
linked-apart nodes d q a ns j k h in_j in_k other e =
    let same : (node_of nodes (get_or ns j none)).label ≡ (node_of nodes (get_or ns k none)).label = ap (λ n. (node_of nodes n).label) e in
    elim (cases_lt j k) [
      | inl lt ↦ let up = linked-up nodes d q a ns j k h lt in_k in omega arith
      | inr ge ↦ let up = linked-up nodes d q a ns k j h (omega arith) in_j in omega arith
    ]

pub linked-place : (nodes : List Node) (d q a : ℕ) (ns : List ℕ) (k : ℕ) → AreLinked nodes d q a ns → k < length ns → place_in ns (get_or ns k none) ≡ k
linked-place nodes d q a ns k h lt =
    let there = at_place ns (get_or ns k none) (contains_at ns k lt) in
    elim (cases_eq (place_in ns (get_or ns k none)) k) [
      | inl e ↦ e
      | inr other ↦ absurd (linked-apart nodes d q a ns (place_in ns (get_or ns k none)) k h there.within lt other there.is)
    ]
