-- Labels that are spaced: those that have theirs already, and the list once all have.
use Rattle.places.proofs.Common.{◌≡◌, ℕ, zero, suc, ◌+◌, ◌-◌, ◌*◌, ◌<◌, ◌≤◌, ◌⊎◌, inl, inr, List, ◌∷◌, length, get_or, get_or-set_same, get_or-set_other, length-set, set, refl, sym, ap, subst, ◌∙◌, arith, cases_eq, cases_lt, get_or_past, Node, none, no_node, place_in, node_of, with_label, IsListing, IsSpaced, IsSpacing, Spacing}
use Rattle.places.proofs.Labelling.{SameLinks, relabelled}
use Rattle.places.proofs.Linking.{linked-apart, linked-pred, linked-rise, linked-within}
use Rattle.places.proofs.Members.{at_place, place-is}
use Rattle.places.proofs.NodeWrites.{kept-field}

-- The first i of the numbers that are to be spaced have their labels, and the others have what they had.
pub record AreSpaced (old new : List Node) (ns : List ℕ) (s : Spacing) (i : ℕ) : Type 0 where
  pub links : SameLinks old new
  pub labels : (k : ℕ) → k < i → (node_of new (get_or ns (place_in ns s.first + k) none)).label ≡ s.low + (k + 1) * s.gap
  pub others : (k : ℕ) → k < length ns → (k < place_in ns s.first) ⊎ (place_in ns s.first + i ≤ k) → (node_of new (get_or ns k none)).label ≡ (node_of old (get_or ns k none)).label

pub none-spaced : (nodes : List Node) (ns : List ℕ) (s : Spacing) → AreSpaced nodes nodes ns s 0
none-spaced nodes ns s = record {
  links = record { many = refl; before = λ n. refl; after = λ n. refl };
  labels = λ k lt. absurd (omega arith);
  others = λ k lt outside. refl;
}

-- one more gets its label
pub one-spaced : (old nodes : List Node) (first : ℕ) (ns : List ℕ) (s : Spacing) (i number label : ℕ) → IsListing old 0 first ns → place_in ns s.first + i < length ns → AreSpaced old nodes ns s i
    → number ≡ get_or ns (place_in ns s.first + i) none → label ≡ s.low + (i + 1) * s.gap → AreSpaced old (with_label nodes number label) ns s (i + 1)
one-spaced old nodes first ns s i number label h within spaced is label_is = record {
  links = record {
    many = length-set nodes number y ∙ spaced.links.many;
    before = λ n. kept-field (λ (x : Node). x.before) nodes number y refl n ∙ spaced.links.before n;
    after = λ n. kept-field (λ (x : Node). x.after) nodes number y refl n ∙ spaced.links.after n;
  };
  labels = λ k lt.
      elim (cases_eq k i) [
        | inl e ↦
            let at : get_or ns (j + k) none ≡ number = ap (λ m. get_or ns (j + m) none) e ∙ sym is in
            ap (λ n. (node_of (set nodes number y) n).label) at ∙ ap (λ (x : Node). x.label) (get_or-set_same nodes number y no_node inside) ∙ label_is ∙ ap (λ m. s.low + (m + 1) * s.gap) (sym e)
        | inr ne ↦ kept (j + k) (omega arith) (λ e. ne (omega arith)) ∙ spaced.labels k (omega arith)
      ];
  others = λ k lt outside. kept k lt (λ e. elim outside [ inl before ↦ omega arith | inr behind ↦ omega arith ])
      ∙ spaced.others k lt (elim outside [ inl before ↦ inl before | inr behind ↦ inr (omega arith) ]);
}
  where
    j : ℕ
    j = place_in ns s.first

    y : Node
    y = record { label = label; before = (node_of nodes number).before; after = (node_of nodes number).after }

    inside : number < length nodes
    inside = let below = linked-within old 0 none first ns (place_in ns s.first + i) h.linked within in let many = spaced.links.many in omega (arith, is)

    kept : (k : ℕ) → k < length ns → (k ≡ place_in ns s.first + i → ⊥) → (node_of (set nodes number y) (get_or ns k none)).label ≡ (node_of nodes (get_or ns k none)).label
    kept k lt other =
        ap (λ (x : Node). x.label) (get_or-set_other nodes number (get_or ns k none) y no_node (λ e. linked-apart old 0 none first ns k (place_in ns s.first + i) h.linked lt within other (e ∙ is)))

-- what stands before the first of them, or behind it all, has the label that it had
pred-kept : (old new : List Node) (ns : List ℕ) (s : Spacing) → length old ≤ none → AreSpaced old new ns s s.count → (k : ℕ) → k < length ns → (k ≤ place_in ns s.first) ⊎ (place_in ns s.first + s.count < k)
    → (node_of new (get_or (none ∷ ns) k none)).label ≡ (node_of old (get_or (none ∷ ns) k none)).label
pred-kept old new ns s few spaced zero lt outside =
    let many = spaced.links.many in
    ap (λ (x : Node). x.label) (get_or_past new none no_node (omega arith)) ∙ sym (ap (λ (x : Node). x.label) (get_or_past old none no_node few))
pred-kept old new ns s few spaced (suc k) lt outside = spaced.others k (omega arith) (elim outside [ inl before ↦ inl (omega arith) | inr behind ↦ inr (omega arith) ])

-- the label of each of them is above that of the one before it by more than 1
room-at : (old new : List Node) (first : ℕ) (ns : List ℕ) (s : Spacing) → IsListing old 0 first ns → IsSpacing old ns s → AreSpaced old new ns s s.count → (k i : ℕ) → k ≡ place_in ns s.first + i → i < s.count
    → (node_of new (get_or (none ∷ ns) k none)).label + 1 < (node_of new (get_or ns k none)).label
room-at old new first ns s h fits spaced k zero is lt =
    let few = h.few in
    let within = fits.within in
    let apart = fits.apart in
    let low = fits.low in
    let there = at_place ns s.first fits.has in
    let place : k ≡ place_in ns s.first = omega arith in
    let label : (node_of new (get_or ns k none)).label ≡ s.low + (0 + 1) * s.gap = ap (λ m. (node_of new (get_or ns m none)).label) is ∙ spaced.labels 0 lt in
    let pred : get_or (none ∷ ns) k none ≡ (node_of old s.first).before =
    ap (λ m. get_or (none ∷ ns) m none) place ∙ sym (linked-pred old 0 none first ns (place_in ns s.first) h.linked there.within) ∙ ap (λ m. (node_of old m).before) there.is in
    let before : (node_of new (get_or (none ∷ ns) k none)).label ≡ (node_of old (node_of old s.first).before).label =
    pred-kept old new ns s (omega arith) spaced k (omega arith) (inl (omega arith)) ∙ ap (λ m. (node_of old m).label) pred in
    omega arith
room-at old new first ns s h fits spaced k (suc i) is lt =
    let apart = fits.apart in
    let place : k ≡ suc (place_in ns s.first + i) = omega arith in
    let label : (node_of new (get_or ns k none)).label ≡ s.low + (suc i + 1) * s.gap = ap (λ m. (node_of new (get_or ns m none)).label) is ∙ spaced.labels (suc i) lt in
    let before : (node_of new (get_or (none ∷ ns) k none)).label ≡ s.low + (i + 1) * s.gap = ap (λ m. (node_of new (get_or (none ∷ ns) m none)).label) place ∙ spaced.labels i (omega arith) in
    let more : (suc i + 1) * s.gap ≡ (i + 1) * s.gap + s.gap = omega arith in
    omega arith

-- the label of what stands behind them is above that of the last
above-last : (old new : List Node) (first : ℕ) (ns : List ℕ) (s : Spacing) → IsListing old 0 first ns → IsSpacing old ns s → AreSpaced old new ns s s.count → (k i : ℕ) → k ≡ place_in ns s.first + s.count → s.count ≡ suc i → k < length ns
    → (node_of new (get_or (none ∷ ns) k none)).label < (node_of new (get_or ns k none)).label
above-last old new first ns s h fits spaced k i is last lt =
    let place : k ≡ suc (place_in ns s.first + i) = omega arith in
    let before : (node_of new (get_or (none ∷ ns) k none)).label ≡ s.low + (i + 1) * s.gap = ap (λ m. (node_of new (get_or (none ∷ ns) m none)).label) place ∙ spaced.labels i (omega arith) in
    let count : (i + 1) * s.gap ≡ s.count * s.gap = (let e : i + 1 ≡ s.count = omega arith in ap (λ m. m * s.gap) e) in
    let label = spaced.others k lt (inr (omega arith)) in
    let high : s.low + s.count * s.gap < (node_of old (get_or ns k none)).label = subst (λ m. s.low + s.count * s.gap < (node_of old (get_or ns m none)).label) (sym is) (fits.high (omega arith)) in
    omega arith

rising : (old new : List Node) (first : ℕ) (ns : List ℕ) (s : Spacing) → IsListing old 0 first ns → IsSpacing old ns s → AreSpaced old new ns s s.count → (k : ℕ) → k < length ns
    → (node_of new (get_or (none ∷ ns) k none)).label < (node_of new (get_or ns k none)).label
rising old new first ns s h fits spaced k lt =
    let few = h.few in
    let was = linked-rise old 0 none first ns k h.linked lt in
    let some = fits.some in
    elim (cases_lt k (place_in ns s.first)) [
      | inl ahead ↦
          let pred = pred-kept old new ns s (omega arith) spaced k lt (inl (omega arith)) in
          let label = spaced.others k lt (inl ahead) in
          omega arith
      | inr from ↦ elim (cases_lt k (place_in ns s.first + s.count)) [
        | inl inside ↦ let room = room-at old new first ns s h fits spaced k (k - place_in ns s.first) (omega arith) (omega arith) in omega arith
        | inr behind ↦ elim (cases_eq k (place_in ns s.first + s.count)) [
          | inl is ↦ above-last old new first ns s h fits spaced k (s.count - 1) is (omega arith) lt
          | inr later ↦
              let pred = pred-kept old new ns s (omega arith) spaced k lt (inr (omega arith)) in
              let label = spaced.others k lt (inr behind) in
              omega arith
        ]
      ]
    ]

pub spaced-listing : (old new : List Node) (first : ℕ) (ns : List ℕ) (s : Spacing) → IsListing old 0 first ns → IsSpacing old ns s → AreSpaced old new ns s s.count → IsListing new 0 first ns
spaced-listing old new first ns s h fits spaced = relabelled old new first ns h spaced.links (rising old new first ns s h fits spaced)

pub spaced-room : (old new : List Node) (first : ℕ) (ns : List ℕ) (s : Spacing) → IsListing old 0 first ns → IsSpacing old ns s → AreSpaced old new ns s s.count → (n : ℕ) → IsSpaced ns s n
    → (node_of new (node_of new n).before).label + 1 < (node_of new n).label
spaced-room old new first ns s h fits spaced n among =
    let from = among.0 in
    let below = among.1 in
    let within = fits.within in
    let is = place-is ns n (omega arith) in
    let room = room-at old new first ns s h fits spaced (place_in ns n) (place_in ns n - place_in ns s.first) (omega arith) (omega arith) in
    let pred : (node_of new n).before ≡ get_or (none ∷ ns) (place_in ns n) none =
    spaced.links.before n ∙ ap (λ m. (node_of old m).before) (sym is) ∙ linked-pred old 0 none first ns (place_in ns n) h.linked (omega arith) in
    let label : (node_of new (get_or ns (place_in ns n) none)).label ≡ (node_of new n).label = ap (λ m. (node_of new m).label) is in
    let before : (node_of new (node_of new n).before).label ≡ (node_of new (get_or (none ∷ ns) (place_in ns n) none)).label = ap (λ m. (node_of new m).label) pred in
    omega arith
