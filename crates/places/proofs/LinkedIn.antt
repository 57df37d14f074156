-- One more number, linked in before another.
use Rattle.places.proofs.Common.{◌≡◌, ℕ, suc, ◌<◌, ◌≤◌, cond, eqb, inl, inr, List, [], ◌∷◌, length, refl, sym, ap, subst, ◌∙◌, arith, Contains, cases_eq, cond-true, cond-false, eq-eqb, ne_eqb, Node, none, put_before, node_of, AreLinked, IsListing}
use Rattle.places.proofs.Members.{contains_none, contains_tail, put-here, put-later, length-put, put-has}

-- Number m is linked in before number at, behind p.
pub record IsPut (old new : List Node) (m at p : ℕ) : Type 0 where
  pub many : length old ≡ m
  pub longer : length new ≡ suc m
  pub within : at < m
  pub was : (node_of old at).before ≡ p
  pub own_before : (node_of new m).before ≡ p
  pub own_after : (node_of new m).after ≡ at
  pub low : (node_of old p).label < (node_of new m).label
  pub high : (node_of new m).label < (node_of old at).label
  pub labels : (k : ℕ) → (k ≡ m → ⊥) → (node_of new k).label ≡ (node_of old k).label
  pub befores : (k : ℕ) → k < m → (node_of new k).before ≡ cond (eqb at k) m (node_of old k).before
  pub afters : (k : ℕ) → k < m → (node_of new k).after ≡ cond (eqb p k) m (node_of old k).after

-- what is linked behind the inserted number is as it was
linked-kept : (old new : List Node) (m at p : ℕ) → IsPut old new m at p → (q a : ℕ) (ns : List ℕ) → (q ≡ m → ⊥) → (node_of old at).label ≤ (node_of old q).label → AreLinked old 0 q a ns → AreLinked new 0 q a ns
linked-kept old new m at p put q a [] free above h = h
linked-kept old new m at p put q a (n ∷ ns) free above h =
    let up = h.0.up in
    let within = h.0.within in
    let many = put.many in
    let longer = put.longer in
    let low = put.low in
    let high = put.high in
    let inside : n < m = omega arith in
    let other : n ≡ m → ⊥ = λ e. omega arith in
    let not_at : at ≡ n → ⊥ = λ e. (let same : (node_of old at).label ≡ (node_of old n).label = ap (λ x. (node_of old x).label) e in omega arith) in
    let not_p : p ≡ n → ⊥ = λ e. (let same : (node_of old p).label ≡ (node_of old n).label = ap (λ x. (node_of old x).label) e in omega arith) in
    let label_n = put.labels n other in
    let label_q = put.labels q free in (
      record { is = h.0.is; within = omega arith; back = put.befores n inside ∙ cond-false _ _ _ (ne_eqb at n not_at) ∙ h.0.back; up = omega arith },
      subst (λ x. AreLinked new 0 n x ns) (sym (put.afters n inside ∙ cond-false _ _ _ (ne_eqb p n not_p)))
          (linked-kept old new m at p put n _ ns other (omega arith) h.1),
    )

-- the predecessor of a number of the list has a label no lower than that of what the list stands behind
linked-behind : (nodes : List Node) (d n a at : ℕ) (ns : List ℕ) → AreLinked nodes d n a ns → Contains ns at → (node_of nodes n).label ≤ (node_of nodes (node_of nodes at).before).label
linked-behind nodes d n a at [] h c = absurd (contains_none at c)
linked-behind nodes d n a at (x ∷ ns) h c =
    elim (cases_eq x at) [
      | inl e ↦ let same : (node_of nodes (node_of nodes at).before).label ≡ (node_of nodes n).label = ap (λ y. (node_of nodes y).label) (ap (λ y. (node_of nodes y).before) (sym e) ∙ h.0.back) in omega arith
      | inr ne ↦ let up = h.0.up in let later = linked-behind nodes d x _ at ns h.1 (contains_tail x at ns ne c) in omega arith
    ]

linked-put : (old new : List Node) (m at p : ℕ) → IsPut old new m at p → (q a : ℕ) (ns : List ℕ) → (q ≡ m → ⊥) → Contains ns at → AreLinked old 0 q a ns → AreLinked new 0 q (cond (eqb p q) m a) (put_before ns at m)
linked-put old new m at p put q a [] free c h = absurd (contains_none at c)
linked-put old new m at p put q a (n ∷ ns) free c h =
    let up = h.0.up in
    let within = h.0.within in
    let many = put.many in
    let longer = put.longer in
    let low = put.low in
    let high = put.high in
    let inside : n < m = omega arith in
    let other : n ≡ m → ⊥ = λ e. omega arith in
    let label_n = put.labels n other in
    let label_q = put.labels q free in
    elim (cases_eq n at) [
      | inl e ↦
          let here : p ≡ q = sym put.was ∙ ap (λ x. (node_of old x).before) (sym e) ∙ h.0.back in
          let label_p : (node_of old p).label ≡ (node_of old q).label = ap (λ x. (node_of old x).label) here in
          let label_at : (node_of old at).label ≡ (node_of old n).label = ap (λ x. (node_of old x).label) (sym e) in
          let not_p : p ≡ n → ⊥ = λ is. (let same : (node_of old p).label ≡ (node_of old n).label = ap (λ x. (node_of old x).label) is in omega arith) in
          let rest = linked-kept old new m at p put n _ ns other (omega arith) h.1 in
          subst (λ x. AreLinked new 0 q x (put_before (n ∷ ns) at m)) (sym (cond-true _ _ _ (eq-eqb p q here)))
          (subst (AreLinked new 0 q m) (sym (put-here n at m ns e)) (
            record { is = refl; within = omega arith; back = put.own_before ∙ here; up = omega arith },
            (
              record { is = put.own_after ∙ sym e; within = omega arith; back = put.befores n inside ∙ cond-true _ _ _ (eq-eqb at n (sym e)); up = omega arith },
              subst (λ x. AreLinked new 0 n x ns) (sym (put.afters n inside ∙ cond-false _ _ _ (ne_eqb p n not_p))) rest,
            ),
          ))
      | inr ne ↦
          let tail = contains_tail n at ns ne c in
          let behind : (node_of old n).label ≤ (node_of old p).label = subst (λ x. (node_of old n).label ≤ (node_of old x).label) put.was (linked-behind old 0 n _ at ns h.1 tail) in
          let not_q : p ≡ q → ⊥ = λ is. (let same : (node_of old p).label ≡ (node_of old q).label = ap (λ x. (node_of old x).label) is in omega arith) in
          let not_at : at ≡ n → ⊥ = λ is. ne (sym is) in
          subst (λ x. AreLinked new 0 q x (put_before (n ∷ ns) at m)) (sym (cond-false _ _ _ (ne_eqb p q not_q)))
          (subst (AreLinked new 0 q a) (sym (put-later n at m ns ne)) (
            record { is = h.0.is; within = omega arith; back = put.befores n inside ∙ cond-false _ _ _ (ne_eqb at n not_at) ∙ h.0.back; up = omega arith },
            subst (λ x. AreLinked new 0 n x (put_before ns at m)) (sym (put.afters n inside)) (linked-put old new m at p put n _ ns other tail h.1),
          ))
    ]

pub put-listing : (old new : List Node) (m at p first : ℕ) (ns : List ℕ) → IsPut old new m at p → suc m ≤ none → IsListing old 0 first ns → IsListing new 0 (cond (eqb p none) m first) (put_before ns at m)
put-listing old new m at p first ns put few h =
    let longer = put.longer in
    let many = put.many in
    let all = h.many in
    let there : Contains ns at = h.all at (let within = put.within in omega arith) in
    let lengths = length-put ns at m there in
    record {
      few = omega arith;
      many = omega arith;
      all = λ n within. put-has ns at m n there (elim (cases_eq m n) [
        | inl is ↦ inl is
        | inr other ↦ inr (h.all n (omega arith))
      ]);
      linked = linked-put old new m at p put none first ns (λ e. omega arith) there h.linked;
    }
