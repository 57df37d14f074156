-- Worklists stay worklists where new numbers are inserted.
use Rattle.draft.proofs.Common.{◌≡◌, ℕ, suc, ◌<◌, inl, inr, List, [], ◌∷◌, length, get_or, set, refl, sym, ap, subst, ◌∙◌, arith, Contains, get_or-set_same, get_or-set_other, cases_eq, All-weaker, Place, place_in, put_before, IsNumbered, IsHeap, place_at, nowhere, KeepsOrders, contains_tail, contains_none, place-here, place-later, put-here, put-later, put-has}
use Rattle.std.proofs.Common.{length-set}
use Rattle.places.proofs.Members.{contains_later}

pub heap-stays : (old new : List (List ℕ)) (heap : List Place) → KeepsOrders old new → IsHeap old heap → IsHeap new heap
heap-stays old new heap keeps h = record {
  numbered = All-weaker (IsNumbered old) (IsNumbered new) keeps.numbered heap h.numbered;
  ordered = λ k over below within before.
      (let above : over < length heap = (let lt = below.0 in omega arith) in
      h.ordered k over below within (keeps.order (place_at heap k) (place_at heap over) (h.numbered k nowhere within) (h.numbered over nowhere above) before));
}

-- numbers keep their order where another is inserted
pub put-order : (ns : List ℕ) (at n x y : ℕ) → Contains ns x → Contains ns y → ¬ Contains ns n → place_in (put_before ns at n) x < place_in (put_before ns at n) y → place_in ns x < place_in ns y
put-order [] at n x y in_x in_y new lt = absurd (contains_none x in_x)
put-order (m ∷ ns) at n x y in_x in_y new lt =
    elim (cases_eq m at) [
      | inl e ↦
          let other : (z : ℕ) → Contains (m ∷ ns) z → n ≡ z → ⊥ = λ z c is. new (subst (Contains (m ∷ ns)) (sym is) c) in
          let put = put-here m at n ns e in
          let place : (z : ℕ) → Contains (m ∷ ns) z → place_in (put_before (m ∷ ns) at n) z ≡ suc (place_in (m ∷ ns) z) =
          λ z c. ap (λ l. place_in l z) put ∙ place-later n z (m ∷ ns) (other z c) in
          let place_x = place x in_x in
          let place_y = place y in_y in
          omega arith
      | inr ne ↦
          let put = put-later m at n ns ne in
          let lt_put : place_in (m ∷ put_before ns at n) x < place_in (m ∷ put_before ns at n) y = subst (λ l. place_in l x < place_in l y) put lt in
          elim (cases_eq m y) [
            | inl is_y ↦ absurd (let first = place-here m y (put_before ns at n) is_y in omega arith)
            | inr not_y ↦ elim (cases_eq m x) [
              | inl is_x ↦ let here = place-here m x ns is_x in let later = place-later m y ns not_y in omega arith
              | inr not_x ↦
                  let was_x = place-later m x ns not_x in
                  let was_y = place-later m y ns not_y in
                  let put_x = place-later m x (put_before ns at n) not_x in
                  let put_y = place-later m y (put_before ns at n) not_y in
                  let rest = put-order ns at n x y (contains_tail m x ns not_x in_x) (contains_tail m y ns not_y in_y) (λ c. new (contains_later m n ns c)) (omega arith) in
                  omega arith
            ]
          ]
    ]

-- the orders of all blocks are kept where a number is inserted in one
pub put-keeps : (orders : List (List ℕ)) (b at n : ℕ) → b < length orders → Contains (get_or orders b []) at → ¬ Contains (get_or orders b []) n → KeepsOrders orders (set orders b (put_before (get_or orders b []) at n))
put-keeps orders b at n within there new = record {
  blocks = length-set orders b row;
  numbered = λ p c. elim (cases_eq p.block b) [
    | inl e ↦ subst (λ l. Contains l p.number) (sym (here p.block e)) (put-has (get_or orders b []) at n p.number there (inr (subst (λ d. Contains (get_or orders d []) p.number) e c)))
    | inr ne ↦ subst (λ l. Contains l p.number) (sym (get_or-set_other orders b p.block row [] ne)) c
  ];
  order = λ p q in_p in_q before. elim before [
    | inl earlier ↦ inl earlier
    | inr same ↦ inr (
      same.0,
      elim (cases_eq p.block b) [
        | inl e ↦
            let was : get_or orders p.block [] ≡ get_or orders b [] = ap (λ d. get_or orders d []) e in
            let q_in : Contains (get_or orders b []) q.number = subst (λ d. Contains (get_or orders d []) q.number) (sym same.0 ∙ e) in_q in
            subst (λ l. place_in l p.number < place_in l q.number) (sym was)
            (put-order (get_or orders b []) at n p.number q.number (subst (λ l. Contains l p.number) was in_p) q_in new
            (subst (λ l. place_in l p.number < place_in l q.number) (here p.block e) same.1))
        | inr ne ↦ subst (λ l. place_in l p.number < place_in l q.number) (get_or-set_other orders b p.block row [] ne) same.1
      ],
    )
  ];
}
  where
    row : List ℕ
    row = put_before (get_or orders b []) at n

    here : (c : ℕ) → c ≡ b → get_or (set orders b row) c [] ≡ row
    here c e = ap (λ d. get_or (set orders b row) d []) e ∙ get_or-set_same orders b row [] within

pub keeps-itself : (a : List (List ℕ)) → KeepsOrders a a
keeps-itself a = record { blocks = refl; numbered = λ p in_a. in_a; order = λ p q p_in q_in before. before }

pub keeps-twice : (a b c : List (List ℕ)) → KeepsOrders a b → KeepsOrders b c → KeepsOrders a c
keeps-twice a b c one two = record {
  blocks = two.blocks ∙ one.blocks;
  numbered = λ p in_a. two.numbered p (one.numbered p in_a);
  order = λ p q p_in q_in before. one.order p q p_in q_in (two.order p q (one.numbered p p_in) (one.numbered q q_in) before);
}
