-- A list of which one element is replaced, or dropped by moving the last to its place (swap_remove), and the list of
-- what each element is mapped to.
use Rattle.first_uip.proofs.Common.{◌≡◌, ℕ, ◌-◌, ◌<◌, List, [], ◌∷◌, length, map, take, set, get_or, All, refl, sym, ap, ◌∙◌, arith, swap_remove, get_or-map, map-set, set-get_or, take-map, length-map, All-head, All-tail}

module _ {X Y : Type 0} where
  pub map_same_where : (P : X → Type 0) (f g : X → Y) → ((x : X) → P x → f x ≡ g x) → (xs : List X) → All P xs → map f xs ≡ map g xs
  map_same_where P f g same [] all = refl
  map_same_where P f g same (x ∷ xs) all = (λ k. same x (All-head P x xs all) k ∷ map_same_where P f g same xs (All-tail P x xs all) k)

  pub map-set_same : (f : X → Y) (xs : List X) (i : ℕ) (a d : X) → i < length xs → f a ≡ f (get_or xs i d) → map f (set xs i a) ≡ map f xs
  map-set_same f xs i a d within same =
      map-set f xs i a
      ∙ ap (set (map f xs) i) (same ∙ sym (get_or-map f xs i d (f d) within))
      ∙ set-get_or (map f xs) i (f d)

  pub map-swap_remove : (f : X → Y) (xs : List X) (i : ℕ) (d : X) (e : Y) → i < length xs → map f (swap_remove xs i d) ≡ swap_remove (map f xs) i e
  map-swap_remove f xs i d e within =
      let last = get_or xs (length xs - 1) d in
      sym (take-map f (length xs - 1) (set xs i last))
      ∙ ap (take (length xs - 1)) (map-set f xs i last ∙ ap (set (map f xs) i) (sym (get_or-map f xs (length xs - 1) d e (omega arith))))
      ∙ ap (λ n. take (n - 1) (set (map f xs) i (get_or (map f xs) (n - 1) e))) (sym (length-map xs f))
