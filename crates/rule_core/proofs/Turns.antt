-- Evaluations in order (`in_turn`): each element gives one result, from those before it.
use Rattle.rule_core.proofs.Common.{◌≡◌, ℕ, zero, suc, ◌+◌, ◌<◌, ◌≤◌, List, [], ◌∷◌, ◌++◌, length, take, drop, length-append, length-take, add-zero, zero-add, add-one, Some, refl, sym, ap, ◌∙◌, arith, get_or, slice_get, take-suc, take-append-drop, same_Some, slice_get-get_or, slice_get_within, get_or_from_slice_get, in_turn}
use Rattle.rule_core.proofs.Members.{get-append_left, get-append_right}

module _ {X Y : Type 0} (gives : List Y → X → Y) where
  in_turn-append : (done : List Y) (xs ys : List X) → in_turn gives done (xs ++ ys) ≡ in_turn gives (in_turn gives done xs) ys
  in_turn-append done [] ys = refl
  in_turn-append done (x ∷ xs) ys = in_turn-append (done ++ gives done x ∷ []) xs ys

  pub in_turn-length : (done : List Y) (xs : List X) → length (in_turn gives done xs) ≡ length done + length xs
  in_turn-length done [] = sym (add-zero (length done))
  in_turn-length done (x ∷ xs) = omega (arith, in_turn-length (done ++ gives done x ∷ []) xs, length-append done (gives done x ∷ []))

  -- a result stays as it is in all that follow
  in_turn-keeps : (done : List Y) (xs : List X) (k : ℕ) (y : Y) → slice_get done k ≡ Some y → slice_get (in_turn gives done xs) k ≡ Some y
  in_turn-keeps done [] k y at = at
  in_turn-keeps done (x ∷ xs) k y at = in_turn-keeps (done ++ gives done x ∷ []) xs k y (get-append_left done (gives done x ∷ []) k y at)

  -- one element more gives one result more
  pub in_turn-step : (xs : List X) (i : ℕ) (x : X) → slice_get xs i ≡ Some x → in_turn gives [] (take (i + 1) xs) ≡ in_turn gives [] (take i xs) ++ gives (in_turn gives [] (take i xs)) x ∷ []
  in_turn-step xs i x at =
      let inside : i < length xs = slice_get_within xs i x at in
      let parts : take (i + 1) xs ≡ take i xs ++ x ∷ [] = rw add-one (take-suc xs i x inside ∙ ap (λ y. take i xs ++ y ∷ []) (get_or_from_slice_get xs i x x at)) in
      rw (parts, in_turn-append [] (take i xs) (x ∷ [])) refl

  -- the result of an element is what it gives from the results before it
  behind : (done : List Y) (xs : List X) (n : ℕ) (x : X) → slice_get xs n ≡ Some x → slice_get (in_turn gives done xs) (length done + n) ≡ Some (gives (in_turn gives done (take n xs)) x)
  behind done [] n x at = elim n as (λ m. slice_get [] m ≡ Some x → slice_get (in_turn gives done []) (length done + n) ≡ Some (gives (in_turn gives done (take n [])) x)) [ zero ↦ λ h. cc | suc m ↦ λ h. cc ] at
  behind done (a ∷ xs) zero x at =
      let same : a ≡ x = same_Some a x at in
      let here : slice_get (done ++ gives done a ∷ []) (length done + 0) ≡ Some (gives done a) = get-append_right done (gives done a ∷ []) 0 in
      in_turn-keeps (done ++ gives done a ∷ []) xs (length done + 0) (gives done x) (here ∙ ap (λ b. Some (gives done b)) same)
  behind done (a ∷ xs) (suc n) x at =
      let more : List Y = done ++ gives done a ∷ [] in
      let place : length more + n ≡ length done + suc n = omega (arith, length-append done (gives done a ∷ [])) in
      rw place at (behind more xs n x at)

  pub at_place : (xs : List X) (n : ℕ) (x : X) → slice_get xs n ≡ Some x → slice_get (in_turn gives [] xs) n ≡ Some (gives (in_turn gives [] (take n xs)) x)
  at_place xs n x at = rw (zero-add n) at (behind [] xs n x at)

  -- the results before a place are the same in the whole evaluation
  pub before_place : (xs : List X) (n j : ℕ) (d : Y) → n ≤ length xs → j < n → get_or (in_turn gives [] (take n xs)) j d ≡ get_or (in_turn gives [] xs) j d
  before_place xs n j d within less =
      let part : List Y = in_turn gives [] (take n xs) in
      let long : j < length part = omega (arith, in_turn-length [] (take n xs), length-take n xs) in
      let here : slice_get part j ≡ Some (get_or part j d) = slice_get-get_or part j d long in
      let whole : in_turn gives [] xs ≡ in_turn gives part (drop n xs) = ap (in_turn gives []) (sym (take-append-drop n xs)) ∙ in_turn-append [] (take n xs) (drop n xs) in
      sym (get_or_from_slice_get (in_turn gives [] xs) j (get_or part j d) d (rw whole (in_turn-keeps part (drop n xs) j (get_or part j d) here)))

  -- So an element that reads only results of earlier ones gives the same from all the results.
  pub settled : (xs : List X) (n : ℕ) (x : X) → slice_get xs n ≡ Some x
      → ((some all : List Y) → ((j : ℕ) (d : Y) → j < n → get_or some j d ≡ get_or all j d) → gives some x ≡ gives all x)
      → slice_get (in_turn gives [] xs) n ≡ Some (gives (in_turn gives [] xs) x)
  settled xs n x at same =
      let within : n < length xs = slice_get_within xs n x at in
      at_place xs n x at
      ∙ ap (λ y. Some y) (same (in_turn gives [] (take n xs)) (in_turn gives [] xs) (λ j d less. before_place xs n j d (omega arith) less))
