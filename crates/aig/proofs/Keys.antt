-- What the set of a graph's gates says of the list of its keys.
use Rattle.aig.proofs.Common.{◌≡◌, if◌then◌else◌, ◌⊎◌, inl, inr, ℕ, zero, suc, Bool, true, false, List, [], ◌∷◌, ◌++◌, length, position, slice_get, Some, refl, sym, ap, ◌∙◌, subst, arith, list_any, IsDistinct, AllByRecursion, nat_tests, position-Some, slice_get-get_or, insert_key, Gate, And, Xor, Mux, HasNoTwice}
use Rattle.aig.specs.contracts.gate.GatePartialEq.TheImpl as derived
use Rattle.aig.proofs.LiteralLemmas.{same_code}

abbrev pub gate_eq : Gate → Gate → Bool
gate_eq = derived.eq-value.it

-- gates that `==` finds equal are the same

pub same_gate : (g h : Gate) → gate_eq g h ≡ true → g ≡ h
same_gate (And a b) (And c d) t = grind (arith, nat_tests, same_code a c, same_code b d)
same_gate (Xor a b) (Xor c d) t = grind (arith, nat_tests, same_code a c, same_code b d)
same_gate (Mux a b c) (Mux d e f) t = grind (arith, nat_tests, same_code a d, same_code b e, same_code c f)
same_gate (And a b) (Xor c d) t = absurd (cc)
same_gate (And a b) (Mux c d e) t = absurd (cc)
same_gate (Xor a b) (And c d) t = absurd (cc)
same_gate (Xor a b) (Mux c d e) t = absurd (cc)
same_gate (Mux a b e) (And c d) t = absurd (cc)
same_gate (Mux a b e) (Xor c d) t = absurd (cc)

same_itself : (g : Gate) → gate_eq g g ≡ true
same_itself (And a b) = grind (arith, nat_tests)
same_itself (Xor a b) = grind (arith, nat_tests)
same_itself (Mux a b c) = grind (arith, nat_tests)

-- no two keys of a set are equal

unlike_at : (x : Gate) (ks : List Gate) → AllByRecursion (λ y. gate_eq x y ≡ false) ks → (k : ℕ) (y : Gate) → slice_get ks k ≡ Some y → gate_eq x y ≡ false
unlike_at x [] apart k y at = absurd (cc)
unlike_at x (z ∷ ks) apart zero y at =
    let same : z ≡ y = cc in
    subst (λ g. gate_eq x g ≡ false) same apart.0
unlike_at x (z ∷ ks) apart (suc k) y at = unlike_at x ks apart.1 k y at

not_later : (x : Gate) (ks : List Gate) → AllByRecursion (λ y. gate_eq x y ≡ false) ks → (k : ℕ) → slice_get ks k ≡ Some x → ⊥
not_later x ks apart k at =
    let p = unlike_at x ks apart k x at in
    let q = same_itself x in
    cc

pub no_twice : (ks : List Gate) → IsDistinct gate_eq ks → HasNoTwice ks
unfolding IsDistinct
no_twice [] apart j k x p q = absurd (cc)
no_twice (y ∷ ks) apart zero zero x p q = refl
no_twice (y ∷ ks) apart zero (suc k) x p q =
    let same : x ≡ y = cc in
    absurd (not_later y ks apart.0 k (q ∙ ap Some same))
no_twice (y ∷ ks) apart (suc j) zero x p q =
    let same : x ≡ y = cc in
    absurd (not_later y ks apart.0 j (p ∙ ap Some same))
no_twice (y ∷ ks) apart (suc j) (suc k) x p q = ap suc (no_twice ks apart.1 j k x p q)

-- a look-up finds the place of the gate

pub found_at : (ks : List Gate) (gate : Gate) (i : ℕ) → position (gate_eq gate) ks ≡ Some i → slice_get ks i ≡ Some gate
found_at ks gate i p =
    let h = position-Some (gate_eq gate) ks i gate p in
    slice_get-get_or ks i gate h.0 ∙ ap Some (sym (same_gate gate _ h.1))

-- an insertion leaves the list as it was, or puts the gate at its end

abbrev pub IsInserted : List Gate → Gate → List Gate → Type 0
IsInserted old gate new = (new ≡ old) ⊎ (new ≡ old ++ gate ∷ [])

pub inserted : (ks : List Gate) (gate : Gate) → IsInserted ks gate (insert_key gate_eq ks gate)
inserted ks gate = elim (list_any (gate_eq gate) ks) as (λ b. IsInserted ks gate (if b then ks else ks ++ gate ∷ [])) [ true ↦ inl refl | false ↦ inr refl ]

pub slice_get-push : (ks : List Gate) (gate : Gate) (k : ℕ) (x : Gate) → slice_get (ks ++ gate ∷ []) k ≡ Some x → (slice_get ks k ≡ Some x) ⊎ ((k ≡ length ks) × (gate ≡ x))
slice_get-push [] gate zero x at = inr (refl, cc)
slice_get-push [] gate (suc k) x at = absurd (cc)
slice_get-push (y ∷ ks) gate zero x at = inl at
slice_get-push (y ∷ ks) gate (suc k) x at =
    elim (slice_get-push ks gate k x at) [ inl h ↦ inl h | inr h ↦ inr (omega (arith, h.0), h.1) ]
