-- Which instruction stands at which place of a generated loop.
use Rattle.load_gen.proofs.Common.{◌≡◌, ℕ, false, zero, suc, ◌+◌, ◌-◌, ◌<◌, ◌≤◌, List, [], ◌∷◌, ◌++◌, length, Option, None, Some, refl, sym, ap, subst, ◌∙◌, arith, inl, inr, codes, length-append, slice_get, cases_lt, no_flags, Add, Ult, Inst, Binary, Compare, Phi, number, a, b, in_loop, drawn_inst, drawn_insts, state_after, fixed, loop_insts}
use Rattle.load_gen.proofs.ListPlaces.{at_left, at_right}

pub drawn_length : (W s n : ℕ) → length (drawn_insts W s n) ≡ n
unfolding drawn_insts
drawn_length W s zero = refl
drawn_length W s (suc n) =
    length-append (drawn_insts W s n) (drawn_inst W (suc n) (state_after s n) ∷ []) ∙ (let few = drawn_length W s n in omega arith)

drawn_at : (W s n k : ℕ) → k < n → slice_get (drawn_insts W s n) k ≡ Some (drawn_inst W (suc k) (state_after s k))
unfolding drawn_insts
drawn_at W s zero k h = absurd (omega arith)
drawn_at W s (suc n) k h =
    let last : List Inst = drawn_inst W (suc n) (state_after s n) ∷ [] in
    let long = drawn_length W s n in
    elim (cases_lt k n) [
      | inl earlier ↦ at_left (drawn_insts W s n) last k (omega arith) ∙ drawn_at W s n k earlier
      | inr not ↦
          let is : k ≡ n = omega arith in
          at_right (drawn_insts W s n) last k 0 (omega arith)
          ∙ ap (λ m. Some (drawn_inst W (suc m) (state_after s m))) (sym is)
    ]

-- the instructions that each function has
abbrev pub counter : ℕ → Inst
counter W = fixed (codes "i") W (Phi ((number W 0, 0) ∷ (in_loop 18, 1) ∷ []))

abbrev pub previous : ℕ → Inst
previous W = fixed (codes "p") W (Phi ((a, 0) ∷ (in_loop 17, 1) ∷ []))

abbrev pub next : ℕ → Inst
next W = fixed (codes "next") W (Binary Add no_flags (in_loop 0) (number W 1))

abbrev pub condition : ℕ → Inst
condition W = fixed (codes "c") 1 (Compare Ult false W (in_loop 0) b)

-- P holds at every place of the loop: at those of the fixed instructions, at those of the drawn ones, and of no
-- instruction at the places behind them
pub record HoldsInLoop (W s : ℕ) (P : ℕ → Option Inst → Type 0) : Type 0 where
  pub at_counter : P 0 (Some (counter W))
  pub at_previous : P 1 (Some (previous W))
  pub at_drawn : (k : ℕ) → k < 16 → P (suc (suc k)) (Some (drawn_inst W (suc k) (state_after s k)))
  pub at_next : P 18 (Some (next W))
  pub at_condition : P 19 (Some (condition W))
  pub behind : (k : ℕ) → 20 ≤ k → P k None

module _ (W s : ℕ) (P : ℕ → Option Inst → Type 0) (holds : HoldsInLoop W s P) where
  abbrev rest : List Inst
  rest = next W ∷ condition W ∷ []

  behind_drawn : (r : ℕ) → P (suc (suc (16 + r))) (slice_get rest r)
  behind_drawn zero = holds.at_next
  behind_drawn (suc zero) = holds.at_condition
  behind_drawn (suc (suc r)) = holds.behind (suc (suc (16 + suc (suc r)))) (omega arith)

  behind_phis : (k : ℕ) → P (suc (suc k)) (slice_get (drawn_insts W s 16 ++ rest) k)
  behind_phis k =
      let long = drawn_length W s 16 in
      elim (cases_lt k 16) [
        | inl drawn ↦
            let there = at_left (drawn_insts W s 16) rest k (omega arith) ∙ drawn_at W s 16 k drawn in
            subst (P (suc (suc k))) (sym there) (holds.at_drawn k drawn)
        | inr later ↦
            let r : ℕ = k - 16 in
            let is : 16 + r ≡ k = omega arith in
            let there = at_right (drawn_insts W s 16) rest (16 + r) r (omega arith) in
            subst (λ n. P (suc (suc n)) (slice_get (drawn_insts W s 16 ++ rest) n)) is
            (subst (P (suc (suc (16 + r)))) (sym there) (behind_drawn r))
      ]

  pub each_place : (k : ℕ) → P k (slice_get (loop_insts W s) k)
  unfolding loop_insts
  each_place zero = holds.at_counter
  each_place (suc zero) = holds.at_previous
  each_place (suc (suc k)) = behind_phis k

pub loop_length : (W s : ℕ) → length (loop_insts W s) ≡ 20
unfolding loop_insts
loop_length W s =
    let most = length-append (drawn_insts W s 16) (next W ∷ condition W ∷ []) in
    let long = drawn_length W s 16 in
    omega arith
