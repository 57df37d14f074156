-- The last register is taken off the worklist of dead code elimination.
use Rattle.draft_steps.proofs.Common.{◌≡◌, ℕ, ◌⊎◌, inl, inr, List, [], ◌∷◌, ◌++◌, sym, ap, subst, arith, Contains, slice_index_or, Contains-append_cases, Contains-append_left, Contains-append_right, Contains-push_cases, HasInst, Function, Register, ReadsRegister, AreRead, HaveInsts, IsEliminating, KeepsUses, times_in_function, Stands, numbers_of, Draft}
use Rattle.ir_core.specs.declared.operand.Register.TheVariants as registers

pub last_among : (dead_candidates rest : List Register) (last : Register) → dead_candidates ≡ rest ++ last ∷ [] → (r : Register) → Contains dead_candidates r → Contains rest r ⊎ (r ≡ last)
last_among dead_candidates rest last is r has =
    elim (Contains-push_cases rest last r (subst (λ (l : List Register). Contains l r) is has)) [
      | inl early ↦ inl early
      | inr same ↦ inr (sym same)
    ]

pub among_last : (dead_candidates rest used : List Register) (last : Register) → dead_candidates ≡ rest ++ last ∷ [] → (r : Register) → Contains (dead_candidates ++ used) r → Contains (rest ++ used) r ⊎ (r ≡ last)
among_last dead_candidates rest used last is r has =
    elim (Contains-append_cases dead_candidates used r has) [
      | inr late ↦ inl (Contains-append_right rest used r late)
      | inl early ↦ elim (last_among dead_candidates rest last is r early) [ inl old ↦ inl (Contains-append_left rest used r old) | inr it ↦ inr it ]
    ]

-- the arena is the same, and so are the instructions that stand
module _ (old new : Draft) (arena : new.arena ≡ old.arena) where
  pub now_have : (these : List Register) → HaveInsts old these → HaveInsts new these
  now_have these had = λ b n has. subst (λ (f : Function). HasInst f b n) (sym arena) (had b n has)

  module _ (numbers : numbers_of new ≡ numbers_of old) where
    pub now_cleaning : (f : Function) (rows : List (List ℕ)) (roots : List Register) → IsEliminating f rows old.arena (numbers_of old) roots → IsEliminating f rows new.arena (numbers_of new) roots
    now_cleaning f rows roots is =
        subst (λ (g : Function). IsEliminating f rows g (numbers_of new) roots) (sym arena)
        (subst (λ (left : List (List ℕ)). IsEliminating f rows old.arena left roots) (sym numbers) is)

    pub stood_then : (b n : ℕ) → Stands new b n → Stands old b n
    stood_then b n stands = subst (λ (left : List (List ℕ)). Contains (slice_index_or left b []) n) numbers stands

    pub now_read : (roots : List Register) → AreRead old roots → AreRead new roots
    now_read roots are = λ b n stands. elim (are b n (stood_then b n stands)) [
      | inl (c, k, h) ↦ inl (c, k, subst (λ (f : Function). ReadsRegister f c k (registers.Result b n)) (sym arena) h)
      | inr waits ↦ inr waits
    ]

module _ (was old new : Draft) (arena : new.arena ≡ old.arena) (numbers : numbers_of new ≡ numbers_of old) where
  pub now_keeps : (roots : List Register) → KeepsUses was old roots → KeepsUses was new roots
  now_keeps roots keeps = λ b n stands. elim (keeps b n (stood_then old new arena numbers b n stands)) [
    | inl enough ↦ inl (let same = ap (times_in_function (registers.Result b n)) arena in omega arith)
    | inr waits ↦ inr waits
  ]
