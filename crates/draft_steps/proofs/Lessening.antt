-- A draft from which dead instructions are removed.
use Rattle.draft_steps.proofs.Common.{◌≡◌, ℕ, inl, List, [], ◌++◌, refl, sym, subst, ◌∙◌, filter_map, Contains-append_right, HasInst, Function, Register, IsNeeded, changed_at, with_inst_removed, without, IsEliminating, KeepsUses, operands_at, register_of, Stands, numbers_of, orders_of, IsWhole, Draft, stands_there}
use Rattle.ir_core.specs.declared.operand.Register.TheVariants as registers
use Rattle.draft_steps.proofs.Living.{IsSilenced, needed_stays, needed_was}
use Rattle.draft_steps.proofs.Silencing.{taken_out_is_silenced}
use Rattle.draft_steps.proofs.Taking.{cleaning_done, cleaning_dropping, take_step}
use Rattle.draft_steps.proofs.Using.{stood, uses_less}

pub record IsLess (old new : Draft) : Type 0 where
  pub whole : IsWhole new
  pub orders : orders_of new ≡ orders_of old
  pub needed : (r : Register) → IsNeeded old.arena r → IsNeeded new.arena r
  pub was_needed : (r : Register) → IsNeeded new.arena r → IsNeeded old.arena r
  pub stood_too : (b n : ℕ) → Stands new b n → Stands old b n
  pub cleaning : (f : Function) (rows : List (List ℕ)) (fell : List Register) → IsEliminating f rows old.arena (numbers_of old) (old.dead_candidates.items ++ fell) → IsEliminating f rows new.arena (numbers_of new) (new.dead_candidates.items ++ fell)
  pub reads : (was : Draft) (fell : List Register) → KeepsUses was old (old.dead_candidates.items ++ fell) → KeepsUses was new (new.dead_candidates.items ++ fell)

pub none_less : (d : Draft) → IsWhole d → IsLess d d
none_less d whole = record {
  whole = whole;
  orders = refl;
  needed = λ r need. need;
  was_needed = λ r need. need;
  stood_too = λ b n stands. stands;
  cleaning = λ f rows fell is. is;
  reads = λ was fell keeps. keeps;
}

module _ (old mid new : Draft) (less : IsLess old mid) (b n : ℕ) (stands : Stands mid b n) (un : ¬ IsNeeded old.arena (registers.Result b n))
    (arena : new.arena ≡ with_inst_removed mid.arena b n) (numbers : numbers_of new ≡ changed_at b (without n) (numbers_of mid))
    (dead_candidates : new.dead_candidates.items ≡ mid.dead_candidates.items ++ filter_map register_of (operands_at mid.arena (record { block = b; number = n }))) where
  has : HasInst mid.arena b n
  has = stands_there mid less.whole b n stands

  silent : IsSilenced mid.arena (with_inst_removed mid.arena b n) b n
  silent = taken_out_is_silenced mid.arena b n has

  un_now : ¬ IsNeeded mid.arena (registers.Result b n)
  un_now need = un (less.was_needed (registers.Result b n) need)

  -- what stands then stood before, and is another
  pub stood_other : (c m : ℕ) → Stands new c m → Stands mid c m × ((c ≡ b) × (m ≡ n) → ⊥)
  stood_other = stood mid new less.whole b n has arena numbers dead_candidates

  pub one_less : IsWhole new → orders_of new ≡ orders_of mid → IsLess old new
  one_less whole orders = record {
    whole = whole;
    orders = orders ∙ less.orders;
    needed = λ r need. subst (λ (f : Function). IsNeeded f r) (sym arena) (needed_stays mid.arena (with_inst_removed mid.arena b n) b n silent un_now r (less.needed r need));
    was_needed = λ r need. less.was_needed r (needed_was mid.arena (with_inst_removed mid.arena b n) b n silent r (subst (λ (f : Function). IsNeeded f r) arena need));
    stood_too = λ c m there. less.stood_too c m (stood_other c m there).0;
    cleaning = λ f rows fell is. take_step mid new less.whole b n stands un_now arena numbers dead_candidates f rows (mid.dead_candidates.items ++ fell) fell (λ r among. inl among) (less.cleaning f rows fell is);
    reads = λ was fell keeps. uses_less mid new less.whole b n has arena numbers dead_candidates was (mid.dead_candidates.items ++ fell) fell (λ r among. inl among) (less.reads was fell keeps);
  }

-- where all that is left was live, it is live
pub all_less : (old new : Draft) → IsWhole old → IsWhole new → ((r : Register) → IsNeeded old.arena r → IsNeeded new.arena r) → ((b n : ℕ) → Stands new b n → IsNeeded old.arena (registers.Result b n))
    → (f : Function) (rows : List (List ℕ)) (waits : List Register)
    → (IsEliminating f rows old.arena (numbers_of old) (old.dead_candidates.items ++ waits) → IsEliminating f rows new.arena (numbers_of new) (new.dead_candidates.items ++ waits))
    → IsEliminating f rows old.arena (numbers_of old) waits → IsEliminating f rows new.arena (numbers_of new) []
all_less old new whole whole_now needed all f rows waits cleaning is =
    let wider : IsEliminating f rows old.arena (numbers_of old) (old.dead_candidates.items ++ waits) =
    cleaning_dropping old whole f rows waits (old.dead_candidates.items ++ waits) (λ r among. inl (Contains-append_right old.dead_candidates.items waits r among)) is in
    cleaning_done new whole_now f rows (new.dead_candidates.items ++ waits) (λ b n among stands. needed (registers.Result b n) (all b n stands)) (cleaning wider)
