-- Lists of places with more of them appended.
use Rattle.draft_steps.proofs.Common.{◌≡◌, ℕ, ◌+◌, ◌<◌, List, [], ◌∷◌, ◌++◌, All, length, get_or, take, sym, subst, Contains, All-append, All-more, All-push, All-weaker, Contains-append_left, Contains-append_right, Contains-get_or, Contains-push, Function, Register, IsUseCount, Place}
use Rattle.ir_core.specs.declared.operand.Register.TheVariants as registers

module _ (put replaced slice one two three : List Place) (root : Place) (pushed : one ≡ put ++ root ∷ []) (extended : two ≡ one ++ slice) (same : slice ≡ replaced) (others : (p : Place) → Contains two p → Contains three p) where
  in_one : (p : Place) → Contains one p → Contains three p
  in_one p has = others p (subst (λ (l : List Place). Contains l p) (sym extended) (Contains-append_left one slice p has))

  pub put_among : (p : Place) → Contains put p → Contains three p
  put_among p has = in_one p (subst (λ (l : List Place). Contains l p) (sym pushed) (Contains-append_left put (root ∷ []) p has))

  pub root_among : Contains three root
  root_among = in_one root (subst (λ (l : List Place). Contains l root) (sym pushed) (Contains-push put root))

  pub replaced_among : (p : Place) → Contains replaced p → Contains three p
  replaced_among p has = others p (subst (λ (l : List Place). Contains l p) (sym extended) (Contains-append_right one slice p (subst (λ (l : List Place). Contains l p) (sym same) has)))

  pub all_among : (P : Place → Type 0) → All P put → P root → All P replaced → All P two
  all_among P puts is rest = subst (All P) (sym extended) (All-append P one slice (subst (All P) (sym pushed) (All-push P put root puts is)) (subst (All P) (sym same) rest))

-- if the register has exactly one use, the place of its instruction is among these
abbrev pub IsTold : Function → List Place → Register → Type 0
IsTold f places r = (b n : ℕ) → r ≡ registers.Result b n → IsUseCount f (registers.Result b n) 1 → Contains places (record { block = b; number = n })

pub told_more : (f : Function) (old new : List Place) (used : List Register) (index : ℕ) (d : Register) → index < length used → ((p : Place) → Contains old p → Contains new p)
    → All (IsTold f old) (take index used) → IsTold f new (get_or used index d) → All (IsTold f new) (take (index + 1) used)
told_more f old new used index d lt keeps all here =
    All-more (IsTold f new) used index d lt (All-weaker (IsTold f old) (IsTold f new) (λ r told b n is once. keeps (record { block = b; number = n }) (told b n is once)) (take index used) all) here

-- the register is the next one of the list, or of no instruction
pub told_here : (f : Function) (old new : List Place) (used : List Register) (index : ℕ) (d r : Register) → get_or used index d ≡ r → index < length used → ((p : Place) → Contains old p → Contains new p)
    → All (IsTold f old) (take index used) → IsTold f new r → All (IsTold f new) (take (index + 1) used)
told_here f old new used index d r is lt keeps all here = told_more f old new used index d lt keeps all (subst (IsTold f new) (sym is) here)

pub told_none : (f : Function) (places : List Place) (used : List Register) (index : ℕ) (d : Register) → ((b n : ℕ) → get_or used index d ≡ registers.Result b n → ⊥) → index < length used
    → All (IsTold f places) (take index used) → All (IsTold f places) (take (index + 1) used)
told_none f places used index d none lt all = told_more f places places used index d lt (λ p has. has) all (λ b n is once. absurd (none b n is))

pub among_here : (used : List Register) (index : ℕ) (d r : Register) → get_or used index d ≡ r → index < length used → Contains used r
among_here used index d r is lt = subst (Contains used) is (Contains-get_or used index d lt)

pub pushed_there : (f : Function) (old new : List Place) (block number : ℕ) → new ≡ old ++ record { block = block; number = number } ∷ [] → IsTold f new (registers.Result block number)
pushed_there f old new block number is = λ b n same once.
    let same_block : block ≡ b = cc in
    let same_number : number ≡ n = cc in
    let here : Place = record { block = block; number = number } in
    let there : Contains new here = subst (λ (l : List Place). Contains l here) (sym is) (Contains-push old here) in
    subst (λ (c : ℕ). let p : Place = record { block = c; number = n } in Contains new p) same_block (subst (λ (k : ℕ). let p : Place = record { block = block; number = k } in Contains new p) same_number there)
