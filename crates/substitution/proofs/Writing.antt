-- After an instruction, or all that is put in the root's place, the assigned registers still allow their substitutes.
use Rattle.substitution.proofs.Common.{◌≡◌, ◌≢◌, ℕ, suc, ◌+◌, ◌<◌, inl, inr, List, [], ◌∷◌, length, Some, refl, sym, ap, subst, ◌∙◌, arith, slice_get, same_Some, AllowsValue, Value, Effect, IsAssigned, IsInst, Registers, holding, AnyNumber, OpGives, IsReached, Function, Inst, Operand, Register, substituted_operand, value_of, Rewrite, root_of, moved_place, stands_for, rewritten_function, RunsOn, RunsThrough, Fits, AssignedAllow, AllowsPut, rest_here, rest_next, held_here, held_elsewhere, not_both_assigned}
use Rattle.ops.specs.declared.value.Effect.TheVariants as effects
use Rattle.ir_core.specs.declared.operand.Operand.TheVariants as operands
use Rattle.ir_core.specs.declared.operand.Register.TheVariants as registers
use Rattle.substitution.proofs.Going.{unwritten, unwritten_by}
use Rattle.substitution.proofs.Arriving.{Arrives, arrive_next, same_or_other}
use Rattle.substitution.proofs.Assigning.{assigned_next}
use Rattle.substitution.proofs.Standing.{old_other, other_register}
use Rattle.substitution.proofs.Placing.{IsTheRoot, moved_apart, moved_no_put, stands_root, stands_other, put_on}

module _ (f : Function) (w : Rewrite) (root : Inst) (fits : Fits f w root) where
  -- ---- no instruction writes the substitute for another's register

  old_apart : (b k : ℕ) (a : Operand) → IsReached f b → ¬ IsTheRoot w b k → IsAssigned f (root_of w) b k → a ≢ operands.Register (root_of w) → ((r : Register) → a ≡ operands.Register r → IsAssigned f r w.block w.place)
      → substituted_operand (stands_for w) a ≢ operands.Register (registers.Result b (moved_place w b k))
  old_apart b k (operands.Register (registers.Parameter p)) reached other assigned ne known e = absurd cc
  old_apart b k (operands.Register (registers.Result d j)) reached other assigned ne known e =
      let not_root : ¬ IsTheRoot w d j = other_register w d j ne in
      let is : operands.Register (registers.Result d (moved_place w d j)) ≡ operands.Register (registers.Result b (moved_place w b k)) = sym (stands_other w d j not_root) ∙ e in
      let block : d ≡ b = cc in
      let moved : moved_place w d j ≡ moved_place w b k = cc in
      let place : j ≡ k = moved_apart w b j k (subst (λ (c : ℕ). ¬ IsTheRoot w c j) block not_root) other (ap (λ c. moved_place w c j) (sym block) ∙ moved) in
      let there : IsAssigned f (registers.Result b k) w.block w.place = subst (λ (n : ℕ). IsAssigned f (registers.Result b n) w.block w.place) place (subst (λ (c : ℕ). IsAssigned f (registers.Result c j) w.block w.place) block (known (registers.Result d j) refl)) in
      not_both_assigned f w.block w.place b k reached assigned there
  old_apart b k (operands.Number n) reached other assigned ne known e = absurd cc
  old_apart b k operands.Undef reached other assigned ne known e = absurd cc
  old_apart b k operands.Poison reached other assigned ne known e = absurd cc

  result_apart : (b k : ℕ) → IsReached f b → ¬ IsTheRoot w b k → IsAssigned f (root_of w) b k → w.result ≢ operands.Register (registers.Result b (moved_place w b k))
  result_apart b k reached other assigned e =
      elim fits.result [
        | inl o ↦ old_apart b k o.old reached other assigned (old_other f w root fits root.width w.result o) o.assigned (sym o.stands ∙ e)
        | inr p ↦
            let is : operands.Register (registers.Result w.block (w.place + p.place)) ≡ operands.Register (registers.Result b (moved_place w b k)) = sym p.stands ∙ e in
            moved_no_put w b k p.place other (cc) p.before (cc)
      ]

  stand_apart : (b k : ℕ) (r : Register) → IsReached f b → ¬ IsTheRoot w b k → IsAssigned f r b k → r ≢ registers.Result b k → stands_for w r ≢ operands.Register (registers.Result b (moved_place w b k))
  stand_apart b k (registers.Parameter p) reached other assigned ne e = absurd cc
  stand_apart b k (registers.Result d j) reached other assigned ne e =
      elim (same_or_other d j w.block w.place) [
        | inl here ↦
            let is : registers.Result d j ≡ root_of w = (let p = here.0 in let q = here.1 in cc) in
            result_apart b k reached other (subst (λ (x : Register). IsAssigned f x b k) is assigned) (sym (stands_root w d j here) ∙ e)
        | inr not_root ↦
            let is : operands.Register (registers.Result d (moved_place w d j)) ≡ operands.Register (registers.Result b (moved_place w b k)) = sym (stands_other w d j not_root) ∙ e in
            let block : d ≡ b = cc in
            let moved : moved_place w d j ≡ moved_place w b k = cc in
            let place : j ≡ k = moved_apart w b j k (subst (λ (c : ℕ). ¬ IsTheRoot w c j) block not_root) other (ap (λ c. moved_place w c j) (sym block) ∙ moved) in
            ne cc
      ]

  -- ---- one instruction

  -- writing an instruction's register leaves the others as they were
  other_held : (b k : ℕ) (held : Registers) (v : Value) (r : Register) → r ≢ registers.Result b k → holding held b k v r ≡ held r
  other_held b k held v (registers.Parameter p) ne = refl
  other_held b k held v (registers.Result d j) ne = held_elsewhere held b k v d j (λ h. ne (let p = h.0 in let q = h.1 in cc))

  pub allows_next : (b k : ℕ) (held held' : Registers) (v v' : Value) → IsReached f b → ¬ IsTheRoot w b k → AllowsValue v v' → AssignedAllow f w b k held held'
      → AssignedAllow f w b (suc k) (holding held b k v) (holding held' b (moved_place w b k) v')
  allows_next b k held held' v v' reached other allowed h r x assigned holds =
      elim (assigned_next f r b k assigned) [
        | inl here ↦
            let stands : stands_for w r ≡ operands.Register (registers.Result b (moved_place w b k)) = ap (stands_for w) here ∙ stands_other w b k other in
            let now : value_of (holding held' b (moved_place w b k) v') (stands_for w r) ≡ Some v' = ap (value_of (holding held' b (moved_place w b k) v')) stands ∙ held_here held' b (moved_place w b k) v' b (moved_place w b k) refl refl in
            let is : v' ≡ x = same_Some v' x (sym now ∙ holds) in
            (v, ap (holding held b k v) here ∙ held_here held b k v b k refl refl, subst (AllowsValue v) is allowed)
        | inr before ↦
            let same : value_of (holding held' b (moved_place w b k) v') (stands_for w r) ≡ value_of held' (stands_for w r) = unwritten held' b (moved_place w b k) v' (stands_for w r) (stand_apart b k r reached other before.1 before.0) in
            let was : (y : Value) × (held r ≡ Some y) × AllowsValue y x = h r x before.1 (sym same ∙ holds) in
            (was.0, other_held b k held v r before.0 ∙ was.1, was.2)
      ]

  -- the substitute for a register other than the root's is no result of what is put
  stand_not_put : (r : Register) → r ≢ root_of w → (l : ℕ) → l < length w.put → stands_for w r ≢ operands.Register (registers.Result w.block (w.place + l))
  stand_not_put (registers.Parameter p) ne l lt e = absurd cc
  stand_not_put (registers.Result d j) ne l lt e =
      let not_root : ¬ IsTheRoot w d j = λ h. ne (let p = h.0 in let q = h.1 in cc) in
      let is : operands.Register (registers.Result d (moved_place w d j)) ≡ operands.Register (registers.Result w.block (w.place + l)) = sym (stands_other w d j not_root) ∙ e in
      moved_no_put w d j l not_root (cc) lt (cc)

  pub allows_root : (held held' next : Registers) (v : Value) → AssignedAllow f w w.block w.place held held' → RunsThrough w.block w.place w.put held' (Some next) → AllowsPut w (effects.Gives v) (Some next)
      → AssignedAllow f w w.block (suc w.place) (holding held w.block w.place v) next
  allows_root held held' next v h runs allowed r x assigned holds =
      elim (assigned_next f r w.block w.place assigned) [
        | inl here ↦ (v, ap (holding held w.block w.place v) here ∙ held_here held w.block w.place v w.block w.place refl refl, allowed x (ap (λ y. value_of next (stands_for w y)) (sym here) ∙ holds))
        | inr before ↦
            let same : value_of next (stands_for w r) ≡ value_of held' (stands_for w r) = unwritten_by w.block w.place w.put held' next (stands_for w r) (stand_not_put r before.0) runs in
            let was : (y : Value) × (held r ≡ Some y) × AllowsValue y x = h r x before.1 (sym same ∙ holds) in
            (was.0, other_held w.block w.place held v r before.0 ∙ was.1, was.2)
      ]

  -- behind the root's place the assigned registers allow their substitutes
  pub allows_behind : (b k : ℕ) (held held' next : Registers) (v : Value) → b ≡ w.block → k ≡ w.place → AssignedAllow f w b k held held' → RunsThrough b k w.put held' (Some next) → AllowsPut w (effects.Gives v) (Some next)
      → AssignedAllow f w b (suc k) (holding held b k v) next
  allows_behind b k held held' next v p q h runs allowed =
      subst (λ (c : ℕ). AssignedAllow f w c (suc k) (holding held c k v) next) (sym p)
      (subst (λ (n : ℕ). AssignedAllow f w w.block (suc n) (holding held w.block n v) next) (sym q)
      (allows_root held held' next v (subst (λ (n : ℕ). AssignedAllow f w w.block n held held') q (subst (λ (c : ℕ). AssignedAllow f w c k held held') p h))
      (subst (λ (n : ℕ). RunsThrough w.block n w.put held' (Some next)) q (subst (λ (c : ℕ). RunsThrough c k w.put held' (Some next)) p runs)) allowed))

module _ (f : Function) (w : Rewrite) (root : Inst) (fits : Fits f w root) (args : List Value) where
  abbrev new : Function
  new = rewritten_function w f

  -- a run of the new function comes to the place behind the first instructions that are put
  put_arrives : (before : List ℕ) (n l : ℕ) (insts : List Inst) (entered held next : Registers) → n ≡ w.place + l → ((i : ℕ) → slice_get w.put (l + i) ≡ slice_get insts i)
      → Arrives new args before w.block n entered held → RunsThrough w.block n insts held (Some next) → Arrives new args before w.block (n + length insts) entered next
  put_arrives before n l [] entered held next at is run h =
      let same : n ≡ n + 0 = omega arith in
      subst (λ (x : Registers). Arrives new args before w.block (n + 0) entered x) (sym (same_Some next held h)) (subst (λ (p : ℕ). Arrives new args before w.block p entered held) same run)
  put_arrives before n l (i ∷ insts) entered held next at is run h =
      by (λ v run on. put_arrives before (suc n) (suc l) insts entered (holding held w.block n v) next (omega arith) (rest_next w.put l i insts is) run on) h.0 h.1 h.2
    where
      inst_at : IsInst new w.block n i
      inst_at = subst (λ (p : ℕ). IsInst new w.block p i) (sym at) (put_on w f root l i fits.is_root (rest_here w.put l i insts is))

      by : ((v : Value) → Arrives new args before w.block (suc n) entered (holding held w.block n v) → RunsThrough w.block (suc n) insts (holding held w.block n v) (Some next) → Arrives new args before w.block (suc n + length insts) entered next)
          → (e : Effect) → OpGives AnyNumber held i.width i.op e → RunsOn (λ v. RunsThrough w.block (suc n) insts (holding held w.block n v) (Some next)) e (Some next) → Arrives new args before w.block (n + suc (length insts)) entered next
      by later effects.Undefined gives on = absurd cc
      by later (effects.Gives v) gives on =
          let rest : Arrives new args before w.block (suc n + length insts) entered next = later v (arrive_next new args before w.block n entered held i v run inst_at gives) on in
          let same : suc n + length insts ≡ n + suc (length insts) = omega arith in
          subst (λ (p : ℕ). Arrives new args before w.block p entered next) same rest

  -- and so behind all of them
  pub put_through : (k b : ℕ) (before : List ℕ) (entered held next : Registers) → b ≡ w.block → k ≡ w.place → Arrives new args before b k entered held → RunsThrough b k w.put held (Some next) → Arrives new args before b (k + length w.put) entered next
  put_through k b before entered held next p q run h =
      subst (λ (c : ℕ). Arrives new args before c (k + length w.put) entered next) (sym p)
      (put_arrives before k 0 w.put entered held next (q ∙ omega arith) (λ i. let same : 0 + i ≡ i = omega arith in ap (slice_get w.put) same) (subst (λ (c : ℕ). Arrives new args before c k entered held) p run) (subst (λ (c : ℕ). RunsThrough c k w.put held (Some next)) p h))
