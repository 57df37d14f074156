-- What is assigned in the old function is assigned in the new one, at its new place.
use Rattle.substitution.proofs.Common.{◌≡◌, ◌≢◌, ℕ, ◌+◌, ◌<◌, ◌≤◌, inl, inr, List, [], ◌∷◌, length, Some, refl, sym, subst, ◌∙◌, arith, Contains, slice_get, IsAssigned, targets_of, IsBlock, HasInst, Names, IsInst, IsWalk, Function, Block, Inst, Operand, Register, Terminator, some_at, substituted_operand, substituted_end, substituted_inst, Rewrite, root_of, moved_place, stands_for, rewritten_block, rewritten_function, Fits, MayBeRead, assignment_transitive, has_inst}
use Rattle.ir_core.specs.declared.operand.Operand.TheVariants as operands
use Rattle.ir_core.specs.declared.operand.Register.TheVariants as registers
use Rattle.ir_core.specs.declared.terminator.Terminator.TheVariants as terminators
use Rattle.substitution.proofs.Arriving.{same_or_other}
use Rattle.substitution.proofs.Placing.{IsTheRoot, moved_below, moved_root, put_below, stands_root, stands_other, block_at, block_back, inst_on, put_on}
use Rattle.substitution.proofs.Standing.{old_other, other_register}

-- ---- walks

pub assigned_later : (f : Function) (r : Register) (b j k : ℕ) → j ≤ k → IsAssigned f r b j → IsAssigned f r b k
assigned_later f (registers.Parameter p) b j k le h = h
assigned_later f (registers.Result d i) b j k le h = (h.0, λ before walk. elim (h.1 before walk) [ inl passed ↦ inl passed | inr here ↦ inr (here.0, let lt : i < j = here.1 in omega arith) ])

-- the instruction at a place that has one
inst_there : (f : Function) (b k : ℕ) → HasInst f b k → (inst : Inst) × IsInst f b k inst
inst_there f b k h = let at : (x : Inst) × (slice_get h.0.insts k ≡ Some x) = some_at h.0.insts k h.2 in (at.0, record { block = h.0; is_block = h.1; is_inst = at.1 })

targets-substituted : (w : Rewrite) (t : Terminator) → targets_of (substituted_end (stands_for w) t) ≡ targets_of t
targets-substituted w (terminators.Return a) = refl
targets-substituted w (terminators.Jump to) = refl
targets-substituted w (terminators.Branch c to other) = refl
targets-substituted w (terminators.Switch a width other cases) = refl
targets-substituted w terminators.Unreachable = refl

pub names_back : (w : Rewrite) (f : Function) (b c : ℕ) → Names (rewritten_function w f) b c → Names f b c
names_back w f b c h =
    let was : (block : Block) × IsBlock f b block × (rewritten_block w b block ≡ h.0) = block_back w f b h.0 h.1 in
    let named : Contains (targets_of (substituted_end (stands_for w) was.0.end)) c = subst (λ (x : Block). Contains (targets_of x.end) c) (sym was.2) h.2 in
    (was.0, was.1, subst (λ (l : List ℕ). Contains l c) (targets-substituted w was.0.end) named)

pub names_on : (w : Rewrite) (f : Function) (b c : ℕ) → Names f b c → Names (rewritten_function w f) b c
names_on w f b c h = (rewritten_block w b h.0, block_at w f b h.0 h.1, subst (λ (l : List ℕ). Contains l c) (sym (targets-substituted w h.0.end)) h.2)

walk_back : (w : Rewrite) (f : Function) (blocks : List ℕ) → IsWalk (rewritten_function w f) blocks → IsWalk f blocks
walk_back w f [] h = h
walk_back w f (b ∷ []) h = h
walk_back w f (c ∷ b ∷ before) h = (names_back w f b c h.0, walk_back w f (b ∷ before) h.1)

-- ---- assigned

same_register : (r s : Register) → operands.Register r ≡ operands.Register s → r ≡ s
same_register r s e = cc

module _ (f : Function) (w : Rewrite) (root : Inst) (fits : Fits f w root) where
  abbrev new : Function
  new = rewritten_function w f

  other_assigned : (d j c k : ℕ) → ¬ IsTheRoot w d j → IsAssigned f (registers.Result d j) c k → IsAssigned new (registers.Result d (moved_place w d j)) c (moved_place w c k)
  other_assigned d j c k other h =
      let inst : (inst : Inst) × IsInst f d j inst = inst_there f d j h.0 in (
        has_inst new d (moved_place w d j) (substituted_inst (stands_for w) inst.0) (inst_on w f d j inst.0 inst.1 other),
        λ before walk. elim (h.1 before (walk_back w f (c ∷ before) walk)) [
          | inl passed ↦ inl passed
          | inr here ↦ inr (here.0, subst (λ (b : ℕ). moved_place w d j < moved_place w b k) here.0 (moved_below w d j k here.1 other))
        ],
      )

  -- the substitute for a register other than the root's is assigned where that register is
  old_assigned : (a : Operand) (register : Register) (c k : ℕ) → a ≢ operands.Register (root_of w) → substituted_operand (stands_for w) a ≡ operands.Register register
      → ((r : Register) → a ≡ operands.Register r → IsAssigned f r c k) → IsAssigned new register c (moved_place w c k)
  old_assigned (operands.Register (registers.Parameter p)) register c k ne e h = subst (λ (x : Register). IsAssigned new x c (moved_place w c k)) (same_register (registers.Parameter p) register e) (h (registers.Parameter p) refl)
  old_assigned (operands.Register (registers.Result d j)) register c k ne e h =
      let other : ¬ IsTheRoot w d j = other_register w d j ne in
      let is : operands.Register (registers.Result d (moved_place w d j)) ≡ operands.Register register = sym (stands_other w d j other) ∙ e in
      subst (λ (x : Register). IsAssigned new x c (moved_place w c k)) (same_register (registers.Result d (moved_place w d j)) register is) (other_assigned d j c k other (h (registers.Result d j) refl))
  old_assigned (operands.Number n) register c k ne e h = absurd cc
  old_assigned operands.Undef register c k ne e h = absurd cc
  old_assigned operands.Poison register c k ne e h = absurd cc

  -- an instruction that is put has its result assigned where the root was assigned
  put_assigned : (l : ℕ) (inst : Inst) (c k : ℕ) → l < length w.put → slice_get w.put l ≡ Some inst → IsAssigned f (root_of w) c k → IsAssigned new (registers.Result w.block (w.place + l)) c (moved_place w c k)
  put_assigned l inst c k lt at h = (
    has_inst new w.block (w.place + l) inst (put_on w f root l inst fits.is_root at),
    λ before walk. elim (h.1 before (walk_back w f (c ∷ before) walk)) [
      | inl passed ↦ inl passed
      | inr here ↦ inr (here.0, put_below w c k l (sym here.0) here.1 lt)
    ],
  )

  result_assigned : (register : Register) (c k : ℕ) → w.result ≡ operands.Register register → IsAssigned f (root_of w) c k → IsAssigned new register c (moved_place w c k)
  result_assigned register c k e h =
      elim fits.result [
        | inl o ↦ old_assigned o.old register c k (old_other f w root fits root.width w.result o) (sym o.stands ∙ e) (λ r is. assignment_transitive f r w.block w.place c k (o.assigned r is) h)
        | inr p ↦
            let is : operands.Register (registers.Result w.block (w.place + p.place)) ≡ operands.Register register = sym p.stands ∙ e in
            subst (λ (x : Register). IsAssigned new x c (moved_place w c k)) (same_register (registers.Result w.block (w.place + p.place)) register is) (put_assigned p.place p.inst c k p.before p.is_put h)
      ]

  -- the substitute for a register is assigned where that register is
  pub assigned_on : (a : Operand) (register : Register) (c k : ℕ) → substituted_operand (stands_for w) a ≡ operands.Register register → ((r : Register) → a ≡ operands.Register r → IsAssigned f r c k)
      → IsAssigned new register c (moved_place w c k)
  assigned_on (operands.Register (registers.Parameter p)) register c k e h = subst (λ (x : Register). IsAssigned new x c (moved_place w c k)) (same_register (registers.Parameter p) register e) (h (registers.Parameter p) refl)
  assigned_on (operands.Register (registers.Result d j)) register c k e h =
      elim (same_or_other d j w.block w.place) [
        | inl here ↦
            let is : registers.Result d j ≡ root_of w = (let p = here.0 in let q = here.1 in cc) in
            result_assigned register c k (sym (stands_root w d j here) ∙ e) (subst (λ (x : Register). IsAssigned f x c k) is (h (registers.Result d j) refl))
        | inr other ↦
            let is : operands.Register (registers.Result d (moved_place w d j)) ≡ operands.Register register = sym (stands_other w d j other) ∙ e in
            subst (λ (x : Register). IsAssigned new x c (moved_place w c k)) (same_register (registers.Result d (moved_place w d j)) register is) (other_assigned d j c k other (h (registers.Result d j) refl))
      ]
  assigned_on (operands.Number n) register c k e h = absurd cc
  assigned_on operands.Undef register c k e h = absurd cc
  assigned_on operands.Poison register c k e h = absurd cc

  -- and so are the registers that the instructions which are put may read
  pub read_assigned : (i width : ℕ) (a : Operand) (register : Register) → MayBeRead f w i width a → a ≡ operands.Register register → IsAssigned new register w.block (w.place + i)
  read_assigned i width a register (inl o) e =
      let at_root : IsAssigned new register w.block (moved_place w w.block w.place) = old_assigned o.old register w.block w.place (old_other f w root fits width a o) (sym o.stands ∙ e) o.assigned in
      assigned_later new register w.block w.place (w.place + i) (omega arith) (subst (λ (n : ℕ). IsAssigned new register w.block n) (moved_root w w.block w.place (refl, refl)) at_root)
  read_assigned i width a register (inr p) e =
      let is : operands.Register (registers.Result w.block (w.place + p.place)) ≡ operands.Register register = sym p.stands ∙ e in
      let before : p.place < i = p.before in
      subst (λ (x : Register). IsAssigned new x w.block (w.place + i)) (same_register (registers.Result w.block (w.place + p.place)) register is)
      (has_inst new w.block (w.place + p.place) p.inst (put_on w f root p.place p.inst fits.is_root p.is_put), λ before_it walk. inr (refl, omega arith))
