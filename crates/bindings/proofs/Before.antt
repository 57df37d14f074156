-- In a block, an instruction stands behind those whose results it reads.
use Rattle.bindings.proofs.Common.{◌≡◌, inl, inr, ℕ, ◌<◌, List, Some, refl, sym, ap, subst, ◌∙◌, arith, slice_get, cases_eq, cases_lt, IsAssigned, HasInst, IsInst, IsPhi, MeetsChecks, IsReached, Read, IsRead, reads_of, Function, Inst, Register, NotBothAreAssigned, own_place, ReadsStandBefore}
use Rattle.ir_core.specs.declared.operand.Operand.TheVariants as operands
use Rattle.ir_core.specs.declared.operand.Register.TheVariants as registers
use Rattle.bindings.proofs.Reading.{has_inst_at, reads_at_inst}

-- what an instruction other than a phi reads is assigned there
pub read_assigned : (f : Function) (b k i : ℕ) (inst : Inst) (r : Read) (reg : Register) → MeetsChecks f → IsInst f b k inst → ¬ IsPhi inst.op → IsRead f b k i r → r.operand ≡ operands.Register reg → IsAssigned f reg b k
read_assigned f b k i inst r reg meets is no_phi is_read reads =
    let here : slice_get (reads_of f b k inst.width inst.op) i ≡ Some r = ap (λ (l : List Read). slice_get l i) (sym (reads_at_inst f b k inst is)) ∙ is_read in
    let own = own_place f b k inst.width inst.op no_phi i r here in
    subst (λ (n : ℕ). IsAssigned f reg b n) own.1 (subst (λ (d : ℕ). IsAssigned f reg d r.place) own.0 (meets.assigned b k i r is_read reg reads))

-- a result is assigned behind its instruction
assigned_behind : (f : Function) (b k p : ℕ) → HasInst f b k → k < p → IsAssigned f (registers.Result b k) b p
assigned_behind f b k p has less = (has, λ before walk. inr (refl, less))

-- a result that is assigned at an instruction of its own block is that of an earlier one
pub before_in_block : NotBothAreAssigned → (f : Function) (b p k : ℕ) → IsReached f b → HasInst f b k → IsAssigned f (registers.Result b p) b k → p < k
before_in_block not_both f b p k reached has assigned = elim (cases_lt p k) [
  | inl less ↦ less
  | inr late ↦ elim (cases_eq p k) [
    | inl same ↦
        let itself : IsAssigned f (registers.Result b k) b p =
        subst (λ (n : ℕ). IsAssigned f (registers.Result b n) b p) same (subst (λ (n : ℕ). IsAssigned f (registers.Result b p) b n) (sym same) assigned) in
        absurd (not_both f b p b k reached assigned itself)
    | inr other ↦
        let behind : k < p = omega (arith, late, other) in
        absurd (not_both f b p b k reached assigned (assigned_behind f b k p has behind))
  ]
]

pub stand_before : NotBothAreAssigned → ReadsStandBefore
stand_before not_both f b k p i inst r meets reached is no_phi is_read reads =
    before_in_block not_both f b p k reached (has_inst_at f b k inst is) (read_assigned f b k i inst r (registers.Result b p) meets is no_phi is_read reads)
