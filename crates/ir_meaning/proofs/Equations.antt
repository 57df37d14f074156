-- Each result that is no phi's holds what its instruction gives on what its operands hold at the same moment.
use Rattle.ir_meaning.proofs.Common.{◌≡◌, ℕ, inr, List, Some, refl, sym, ap, subst, ◌∙◌, slice_get, same_Some, Value, Effect, Function, Block, Inst, Op, Binary, Compare, Unary, Select, Convert, Freeze, Phi, Operand, Register, IsAssigned, ReadIsAssigned, IsInst, IsPhi, Read, read, reads_of, Registers, AnyNumber, OperandGives, OpGives, PhiGives, IfPhi, Moment, InstGives, EquationsHoldWhereAssigned, EquationsHoldInOneVisit}
use Rattle.ops.specs.declared.value.Effect.TheVariants as effects
use Rattle.ir_core.specs.declared.operand.Operand.TheVariants as operands
use Rattle.ir_meaning.proofs.Restricting.{reads_inst}
use Rattle.ir_meaning.proofs.Steps.{has_inst}
use Rattle.ir_meaning.proofs.Holding.{assigned_ran, results_held, operands_held}

-- ---- registers that hold what they held before

-- if the operand is a register, that is assigned at the place
abbrev OperandIsAssigned : Function → ℕ → ℕ → Operand → Type 0
OperandIsAssigned f d j a = (r : Register) → a ≡ operands.Register r → IsAssigned f r d j

operand_kept : (held now : Registers) (w : ℕ) (a : Operand) (v : Value) → ((r : Register) → a ≡ operands.Register r → now r ≡ held r) → OperandGives AnyNumber held w a v → OperandGives AnyNumber now w a v
operand_kept held now w (operands.Register r) v same h = same r refl ∙ h
operand_kept held now w (operands.Number n) v same h = h
operand_kept held now w operands.Undef v same h = h
operand_kept held now w operands.Poison v same h = h

-- an instruction may give what it gave, if the registers that it reads hold what they held
module _ (f : Function) (d j : ℕ) (held now : Registers) (same : (r : Register) → IsAssigned f r d j → now r ≡ held r) where
  kept : (w : ℕ) (a : Operand) (v : Value) → OperandIsAssigned f d j a → OperandGives AnyNumber held w a v → OperandGives AnyNumber now w a v
  kept w a v assigned h = operand_kept held now w a v (λ r is. same r (assigned r is)) h

  op_kept : (w : ℕ) (op : Op) (e : Effect) → ¬ IsPhi op → ((i : ℕ) (r : Read) → slice_get (reads_of f d j w op) i ≡ Some r → ReadIsAssigned f r) → OpGives AnyNumber held w op e → OpGives AnyNumber now w op e
  op_kept w (Binary op flags x y) e other a h = (h.0, h.1, kept w x h.0 (a 0 (read d j w x) refl) h.2, kept w y h.1 (a 1 (read d j w y) refl) h.3, h.4)
  op_kept w (Compare pred samesign compared x y) e other a h = (h.0, h.1, kept compared x h.0 (a 0 (read d j compared x) refl) h.2, kept compared y h.1 (a 1 (read d j compared y) refl) h.3, h.4)
  op_kept w (Select c x y) e other a h =
      (h.0, h.1, h.2, kept 1 c h.0 (a 0 (read d j 1 c) refl) h.3, kept w x h.1 (a 1 (read d j w x) refl) h.4, kept w y h.2 (a 2 (read d j w y) refl) h.5, h.6)
  op_kept w (Convert cast flags from x) e other a h = (h.0, kept from x h.0 (a 0 (read d j from x) refl) h.1, h.2)
  op_kept w (Unary op truth x) e other a h = (h.0, kept w x h.0 (a 0 (read d j w x) refl) h.1, h.2)
  op_kept w (Freeze x) e other a h = (h.0, h.1, kept w x h.0 (a 0 (read d j w x) refl) h.2, h.3, h.4)
  op_kept w (Phi entries) e other a h = absurd (other tt)

-- ---- equations

pub if_no_phi : (op : Op) (P : List (Operand × ℕ) → Type 0) (Q : Type 0) → ¬ IsPhi op → IfPhi P Q op → Q
if_no_phi (Binary op flags x y) P Q other h = h
if_no_phi (Compare pred samesign compared x y) P Q other h = h
if_no_phi (Select c x y) P Q other h = h
if_no_phi (Convert cast flags from x) P Q other h = h
if_no_phi (Unary op truth x) P Q other h = h
if_no_phi (Freeze x) P Q other h = h
if_no_phi (Phi entries) P Q other h = absurd (other tt)

pub op_from_inst : (m : Moment) (inst : Inst) (e : Effect) → ¬ IsPhi inst.op → InstGives m inst e → OpGives AnyNumber m.held inst.width inst.op e
op_from_inst m inst e other h =
    if_no_phi inst.op
    (λ entries. (v : Value) × PhiGives AnyNumber m.entered m.from inst.width entries v × (e ≡ effects.Gives v))
    (OpGives AnyNumber m.held inst.width inst.op e)
    other h

pub one_inst : (f : Function) (b k : ℕ) (x y : Inst) → IsInst f b k x → IsInst f b k y → x ≡ y
one_inst f b k x y p q =
    let block : p.block ≡ q.block = same_Some p.block q.block (sym p.is_block ∙ q.is_block) in
    same_Some x y (sym p.is_inst ∙ ap (λ (z : Block). slice_get z.insts k) block ∙ q.is_inst)

pub equations : EquationsHoldWhereAssigned
equations f args m before checked h d j inst is other a =
    let ran = assigned_ran f args d j m before h a in
    let last : Moment = ran.1 in
    let given = results_held f args d j m before ran.0 last ran.2 (has_inst f d j inst is) h ran.3 in
    let gives : InstGives last inst (effects.Gives given.1) = subst (λ (x : Inst). InstGives last x (effects.Gives given.1)) (one_inst f d j given.0 inst given.2 is) given.3 in
    let op : OpGives AnyNumber last.held inst.width inst.op (effects.Gives given.1) = op_from_inst last inst (effects.Gives given.1) other gives in
    let reads : (i : ℕ) (r : Read) → slice_get (reads_of f d j inst.width inst.op) i ≡ Some r → ReadIsAssigned f r = λ i r e. checked d j i r (reads_inst f d j is.block inst is.is_block is.is_inst i r e) in
    (given.1, given.4, op_kept f d j last.held m.held (λ r assigned. operands_held f args r d j m before ran.0 last ran.2 h ran.3 assigned a) inst.width inst.op (effects.Gives given.1) other reads op)

pub equations_here : EquationsHoldInOneVisit
equations_here f args m before checked h j inst lt is other =
    equations f args m before checked h m.block j inst is other (has_inst f m.block j inst is, λ walk is_walk. inr (refl, lt))
