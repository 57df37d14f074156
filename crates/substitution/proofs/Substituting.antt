-- What operations give once operands are substituted for registers.
use Rattle.substitution.proofs.Common.{◌≡◌, ◌≢◌, ℕ, Bool, true, false, ◌&&◌, cond, List, Option, Some, refl, sym, ap, subst, ◌∙◌, Contains, same_Some, Value, Effect, Function, Op, Binary, Compare, Unary, Select, Convert, Freeze, Phi, Operand, Register, Terminator, Registers, Ending, Goes, Undefines, Returns, returning, going_by, branch_target, switch_target, has_noundef, is_indefinite, is_poison, AnyNumber, OperandGives, OpGives, PhiGives, EndGives, Substitution, substituted_operand, substituted_entries, substituted_op, substituted_end, IsDefinite, value_of, pulled_back, ending_back, SubstitutedInstructionsGive, SubstitutedPhisGive, SubstitutedTerminatorsEnd}
use Rattle.ops.specs.declared.value.Value.TheVariants as values
use Rattle.ir_core.specs.declared.operand.Operand.TheVariants as operands
use Rattle.ir_core.specs.declared.terminator.Terminator.TheVariants as terminators
use Rattle.substitution.proofs.Pieces.{in_map, map_in}

-- ---- operands

gives_value : (held : Registers) (w : ℕ) (a : Operand) (v : Value) → a ≢ operands.Undef → OperandGives AnyNumber held w a v → value_of held a ≡ Some v
gives_value held w (operands.Register r) v d h = h
gives_value held w (operands.Number n) v d h = ap (λ x. Some x) (sym h)
gives_value held w operands.Undef v d h = absurd (d refl)
gives_value held w operands.Poison v d h = ap (λ x. Some x) (sym h)

value_gives : (held : Registers) (w : ℕ) (a : Operand) (v : Value) → value_of held a ≡ Some v → OperandGives AnyNumber held w a v
value_gives held w (operands.Register r) v h = h
value_gives held w (operands.Number n) v h = sym (same_Some (values.Bits n) v h)
value_gives held w operands.Undef v h = absurd cc
value_gives held w operands.Poison v h = sym (same_Some values.Poison v h)

operand_back : (to : Substitution) (held : Registers) → IsDefinite to → (w : ℕ) (a : Operand) (v : Value) → OperandGives AnyNumber held w (substituted_operand to a) v → OperandGives AnyNumber (pulled_back to held) w a v
operand_back to held d w (operands.Register r) v h = gives_value held w (to r) v (d r) h
operand_back to held d w (operands.Number n) v h = h
operand_back to held d w operands.Undef v h = h
operand_back to held d w operands.Poison v h = h

operand_on : (to : Substitution) (held : Registers) (w : ℕ) (a : Operand) (v : Value) → OperandGives AnyNumber (pulled_back to held) w a v → OperandGives AnyNumber held w (substituted_operand to a) v
operand_on to held w (operands.Register r) v h = value_gives held w (to r) v h
operand_on to held w (operands.Number n) v h = h
operand_on to held w operands.Undef v h = h
operand_on to held w operands.Poison v h = h

-- ---- instructions

pub op_back : (to : Substitution) (held : Registers) → IsDefinite to → (w : ℕ) (op : Op) (e : Effect) → OpGives AnyNumber held w (substituted_op to op) e → OpGives AnyNumber (pulled_back to held) w op e
op_back to held d w (Binary op flags x y) e h = (h.0, h.1, operand_back to held d w x h.0 h.2, operand_back to held d w y h.1 h.3, h.4)
op_back to held d w (Compare pred samesign compared x y) e h = (h.0, h.1, operand_back to held d compared x h.0 h.2, operand_back to held d compared y h.1 h.3, h.4)
op_back to held d w (Select c x y) e h = (h.0, h.1, h.2, operand_back to held d 1 c h.0 h.3, operand_back to held d w x h.1 h.4, operand_back to held d w y h.2 h.5, h.6)
op_back to held d w (Convert cast flags from x) e h = (h.0, operand_back to held d from x h.0 h.1, h.2)
op_back to held d w (Unary op truth x) e h = (h.0, operand_back to held d w x h.0 h.1, h.2)
op_back to held d w (Freeze x) e h = (h.0, h.1, operand_back to held d w x h.0 h.2, h.3, h.4)
op_back to held d w (Phi entries) e h = h

op_on : (to : Substitution) (held : Registers) (w : ℕ) (op : Op) (e : Effect) → OpGives AnyNumber (pulled_back to held) w op e → OpGives AnyNumber held w (substituted_op to op) e
op_on to held w (Binary op flags x y) e h = (h.0, h.1, operand_on to held w x h.0 h.2, operand_on to held w y h.1 h.3, h.4)
op_on to held w (Compare pred samesign compared x y) e h = (h.0, h.1, operand_on to held compared x h.0 h.2, operand_on to held compared y h.1 h.3, h.4)
op_on to held w (Select c x y) e h = (h.0, h.1, h.2, operand_on to held 1 c h.0 h.3, operand_on to held w x h.1 h.4, operand_on to held w y h.2 h.5, h.6)
op_on to held w (Convert cast flags from x) e h = (h.0, operand_on to held from x h.0 h.1, h.2)
op_on to held w (Unary op truth x) e h = (h.0, operand_on to held w x h.0 h.1, h.2)
op_on to held w (Freeze x) e h = (h.0, h.1, operand_on to held w x h.0 h.2, h.3, h.4)
op_on to held w (Phi entries) e h = h

pub instructions_give : SubstitutedInstructionsGive
instructions_give to held w op e d = (op_back to held d w op e, op_on to held w op e)

-- ---- phis

pub phi_back : (to : Substitution) (held : Registers) → IsDefinite to → (from : Option ℕ) (w : ℕ) (entries : List (Operand × ℕ)) (v : Value) → PhiGives AnyNumber held from w (substituted_entries to entries) v → PhiGives AnyNumber (pulled_back to held) from w entries v
phi_back to held d from w entries v h =
    let put : Operand × ℕ → Operand × ℕ = λ e. (substituted_operand to e.0, e.1) in
    let e : (e : Operand × ℕ) × Contains entries e × (put e ≡ (h.1, h.0)) = in_map put entries (h.1, h.0) h.3 in
    let operand : substituted_operand to e.0.0 ≡ h.1 = ap (λ (x : Operand × ℕ). x.0) e.2 in
    let block : e.0.1 ≡ h.0 = ap (λ (x : Operand × ℕ). x.1) e.2 in
    (h.0, e.0.0, h.2, subst (λ c. Contains entries (e.0.0, c)) block e.1, operand_back to held d w e.0.0 v (subst (λ a. OperandGives AnyNumber held w a v) (sym operand) h.4))

phi_on : (to : Substitution) (held : Registers) (from : Option ℕ) (w : ℕ) (entries : List (Operand × ℕ)) (v : Value) → PhiGives AnyNumber (pulled_back to held) from w entries v → PhiGives AnyNumber held from w (substituted_entries to entries) v
phi_on to held from w entries v h =
    (h.0, substituted_operand to h.1, h.2, map_in (λ (e : Operand × ℕ). (substituted_operand to e.0, e.1)) entries (h.1, h.0) h.3, operand_on to held w h.1 v h.4)

pub phis_give : SubstitutedPhisGive
phis_give to held from w entries v d = (phi_back to held d from w entries v, phi_on to held from w entries v)

-- ---- terminators

definite-indefinite : (a : Operand) (v : Value) → a ≢ operands.Undef → is_indefinite a v ≡ is_poison v
definite-indefinite (operands.Register r) v d = refl
definite-indefinite (operands.Number n) v d = refl
definite-indefinite operands.Undef v d = absurd (d refl)
definite-indefinite operands.Poison v d = refl

indefinite-back : (to : Substitution) → IsDefinite to → (a : Operand) (v : Value) → is_indefinite (substituted_operand to a) v ≡ is_indefinite a v
indefinite-back to d (operands.Register r) v = definite-indefinite (to r) v (d r)
indefinite-back to d (operands.Number n) v = refl
indefinite-back to d operands.Undef v = refl
indefinite-back to d operands.Poison v = refl

returned : (to : Substitution) (c : Bool) (v : Value) → ending_back to (cond c Undefines (Returns v)) ≡ cond c Undefines (Returns v)
returned to true v = refl
returned to false v = refl

going_definite : (to : Substitution) (held : Registers) (by : ℕ → ℕ) (a : Operand) (r : Register) (v : Value) → a ≢ operands.Undef → ending_back to (going_by by held a v) ≡ going_by by (pulled_back to held) (operands.Register r) v
going_definite to held by (operands.Register x) r values.Poison d = refl
going_definite to held by (operands.Register x) r (values.Bits n) d = refl
going_definite to held by (operands.Number x) r values.Poison d = refl
going_definite to held by (operands.Number x) r (values.Bits n) d = refl
going_definite to held by operands.Undef r v d = absurd (d refl)
going_definite to held by operands.Poison r values.Poison d = refl
going_definite to held by operands.Poison r (values.Bits n) d = refl

going_back : (to : Substitution) (held : Registers) → IsDefinite to → (by : ℕ → ℕ) (a : Operand) (v : Value) → ending_back to (going_by by held (substituted_operand to a) v) ≡ going_by by (pulled_back to held) a v
going_back to held d by (operands.Register r) v = going_definite to held by (to r) r v (d r)
going_back to held d by (operands.Number x) values.Poison = refl
going_back to held d by (operands.Number x) (values.Bits n) = refl
going_back to held d by operands.Undef v = refl
going_back to held d by operands.Poison values.Poison = refl
going_back to held d by operands.Poison (values.Bits n) = refl

pub terminator_back : (to : Substitution) (f : Function) (held : Registers) (t : Terminator) (end : Ending) → IsDefinite to → EndGives AnyNumber held f (substituted_end to t) end → EndGives AnyNumber (pulled_back to held) f t (ending_back to end)
terminator_back to f held (terminators.Return a) end d h =
    let noundef : Bool = has_noundef f.before in
    (h.0, operand_back to held d f.width a h.0 h.1, ap (ending_back to) h.2 ∙ returned to (noundef && is_indefinite (substituted_operand to a) h.0) h.0 ∙ ap (λ c. cond (noundef && c) Undefines (Returns h.0)) (indefinite-back to d a h.0))
terminator_back to f held (terminators.Jump b) end d h = ap (ending_back to) h
terminator_back to f held (terminators.Branch c b other) end d h = (h.0, operand_back to held d 1 c h.0 h.1, ap (ending_back to) h.2 ∙ going_back to held d (branch_target b other) c h.0)
terminator_back to f held (terminators.Switch a width other cases) end d h = (h.0, operand_back to held d width a h.0 h.1, ap (ending_back to) h.2 ∙ going_back to held d (switch_target cases other) a h.0)
terminator_back to f held terminators.Unreachable end d h = ap (ending_back to) h

terminator_on : (to : Substitution) (f : Function) (held : Registers) (t : Terminator) (old : Ending) → IsDefinite to → EndGives AnyNumber (pulled_back to held) f t old
    → (end : Ending) × EndGives AnyNumber held f (substituted_end to t) end × (ending_back to end ≡ old)
terminator_on to f held (terminators.Return a) old d h =
    let noundef : Bool = has_noundef f.before in (
      returning noundef (substituted_operand to a) h.0,
      (h.0, operand_on to held f.width a h.0 h.1, refl),
      returned to (noundef && is_indefinite (substituted_operand to a) h.0) h.0 ∙ ap (λ c. cond (noundef && c) Undefines (Returns h.0)) (indefinite-back to d a h.0) ∙ sym h.2,
    )
terminator_on to f held (terminators.Jump b) old d h = (Goes b held, refl, sym h)
terminator_on to f held (terminators.Branch c b other) old d h =
    (going_by (branch_target b other) held (substituted_operand to c) h.0, (h.0, operand_on to held 1 c h.0 h.1, refl), going_back to held d (branch_target b other) c h.0 ∙ sym h.2)
terminator_on to f held (terminators.Switch a width other cases) old d h =
    (going_by (switch_target cases other) held (substituted_operand to a) h.0, (h.0, operand_on to held width a h.0 h.1, refl), going_back to held d (switch_target cases other) a h.0 ∙ sym h.2)
terminator_on to f held terminators.Unreachable old d h = (Undefines, refl, sym h)

pub terminators_end : SubstitutedTerminatorsEnd
terminators_end to f held t old d = (λ h. subst (EndGives AnyNumber (pulled_back to held) f t) h.2 (terminator_back to f held t h.0 d h.1), terminator_on to f held t old d)
