-- An outcome in which each number that is left open is 0 is one in which it may be any number.
use Rattle.ir_meaning.proofs.Common.{ℕ, zero, suc, ◌<◌, ◌^◌, Bool, true, false, List, [], ◌∷◌, Option, None, Some, sym, subst, pow_pos, Value, Effect, Registers, arguments, holding, Ending, Undefines, Returns, Goes, GoesOn, Leads, IsChosen, OperandGives, Freezes, OpGives, PhiGives, EndGives, Follows, Enters, RunsFrom, Starts, AnyNumber, OnlyZero, breaks_noundef, Function, Inst, Op, Binary, Compare, Unary, Select, Convert, Freeze, Phi, Operand, Terminator, Outcome, ZeroOutcomesAreOutcomes}
use Rattle.ops.specs.declared.value.Value.TheVariants as values
use Rattle.ops.specs.declared.value.Effect.TheVariants as effects
use Rattle.ir_core.specs.declared.operand.Operand.TheVariants as operands
use Rattle.ir_core.specs.declared.terminator.Terminator.TheVariants as terminators
use Rattle.ir_meaning.proofs.Pieces.{if_phi_map}

chosen_any : (w : ℕ) (v : Value) → IsChosen OnlyZero w v → IsChosen AnyNumber w v
chosen_any w v h = (h.0, subst (λ n. n < 2 ^ w) (sym h.1) (pow_pos w), h.2)

operand_any : (held : Registers) (w : ℕ) (a : Operand) (v : Value) → OperandGives OnlyZero held w a v → OperandGives AnyNumber held w a v
operand_any held w (operands.Register r) v h = h
operand_any held w (operands.Number n) v h = h
operand_any held w operands.Undef v h = chosen_any w v h
operand_any held w operands.Poison v h = h

freezes_any : (w : ℕ) (x v : Value) → Freezes OnlyZero w x v → Freezes AnyNumber w x v
freezes_any w values.Poison v h = chosen_any w v h
freezes_any w (values.Bits n) v h = h

op_any : (held : Registers) (w : ℕ) (op : Op) (e : Effect) → OpGives OnlyZero held w op e → OpGives AnyNumber held w op e
op_any held w (Binary op flags a b) e h = (h.0, h.1, operand_any held w a h.0 h.2, operand_any held w b h.1 h.3, h.4)
op_any held w (Compare pred samesign compared a b) e h = (h.0, h.1, operand_any held compared a h.0 h.2, operand_any held compared b h.1 h.3, h.4)
op_any held w (Select c a b) e h = (h.0, h.1, h.2, operand_any held 1 c h.0 h.3, operand_any held w a h.1 h.4, operand_any held w b h.2 h.5, h.6)
op_any held w (Convert cast flags from a) e h = (h.0, operand_any held from a h.0 h.1, h.2)
op_any held w (Unary op truth a) e h = (h.0, operand_any held w a h.0 h.1, h.2)
op_any held w (Freeze a) e h = (h.0, h.1, operand_any held w a h.0 h.2, freezes_any w h.0 h.1 h.3, h.4)
op_any held w (Phi entries) e h = h

phi_any : (held : Registers) (from : Option ℕ) (w : ℕ) (entries : List (Operand × ℕ)) (v : Value) → PhiGives OnlyZero held from w entries v → PhiGives AnyNumber held from w entries v
phi_any held from w entries v h = (h.0, h.1, h.2, h.3, operand_any held w h.1 v h.4)

end_any : (held : Registers) (f : Function) (t : Terminator) (end : Ending) → EndGives OnlyZero held f t end → EndGives AnyNumber held f t end
end_any held f (terminators.Return a) end h = (h.0, operand_any held f.width a h.0 h.1, h.2)
end_any held f (terminators.Jump b) end h = h
end_any held f (terminators.Branch c to other) end h = (h.0, operand_any held 1 c h.0 h.1, h.2)
end_any held f (terminators.Switch a width other cases) end h = (h.0, operand_any held width a h.0 h.1, h.2)
end_any held f terminators.Unreachable end h = h

pub goes_on : (next later : Value → Type 0) (e : Effect) (end : Ending) → ((v : Value) → next v → later v) → GoesOn next e end → GoesOn later e end
goes_on next later effects.Undefined end f g = g
goes_on next later (effects.Gives v) end f g = f v g

leads : (next later : ℕ → Registers → Outcome → Type 0) (end : Ending) (o : Outcome) → ((c : ℕ) (held : Registers) → next c held o → later c held o) → Leads next end o → Leads later end o
leads next later Undefines o f g = g
leads next later (Returns v) o f g = g
leads next later (Goes c held) o f g = f c held g

follows_any : (f : Function) (b k : ℕ) (insts : List Inst) (t : Terminator) (held : Registers) (end : Ending) → Follows OnlyZero f b k insts t held end → Follows AnyNumber f b k insts t held end
follows_any f b k [] t held end h = end_any held f t end h
follows_any f b k (i ∷ insts) t held end h = (
  h.0,
  op_any held i.width i.op h.0 h.1,
  goes_on (λ v. Follows OnlyZero f b (suc k) insts t (holding held b k v) end) (λ v. Follows AnyNumber f b (suc k) insts t (holding held b k v) end) h.0 end (λ v g. follows_any f b (suc k) insts t (holding held b k v) end g) h.2,
)

enters_any : (f : Function) (from : Option ℕ) (old : Registers) (b k : ℕ) (insts : List Inst) (t : Terminator) (held : Registers) (end : Ending) → Enters OnlyZero f from old b k insts t held end → Enters AnyNumber f from old b k insts t held end
enters_any f from old b k [] t held end h = end_any held f t end h
enters_any f from old b k (i ∷ insts) t held end h =
    if_phi_map i.op
    (λ entries. (v : Value) × PhiGives OnlyZero old from i.width entries v × Enters OnlyZero f from old b (suc k) insts t (holding held b k v) end)
    (λ entries. (v : Value) × PhiGives AnyNumber old from i.width entries v × Enters AnyNumber f from old b (suc k) insts t (holding held b k v) end)
    (Follows OnlyZero f b k (i ∷ insts) t held end)
    (Follows AnyNumber f b k (i ∷ insts) t held end)
    (λ entries g. (g.0, phi_any old from i.width entries g.0 g.1, enters_any f from old b (suc k) insts t (holding held b k g.0) end g.2))
    (λ g. follows_any f b k (i ∷ insts) t held end g)
    h

pub runs_any : (f : Function) (n : ℕ) (from : Option ℕ) (b : ℕ) (held : Registers) (o : Outcome) → RunsFrom OnlyZero f n from b held o → RunsFrom AnyNumber f n from b held o
runs_any f zero from b held o h = h
runs_any f (suc n) from b held o h = (
  h.0,
  (h.1.0, h.1.1, enters_any f from held b 0 h.1.0.insts h.1.0.end held h.0 h.1.2),
  leads (RunsFrom OnlyZero f n (Some b)) (RunsFrom AnyNumber f n (Some b)) h.0 o (λ c there g. runs_any f n (Some b) c there o g) h.2,
)

pub starts_any : (breaks : Bool) (f : Function) (args : List Value) (n : ℕ) (o : Outcome) → Starts OnlyZero breaks f args n o → Starts AnyNumber breaks f args n o
starts_any true f args n o h = h
starts_any false f args n o h = runs_any f n None 0 (arguments args) o h

pub zero_is_outcome : ZeroOutcomesAreOutcomes
zero_is_outcome f args n o h = starts_any (breaks_noundef f.parameters args) f args n o h
