-- Instructions and terminators are monotone in the registers that they read.
use Rattle.substitution.proofs.Common.{◌≡◌, ℕ, Bool, true, false, List, Some, refl, sym, ap, subst, ◌∙◌, slice_get, AllowsValue, AllowsEffect, IsValueOf, instruction, comparison, selection, conversion, unary, instruction-monotone, comparison-monotone, unary-monotone, conversion-monotone, selection-monotone, AllowsValue-refl, Value, Effect, OperandHasWidth, Read, read, reads_of, reads_at_end, Registers, Ending, Undefines, Returns, Goes, returning, going_by, branch_target, switch_target, has_noundef, OperandGives, Freezes, AnyNumber, Function, Binary, Compare, Unary, Select, Convert, Freeze, Phi, Operand, Register, HoldWidths, ReadsAllow, AllowsEnding, InstructionsAreMonotoneInReads, TerminatorsAreMonotoneInReads}
use Rattle.ops.specs.declared.value.Value.TheVariants as values
use Rattle.ops.specs.declared.value.Effect.TheVariants as effects
use Rattle.ir_core.specs.declared.operand.Operand.TheVariants as operands
use Rattle.ir_core.specs.declared.terminator.Terminator.TheVariants as terminators

-- the register's value in the first registers allows that in the second
abbrev pub RegisterAllows : Registers → Registers → Register → Type 0
RegisterAllows held held' r = (v' : Value) → held' r ≡ Some v' → (v : Value) × (held r ≡ Some v) × AllowsValue v v'

abbrev pub OperandAllows : Registers → Registers → Operand → Type 0
OperandAllows held held' (operands.Register r) = RegisterAllows held held' r
OperandAllows held held' (operands.Number n) = Unit {0}
OperandAllows held held' operands.Undef = Unit {0}
OperandAllows held held' operands.Poison = Unit {0}

pub operand_allowing : (held held' : Registers) (a : Operand) → ((r : Register) → a ≡ operands.Register r → RegisterAllows held held' r) → OperandAllows held held' a
operand_allowing held held' (operands.Register r) h = h r refl
operand_allowing held held' (operands.Number n) h = tt
operand_allowing held held' operands.Undef h = tt
operand_allowing held held' operands.Poison h = tt

read_allows : (held held' : Registers) (reads : List Read) → ReadsAllow held held' reads → (i : ℕ) (r : Read) → slice_get reads i ≡ Some r → OperandAllows held held' r.operand
read_allows held held' reads h i r at = operand_allowing held held' r.operand (λ register is v' there. h i r register v' at is there)

-- the operand gives a value that allows this one
abbrev GivesAllowing : Registers → ℕ → Operand → Value → Type 0
GivesAllowing held w a v' = (v : Value) × OperandGives AnyNumber held w a v × AllowsValue v v'

pub operand_allows : (held held' : Registers) (w : ℕ) (a : Operand) (v' : Value) → OperandAllows held held' a → OperandGives AnyNumber held' w a v' → GivesAllowing held w a v'
operand_allows held held' w (operands.Register r) v' more h = more v' h
operand_allows held held' w (operands.Number n) v' more h = (v', h, AllowsValue-refl v')
operand_allows held held' w operands.Undef v' more h = (v', h, AllowsValue-refl v')
operand_allows held held' w operands.Poison v' more h = (v', h, AllowsValue-refl v')

frozen_allows : (w : ℕ) (x x' v' : Value) → AllowsValue x x' → IsValueOf w x' → Freezes AnyNumber w x' v' → (v : Value) × Freezes AnyNumber w x v × AllowsValue v v'
frozen_allows w values.Poison values.Poison v' allows fits h = (v', h, AllowsValue-refl v')
frozen_allows w values.Poison (values.Bits n) v' allows fits h =
    (v', (n.number, fits.1, h ∙ ap (λ (k : ℕ). values.Bits (record { width = k; number = n.number })) fits.0), AllowsValue-refl v')
frozen_allows w (values.Bits n) x' v' allows fits h = (values.Bits n, refl, subst (λ x. Freezes AnyNumber w x v') allows h)

freeze_allows : (f : Function) (held held' : Registers) → HoldWidths f held' → (w : ℕ) (a : Operand) → OperandHasWidth f w a → (x' v' : Value) → OperandAllows held held' a → OperandGives AnyNumber held' w a x' → Freezes AnyNumber w x' v'
    → (x : Value) × (v : Value) × OperandGives AnyNumber held w a x × Freezes AnyNumber w x v × AllowsValue v v'
freeze_allows f held held' widths w (operands.Register r) has x' v' more h freezes =
    let x : GivesAllowing held w (operands.Register r) x' = more x' h in
    let v : (v : Value) × Freezes AnyNumber w x.0 v × AllowsValue v v' = frozen_allows w x.0 x' v' x.2 (widths r w x' has h) freezes in
    (x.0, v.0, x.1, v.1, v.2)
freeze_allows f held held' widths w (operands.Number n) has x' v' more h freezes = (x', v', h, freezes, AllowsValue-refl v')
freeze_allows f held held' widths w operands.Undef has x' v' more h freezes = (x', v', h, freezes, AllowsValue-refl v')
freeze_allows f held held' widths w operands.Poison has x' v' more h freezes = (x', v', h, freezes, AllowsValue-refl v')

-- an effect that allows another one allows what is equal to that
allows_same : (d e e' : Effect) → AllowsEffect d e → e' ≡ e → AllowsEffect d e'
allows_same d e e' h is = subst (λ x. AllowsEffect d x) (sym is) h

pub instructions_monotone : InstructionsAreMonotoneInReads
instructions_monotone f held held' b k w (Binary op flags a c) e' fits widths more h =
    let x : GivesAllowing held w a h.0 = operand_allows held held' w a h.0 (read_allows held held' (reads_of f b k w (Binary op flags a c)) more 0 (read b k w a) refl) h.2 in
    let y : GivesAllowing held w c h.1 = operand_allows held held' w c h.1 (read_allows held held' (reads_of f b k w (Binary op flags a c)) more 1 (read b k w c) refl) h.3 in
    (instruction op flags w x.0 y.0, (x.0, y.0, x.1, y.1, refl), allows_same _ _ e' (instruction-monotone op flags w x.0 y.0 h.0 h.1 x.2 y.2) h.4)
instructions_monotone f held held' b k w (Compare pred samesign compared a c) e' fits widths more h =
    let x : GivesAllowing held compared a h.0 = operand_allows held held' compared a h.0 (read_allows held held' (reads_of f b k w (Compare pred samesign compared a c)) more 0 (read b k compared a) refl) h.2 in
    let y : GivesAllowing held compared c h.1 = operand_allows held held' compared c h.1 (read_allows held held' (reads_of f b k w (Compare pred samesign compared a c)) more 1 (read b k compared c) refl) h.3 in
    (effects.Gives (comparison pred samesign compared x.0 y.0), (x.0, y.0, x.1, y.1, refl), allows_same (effects.Gives (comparison pred samesign compared x.0 y.0)) (effects.Gives (comparison pred samesign compared h.0 h.1)) e' (comparison-monotone pred samesign compared x.0 y.0 h.0 h.1 x.2 y.2) h.4)
instructions_monotone f held held' b k w (Select c x y) e' fits widths more h =
    let z : GivesAllowing held 1 c h.0 = operand_allows held held' 1 c h.0 (read_allows held held' (reads_of f b k w (Select c x y)) more 0 (read b k 1 c) refl) h.3 in
    let p : GivesAllowing held w x h.1 = operand_allows held held' w x h.1 (read_allows held held' (reads_of f b k w (Select c x y)) more 1 (read b k w x) refl) h.4 in
    let q : GivesAllowing held w y h.2 = operand_allows held held' w y h.2 (read_allows held held' (reads_of f b k w (Select c x y)) more 2 (read b k w y) refl) h.5 in
    (effects.Gives (selection z.0 p.0 q.0), (z.0, p.0, q.0, z.1, p.1, q.1, refl), allows_same (effects.Gives (selection z.0 p.0 q.0)) (effects.Gives (selection h.0 h.1 h.2)) e' (selection-monotone z.0 p.0 q.0 h.0 h.1 h.2 z.2 p.2 q.2) h.6)
instructions_monotone f held held' b k w (Convert cast flags from a) e' fits widths more h =
    let x : GivesAllowing held from a h.0 = operand_allows held held' from a h.0 (read_allows held held' (reads_of f b k w (Convert cast flags from a)) more 0 (read b k from a) refl) h.1 in
    (effects.Gives (conversion cast flags from w x.0), (x.0, x.1, refl), allows_same (effects.Gives (conversion cast flags from w x.0)) (effects.Gives (conversion cast flags from w h.0)) e' (conversion-monotone cast flags from w x.0 h.0 x.2) h.2)
instructions_monotone f held held' b k w (Unary op truth a) e' fits widths more h =
    let x : GivesAllowing held w a h.0 = operand_allows held held' w a h.0 (read_allows held held' (reads_of f b k w (Unary op truth a)) more 0 (read b k w a) refl) h.1 in
    (effects.Gives (unary op truth w x.0), (x.0, x.1, refl), allows_same (effects.Gives (unary op truth w x.0)) (effects.Gives (unary op truth w h.0)) e' (unary-monotone op truth w x.0 h.0 x.2) h.2)
instructions_monotone f held held' b k w (Freeze a) e' fits widths more h =
    let x : (x : Value) × (v : Value) × OperandGives AnyNumber held w a x × Freezes AnyNumber w x v × AllowsValue v h.1 =
    freeze_allows f held held' widths w a (fits 0 0 0 (read 0 0 w a) refl) h.0 h.1 (read_allows held held' (reads_of f b k w (Freeze a)) more 0 (read b k w a) refl) h.2 h.3 in
    (effects.Gives x.1, (x.0, x.1, x.2, x.3, refl), allows_same (effects.Gives x.1) (effects.Gives h.1) e' x.4 h.4)
instructions_monotone f held held' b k w (Phi entries) e' fits widths more h = absurd h

-- ---- terminators

returning_allows : (R : Registers → Registers → Type 0) (noundef : Bool) (a : Operand) (v v' : Value) → AllowsValue v v' → AllowsEnding R (returning noundef a v) (returning noundef a v')
returning_allows R false a v v' h = h
returning_allows R true operands.Undef v v' h = tt
returning_allows R true (operands.Register r) values.Poison v' h = tt
returning_allows R true (operands.Register r) (values.Bits n) v' h = subst (λ x. AllowsEnding R (Returns (values.Bits n)) (returning true (operands.Register r) x)) (sym h) refl
returning_allows R true (operands.Number x) values.Poison v' h = tt
returning_allows R true (operands.Number x) (values.Bits n) v' h = subst (λ x. AllowsEnding R (Returns (values.Bits n)) (returning true operands.Poison x)) (sym h) refl
returning_allows R true operands.Poison values.Poison v' h = tt
returning_allows R true operands.Poison (values.Bits n) v' h = subst (λ x. AllowsEnding R (Returns (values.Bits n)) (returning true operands.Poison x)) (sym h) refl

-- the registers are these
abbrev pub Same : Registers → Registers → Registers → Registers → Type 0
Same held held' x x' = (x ≡ held) × (x' ≡ held')

going_allows : (held held' : Registers) (to : ℕ → ℕ) (a : Operand) (v v' : Value) → AllowsValue v v' → AllowsEnding (Same held held') (going_by to held a v) (going_by to held' a v')
going_allows held held' to operands.Undef v v' h = tt
going_allows held held' to (operands.Register r) values.Poison v' h = tt
going_allows held held' to (operands.Register r) (values.Bits n) v' h = subst (λ x. AllowsEnding (Same held held') (Goes (to n.number) held) (going_by to held' (operands.Register r) x)) (sym h) (refl, (refl, refl))
going_allows held held' to (operands.Number x) values.Poison v' h = tt
going_allows held held' to (operands.Number x) (values.Bits n) v' h = subst (λ x. AllowsEnding (Same held held') (Goes (to n.number) held) (going_by to held' operands.Poison x)) (sym h) (refl, (refl, refl))
going_allows held held' to operands.Poison values.Poison v' h = tt
going_allows held held' to operands.Poison (values.Bits n) v' h = subst (λ x. AllowsEnding (Same held held') (Goes (to n.number) held) (going_by to held' operands.Poison x)) (sym h) (refl, (refl, refl))

ends_same : (R : Registers → Registers → Type 0) (d e e' : Ending) → AllowsEnding R d e → e' ≡ e → AllowsEnding R d e'
ends_same R d e e' h is = subst (λ x. AllowsEnding R d x) (sym is) h

pub terminators_monotone : TerminatorsAreMonotoneInReads
terminators_monotone f held held' b k (terminators.Return a) end' more h =
    let v : GivesAllowing held f.width a h.0 = operand_allows held held' f.width a h.0 (read_allows held held' (reads_at_end f b k (terminators.Return a)) more 0 (read b k f.width a) refl) h.1 in
    let noundef : Bool = has_noundef f.before in
    (returning noundef a v.0, (v.0, v.1, refl), ends_same (Same held held') (returning noundef a v.0) (returning noundef a h.0) end' (returning_allows (Same held held') noundef a v.0 h.0 v.2) h.2)
terminators_monotone f held held' b k (terminators.Jump c) end' more h = (Goes c held, refl, ends_same (Same held held') (Goes c held) (Goes c held') end' (refl, (refl, refl)) h)
terminators_monotone f held held' b k (terminators.Branch c to other) end' more h =
    let v : GivesAllowing held 1 c h.0 = operand_allows held held' 1 c h.0 (read_allows held held' (reads_at_end f b k (terminators.Branch c to other)) more 0 (read b k 1 c) refl) h.1 in
    let by : ℕ → ℕ = branch_target to other in
    (going_by by held c v.0, (v.0, v.1, refl), ends_same (Same held held') (going_by by held c v.0) (going_by by held' c h.0) end' (going_allows held held' by c v.0 h.0 v.2) h.2)
terminators_monotone f held held' b k (terminators.Switch a width other cases) end' more h =
    let v : GivesAllowing held width a h.0 = operand_allows held held' width a h.0 (read_allows held held' (reads_at_end f b k (terminators.Switch a width other cases)) more 0 (read b k width a) refl) h.1 in
    let by : ℕ → ℕ = switch_target cases other in
    (going_by by held a v.0, (v.0, v.1, refl), ends_same (Same held held') (going_by by held a v.0) (going_by by held' a h.0) end' (going_allows held held' by a v.0 h.0 v.2) h.2)
terminators_monotone f held held' b k terminators.Unreachable end' more h = (Undefines, refl, tt)
