-- Instructions are monotone: registers that hold values which allow others give effects that allow those of the others.
use Rattle.ir_meaning.proofs.Common.{◌≡◌, ℕ, refl, sym, ap, subst, ◌∙◌, AllowsValue, AllowsEffect, IsValueOf, instruction, comparison, selection, conversion, unary, instruction-monotone, comparison-monotone, unary-monotone, conversion-monotone, selection-monotone, Value, Effect, OperandHasWidth, read, Registers, OperandGives, Freezes, AnyNumber, Function, Binary, Compare, Unary, Select, Convert, Freeze, Phi, Operand, HoldAllowing, HoldWidths, InstructionsAreMonotone, PhisAreMonotone}
use Rattle.ops.specs.declared.value.Value.TheVariants as values
use Rattle.ops.specs.declared.value.Effect.TheVariants as effects
use Rattle.ir_core.specs.declared.operand.Operand.TheVariants as operands

itself : (v : Value) → AllowsValue v v
itself values.Poison = tt
itself (values.Bits n) = refl

-- the operand gives a value that allows this one
abbrev GivesAllowing : Registers → ℕ → Operand → Value → Type 0
GivesAllowing held w a v' = (v : Value) × OperandGives AnyNumber held w a v × AllowsValue v v'

operand_allows : (held held' : Registers) → HoldAllowing held held' → (w : ℕ) (a : Operand) (v' : Value) → OperandGives AnyNumber held' w a v' → GivesAllowing held w a v'
operand_allows held held' more w (operands.Register r) v' h = more r v' h
operand_allows held held' more w (operands.Number n) v' h = (v', h, itself v')
operand_allows held held' more w operands.Undef v' h = (v', h, itself v')
operand_allows held held' more w operands.Poison v' h = (v', h, itself v')

frozen_allows : (w : ℕ) (x x' v' : Value) → AllowsValue x x' → IsValueOf w x' → Freezes AnyNumber w x' v' → (v : Value) × Freezes AnyNumber w x v × AllowsValue v v'
frozen_allows w values.Poison values.Poison v' allows fits h = (v', h, itself v')
frozen_allows w values.Poison (values.Bits n) v' allows fits h =
    (v', (n.number, fits.1, h ∙ ap (λ (k : ℕ). values.Bits (record { width = k; number = n.number })) fits.0), itself v')
frozen_allows w (values.Bits n) x' v' allows fits h = (values.Bits n, refl, subst (λ x. Freezes AnyNumber w x v') allows h)

freeze_allows : (f : Function) (held held' : Registers) → HoldAllowing held held' → HoldWidths f held' → (w : ℕ) (a : Operand) → OperandHasWidth f w a → (x' v' : Value) → OperandGives AnyNumber held' w a x' → Freezes AnyNumber w x' v'
    → (x : Value) × (v : Value) × OperandGives AnyNumber held w a x × Freezes AnyNumber w x v × AllowsValue v v'
freeze_allows f held held' more widths w (operands.Register r) has x' v' h freezes =
    let x = more r x' h in
    let v = frozen_allows w x.0 x' v' x.2 (widths r w x' has h) freezes in
    (x.0, v.0, x.1, v.1, v.2)
freeze_allows f held held' more widths w (operands.Number n) has x' v' h freezes = (x', v', h, freezes, itself v')
freeze_allows f held held' more widths w operands.Undef has x' v' h freezes = (x', v', h, freezes, itself v')
freeze_allows f held held' more widths w operands.Poison has x' v' h freezes = (x', v', h, freezes, itself v')

-- an effect that allows another one allows what is equal to that
allows_same : (d e e' : Effect) → AllowsEffect d e → e' ≡ e → AllowsEffect d e'
allows_same d e e' h is = subst (λ x. AllowsEffect d x) (sym is) h

pub instructions-monotone : InstructionsAreMonotone
instructions-monotone f held held' w (Binary op flags a b) e' fits widths more h =
    let x = operand_allows held held' more w a h.0 h.2 in
    let y = operand_allows held held' more w b h.1 h.3 in
    (instruction op flags w x.0 y.0, (x.0, y.0, x.1, y.1, refl), allows_same _ _ e' (instruction-monotone op flags w x.0 y.0 h.0 h.1 x.2 y.2) h.4)
instructions-monotone f held held' w (Compare pred samesign compared a b) e' fits widths more h =
    let x = operand_allows held held' more compared a h.0 h.2 in
    let y = operand_allows held held' more compared b h.1 h.3 in
    (effects.Gives (comparison pred samesign compared x.0 y.0), (x.0, y.0, x.1, y.1, refl), allows_same (effects.Gives (comparison pred samesign compared x.0 y.0)) (effects.Gives (comparison pred samesign compared h.0 h.1)) e' (comparison-monotone pred samesign compared x.0 y.0 h.0 h.1 x.2 y.2) h.4)
instructions-monotone f held held' w (Select c a b) e' fits widths more h =
    let z = operand_allows held held' more 1 c h.0 h.3 in
    let x = operand_allows held held' more w a h.1 h.4 in
    let y = operand_allows held held' more w b h.2 h.5 in
    (effects.Gives (selection z.0 x.0 y.0), (z.0, x.0, y.0, z.1, x.1, y.1, refl), allows_same (effects.Gives (selection z.0 x.0 y.0)) (effects.Gives (selection h.0 h.1 h.2)) e' (selection-monotone z.0 x.0 y.0 h.0 h.1 h.2 z.2 x.2 y.2) h.6)
instructions-monotone f held held' w (Convert cast flags from a) e' fits widths more h =
    let x = operand_allows held held' more from a h.0 h.1 in
    (effects.Gives (conversion cast flags from w x.0), (x.0, x.1, refl), allows_same (effects.Gives (conversion cast flags from w x.0)) (effects.Gives (conversion cast flags from w h.0)) e' (conversion-monotone cast flags from w x.0 h.0 x.2) h.2)
instructions-monotone f held held' w (Unary op truth a) e' fits widths more h =
    let x = operand_allows held held' more w a h.0 h.1 in
    (effects.Gives (unary op truth w x.0), (x.0, x.1, refl), allows_same (effects.Gives (unary op truth w x.0)) (effects.Gives (unary op truth w h.0)) e' (unary-monotone op truth w x.0 h.0 x.2) h.2)
instructions-monotone f held held' w (Freeze a) e' fits widths more h =
    let x = freeze_allows f held held' more widths w a (fits 0 0 0 (read 0 0 w a) refl) h.0 h.1 h.2 h.3 in
    (effects.Gives x.1, (x.0, x.1, x.2, x.3, refl), allows_same (effects.Gives x.1) (effects.Gives h.1) e' x.4 h.4)
instructions-monotone f held held' w (Phi entries) e' fits widths more h = absurd h

pub phis-monotone : PhisAreMonotone
phis-monotone held held' from w entries v' more h =
    let v = operand_allows held held' more w h.1 v' h.4 in
    (v.0, (h.0, h.1, h.2, h.3, v.1), v.2)
