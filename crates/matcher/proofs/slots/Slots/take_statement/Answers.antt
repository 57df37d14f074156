use Rattle.matcher.proofs.Common.{◌≡◌, ◌∙◌, ℕ, Some, sym, subst, slice_get, get_or_from_slice_get, same_Some, width_of, Register, OperandsMatch, same_block, same_place}
use Rattle.ir_core.specs.declared.operand.Register.TheVariants as registers
use Rattle.matcher.proofs.Knowing.{keeps_along}
use Rattle.matcher.proofs.slots.Slots.take_statement.Goals as goal

pub returns-clause-knows : goal.returns-clause-knows
returns-clause-knows c m b p N at width typing match =
    let stored : c.index.result.now ≡ Some (registers.Result b p) = c.index.ensures ∙ get_or_from_slice_get c.args.self.now.statements.items c.args.j (Some (registers.Result b p)) c.index.result.now at in
    let register : c.in-Some.register ≡ registers.Result b p = same_Some c.in-Some.register (registers.Result b p) (sym c.in-Some.is ∙ stored) in
    let result : registers.Result b p ≡ registers.Result c.in-Result.block c.in-Result.place = sym register ∙ c.in-Result.is in
    let eb : b ≡ c.in-Result.block = same_block b c.in-Result.block p c.in-Result.place result in
    let ep : p ≡ c.in-Result.place = same_place b c.in-Result.block p c.in-Result.place result in
    let match_here : OperandsMatch c.args.f.now m c.in-Result.block c.in-Result.place c.args.statement.now.op =
    subst (λ (x : ℕ). OperandsMatch c.args.f.now m x c.in-Result.place c.args.statement.now.op) eb (subst (λ (x : ℕ). OperandsMatch c.args.f.now m b x c.args.statement.now.op) ep match) in
    let width_here : width_of c.args.f.now (registers.Result c.in-Result.block c.in-Result.place) ≡ Some N = subst (λ (r : Register). width_of c.args.f.now r ≡ Some N) result width in
    let one : N ≡ c.in-Some-width_at.width = same_Some N c.in-Some-width_at.width (sym width_here ∙ sym c.width_at.ensures ∙ c.in-Some-width_at.is) in
    let first = c.take_width.ensures.knows m (subst (λ (w : ℕ). slice_get m.typing c.args.statement.now.class ≡ Some w) one typing) in
    let then = c.take_operands.ensures.knows m match_here in
    (then.0, keeps_along m c.args.self.now c.take_width.new.self c.take_operands.new.self first.0 then.1, (then.1.widths c.args.statement.now.class first.1, then.2))
