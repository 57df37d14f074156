use Rattle.ir_printer.proofs.Common.{◌∙◌, sym, arith, ap, ℕ, slice_get, identifiers_of}
use Rattle.ir_core.specs.declared.operand.Register.TheVariants as registers
use Rattle.ir_printer.proofs.Identified.{no_result, start_is, too_far}
use Rattle.ir_printer.proofs.identifiers.Identifiers.result.Goals as goal

pub returns-in_err-start : goal.returns-in_err-start
returns-in_err-start c =
    let called = c.args.self.now in
    rw c.from_residual.ensures (sym (no_result called.function.now called.starts.items c.args.block c.args.inst called.all_starts (sym c.start.ensures ∙ c.in_err-start.was)))

pub returns-in_err-checked_add : goal.returns-in_err-checked_add
returns-in_err-checked_add c =
    let called = c.args.self.now in
    let start = start_is called.function.now called.starts.items c.args.block c.in_ok-start.start called.all_starts (sym c.start.ensures ∙ c.in_ok-start.was) in
    rw c.from_residual-in_err-checked_add.ensures (sym (too_far called.function.now called.in_order.items (registers.Result c.args.block c.args.inst) called.all_identifiers (omega arith)))

pub returns-in_err-place : goal.returns-in_err-place
returns-in_err-place c =
    let called = c.args.self.now in
    let start = start_is called.function.now called.starts.items c.args.block c.in_ok-start.start called.all_starts (sym c.start.ensures ∙ c.in_ok-start.was) in
    rw c.from_residual-in_err-place.ensures (sym (too_far called.function.now called.in_order.items (registers.Result c.args.block c.args.inst) called.all_identifiers (omega arith)))

pub returns : goal.returns
returns c =
    let called = c.args.self.now in
    let start = start_is called.function.now called.starts.items c.args.block c.in_ok-start.start called.all_starts (sym c.start.ensures ∙ c.in_ok-start.was) in
    c.at.ensures ∙ ap (λ (n : ℕ). slice_get (identifiers_of called.function.now) n) (omega arith)
