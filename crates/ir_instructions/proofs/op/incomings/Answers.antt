use Rattle.ir_instructions.proofs.Common.{◌∙◌, sym, err_from_is_err_and, seen, begins_incoming, further_incoming_at}
use Rattle.ir_instructions.proofs.Loops.{each-more, each-fault, each-done}
use Rattle.ir_instructions.proofs.Takings.{incoming-takes}
use Rattle.ir_instructions.proofs.op.incomings.Goals as goal

pub returns-in_err-further_incoming : goal.returns-in_err-further_incoming
returns-in_err-further_incoming c =
    let p = err_from_is_err_and c.from_residual.result c.from_residual.ensures.1 in
    rw (p.1, p.2) (each-fault begins_incoming (further_incoming_at c.args.width) c.incomings.incomings (seen c.incomings.tokens.now) _ c.in_err-further_incoming.field-0.0 (sym c.begins_incoming.ensures ∙ c.incomings-test.true) c.in_err-further_incoming.ensures c.incomings.invariant)

pub incomings-smaller : goal.incomings-smaller
incomings-smaller c = incoming-takes c.args.width (seen c.incomings.tokens.now) (c.in_ok-further_incoming.field-0, seen c.further_incoming.new.tokens.now) (sym c.begins_incoming.ensures ∙ c.incomings-test.true) c.in_ok-further_incoming.ensures

pub incomings-preserved : goal.incomings-preserved
incomings-preserved c =
    rw c.in_ok-push.ensures.ok (
    sym (each-more begins_incoming (further_incoming_at c.args.width) (incoming-takes c.args.width) c.incomings.incomings (seen c.incomings.tokens.now) (c.in_ok-further_incoming.field-0, seen c.further_incoming.new.tokens.now) (sym c.begins_incoming.ensures ∙ c.incomings-test.true) c.in_ok-further_incoming.ensures)
    ∙ c.incomings.invariant)

pub returns : goal.returns
returns c = sym c.incomings.invariant ∙ each-done begins_incoming (further_incoming_at c.args.width) c.incomings.incomings (seen c.incomings.tokens.now) (sym c.begins_incoming.ensures ∙ c.incomings-test.false)
