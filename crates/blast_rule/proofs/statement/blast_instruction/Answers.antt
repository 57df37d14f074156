use Rattle.blast_rule.proofs.Common.{Some, sym, ap, ◌∙◌, slice_get_within, IfOk-weaker, shapes, given_shape}
use Rattle.blast_rule.proofs.Reading.{width_told}
use Rattle.blast_rule.proofs.Statements.{all_ready, all_own, blasts}
use Rattle.blast_rule.proofs.statement.blast_instruction.Goals as goal

pub operands_held-requires-clause-ready : goal.operands_held-requires-clause-ready
operands_held-requires-clause-ready g c = rw c.requires.operands (all_ready c.args.typing.now (given_shape c.args.scope) (shapes c.args.scope) c.requires.ready.0 c.args.statement.now.op c.requires.ready.2)

pub width_of-requires : goal.width_of-requires
width_of-requires g c = slice_get_within c.args.typing.now c.args.statement.now.class c.requires.ready.0 c.requires.ready.1

pub blast_value-requires-clause-operands : goal.blast_value-requires-clause-operands
blast_value-requires-clause-operands g c =
    let m = g.C.State in
    let at = c.args.c.now in
    let width = width_told c.args.typing.now c.args.statement.now.class c.requires.ready.0 c.width_of.result c.requires.ready.1 c.width_of.ensures in
    let blasted = blasts (m.has_literal at) (m.admits at) (m.value at) c.args.typing.now c.args.scope c.args.statement.now.op c.args.what c.requires.ready.0 c.in_ok-held.held c.requires.instruction c.requires.ready.2 (rw c.requires.operands at c.in_ok-held.ensures) in
    rw width blasted.takes

pub blast_value-requires-clause-own : goal.blast_value-requires-clause-own
blast_value-requires-clause-own g c =
    let m = g.C.State in
    all_own (m.has_literal c.args.c.now) (m.admits c.args.c.now) (m.value c.args.c.now) c.args.typing.now c.args.scope c.args.operands.now c.in_ok-held.held c.in_ok-held.ensures

pub returns-clause-gives : goal.returns-clause-gives
returns-clause-gives g c =
    let m = g.C.State in
    let at = c.args.c.now in
    let width = width_told c.args.typing.now c.args.statement.now.class c.requires.ready.0 c.width_of.result c.requires.ready.1 c.width_of.ensures in
    let blasted = blasts (m.has_literal at) (m.admits at) (m.value at) c.args.typing.now c.args.scope c.args.statement.now.op c.args.what c.requires.ready.0 c.in_ok-held.held c.requires.instruction c.requires.ready.2 (rw c.requires.operands at c.in_ok-held.ensures) in
    IfOk-weaker c.blast_value.result _ _
    (λ made effect inputs given admitted is_given. (c.requires.ready.0, c.requires.ready.1, blasted.gives inputs given _ admitted is_given (rw width at (effect inputs admitted)))) c.blast_value.ensures.effect

pub returns-clause-width : goal.returns-clause-width
returns-clause-width g c =
    let width = width_told c.args.typing.now c.args.statement.now.class c.requires.ready.0 c.width_of.result c.requires.ready.1 c.width_of.ensures in
    IfOk-weaker c.blast_value.result _ _ (λ made is. c.requires.ready.1 ∙ ap (λ N. Some N) (sym (is ∙ width))) c.blast_value.ensures.width

pub returns-clause-adds : goal.returns-clause-adds
returns-clause-adds g c =
    let m = g.C.State in
    let at = c.args.c.now in
    let width = width_told c.args.typing.now c.args.statement.now.class c.requires.ready.0 c.width_of.result c.requires.ready.1 c.width_of.ensures in
    let blasted = blasts (m.has_literal at) (m.admits at) (m.value at) c.args.typing.now c.args.scope c.args.statement.now.op c.args.what c.requires.ready.0 c.in_ok-held.held c.requires.instruction c.requires.ready.2 (rw c.requires.operands at c.in_ok-held.ensures) in
    rw (← c.width_of.ensures, width, ← blasted.gates) (rw width at c.blast_value.ensures.adds)
