use Rattle.blast_rule.proofs.Common.{◌≡◌, length, Some, sym, ap, subst, ◌∙◌, All, slice_get_within, same_Some, Gives, Adds, held_value, number_held, seen, own_from_get}
use Rattle.blast_rule.proofs.Reading.{number_given}
use Rattle.blast_rule.proofs.Freezes.{freeze_gives, freeze_reads, freeze_chooses, freeze_width, freeze_gates}
use Rattle.blast_rule.proofs.freeze.blast_freeze.Goals as goal

pub operand_held-requires-clause-ready : goal.operand_held-requires-clause-ready
operand_held-requires-clause-ready g c = freeze_reads c.args.scope c.args.typing.now c.args.statement.now c.args.operand c.args.choice c.requires.freeze c.requires.ready

pub at-requires : goal.at-requires
at-requires g c =
    let w = freeze_chooses c.args.scope c.args.typing.now c.args.statement.now c.args.operand c.args.choice c.requires.freeze c.requires.ready in
    slice_get_within c.args.scope.choices.now c.args.choice w.0 w.1

pub frozen-requires-clause-same_width : goal.frozen-requires-clause-same_width
frozen-requires-clause-same_width g c =
    let w = freeze_chooses c.args.scope c.args.typing.now c.args.statement.now c.args.operand c.args.choice c.requires.freeze c.requires.ready in
    let here : w.0 ≡ c.at.result.now = same_Some w.0 c.at.result.now (sym w.1 ∙ c.at.ensures) in
    let width = freeze_width c.args.scope c.args.typing.now c.args.statement.now c.args.operand c.args.choice c.requires.freeze c.requires.ready (length c.in_ok-held.held.bits) c.in_ok-held.ensures.width in
    ap length (sym here) ∙ w.2 ∙ sym width

pub frozen-requires-clause-own_choice : goal.frozen-requires-clause-own_choice
frozen-requires-clause-own_choice g c = own_from_get (All (g.C.State.has_literal c.args.c.now)) c.args.scope.choices.now c.args.choice c.at.result.now c.requires.own.choices c.at.ensures

pub returns-clause-gives : goal.returns-clause-gives
returns-clause-gives g c = λ inputs given admitted is_given.
    let value = g.C.State.value c.args.c.now inputs in
    let admitted_then = c.frozen.ensures.adds.keeps.admitted inputs admitted in
    freeze_gives c.args.typing.now given (seen value c.args.scope) c.args.statement.now c.requires.ready.0 c.requires.ready.1
    c.args.operand c.args.choice (held_value value c.in_ok-held.held) (number_held value c.at.result.now) _ c.requires.freeze
    (c.in_ok-held.ensures.gives inputs given admitted is_given)
    (number_given value c.args.scope.choices.now given.choices c.args.choice c.at.result.now is_given.choices c.at.ensures)
    (rw (c.zero.ensures.value inputs admitted_then) (ap Gives (c.in_ok-bits.ensures.value inputs admitted)))

pub returns-clause-width : goal.returns-clause-width
returns-clause-width g c =
    let width = freeze_width c.args.scope c.args.typing.now c.args.statement.now c.args.operand c.args.choice c.requires.freeze c.requires.ready (length c.in_ok-held.held.bits) c.in_ok-held.ensures.width in
    c.requires.ready.1 ∙ ap (λ N. Some N) (sym (c.in_ok-bits.ensures.width ∙ width))

pub returns-in_err-bits-clause-adds : goal.returns-in_err-bits-clause-adds
returns-in_err-bits-clause-adds g c =
    let gates = freeze_gates c.args.scope c.args.typing.now c.args.statement.now c.args.operand c.args.choice c.requires.freeze c.requires.ready (length c.in_ok-held.held.bits) c.in_ok-held.ensures.width in
    subst (Adds g.C.State c.args.c.now c.frozen.new.c) gates c.frozen.ensures.adds

pub returns-clause-adds : goal.returns-clause-adds
returns-clause-adds g c =
    let gates = freeze_gates c.args.scope c.args.typing.now c.args.statement.now c.args.operand c.args.choice c.requires.freeze c.requires.ready (length c.in_ok-held.held.bits) c.in_ok-held.ensures.width in
    subst (Adds g.C.State c.args.c.now c.frozen.new.c) gates c.frozen.ensures.adds
