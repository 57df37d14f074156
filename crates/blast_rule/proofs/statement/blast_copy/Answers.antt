use Rattle.blast_rule.proofs.Common.{refl, held_value, seen}
use Rattle.blast_rule.proofs.Statements.{copy_gives}
use Rattle.blast_rule.proofs.statement.blast_copy.Goals as goal

pub returns-clause-gives : goal.returns-clause-gives
returns-clause-gives g c = λ inputs given admitted is_given.
    let value = g.C.State.value c.args.c.now inputs in
    copy_gives c.args.typing.now given (seen value c.args.scope) c.args.statement.now c.requires.ready.0 c.requires.ready.1
    c.args.operand (held_value value c.in_ok-bits.field-0) _ c.requires.copy (c.in_ok-bits.ensures.gives inputs given admitted is_given)
    (rw (c.zero.ensures.value inputs admitted) refl)
