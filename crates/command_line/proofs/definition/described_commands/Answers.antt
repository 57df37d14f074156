use Rattle.command_line.proofs.Common.{AllZip, List, subst, take_all, Described, shape_described, IsLeaf}
use Rattle.command_line.proofs.Described.{zip_more}
use Rattle.command_line.proofs.definition.described_commands.Goals as goal

pub loop-one-preserved : goal.loop-one-preserved
loop-one-preserved c =
    rw c.in_ok-push.ensures.ok (zip_more (λ one. IsLeaf (shape_described one)) c.args.described.now c.loop-one.commands c.loop-one.one-index _ c.in_ok-described_command.field-0
    c.loop-one-test.true c.loop-one.invariant c.in_ok-described_command.ensures)

pub returns : goal.returns
returns c =
    let described = c.args.described.now in
    subst (λ (given : List Described). AllZip (λ one. IsLeaf (shape_described one)) given c.loop-one.commands) (take_all c.loop-one.one-index described c.loop-one-test.false) c.loop-one.invariant
