use Rattle.command_line.proofs.Common.{AllZip, List, subst, take_all, Argument, IsDescribedArgument}
use Rattle.command_line.proofs.Described.{zip_more}
use Rattle.command_line.proofs.definition.described_arguments.Goals as goal

pub loop-argument-preserved : goal.loop-argument-preserved
loop-argument-preserved c =
    rw c.in_ok-push.ensures.ok (zip_more IsDescribedArgument c.args.described.now c.loop-argument.arguments c.loop-argument.argument-index _ c.described_argument.result
    c.loop-argument-test.true c.loop-argument.invariant (c.described_argument.ensures.rule, c.described_argument.ensures.local))

pub returns : goal.returns
returns c =
    let described = c.args.described.now in
    subst (λ (given : List Argument). AllZip IsDescribedArgument given c.loop-argument.arguments) (take_all c.loop-argument.argument-index described c.loop-argument-test.false) c.loop-argument.invariant
