use Rattle.rule_typing.proofs.Common.{◌+◌, arith}
use Rattle.rule_typing.proofs.Past.{past_two, past_node}
use Rattle.rule_typing.proofs.fits.past_term.Goals as goal

pub returns-in_default : goal.returns-in_default
returns-in_default c = past_node c.args.term.class c.args.term.node c.in_default.not-Width

pub returns : goal.returns
returns c = rw c.in-Width.is (past_two c.args.term.class c.in-Width.register_class (c.max.result + 1) (omega arith))
