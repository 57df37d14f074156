use Rattle.ops.proofs.Common.{sym, ◌∙◌}
use Rattle.ops.proofs.BitCounts.{ctpop-ones, ctpop-most}
use Rattle.ops.proofs.counts.ctpop.Goals as goal

pub returns-clause-count : goal.returns-clause-count
returns-clause-count c = c.from.ensures ∙ sym (ctpop-ones c.args.width c.args.a c.requires)

pub returns-clause-most : goal.returns-clause-most
returns-clause-most c = rw (c.from.ensures ∙ sym (ctpop-ones c.args.width c.args.a c.requires)) (ctpop-most c.args.width c.args.a c.requires)
