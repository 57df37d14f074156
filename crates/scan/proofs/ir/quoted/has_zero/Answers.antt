use Rattle.scan.proofs.Common.{sym, ◌∙◌}
use Rattle.scan.proofs.QuotedLemmas.{no_more}
use Rattle.scan.proofs.ir.quoted.has_zero.Goals as goal

pub returns : goal.returns
returns c = sym (sym c.loop-byte.invariant ∙ no_more c.loop-byte.rest.now c.in_default.ensures.none)
