use Rattle.draft_bits.proofs.Common.{sym, ◌∙◌, arith, take_all}
use Rattle.draft_bits.proofs.rows.differ.Goals as goal

pub returns : goal.returns
returns c same = sym (take_all c.loop-place.place c.args.one.now (omega arith)) ∙ c.loop-place.invariant ∙ take_all c.loop-place.place c.args.other.now (omega arith)
