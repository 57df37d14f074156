use Rattle.readers.proofs.Common.{arith}
use Rattle.readers.proofs.Listed.{all_before, none_before, one_before}
use Rattle.readers.proofs.uses.Readers.of.Goals as goal

pub loop-block-init : goal.loop-block-init
loop-block-init c = none_before c.args.f.now c.in_ok-readers.readers c.in_ok-readers.ensures.there c.in_ok-readers.ensures.none

pub list_block-requires-clause-there : goal.list_block-requires-clause-there
list_block-requires-clause-there c = c.loop-block.invariant.there

pub loop-block-preserved : goal.loop-block-preserved
loop-block-preserved c = one_before c.args.f.now c.loop-block.block c.loop-block.readers c.list_block.new.self c.loop-block.invariant c.in_ok-list_block.ensures.there c.in_ok-list_block.ensures.listed

pub returns-clause-readers : goal.returns-clause-readers
returns-clause-readers c = all_before c.args.f.now c.loop-block.block c.loop-block.readers (omega arith) c.loop-block.invariant

pub returns-clause-only : goal.returns-clause-only
returns-clause-only c = λ r p there. ((c.loop-block.invariant.listed r p).0 there).2
