use Rattle.needed.proofs.NumberLemmas.{Numbered}
use Rattle.needed.proofs.numbers.Numbers.new.Given as goal

-- the blocks before the index are numbered
abbrev pub invariant-loop-block : goal.invariant-loop-block
invariant-loop-block l = Numbered l.block-items l.block-index l.firsts.items l.count
