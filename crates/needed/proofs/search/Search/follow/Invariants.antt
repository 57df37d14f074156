use Rattle.needed.proofs.Common.{◌+◌, length, IsSearched, unmarked}
use Rattle.needed.proofs.search.Search.follow.Given as goal

abbrev pub invariant-loop-block : goal.invariant-loop-block
invariant-loop-block l = IsSearched l.f l.numbers.firsts.items l.numbers.count (length l.f.blocks) l.self

-- each instruction is put on the worklist at most once
abbrev pub decreases-loop-block : goal.decreases-loop-block
decreases-loop-block l = unmarked l.self + length l.self.work.items
