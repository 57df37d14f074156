use Rattle.needed.proofs.Common.{IsSearched}
use Rattle.needed.proofs.search.Search.from_ends.Given as goal

-- the terminators before the index were looked at
abbrev pub invariant-loop-block : goal.invariant-loop-block
invariant-loop-block l = IsSearched l.f l.numbers.firsts.items l.numbers.count l.block-index l.search
