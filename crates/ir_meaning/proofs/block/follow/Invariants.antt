use Rattle.ir_meaning.proofs.Common.{drop, Ending, Follows, OnlyZero, IsTable, held_of}
use Rattle.ir_meaning.proofs.block.follow.Given as goal

abbrev pub invariant-loop-k : goal.invariant-loop-k
invariant-loop-k l = record {
  table : IsTable l.f l.table.firsts.items l.table.values.items;
  follows : (end : Ending) → Follows OnlyZero l.f l.b l.k (drop l.k l.insts) l.block.end (held_of l.f l.table.values.items) end → Follows OnlyZero l.f l.b l.first (drop l.first l.insts) l.block.end (held_of l.f l.initial.table.values.items) end;
}
