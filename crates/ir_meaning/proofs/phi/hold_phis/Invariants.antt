use Rattle.ir_meaning.proofs.Common.{◌≡◌, drop, IsTable, held_of, holding_all}
use Rattle.ir_meaning.proofs.phi.hold_phis.Given as goal

abbrev pub invariant-loop-k : goal.invariant-loop-k
invariant-loop-k l = record {
  table : IsTable l.f l.table.firsts.items l.table.values.items;
  held : holding_all (held_of l.f l.table.values.items) l.b l.k (drop l.k l.taken) ≡ holding_all (held_of l.f l.initial.table.values.items) l.b 0 l.taken;
}
