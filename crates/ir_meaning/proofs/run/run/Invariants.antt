use Rattle.ir_meaning.proofs.Common.{◌-◌, ◌<◌, length, None, OnlyZero, RunsFrom, Outcome, IsEntered, IsTable, held_of}
use Rattle.ir_meaning.proofs.run.run.Given as goal

abbrev pub invariant-loop : goal.invariant-loop
invariant-loop l = record {
  table : IsTable l.f l.table.firsts.items l.table.values.items;
  within : l.block < length l.f.blocks;
  entered : IsEntered l.f l.from l.block;
  runs : (o : Outcome) → RunsFrom OnlyZero l.f (l.blocks - l.counter) l.from l.block (held_of l.f l.table.values.items) o → RunsFrom OnlyZero l.f l.blocks None 0 (held_of l.f l.initial.table.values.items) o;
}
