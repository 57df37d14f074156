-- the registers so far are appended, and there is room for the rest
use Rattle.readers.proofs.Common.{◌≡◌, ◌+◌, ◌≤◌, ◌++◌, length, take, vec_capacity, vec_len, filter_map, operands_at, register_of}
use Rattle.readers.proofs.uses.push_reads.Given as goal

abbrev pub invariant-loop-index : goal.invariant-loop-index
invariant-loop-index l = record {
  items : l.dead_candidates.items ≡ l.fn.dead_candidates.items ++ filter_map register_of (take l.index (operands_at l.arena l.place));
  room : vec_len l.dead_candidates + length (operands_at l.arena l.place) ≤ vec_capacity l.dead_candidates + l.index;
}
