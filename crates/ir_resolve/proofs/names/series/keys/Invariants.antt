-- the keys so far, and the next number of the series
use Rattle.ir_resolve.proofs.Common.{◌≡◌, map, take, identifiers_from, given, seen, seen_written}
use Rattle.ir_resolve.proofs.Series.{number_after}
use Rattle.ir_resolve.proofs.names.series.keys.Given as goal

abbrev pub invariant-loop-definition : goal.invariant-loop-definition
invariant-loop-definition l = record {
  keys : map seen l.keys.items ≡ identifiers_from 0 (map given (map seen_written (take l.definition-index l.definitions)));
  next : l.next_number ≡ number_after 0 (map given (map seen_written (take l.definition-index l.definitions)));
}
