-- the entries so far are parsed and checked
use Rattle.ir_reader.proofs.Common.{◌-◌, List, length, RawEntry, HasRead, IsReadingOf}
use Rattle.ir_reader.proofs.reader.first_entries.Given as goal

abbrev pub invariant-loop-behind : goal.invariant-loop-behind
invariant-loop-behind l = (front : List RawEntry) × HasRead l.bytes front l.reader × IsReadingOf front l.reading

abbrev pub decreases-loop-behind : goal.decreases-loop-behind
decreases-loop-behind l = length l.bytes - l.reader.cursor.at
