use Rattle.draft_bits.proofs.Readers.{ReadersWait}
use Rattle.draft_bits.proofs.waiting.wait_for_readers.Given as goal

-- of the places before this one those wait at which the result is taken
abbrev pub invariant-loop-reader : goal.invariant-loop-reader
invariant-loop-reader l = ReadersWait l.fn.draft l.fn.place l.reader-items l.reader-index l.initial.waiting l.waiting
