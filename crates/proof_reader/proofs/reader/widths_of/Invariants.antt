-- the widths so far
use Rattle.proof_reader.proofs.Common.{◌≡◌, take}
use Rattle.proof_reader.proofs.reader.widths_of.Given as goal

abbrev pub invariant-loop-number : goal.invariant-loop-number
invariant-loop-number l = l.widths ≡ take l.number-index l.numbers
