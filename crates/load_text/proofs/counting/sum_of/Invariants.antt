use Rattle.load_text.proofs.Common.{◌≡◌, take, sum}
use Rattle.load_text.proofs.counting.sum_of.Given as goal

abbrev pub invariant-loop-number : goal.invariant-loop-number
invariant-loop-number l = l.total ≡ sum (take l.number-index l.numbers)
