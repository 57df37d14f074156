use Rattle.load_text.proofs.Common.{◌≡◌, take, count_by}
use Rattle.load_text.proofs.counting.count_true.Given as goal

abbrev pub invariant-loop-truth : goal.invariant-loop-truth
invariant-loop-truth l = l.count ≡ count_by (λ truth. truth) (take l.truth-index l.truths)
