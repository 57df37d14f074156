use Rattle.verdict.proofs.Common.{◌≡◌, map, take, number_held}
use Rattle.verdict.proofs.reading.words_read.Given as goal

abbrev pub invariant-loop-word : goal.invariant-loop-word
invariant-loop-word l = l.numbers ≡ map (number_held (λ b. b)) (take l.word-index l.words)
