use Rattle.test_texts.proofs.Common.{All, IsValueOf, Bits}
use Rattle.test_texts.proofs.rules.preconditions.words.Given as goal

abbrev pub invariant-loop-number : goal.invariant-loop-number
invariant-loop-number l = All (λ word. IsValueOf l.width (Bits word)) l.words
