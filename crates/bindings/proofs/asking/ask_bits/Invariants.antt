-- none of the rules so far does
use Rattle.bindings.proofs.Common.{AsksBitsOf, Name, Rule, SoFar}
use Rattle.bindings.proofs.asking.ask_bits.Given as goal

abbrev pub invariant-loop-rule : goal.invariant-loop-rule
invariant-loop-rule l = SoFar (λ (rule : Rule). (r : Name) → ¬ AsksBitsOf rule r) l.rules l.rule-index
