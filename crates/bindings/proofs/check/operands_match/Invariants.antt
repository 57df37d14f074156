-- the operands so far match
use Rattle.bindings.proofs.Common.{ℕ, ◌<◌, MatchesAt}
use Rattle.bindings.proofs.check.operands_match.Given as goal

abbrev pub invariant-loop-index : goal.invariant-loop-index
invariant-loop-index l = (i : ℕ) → i < l.index → MatchesAt l.f l.binding l.op l.block l.place i
