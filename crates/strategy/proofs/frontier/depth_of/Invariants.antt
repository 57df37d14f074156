-- the sources so far are within the depth
use Rattle.strategy.proofs.Common.{SoFar}
use Rattle.strategy.proofs.Searching.{IsSourceWithin}
use Rattle.strategy.proofs.frontier.depth_of.Given as goal

abbrev pub invariant-loop-rule : goal.invariant-loop-rule
invariant-loop-rule l = SoFar (IsSourceWithin l.depth) l.rules l.rule-index
