-- no statement so far assigns the register
use Rattle.rule_reader.proofs.Common.{ℕ, ◌<◌, AssignsAt}
use Rattle.rule_reader.proofs.registers.assigning.Given as goal

abbrev pub invariant-loop-earlier : goal.invariant-loop-earlier
invariant-loop-earlier l = (k : ℕ) → k < l.earlier → ¬ AssignsAt l.statements k l.name
