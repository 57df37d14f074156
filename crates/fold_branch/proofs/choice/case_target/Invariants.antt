use Rattle.fold_branch.proofs.Common.{◌≡◌, drop, switch_target}
use Rattle.fold_branch.proofs.choice.case_target.Given as goal

abbrev pub invariant-loop-case : goal.invariant-loop-case
invariant-loop-case l = switch_target (drop l.case-index l.cases) l.other l.n ≡ switch_target l.cases l.other l.n
