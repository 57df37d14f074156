use Rattle.ir_meaning.proofs.Common.{◌≡◌, drop, switch_target}
use Rattle.ir_meaning.proofs.terminator.case_target.Given as goal

abbrev pub invariant-loop-case : goal.invariant-loop-case
invariant-loop-case l = switch_target (drop l.case-index l.cases) l.other l.n ≡ switch_target l.cases l.other l.n
