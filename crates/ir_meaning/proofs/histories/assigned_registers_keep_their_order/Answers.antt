use Rattle.ir_meaning.proofs.Assignments.{not_both_assigned, none_behind, assignment_transitive}
use Rattle.ir_meaning.proofs.PathLemmas.{assigned_passed, defined_before}
use Rattle.ir_meaning.proofs.histories.assigned_registers_keep_their_order.Goals as goal

pub returns-clause-not_both : goal.returns-clause-not_both
returns-clause-not_both c = not_both_assigned

pub returns-clause-none_behind : goal.returns-clause-none_behind
returns-clause-none_behind c = none_behind

pub returns-clause-transitive : goal.returns-clause-transitive
returns-clause-transitive c = assignment_transitive

pub returns-clause-passed : goal.returns-clause-passed
returns-clause-passed c = assigned_passed

pub returns-clause-order : goal.returns-clause-order
returns-clause-order c = defined_before
