use Rattle.trimmed_logs.proofs.Common.{List, All, subst, Contains, Step, clauses_of_steps}
use Rattle.trimmed_logs.proofs.Clauses.{each_stands}
use Rattle.trimmed_logs.proofs.trimming.trimmed.Goals as goal

pub returns-then-branch-clause-of_log : goal.returns-then-branch-clause-of_log
returns-then-branch-clause-of_log c =
    subst (λ (log : List Step). All (λ (s : Step). Contains (clauses_of_steps log) s.clause) c.in_ok-short.short)
    c.as_slice-2.ensures c.in_ok-short.ensures.of_log

pub returns-else-branch-clause-of_log : goal.returns-else-branch-clause-of_log
returns-else-branch-clause-of_log c = each_stands c.args.log
