-- What comes with verdicts: the log of a proved rule, and the clauses of a search without end.
use Rattle.std.specs.Prelude.{⊤, ◌≡◌, ℕ, List, []}
use Rattle.clauses.specs.declared.cnf.Cnf.{Cnf}
use Rattle.clauses.specs.declared.step.Step.{Step}
use Rattle.clauses.specs.ClauseSet.{IsRefutation}
use Rattle.rule_core.specs.declared.rule.Rule.{Rule}
use Rattle.rule_core.specs.Valid.{IsValid}
use Rattle.verdict.specs.declared.decision.Attempt.{Attempt}
use Rattle.verdict.specs.declared.decision.Attempt.TheVariants as attempts
use Rattle.verdict_core.specs.declared.verdicts.Verdict.{Verdict}
use Rattle.verdict_core.specs.declared.verdicts.Verdict.TheVariants.{Admitted, Refuted, WitnessFails, Budget}
use Rattle.verdict.specs.Honest.{IsRefutedBy, IsHonestBudget}

-- where the rule is admitted the log refutes the clauses, and else it is empty
abbrev pub IsLogOf : Verdict → Cnf → List Step → Type 0
IsLogOf Admitted set log = IsRefutation set log
IsLogOf (Refuted example) set log = log ≡ []
IsLogOf (WitnessFails example) set log = log ≡ []
IsLogOf (Budget tried) set log = log ≡ []

-- the log doesn't refute the clauses of a `Budget`
abbrev pub IsUnrefutedBy : List Step → Verdict → Type 0
IsUnrefutedBy log (Budget tried) = ¬ (IsRefutation tried.set log)
IsUnrefutedBy log Admitted = ⊤
IsUnrefutedBy log (Refuted example) = ⊤
IsUnrefutedBy log (WitnessFails example) = ⊤

-- the verdict is a `Budget` with these clauses
abbrev pub Keeps : Cnf → Verdict → Type 0
Keeps set (Budget tried) = tried.set ≡ set
Keeps set Admitted = ⊤
Keeps set (Refuted example) = ⊤
Keeps set (WitnessFails example) = ⊤

-- what the search over a rule's clauses came to is true of the rule
abbrev pub IsAttempt : Rule → List ℕ → Cnf → ℕ → Attempt → Type 0
IsAttempt rule typing set limit (attempts.Valid log) = IsValid rule typing × IsRefutation set log
IsAttempt rule typing set limit (attempts.Refuted example) = IsRefutedBy rule typing example
IsAttempt rule typing set limit (attempts.Limit log) = IsHonestBudget rule typing limit (record { set = set; log = log })
