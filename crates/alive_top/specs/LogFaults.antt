-- Texts of proofs with a fault, given the rules.
use Rattle.std.specs.Prelude.{ℕ, List, [], ◌∷◌, Some}
use Rattle.refusal.specs.declared.fault.Fault.{Fault}
use Rattle.stored_logs.specs.LogFaultKind.{LogFaultKind}
use Rattle.stored_logs.specs.Faults.{IsFault}
use Rattle.verdict.specs.Rule.{Rule}
use Rattle.load_text.specs.RuleText.{IsRuleText}
use Rattle.alive_top.specs.File.{Source}
use Rattle.alive_top.specs.Taken.{Takes}
use Rattle.alive_top.specs.Task.{Task, Optimise, Recheck}

-- the texts of the task are one of rules, one of a module, if it reads one, and one of proofs with this fault, given
-- the rules
abbrev pub HasLogFault : Task → List (List ℕ) → Fault LogFaultKind → Type 0
HasLogFault (Recheck file file' options) (rules ∷ proofs ∷ []) fault = (list : List Rule) × IsRuleText rules list × IsFault list proofs fault
HasLogFault (Optimise file file' (Some logs) options) (rules ∷ source ∷ proofs ∷ []) fault =
    (list : List Rule) × IsRuleText rules list × Takes Source source × IsFault list proofs fault
HasLogFault task texts fault = ⊥

-- the text of proofs has some fault
abbrev pub HasBadLogs : Task → List (List ℕ) → Type 0
HasBadLogs task texts = (fault : Fault LogFaultKind) × HasLogFault task texts fault
