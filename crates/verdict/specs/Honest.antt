-- When a verdict on a rule at a typing is honest, for a search that may learn `limit` clauses.
use Rattle.std.specs.Prelude.{◌≡◌, ℕ, ◌+◌, ◌<◌, ◌≤◌, List, length}
use Rattle.clauses.specs.declared.cnf.Cnf.{Cnf}
use Rattle.clauses.specs.Settings.{StandsFor}
use Rattle.cdcl_log.specs.Found.{IsHonestLimit}
use Rattle.rule_core.specs.declared.rule.Rule.{Rule}
use Rattle.rule_core.specs.declared.example.Example.{Example}
use Rattle.rule_core.specs.Positions.{choices_among}
use Rattle.rule_core.specs.Valid.{Setting, IsValid, IsCounterexample}
use Rattle.blast_rule.specs.Inputs.{input_bits}
use Rattle.blast_rule.specs.Settings.{setting_of}
use Rattle.blast_rule.specs.Gates.{most_gates}
use Rattle.blast_rule.specs.Parts.{Refutes}
use Rattle.verdict_core.specs.declared.verdicts.Verdict.{Verdict}
use Rattle.verdict_core.specs.declared.verdicts.Verdict.TheVariants.{Admitted, Refuted, WitnessFails, Budget}
use Rattle.verdict_core.specs.declared.verdicts.Tried.{Tried}

-- the setting of an example
abbrev pub setting_in : Example → Setting
setting_in example = record { inputs = example.inputs; constants = example.constants; target_choices = example.target_undefs }

-- The example is a counterexample, with the numbers that `Wit:` gives there for the source's choices and the effects of
-- both halves.
abbrev pub IsRefutedBy : Rule → List ℕ → Example → Type 0
IsRefutedBy rule typing example = IsCounterexample rule typing (setting_in example) example.source_undefs example.source example.target

-- the source of the rule has a choice: an `undef` or a freeze
abbrev pub HasSourceChoice : Rule → Type 0
HasSourceChoice rule = 0 < length (choices_among rule.source)

-- The clauses stand for the counterexamples of the rule at the typing: their inputs are the bits of a setting, they
-- stand for the test that these read as a counterexample, and there are at most as many further variables as the
-- circuit has gates, and one.
pub record StandsForRule (rule : Rule) (typing : List ℕ) (set : Cnf) : Type 0 where
  pub inputs : length set.inputs ≡ input_bits rule typing
  pub test : StandsFor set (λ values. Refutes rule typing (setting_of rule typing values))
  pub variables : set.count ≤ input_bits rule typing + most_gates rule typing + 1

-- The rule has more than 12 input bits, too many to try all settings; the clauses that were tried stand for its
-- counterexamples, and the search for a model learned `limit` clauses, each new, without coming to an end.
pub record IsHonestBudget (rule : Rule) (typing : List ℕ) (limit : ℕ) (tried : Tried) : Type 0 where
  pub many_bits : 12 < input_bits rule typing
  pub stands : StandsForRule rule typing tried.set
  pub reached : IsHonestLimit tried.set limit tried.log

abbrev pub IsHonest : Rule → List ℕ → ℕ → Verdict → Type 0
IsHonest rule typing limit Admitted = IsValid rule typing
IsHonest rule typing limit (Refuted example) = IsRefutedBy rule typing example × ¬ (HasSourceChoice rule)
IsHonest rule typing limit (WitnessFails example) = IsRefutedBy rule typing example × HasSourceChoice rule
IsHonest rule typing limit (Budget tried) = IsHonestBudget rule typing limit tried
