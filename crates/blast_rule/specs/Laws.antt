-- Laws of settings that are read as counterexamples, and of the gates of a rule's circuit.
use Rattle.std.specs.Prelude.{◌≡◌, ◌≤◌, ◌<◌, ◌^◌, ℕ, Bool, List, length}
use Rattle.rule_core.specs.declared.rule.Rule.{Rule}
use Rattle.rule_core.specs.Checks.{IsRule}
use Rattle.rule_core.specs.Typing.{IsTyping}
use Rattle.rule_core.specs.Valid.{IsValid}
use Rattle.blast_setting.specs.Inputs.{input_bits}
use Rattle.blast_setting.specs.Settings.{setting_of}
use Rattle.blast_rule.specs.Gates.{most_gates, rule_bound}
use Rattle.blast_rule.specs.Parts.{Refutes}

-- a rule is valid where no list of `input_bits` truth values is read as a counterexample
abbrev pub RulesWithoutCounterexampleReadAreValid : Type 0
RulesWithoutCounterexampleReadAreValid =
    (rule : Rule) (typing : List ℕ) → IsRule rule → IsTyping rule typing →
    ((read : List Bool) → length read ≡ input_bits rule typing → Refutes rule typing (setting_of rule typing read) → ⊥) →
    IsValid rule typing

-- The circuit of a rule has at most 64 gates for each bit of the greatest width of each statement and each node, and 64
-- more for each pair of bits of a product, a quotient or a remainder.
abbrev pub GatesAreFew : Type 0
GatesAreFew = (rule : Rule) (typing : List ℕ) → IsRule rule → IsTyping rule typing → most_gates rule typing ≤ rule_bound rule typing

-- so the circuit of a rule has fewer than 2 ^ 27 gates
abbrev pub GatesAreBelow : Type 0
GatesAreBelow = (rule : Rule) (typing : List ℕ) → IsRule rule → IsTyping rule typing → most_gates rule typing < 2 ^ 27
