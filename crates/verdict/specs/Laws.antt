-- The law of honest verdicts.
use Rattle.std.specs.Prelude.{◌≡◌, ℕ, ◌≤◌, ◌↔◌, List}
use Rattle.rule_core.specs.declared.rule.Rule.{Rule}
use Rattle.rule_core.specs.Valid.{IsValid}
use Rattle.blast_rule.specs.Inputs.{input_bits}
use Rattle.verdict_core.specs.declared.verdicts.Verdict.{Verdict}
use Rattle.verdict_core.specs.declared.verdicts.Verdict.TheVariants.{Admitted}
use Rattle.verdict.specs.Honest.{IsHonest}

-- with at most 12 input bits an honest verdict admits a rule exactly where it is valid
abbrev pub FewBitsAreDecided : Type 0
FewBitsAreDecided =
    (rule : Rule) (typing : List ℕ) (limit : ℕ) (verdict : Verdict) → input_bits rule typing ≤ 12 → IsHonest rule typing limit verdict →
    ((verdict ≡ Admitted) ↔ IsValid rule typing)
