-- Laws of texts, given some rules.
use Rattle.std.specs.Prelude.{◌≡◌, ℕ, List}
use Rattle.rule_core.specs.declared.rule.Rule.{Rule}
use Rattle.proof_text.specs.declared.proof.Proof.{Proof}
use Rattle.proof_text.specs.Faults.{LogFault}
use Rattle.proof_reader.specs.Faults.{IsTextOfGood, IsFault}

-- Given some rules, a text has one list of good proofs or one fault, and never both.
pub record TextsHaveProofsOrFault : Type 0 where
  pub one : (rules : List Rule) (text : List ℕ) (proofs other : List Proof) → IsTextOfGood rules text proofs → IsTextOfGood rules text other → proofs ≡ other
  pub not_both : (rules : List Rule) (text : List ℕ) (proofs : List Proof) (fault : LogFault) → IsTextOfGood rules text proofs → ¬ IsFault rules text fault
