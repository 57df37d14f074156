-- What is found and written where proofs are checked again.
use Rattle.std.specs.Prelude.{◌≡◌, ◌↔◌, ℕ, List, Some, slice_get, IsTrue, All}
use Rattle.std.specs.List.{AllZip}
use Rattle.rule_core.specs.declared.rule.Rule.{Rule}
use Rattle.proof_text.specs.declared.proof.Proof.{Proof}
use Rattle.proof_reader.specs.Faults.{IsTextOfGood}
use Rattle.verdict_core.specs.declared.verdicts.Row.{Row}
use Rattle.verdict_core.specs.declared.verdicts.Verdict.TheVariants.{Admitted}
use Rattle.verdict.specs.Honest.{IsHonest}
use Rattle.verdict.specs.Proved.{IsUnrefutedBy}
use Rattle.verdict.specs.Table.{IsHonestTable, table_text}
use Rattle.stored_logs.specs.declared.rechecked.Rechecked.{Rechecked}

-- The row is on the rule that the proof names, at the proof's widths, and its verdict is honest; the proof's log does
-- not refute the clauses of a `Budget`.
pub record IsVerdictOn (rules : List Rule) (conflicts : ℕ) (proof : Proof) (row : Row) : Type 0 where
  pub rule : Rule
  pub is : slice_get rules row.rule ≡ Some rule
  pub named : rule.name ≡ proof.name
  pub typing : row.typing ≡ proof.widths
  pub honest : IsHonest rule row.typing conflicts row.verdict
  pub unrefuted : IsUnrefutedBy proof.log row.verdict

-- What is given for a text is a verdict on the pair of each of its proofs, in order, and their texts.
pub record IsRechecked (rules : List Rule) (text : List ℕ) (conflicts : ℕ) (rechecked : Rechecked) : Type 0 where
  pub proofs : List Proof
  pub read : IsTextOfGood rules text proofs
  pub rows : AllZip (IsVerdictOn rules conflicts) proofs rechecked.table
  pub honest : IsHonestTable rules conflicts rechecked.table
  pub text_is : rechecked.text.items ≡ table_text rules rechecked.table
  pub all_admitted : IsTrue rechecked.all_admitted ↔ All (λ row. row.verdict ≡ Admitted) rechecked.table
