-- What proving one rule adds, and what checking one proof again adds.
use Rattle.std.specs.Prelude.{◌≡◌, ◌↔◌, ℕ, List, [], ◌∷◌, ◌++◌, map, IsTrue, All, Some, slice_get, flat_map}
use Rattle.std.specs.List.{AllZip, zip}
use Rattle.rule_core.specs.declared.rule.Rule.{Rule}
use Rattle.proof_text.specs.Texts.{proof_text}
use Rattle.verdict_core.specs.declared.verdicts.Row.{Row}
use Rattle.verdict_core.specs.declared.verdicts.Verdict.TheVariants.{Admitted}
use Rattle.verdict.specs.Findings.{Finding, Decided, IsFinding, IsRowOf, rows_of, IsAdmitted}
use Rattle.verdict.specs.Honest.{IsHonest}
use Rattle.verdict.specs.Proved.{IsUnrefutedBy}
use Rattle.verdict.specs.Table.{row_text}
use Rattle.proof_reader.specs.declared.proof.RuleProof.{RuleProof}
use Rattle.stored_logs.specs.declared.proved.Proved.{Proved}
use Rattle.stored_logs.specs.declared.rechecked.Rechecked.{Rechecked}
use Rattle.stored_logs.specs.declared.refutation.Refutation.{Refutation}
use Rattle.stored_logs.specs.Refutations.{Refutes, proof_of, admitted_in}

-- a refutation for the rule at the typing, and the text of the proof that it is, are appended, and nothing else
pub record AddsProof (rule : Rule) (typing : List ℕ) (old new : Proved) : Type 0 where
  pub refutation : Refutation
  pub right : Refutes rule typing refutation
  pub refutations : new.refutations ≡ old.refutations ++ refutation ∷ []
  pub text : new.text.items ≡ old.text.items ++ proof_text (proof_of rule typing refutation)
  pub table : new.table ≡ old.table
  pub all_admitted : new.all_admitted ≡ old.all_admitted

-- The rows of a finding are appended, with a refutation for each that is admitted, and the text of these proofs; all is
-- still admitted only where this finding is.
pub record AddsProofs (rule : Rule) (finding : Finding) (old new : Proved) : Type 0 where
  pub more : List Refutation
  pub right : AllZip (λ row refutation. Refutes rule row.typing refutation) (admitted_in (rows_of finding)) more
  pub refutations : new.refutations ≡ old.refutations ++ more
  pub text : new.text.items ≡ old.text.items ++ flat_map (λ pair. proof_text (proof_of rule pair.0.typing pair.1)) (zip (admitted_in (rows_of finding)) more)
  pub table : new.table ≡ old.table ++ rows_of finding
  pub all_admitted : IsTrue new.all_admitted ↔ (IsTrue old.all_admitted × IsAdmitted finding)

-- a row is appended for each of these typings of the rule, in order
pub record AddsProved (conflicts place : ℕ) (rule : Rule) (typings : List (List ℕ)) (old new : Proved) : Type 0 where
  pub rows : List Row
  pub typings_of : map (λ row. row.typing) rows ≡ typings
  pub right : All (IsRowOf conflicts place rule) rows
  pub added : AddsProofs rule (Decided rows) old new

-- a right finding about the rule is appended
pub record AddsProvedRule (widths : List ℕ) (conflicts place : ℕ) (rule : Rule) (old new : Proved) : Type 0 where
  pub finding : Finding
  pub right : IsFinding widths conflicts place rule finding
  pub added : AddsProofs rule finding old new

-- the verdict on the pair that the proof is of, and its text, are appended; all is still admitted only where the
-- verdict is `Admitted`
pub record AddsVerdict (rules : List Rule) (conflicts : ℕ) (proof : RuleProof) (old new : Rechecked) : Type 0 where
  pub rule : Rule
  pub is : slice_get rules proof.rule ≡ Some rule
  pub row : Row
  pub of_rule : row.rule ≡ proof.rule
  pub typing : row.typing ≡ proof.typing
  pub honest : IsHonest rule row.typing conflicts row.verdict
  pub unrefuted : IsUnrefutedBy proof.log row.verdict
  pub table : new.table ≡ old.table ++ row ∷ []
  pub text : new.text.items ≡ old.text.items ++ row_text rule row
  pub all_admitted : IsTrue new.all_admitted ↔ (IsTrue old.all_admitted × (row.verdict ≡ Admitted))
