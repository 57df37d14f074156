-- What deciding one rule adds to what was found about the rules before.
use Rattle.std.specs.Prelude.{◌≡◌, ◌↔◌, ℕ, List, ◌++◌, map, IsTrue, All}
use Rattle.rule_core.specs.declared.rule.Rule.{Rule}
use Rattle.verdict_core.specs.declared.verdicts.Row.{Row}
use Rattle.verdict.specs.declared.verification.Verified.{Verified}
use Rattle.verdict.specs.Findings.{Finding, Decided, IsFinding, IsRowOf, rows_of, finding_text, IsAdmitted}

-- the rows and the text of a finding are appended, and all is still admitted only where this finding is
pub record AddsFinding (rule : Rule) (finding : Finding) (old new : Verified) : Type 0 where
  pub table : new.table ≡ old.table ++ rows_of finding
  pub text : new.text.items ≡ old.text.items ++ finding_text rule finding
  pub all_admitted : IsTrue new.all_admitted ↔ (IsTrue old.all_admitted × IsAdmitted finding)

-- a row is appended for each of these typings of the rule, in order
pub record AddsRows (conflicts place : ℕ) (rule : Rule) (typings : List (List ℕ)) (old new : Verified) : Type 0 where
  pub rows : List Row
  pub typings_of : map (λ row. row.typing) rows ≡ typings
  pub right : All (IsRowOf conflicts place rule) rows
  pub added : AddsFinding rule (Decided rows) old new

-- a right finding about the rule is appended
pub record AddsRule (widths : List ℕ) (conflicts place : ℕ) (rule : Rule) (old new : Verified) : Type 0 where
  pub finding : Finding
  pub right : IsFinding widths conflicts place rule finding
  pub added : AddsFinding rule finding old new
