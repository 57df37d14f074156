-- What is found about one rule.
use Rattle.std.specs.Prelude.{◌≡◌, ℕ, List, [], map, All}
use Rattle.rule_core.specs.declared.rule.Rule.{Rule}
use Rattle.rule_typing.specs.declared.answer.Typings.TheVariants as typings
use Rattle.rule_typing.specs.Classes.{IsClassified}
use Rattle.rule_typing.specs.AllTypings.{IsAnswer}
use Rattle.rule_core.specs.Checks.{IsRule}
use Rattle.verdict_core.specs.declared.verdicts.Row.{Row}
use Rattle.verdict_core.specs.declared.verdicts.Verdict.TheVariants.{Admitted}
use Rattle.verdict.specs.Honest.{IsHonest}
use Rattle.verdict.specs.Limits.{most_typings}
use Rattle.verdict.specs.Table.{rows_text}
use Rattle.verdict_core.specs.Texts.{too_many_text}

-- a rule as the reader gives it: it meets the checks, and its classes are written
pub record IsReadRule (rule : Rule) : Type 0 where
  pub checks : IsRule rule
  pub classes : IsClassified rule

-- a row for each typing of the rule, or that there are too many typings; then none is decided
pub data Finding : Type 0 where
  Decided : List Row → Finding
  TooMany : Finding

-- the row is on the rule at this place of the file, and its verdict is honest
pub record IsRowOf (conflicts place : ℕ) (rule : Rule) (row : Row) : Type 0 where
  pub of_rule : row.rule ≡ place
  pub honest : IsHonest rule row.typing conflicts row.verdict

-- The finding is right about the rule at this place of the file: its rows are at all the rule's typings over the
-- widths, in order; or there are more than `most_typings`.
abbrev pub IsFinding : List ℕ → ℕ → ℕ → Rule → Finding → Type 0
IsFinding widths conflicts place rule (Decided rows) =
    IsAnswer rule widths most_typings (typings.All (map (λ row. row.typing) rows)) × All (IsRowOf conflicts place rule) rows
IsFinding widths conflicts place rule TooMany = IsAnswer rule widths most_typings typings.TooMany

-- the rows of a finding
abbrev pub rows_of : Finding → List Row
rows_of (Decided rows) = rows
rows_of TooMany = []

-- the text of a finding: those of its verdicts in order, or that there are too many typings
abbrev pub finding_text : Rule → Finding → List ℕ
finding_text rule (Decided rows) = rows_text rule rows
finding_text rule TooMany = too_many_text rule

-- each verdict of the finding is `Admitted`
abbrev pub IsAdmitted : Finding → Type 0
IsAdmitted (Decided rows) = All (λ row. row.verdict ≡ Admitted) rows
IsAdmitted TooMany = ⊥
