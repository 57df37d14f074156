-- Tables of verdicts on a list of rules: the text of one, and when it is honest.
use Rattle.std.specs.Prelude.{◌≡◌, ℕ, List, [], flat_map, All, Some, slice_get}
use Rattle.std.specs.Option.{option_map_or}
use Rattle.rule_core.specs.declared.rule.Rule.{Rule}
use Rattle.verdict_core.specs.declared.verdicts.Row.{Row}
use Rattle.verdict.specs.Honest.{IsHonest}
use Rattle.verdict_core.specs.Texts.{verdict_text}

-- the row is of one of these rules, and its verdict on it is honest
pub record IsHonestRow (rules : List Rule) (conflicts : ℕ) (row : Row) : Type 0 where
  pub rule : Rule
  pub is : slice_get rules row.rule ≡ Some rule
  pub honest : IsHonest rule row.typing conflicts row.verdict

-- each row of the table is honest
abbrev pub IsHonestTable : List Rule → ℕ → List Row → Type 0
IsHonestTable rules conflicts table = All (IsHonestRow rules conflicts) table

-- the text of a row's verdict on the rule
abbrev pub row_text : Rule → Row → List ℕ
row_text rule row = verdict_text rule row.typing row.verdict

-- the texts of rows on one rule, in order
abbrev pub rows_text : Rule → List Row → List ℕ
rows_text rule rows = flat_map (row_text rule) rows

-- the texts of a table, in order: each row's is that on its rule
abbrev pub table_text : List Rule → List Row → List ℕ
table_text rules table = flat_map (λ row. option_map_or (λ rule. row_text rule row) (slice_get rules row.rule) []) table
