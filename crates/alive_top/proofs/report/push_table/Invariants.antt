use Rattle.alive_top.proofs.Common.{◌≡◌, ◌++◌, drop, table_text}
use Rattle.alive_top.proofs.report.push_table.Given as goal

-- the text so far, with those of the rows that are left, is that of all rows
abbrev pub invariant-loop-row : goal.invariant-loop-row
invariant-loop-row l = l.out.items ++ table_text l.rules (drop l.row-index l.table) ≡ l.fn.out.items ++ table_text l.rules l.table
