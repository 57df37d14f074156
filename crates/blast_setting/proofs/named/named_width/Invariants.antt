use Rattle.blast_setting.proofs.Common.{◌≡◌, drop, find, operands_among}
use Rattle.blast_setting.proofs.Widths.{test}
use Rattle.blast_setting.proofs.named.named_width.Given as goal

abbrev pub invariant-loop-statement : goal.invariant-loop-statement
invariant-loop-statement l =
    find (test l.kind l.k) (operands_among l.statements) ≡ find (test l.kind l.k) (operands_among (drop l.statement-index l.statements))
