use Rattle.blast_rule.proofs.Common.{◌<◌, length, map, arith, All-tail, Operand, operands_of}
use Rattle.blast_rule.proofs.Counts.{have_widths-at}
use Rattle.blast_rule.proofs.gates.run_gates.Goals as goal

pub width_of-requires : goal.width_of-requires
width_of-requires c =
    have_widths-at c.args.typing.now c.args.statements.now c.loop-statement.statement-index c.statement-item.result c.requires.classes (omega arith) c.statement-item.is 0 0 (omega arith)

pub op_gates-requires : goal.op_gates-requires
op_gates-requires c =
    let s = c.statement-item.result in
    All-tail (λ class. class < length c.args.typing.now) s.class (map (λ (o : Operand). o.class) (operands_of s.op))
    (have_widths-at c.args.typing.now c.args.statements.now c.loop-statement.statement-index s c.requires.classes (omega arith) c.statement-item.is)
