use Rattle.blast_rule.proofs.Common.{◌≤◌, ◌*◌, max, arith}
use Rattle.blast_value.specs.declared.instruction.Instruction.TheVariants as instructions
use Rattle.blast_rule.proofs.gates.op_gates.Goals as goal

pub returns-in-Unary-clause-few : goal.returns-in-Unary-clause-few
returns-in-Unary-clause-few c =
    let few = c.gates_are_few.ensures (instructions.Unary c.in-Unary.op c.in-Unary.truth) c.args.width c.args.width (omega arith) (omega arith) (omega arith) (omega arith) in
    let below : c.gates_of-in-Unary.result ≤ 64 * max c.args.width c.args.width = rw c.gates_of-in-Unary.ensures few in
    omega arith
