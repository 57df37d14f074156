use Rattle.blast_value.proofs.Common.{◌≡◌, min, arith, stages}
use Rattle.blast_value.proofs.Counts.{stages-le}
use Rattle.blast_value.proofs.gates.shift_gates.Goals as goal

pub overflow_sub-result : goal.overflow_sub-result
overflow_sub-result c = omega (arith, stages-le c.args.width)

pub returns-clause-value : goal.returns-clause-value
returns-clause-value c =
    let all : min (stages c.args.width) c.args.width ≡ stages c.args.width = omega (arith, stages-le c.args.width) in
    rw (c.stage_count-stages.ensures.stages, all) (omega arith)
