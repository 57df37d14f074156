use Rattle.blast_setting.proofs.Common.{◌≡◌, arith}
use Rattle.blast_setting.proofs.Making.{made_more, made_number}
use Rattle.blast_setting.proofs.inputs.make_number.Goals as goal

pub loop-preserved : goal.loop-preserved
loop-preserved g c =
    rw c.in_ok-push.ensures.ok
    (made_more c.loop.invariant c.input.ensures.keeps c.in_ok-bit.ensures.inputs c.in_ok-bit.bit c.in_ok-bit.ensures.own c.in_ok-bit.ensures.value c.input.ensures.gates)

pub returns-clause-number : goal.returns-clause-number
returns-clause-number g c =
    let all : c.args.width ≡ c.loop.counter = omega arith in
    made_number c.loop.invariant c.args.width all
