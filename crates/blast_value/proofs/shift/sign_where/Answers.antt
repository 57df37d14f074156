use Rattle.blast_value.proofs.Common.{highest_bit}
use Rattle.blast_value.proofs.shift.sign_where.Goals as goal

pub returns-then-signed-clause-value : goal.returns-then-signed-clause-value
returns-then-signed-clause-value g c inputs admitted =
    rw c.if-signed.true (highest_bit (g.C.State.value c.args.c.now inputs) c.args.word.now c.sign.result c.requires.width c.sign.ensures)
