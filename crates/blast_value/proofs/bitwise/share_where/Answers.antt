use Rattle.blast_value.proofs.Common.{IfOk-weaker}
use Rattle.blast_value.proofs.Moves.{asked_value}
use Rattle.blast_value.proofs.bitwise.share_where.Goals as goal

pub returns-clause-value : goal.returns-clause-value
returns-clause-value g c = IfOk-weaker c.share_bits.result _ _ (λ share known inputs admitted. asked_value c.args.asked _ _ c.if-not-asked.false (known inputs admitted)) c.share_bits.ensures.value
