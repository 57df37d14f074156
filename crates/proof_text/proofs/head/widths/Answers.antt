use Rattle.proof_text.proofs.Common.{◌≡◌, false, rules}
use Rattle.proof_text.proofs.HeadReadings.{not_all}
use Rattle.proof_text.proofs.Readings.{not_empty}
use Rattle.proof_text.proofs.head.widths.Goals as goal

pub returns-in-Ok-2 : goal.returns-in-Ok-2
returns-in-Ok-2 c =
    let full : c.is_empty.result ≡ false = search rules in
    λ ws h e. not_all c.args.text.now _ _ ws c.in-Ok-2.ensures.ok.0 c.in-Ok-2.ensures.ok.1 (not_empty _ _ c.is_empty.ensures full) h e
