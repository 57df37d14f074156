use Rattle.proof_text.proofs.HeadReadings.{other_part, if_none}
use Rattle.proof_text.proofs.head.parted.Goals as goal

pub returns-in_err-name-clause-none : goal.returns-in_err-name-clause-none
returns-in_err-name-clause-none c =
    if_none c.from_residual-in_err-name.result _ (other_part c.args.line.now _ _ c.in_ok-place.ensures.some.0 c.in_ok-place.ensures.some.1 c.in_err-name.ensures.none)
