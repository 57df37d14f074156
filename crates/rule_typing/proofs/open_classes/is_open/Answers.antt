use Rattle.rule_typing.proofs.Among.{neither}
use Rattle.rule_typing.proofs.open_classes.is_open.Goals as goal

pub returns-in-Some : goal.returns-in-Some
returns-in-Some c = (λ h. cc, λ unnamed. absurd (unnamed.1 c.in-Some.field-0 c.in-Some.ensures.some))

pub returns-in-None : goal.returns-in-None
returns-in-None c = neither c.is_named.result (rw c.as_slice.ensures at c.is_named.ensures) c.in-None.ensures.none
