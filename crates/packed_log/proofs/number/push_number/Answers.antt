use Rattle.packed_log.proofs.Numbers.{no_byte_yet, byte_more, byte_last}
use Rattle.packed_log.proofs.number.push_number.Goals as goal

pub loop-rest-init : goal.loop-rest-init
loop-rest-init c = no_byte_yet _ _

pub loop-rest-preserved : goal.loop-rest-preserved
loop-rest-preserved c = byte_more _ _ _ _ _ c.loop-rest.invariant c.loop-rest-test.true c.in_ok-push.ensures.items

pub returns : goal.returns
returns c = byte_last _ _ _ _ _ c.loop-rest.invariant c.loop-rest-test.false c.in_ok-push-2.ensures.items
