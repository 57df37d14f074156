use Rattle.ir_resolve.proofs.Common.{arith, IsUnknownValue, IsUnknownBlock, IncomingMeans, known_by, CallsIn}
use Rattle.ir_resolve.proofs.Zips.{zip_more, zip_all, each_at, each_seen_at}
use Rattle.ir_resolve.proofs.building.instruction.entries.Goals as goal

pub operand-requires : goal.operand-requires
operand-requires c = each_at (λ i. ¬ IsUnknownValue (CallsIn (known_by c.args.names.now)) i.value.value) c.args.incoming.now c.loop-written.written-index c.written-item.result (omega arith) c.written-item.is c.requires.values

pub target-requires : goal.target-requires
target-requires c = each_seen_at (λ i. i.block) (λ w. ¬ IsUnknownBlock (CallsIn (known_by c.args.names.now)) w.identifier) c.args.incoming.now c.loop-written.written-index c.written-item.result (omega arith) c.written-item.is c.requires.blocks

pub loop-written-preserved : goal.loop-written-preserved
loop-written-preserved c = zip_more (IncomingMeans (CallsIn (known_by c.args.names.now))) c.args.incoming.now c.loop-written.entries _ c.loop-written.written-index c.written-item.result _ (omega arith) c.written-item.is c.loop-written.invariant c.in_ok-push.ensures.ok (c.operand.ensures, c.target.ensures)

pub returns : goal.returns
returns c = zip_all (IncomingMeans (CallsIn (known_by c.args.names.now))) c.args.incoming.now _ _ (omega arith) c.loop-written.invariant
