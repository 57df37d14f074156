use Rattle.ir_resolve.proofs.Common.{arith, InstMeans, known_by, CallsIn, IsReadyInst}
use Rattle.ir_resolve.proofs.Zips.{zip_more, zip_all, each_at}
use Rattle.ir_resolve.proofs.building.instruction.insts.Goals as goal

pub op-requires : goal.op-requires
op-requires c =
    let ready = each_at (IsReadyInst (known_by c.args.names.now)) c.args.written.now c.loop-written.written-index c.written-item.result (omega arith) c.written-item.is c.requires in
    record { reads = ready.0; targets = ready.1 }

pub loop-written-preserved : goal.loop-written-preserved
loop-written-preserved c = zip_more (InstMeans (CallsIn (known_by c.args.names.now))) c.args.written.now c.loop-written.insts _ c.loop-written.written-index c.written-item.result _ (omega arith) c.written-item.is c.loop-written.invariant c.in_ok-push.ensures.ok (c.in_ok-name.ensures, c.result_width.ensures, c.in_ok-op.ensures)

pub returns : goal.returns
returns c = zip_all (InstMeans (CallsIn (known_by c.args.names.now))) c.args.written.now _ _ (omega arith) c.loop-written.invariant
