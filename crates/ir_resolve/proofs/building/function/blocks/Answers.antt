use Rattle.ir_resolve.proofs.Common.{sym, ap, subst, ◌∙◌, arith, AllZip, AllByRecursion, given, InstMeans, BlockIsOf, known_by, CallsIn, IsReadyInst, IsReadyBlock}
use Rattle.ir_resolve.proofs.Zips.{zip_more, zip_all, each_at}
use Rattle.ir_resolve.proofs.building.function.blocks.Goals as goal

pub insts-requires : goal.insts-requires
insts-requires c =
    let known = known_by c.args.names.now in
    let ready = each_at (IsReadyBlock known) c.args.written.now c.loop-written.written-index c.written-item.result (omega arith) c.written-item.is c.requires in
    subst (AllByRecursion (IsReadyInst known)) (sym c.as_slice.ensures) ready.0

pub terminator-requires : goal.terminator-requires
terminator-requires c =
    let ready = each_at (IsReadyBlock (known_by c.args.names.now)) c.args.written.now c.loop-written.written-index c.written-item.result (omega arith) c.written-item.is c.requires in
    ready.1

pub loop-written-preserved : goal.loop-written-preserved
loop-written-preserved c = zip_more (BlockIsOf (CallsIn (known_by c.args.names.now))) c.args.written.now c.loop-written.blocks _ c.loop-written.written-index c.written-item.result _ (omega arith) c.written-item.is c.loop-written.invariant c.in_ok-push.ensures.ok
    (c.in_ok-name_given.ensures ∙ ap given c.as_ref.ensures.value, subst (λ is. AllZip (InstMeans (CallsIn (known_by c.args.names.now))) is c.in_ok-insts.field-0) c.as_slice.ensures c.in_ok-insts.ensures, c.in_ok-terminator.ensures)

pub returns : goal.returns
returns c = zip_all (BlockIsOf (CallsIn (known_by c.args.names.now))) c.args.written.now _ _ (omega arith) c.loop-written.invariant
