use Rattle.ir_resolve.proofs.Common.{arith, known_by}
use Rattle.ir_resolve.proofs.Firsts.{first_more_seen, first_all_seen, first_if}
use Rattle.ir_resolve.proofs.Unknowns.{TargetIsUnknown}
use Rattle.ir_resolve.proofs.unknown.unknown_block.Goals as goal

pub loop-target-preserved : goal.loop-target-preserved
loop-target-preserved c =
    first_more_seen (λ w. w.now) (TargetIsUnknown (known_by c.args.names.now)) c.args.targets.now c.loop-target.target-index c.target-item.result _ _ _ (omega arith) c.target-item.is c.loop-target.invariant
    (first_if _ _ _ _ c.is_unknown_block-is_unknown.ensures c.then_some.ensures) c.lesser-found.ensures

pub returns : goal.returns
returns c = first_all_seen (λ w. w.now) (TargetIsUnknown (known_by c.args.names.now)) c.args.targets.now _ _ (omega arith) c.loop-target.invariant
