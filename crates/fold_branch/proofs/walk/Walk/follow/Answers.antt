use Rattle.fold_branch.proofs.Common.{◌≡◌, ◌<◌, Some, length, refl, ap, arith, slice_get, item_read}
use Rattle.fold_branch.proofs.Decided.{targets_within}
use Rattle.fold_branch.proofs.Walking.{work_within, walked_step}
use Rattle.fold_branch.proofs.walk.Walk.follow.Goals as goal

pub bounds-as_slice-block : goal.bounds-as_slice-block
bounds-as_slice-block c =
    let f = c.args.f.now in
    let within : c.in-Some.block < length f.blocks = work_within f c.in-Some.block c.loop-block.self c.pop.new.self.items c.loop-block.invariant c.in-Some.ensures.items in
    omega (arith, within, ap length c.as_slice.ensures)

pub leave-requires : goal.leave-requires
leave-requires c =
    let f = c.args.f.now in
    let b = c.in-Some.block in
    let block = c.index-as_slice-block.result in
    let within : b < length f.blocks = work_within f b c.loop-block.self c.pop.new.self.items c.loop-block.invariant c.in-Some.ensures.items in
    let at : slice_get f.blocks b ≡ Some block = item_read f.blocks c.as_slice.result.now b block c.as_slice.ensures (omega (arith, within, ap length c.as_slice.ensures)) c.index-as_slice-block.is in
    targets_within f b block (length c.loop-block.self.reached.items) c.requires.targets at c.loop-block.invariant.count

pub loop-block-preserved : goal.loop-block-preserved
loop-block-preserved c =
    let f = c.args.f.now in
    let b = c.in-Some.block in
    let block = c.index-as_slice-block.result in
    let within : b < length f.blocks = work_within f b c.loop-block.self c.pop.new.self.items c.loop-block.invariant c.in-Some.ensures.items in
    let at : slice_get f.blocks b ≡ Some block = item_read f.blocks c.as_slice.result.now b block c.as_slice.ensures (omega (arith, within, ap length c.as_slice.ensures)) c.index-as_slice-block.is in
    walked_step f b block c.loop-block.self (record { reached = c.loop-block.self.reached; work = c.pop.new.self }) c.leave.new.self at c.loop-block.invariant refl c.in-Some.ensures.items c.in_ok-leave.ensures
