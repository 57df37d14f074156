use Rattle.fold_branch.proofs.Common.{◌≡◌, ◌<◌, length, get_or, sym, subst, arith, All-get_or, Block, next_as_before, folded_blocks, AllAreBelow}
use Rattle.fold_branch.proofs.folding.fold_blocks.Goals as goal

pub fold_block-requires-clause-entries : goal.fold_block-requires-clause-entries
fold_block-requires-clause-entries c =
    let l = c.loop-index in
    let i = l.index in
    let block = c.block-item.result in
    let test = c.loop-index-test.true in
    let same = l.auto.block-items in
    let size = l.invariant.written.size in
    let lt : i < length l.block-items = omega arith in
    let was : block ≡ get_or c.args.blocks i block = next_as_before (folded_blocks c.args.plan.now.choices.items c.args.plan.now.reached.items) c.args.blocks i l.block-items block l.invariant.written lt c.block-item.is in
    let below : AllAreBelow (length c.args.marks.now) block.insts = subst (λ (x : Block). AllAreBelow (length c.args.marks.now) x.insts) (sym was) (All-get_or (λ (x : Block). AllAreBelow (length c.args.marks.now) x.insts) c.args.blocks i block (omega arith) c.requires.entries) in
    subst (λ (x : Block). AllAreBelow (length l.marks) x.insts) c.block-item.is (subst (λ n. AllAreBelow n block.insts) (sym l.auto.marks) below)
