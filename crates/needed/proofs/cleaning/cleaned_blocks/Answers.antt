use Rattle.needed.proofs.Common.{◌≡◌, ◌+◌, ◌<◌, ◌≤◌, Some, length, get_or, refl, sym, subst, ◌∙◌, arith, slice_get, All-get_or, Block, kept_blocks, BlockIsNumbered, marks_by}
use Rattle.needed.proofs.NumberLemmas.{block_within, item_read}
use Rattle.needed.proofs.KeptLemmas.{next_as_before}
use Rattle.needed.proofs.cleaning.cleaned_blocks.Goals as goal

pub clean_block-requires-clause-numbers : goal.clean_block-requires-clause-numbers
clean_block-requires-clause-numbers c =
    let kept = c.args.kept.now in
    let i = c.loop-index.index in
    let block = c.block-item.result in
    let test = c.loop-index-test.true in
    let same = c.loop-index.auto.block-items in
    let size = c.loop-index.invariant.size in
    let lt : i < length c.loop-index.block-items = omega arith in
    let was : block ≡ get_or c.args.blocks i block = next_as_before (kept_blocks (marks_by kept.firsts.items kept.marks.items)) c.args.blocks i c.loop-index.block-items block c.loop-index.invariant lt c.block-item.is in
    let at : slice_get c.args.blocks i ≡ Some block = item_read c.args.blocks c.args.blocks i block refl (omega arith) was in
    subst (λ (x : Block). get_or kept.firsts.items i 0 + length x.insts ≤ length kept.marks.items) c.block-item.is
    (block_within c.args.blocks kept.firsts.items (length kept.marks.items) i block c.requires.numbers (omega arith) at).1

pub clean_block-requires-clause-operands : goal.clean_block-requires-clause-operands
clean_block-requires-clause-operands c =
    let kept = c.args.kept.now in
    let i = c.loop-index.index in
    let block = c.block-item.result in
    let test = c.loop-index-test.true in
    let same = c.loop-index.auto.block-items in
    let size = c.loop-index.invariant.size in
    let lt : i < length c.loop-index.block-items = omega arith in
    let was : block ≡ get_or c.args.blocks i block = next_as_before (kept_blocks (marks_by kept.firsts.items kept.marks.items)) c.args.blocks i c.loop-index.block-items block c.loop-index.invariant lt c.block-item.is in
    subst (BlockIsNumbered kept.firsts.items (length kept.marks.items)) (sym was ∙ c.block-item.is)
    (All-get_or (BlockIsNumbered kept.firsts.items (length kept.marks.items)) c.args.blocks i block (omega arith) c.requires.operands)
