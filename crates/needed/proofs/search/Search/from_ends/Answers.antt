use Rattle.needed.proofs.Common.{◌≡◌, Some, length, ap, subst, arith, slice_get, end_of, IsSearched, operands_at_end}
use Rattle.needed.proofs.NumberLemmas.{item_read}
use Rattle.needed.proofs.SearchLemmas.{reads_numbered, end_reads, search_end, numbered_for}
use Rattle.needed.proofs.search.Search.from_ends.Goals as goal

pub mark_end-requires : goal.mark_end-requires
mark_end-requires c =
    let f = c.args.f.now in
    let n = c.args.numbers.now in
    let b = c.loop-block.block-index in
    let block = c.block-item.result in
    let at : slice_get f.blocks b ≡ Some block = item_read f.blocks c.as_slice-block-items.result.now b block c.as_slice-block-items.ensures c.loop-block-test.true c.block-item.is in
    numbered_for n.firsts.items (operands_at_end block.end) n.count _ c.loop-block.invariant.sound.size
    (reads_numbered f c.requires.registers n.firsts.items n.count c.requires.numbers b (end_of f b) (operands_at_end block.end) (end_reads f b block at))

pub loop-block-preserved : goal.loop-block-preserved
loop-block-preserved c =
    let f = c.args.f.now in
    let n = c.args.numbers.now in
    let b = c.loop-block.block-index in
    let block = c.block-item.result in
    let at : slice_get f.blocks b ≡ Some block = item_read f.blocks c.as_slice-block-items.result.now b block c.as_slice-block-items.ensures c.loop-block-test.true c.block-item.is in
    search_end f c.requires.registers n.firsts.items n.count c.requires.numbers b block c.loop-block.search c.mark_end.new.self at c.loop-block.invariant c.in_ok-mark_end.ensures

pub returns : goal.returns
returns c =
    let all = ap length c.as_slice-block-items.ensures in
    let past = c.loop-block-test.false in
    let done : c.loop-block.block-index ≡ length c.args.f.now.blocks = omega arith in
    subst (λ b. IsSearched c.args.f.now c.args.numbers.now.firsts.items c.args.numbers.now.count b c.loop-block.search) done c.loop-block.invariant
