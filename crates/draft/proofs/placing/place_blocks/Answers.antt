use Rattle.draft.proofs.Common.{◌<◌, ◌∙◌, ℕ, List, ap, length, sym, subst, arith, block_of, IsOrdering, at_places}
use Rattle.draft.proofs.Placed.{block_placed, next_ordering}
use Rattle.draft.proofs.placing.place_blocks.Goals as goal

pub place_block-requires : goal.place_block-requires
place_block-requires c =
    let l = c.loop-index in
    let size = l.invariant.size in
    let count = c.len-index-end.ensures in
    let within : l.index < length l.blocks = omega arith in
    subst (λ (row : List ℕ). IsOrdering (length c.get_mut-block.result.now.insts) row) (sym c.as_slice.ensures)
    (next_ordering (at_places c.args.places.now.rows.items) c.args.numbers.now c.args.blocks.now l.index l.blocks l.invariant c.requires.blocks within c.get_mut-block.result.now c.get_mut-block.ensures.value c.requires.ordered c.index-numbers-index.result c.index-numbers-index.is)

pub loop-index-preserved : goal.loop-index-preserved
loop-index-preserved c =
    let l = c.loop-index in
    let to = at_places c.args.places.now.rows.items in
    let size = l.invariant.size in
    let count = c.len-index-end.ensures in
    let within : l.index < length l.blocks = omega arith in
    block_placed to c.args.numbers.now c.args.blocks.now l.index l.blocks l.invariant c.requires.blocks within c.get_mut-block.result.now c.get_mut-block.ensures.value
    c.index-numbers-index.result c.place_block.new.block c.index-numbers-index.is (c.in_ok-place_block.ensures ∙ ap (λ (row : List ℕ). block_of to row c.get_mut-block.result.now) c.as_slice.ensures)
