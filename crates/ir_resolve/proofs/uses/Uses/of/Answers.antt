use Rattle.ir_resolve.proofs.Common.{◌++◌, map, ap, ◌∙◌, arith, flat_map, read_in, named_in, seen_read}
use Rattle.ir_resolve.proofs.Adding.{adds_none, adds_more, adds_all, flat_map_push}
use Rattle.ir_resolve.proofs.uses.Uses.of.Goals as goal

pub loop-block-init : goal.loop-block-init
loop-block-init c = adds_none _

pub loop-block-preserved : goal.loop-block-preserved
loop-block-preserved c =
    adds_more (flat_map read_in) read_in (flat_map named_in) named_in (flat_map_push read_in) (flat_map_push named_in) c.as_slice-block-items.result.now c.loop-block.block-index c.block-item.result _ _ _ (omega arith) c.block-item.is c.loop-block.invariant c.in_ok-add_block.ensures

pub returns : goal.returns
returns c =
    let blocks = adds_all (flat_map read_in) (flat_map named_in) c.as_slice-block-items.result.now c.loop-block.block-index _ _ (omega arith) c.loop-block.invariant in
    record {
      reads = blocks.reads_added ∙ ap (λ rs. map seen_read rs ++ flat_map read_in c.as_slice-block-items.result.now) c.in_ok-with_capacity.ensures.items ∙ ap (flat_map read_in) c.as_slice-block-items.ensures;
      targets = blocks.targets_added ∙ ap (λ ts. map (λ w. w.now) ts ++ flat_map named_in c.as_slice-block-items.result.now) c.in_ok-with_capacity-2.ensures.items ∙ ap (flat_map named_in) c.as_slice-block-items.ensures;
    }
