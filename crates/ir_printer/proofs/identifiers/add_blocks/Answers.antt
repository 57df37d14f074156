use Rattle.ir_printer.proofs.Common.{◌≡◌, ◌+◌, ◌++◌, length, map, take, ap, subst, ◌∙◌, arith, flat_map, take_all, block_names, identifiers_from, seen, AreBlockStarts}
use Rattle.ir_printer.proofs.Identified.{Adds-all_more, Adds-length, AreBlockStarts-more}
use Rattle.ir_printer.proofs.identifiers.add_blocks.Goals as goal

pub loop-block-preserved : goal.loop-block-preserved
loop-block-preserved c =
    let i = c.loop-block.block-index in
    let blocks = c.args.blocks.now in
    let place : c.len.result ≡ length c.args.in_order.now.items + length (flat_map block_names (take i blocks)) = omega (arith, c.len.ensures, Adds-length c.args.next_number (flat_map block_names (take i blocks)) c.args.in_order.now.items c.loop-block.in_order.items c.loop-block.next_number c.loop-block.invariant.adds) in
    record {
      adds = Adds-all_more block_names c.args.next_number blocks i c.block-item.result _ _ _ _ _ c.loop-block-test.true c.block-item.is c.loop-block.invariant.adds c.in_ok-next_number.ensures.adds;
      counted = c.in_ok-next_number.ensures.counted;
      starts = rw c.in_ok-push.ensures.items (AreBlockStarts-more _ blocks i c.loop-block.starts.items c.len.result c.loop-block-test.true c.loop-block.invariant.starts place);
    }

pub returns-clause-adds : goal.returns-clause-adds
returns-clause-adds c =
    let all = take_all c.loop-block.block-index c.args.blocks.now (omega arith) in
    c.loop-block.invariant.adds.identifiers ∙ ap (λ bs. map seen c.args.in_order.now.items ++ identifiers_from c.args.next_number (flat_map block_names bs)) all

pub returns-clause-starts : goal.returns-clause-starts
returns-clause-starts c =
    let all = take_all c.loop-block.block-index c.args.blocks.now (omega arith) in
    subst (λ bs. AreBlockStarts (length c.args.in_order.now.items) bs c.loop-block.starts.items) all c.loop-block.invariant.starts
