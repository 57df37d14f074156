use Rattle.substitution.proofs.Common.{◌<◌, ◌∙◌, ap, sym, length, arith, stands_for, BlockHasRoom, substituted_block}
use Rattle.substitution.proofs.Mapping.{next_holds, map_more}
use Rattle.substitution.proofs.rewriting.substituted_blocks.Goals as goal

pub substitute_block-requires : goal.substitute_block-requires
substitute_block-requires c =
    let l = c.loop-block in
    let test = c.loop-block-test.true in
    let same = l.auto.block-items in
    let size = l.invariant.size in
    let within : l.block-index < length l.block-items = omega arith in
    next_holds (BlockHasRoom c.args.rewrite.now) (substituted_block (stands_for c.args.rewrite.now)) c.args.blocks l.block-index l.block-items c.block-item.result c.requires l.invariant within c.block-item.is

pub loop-block-preserved : goal.loop-block-preserved
loop-block-preserved c =
    let l = c.loop-block in
    let test = c.loop-block-test.true in
    let same = l.auto.block-items in
    let size = l.invariant.size in
    let within : l.block-index < length l.block-items = omega arith in
    map_more (substituted_block (stands_for c.args.rewrite.now)) c.args.blocks l.block-index l.block-items c.block-item.result c.substitute_block.new.block l.invariant within c.block-item.is (c.substitute_block.ensures ∙ ap (substituted_block (stands_for c.args.rewrite.now)) (sym c.block-item.is))
