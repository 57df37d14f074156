use Rattle.substitution.proofs.Common.{◌≡◌, ℕ, ◌+◌, ◌<◌, ◌≤◌, ◌∙◌, List, Some, ap, sym, subst, length, map, arith, get_or, All, vec_capacity, slice_get, slice_set, option_map, length-map, slice_get-map, get_or_from_slice_get, Block, stands_for, BlockHasRoom, substituted_block, block_with, Rewrite}
use Rattle.substitution.proofs.Rebuilding.{blocks_have_room, blocks_at}
use Rattle.substitution.proofs.rewriting.rewrite_function.Goals as goal

pub substituted_blocks-blocks-requires : goal.substituted_blocks-blocks-requires
substituted_blocks-blocks-requires c =
    subst (All (BlockHasRoom c.args.rewrite)) (sym c.replace-blocks.ensures.value) (blocks_have_room c.args.rewrite c.args.f.now c.requires.registers c.requires.places)

-- the root's block, with its operands substituted
block_substituted : (w : Rewrite) (old blocks new : List Block) (b : ℕ) (block : Block) → slice_get old b ≡ Some block → blocks ≡ old → new ≡ map (substituted_block (stands_for w)) blocks
    → slice_get new b ≡ Some (substituted_block (stands_for w) block)
block_substituted w old blocks new b block at same is =
    ap (λ l. slice_get l b) (is ∙ ap (map (substituted_block (stands_for w))) same) ∙ slice_get-map (substituted_block (stands_for w)) old b ∙ ap (option_map (substituted_block (stands_for w))) at

-- the block that is looked up
block_read : (old blocks : List Block) (b : ℕ) (block read : Block) → slice_get old b ≡ Some block → blocks ≡ old → read ≡ get_or blocks b read → read ≡ block
block_read old blocks b block read at same is = is ∙ ap (λ l. get_or l b read) same ∙ get_or_from_slice_get old b block read at

pub blocks_with_put-requires-clause-root : goal.blocks_with_put-requires-clause-root
blocks_with_put-requires-clause-root c =
    let w = c.args.rewrite in
    let f = c.args.f.now in
    let block : Block = c.requires.root.0 in
    let within : w.place < length block.insts = c.requires.root.2 in
    let count : c.len-count.result ≡ length c.index-as_slice-rewrite.result.insts = c.len-count.ensures ∙ ap (λ (x : Block). length x.insts) (sym c.index-as_slice-rewrite.is) in
    let puts : c.len.result ≡ length w.put = c.len.ensures in
    let read = block_read f.blocks c.as_slice.result.now w.block block c.index-as_slice-rewrite.result c.requires.root.1 c.as_slice.ensures c.index-as_slice-rewrite.is in
    let size : length c.index-as_slice-rewrite.result.insts ≡ length block.insts = ap (λ (x : Block). length x.insts) read in
    let mapped : length (substituted_block (stands_for w) block).insts ≡ length block.insts = simp length-map in
    let room : c.len.result + c.len-count.result ≤ vec_capacity c.in_ok-room.room = c.in_ok-room.ensures.capacity in (
      substituted_block (stands_for w) block,
      block_substituted w f.blocks c.replace-blocks.result c.substituted_blocks-blocks.result w.block block c.requires.root.1 c.replace-blocks.ensures.value c.substituted_blocks-blocks.ensures,
      omega arith,
      omega arith,
    )

pub returns-clause-ok : goal.returns-clause-ok
returns-clause-ok c =
    let w = c.args.rewrite in
    let f = c.args.f.now in
    let block : Block = c.requires.root.0 in
    let same : c.substituted_blocks-blocks.result ≡ map (substituted_block (stands_for w)) f.blocks = c.substituted_blocks-blocks.ensures ∙ ap (map (substituted_block (stands_for w))) c.replace-blocks.ensures.value in
    let put : c.blocks_with_put.result ≡ slice_set c.substituted_blocks-blocks.result w.block (block_with w.place w.put (substituted_block (stands_for w) block)) =
    c.blocks_with_put.ensures (substituted_block (stands_for w) block)
    (block_substituted w f.blocks c.replace-blocks.result c.substituted_blocks-blocks.result w.block block c.requires.root.1 c.replace-blocks.ensures.value c.substituted_blocks-blocks.ensures) in
    ap (λ blocks. record f { blocks = blocks })
    (put ∙ ap (λ l. slice_set l w.block (block_with w.place w.put (substituted_block (stands_for w) block))) same ∙ blocks_at w 0 w.block f.blocks block (omega arith) c.requires.root.1 c.requires.root.2)
