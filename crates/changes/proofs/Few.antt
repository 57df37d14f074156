-- A function that is rewritten or cleaned has as many blocks as before, and few instructions in each.
use Rattle.changes.proofs.Common.{◌≡◌, ℕ, suc, ◌+◌, ◌-◌, ◌<◌, ◌≤◌, ◌^◌, inl, inr, List, [], ◌∷◌, length, get_or, sym, ap, subst, ◌∙◌, arith, All, cases_eq, slice_get-get_or, get_or_from_slice_get, slice_get_within, same_Some, All-get_or, IsBlock, IsInst, end_of, Block, Function, Inst, KeptMarks, kept_before, kept_insts, kept_block, kept_blocks, kept_function, end_of-is, moved_place, rewritten_insts, rewritten_block, rewritten_blocks, rewritten_function, Rewrite, is_moved, length-block}
use Rattle.needed.proofs.Counting as kept_function_of
use Rattle.substitution.proofs.Placing.{block_at, block_back}

abbrev pub AreFew : Function → Type 0
AreFew f = All (λ (b : Block). length b.insts < 2 ^ 32) f.blocks

all_blocks : (P : Block → Type 0) (f : Function) → ((b : ℕ) (block : Block) → IsBlock f b block → P block) → All P f.blocks
all_blocks P f each b d within = each b (get_or f.blocks b d) (slice_get-get_or f.blocks b d within)

pub block_few : (f : Function) (b : ℕ) (block : Block) → IsBlock f b block → AreFew f → length block.insts < 2 ^ 32
block_few f b block at few =
    let h : length (get_or f.blocks b block).insts < 2 ^ 32 = All-get_or (λ (x : Block). length x.insts < 2 ^ 32) f.blocks b block (slice_get_within f.blocks b block at) few in
    let is : get_or f.blocks b block ≡ block = get_or_from_slice_get f.blocks b block block at in
    subst (λ (x : Block). length x.insts < 2 ^ 32) is h

-- ---- rewritten

blocks_rewritten : (w : Rewrite) (b : ℕ) (blocks : List Block) → length (rewritten_blocks w b blocks) ≡ length blocks
blocks_rewritten w b [] = omega arith
blocks_rewritten w b (x ∷ blocks) = ap suc (blocks_rewritten w (suc b) blocks)

pub as_many_rewritten : (w : Rewrite) (f : Function) → length (rewritten_function w f).blocks ≡ length f.blocks
as_many_rewritten w f = blocks_rewritten w 0 f.blocks

module _ (w : Rewrite) (f : Function) (root : Block) (at_root : IsBlock f w.block root) (inside : w.place < length root.insts) where
  -- the root's block loses the root, and gets the inserted instructions
  pub root_block : (block : Block) → IsBlock f w.block block → length (rewritten_insts w w.block 0 block.insts) ≡ length block.insts - 1 + length w.put
  root_block block at =
      let same : length block.insts ≡ length root.insts = ap (λ (x : Block). length x.insts) (same_Some block root (sym at ∙ at_root)) in
      length-block w w.block block ∙ (is_moved w w.block (length block.insts)).behind refl_block (omega arith)
    where
      refl_block : w.block ≡ w.block
      refl_block = omega arith

  few_in : (b : ℕ) (block : Block) → IsBlock f b block → length block.insts < 2 ^ 32 → length root.insts + length w.put ≤ 2 ^ 32 → length (rewritten_insts w b 0 block.insts) < 2 ^ 32
  few_in b block at few room = elim (cases_eq b w.block) [
    | inr apart ↦
        let same : moved_place w b (length block.insts) ≡ length block.insts = (is_moved w b (length block.insts)).elsewhere apart in
        let size : length (rewritten_insts w b 0 block.insts) ≡ length block.insts = length-block w b block ∙ same in
        omega arith
    | inl same ↦
        let here : IsBlock f w.block block = subst (λ (c : ℕ). IsBlock f c block) same at in
        let sizes : length block.insts ≡ length root.insts = ap (λ (x : Block). length x.insts) (same_Some block root (sym here ∙ at_root)) in
        let size : length (rewritten_insts w b 0 block.insts) ≡ length block.insts - 1 + length w.put = ap (λ (c : ℕ). length (rewritten_insts w c 0 block.insts)) same ∙ root_block block here in
        omega arith
  ]

  pub few_rewritten : AreFew f → length root.insts + length w.put ≤ 2 ^ 32 → AreFew (rewritten_function w f)
  few_rewritten few room = all_blocks (λ (x : Block). length x.insts < 2 ^ 32) (rewritten_function w f) (λ b new at.
      let was : (block : Block) × IsBlock f b block × (rewritten_block w b block ≡ new) = block_back w f b new at in
      subst (λ (x : Block). length x.insts < 2 ^ 32) was.2 (few_in b was.0 was.1 (block_few f b was.0 was.1 few) room))

abbrev Ends : Rewrite → Function → Function → ℕ → Type 0
Ends w f g c = (end_of g c ≡ end_of f c - 1 + length w.put) × (0 < end_of f c)

-- how many instructions the root's block has then
pub end_rewritten : (w : Rewrite) (f new : Function) (b k : ℕ) (root : Inst) → w.block ≡ b → w.place ≡ k → IsInst f b k root → new ≡ rewritten_function w f → (end_of new b ≡ end_of f b - 1 + length w.put) × (0 < end_of f b)
end_rewritten w f new b k root block place at is =
    subst (λ (g : Function). Ends w f g b) (sym is) (subst (λ (c : ℕ). Ends w f (rewritten_function w f) c) block (by there))
  where
    there : IsInst f w.block w.place root
    there = subst (λ (c : ℕ). IsInst f c w.place root) (sym block) (subst (λ (j : ℕ). IsInst f b j root) (sym place) at)

    by : IsInst f w.block w.place root → (end_of (rewritten_function w f) w.block ≡ end_of f w.block - 1 + length w.put) × (0 < end_of f w.block)
    by it =
        let inside : w.place < length it.block.insts = slice_get_within it.block.insts w.place root it.is_inst in
        let old : end_of f w.block ≡ length it.block.insts = end_of-is f w.block it.block it.is_block in
        let now : end_of (rewritten_function w f) w.block ≡ length (rewritten_insts w w.block 0 it.block.insts) = end_of-is (rewritten_function w f) w.block (rewritten_block w w.block it.block) (block_at w f w.block it.block it.is_block) in
        let size = root_block w f it.block it.is_block inside it.block it.is_block in
        (omega arith, omega arith)

-- ---- cleaned

blocks_kept : (kept : KeptMarks) (b : ℕ) (blocks : List Block) → length (kept_blocks kept b blocks) ≡ length blocks
blocks_kept kept b [] = omega arith
blocks_kept kept b (x ∷ blocks) = ap suc (blocks_kept kept (suc b) blocks)

pub as_many_kept : (kept : KeptMarks) (f : Function) → length (kept_function kept f).blocks ≡ length f.blocks
as_many_kept kept f = blocks_kept kept 0 f.blocks

few_kept_in : (kept : KeptMarks) (b : ℕ) (block : Block) → length block.insts < 2 ^ 32 → length (kept_insts kept b 0 block.insts) < 2 ^ 32
few_kept_in kept b block few =
    let all : 0 + length block.insts ≡ length block.insts = omega arith in
    omega (arith, kept_function_of.length-kept kept b 0 block.insts, ap (kept_before kept b) all, kept_function_of.kept_before_le kept b (length block.insts))

pub few_kept : (kept : KeptMarks) (f : Function) → AreFew f → AreFew (kept_function kept f)
few_kept kept f few = all_blocks (λ (x : Block). length x.insts < 2 ^ 32) (kept_function kept f) (λ b new at.
    let was : (block : Block) × IsBlock f b block × (kept_block kept b block ≡ new) = kept_function_of.block_back kept f b new at in
    subst (λ (x : Block). length x.insts < 2 ^ 32) was.2 (few_kept_in kept b was.0 (block_few f b was.0 was.1 few)))
