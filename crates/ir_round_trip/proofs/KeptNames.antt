-- The names of a cleaned function are among those of the old one.
use Rattle.ir_round_trip.proofs.Common.{ℕ, suc, Bool, true, false, inl, inr, List, [], ◌∷◌, ◌++◌, Contains, map, flat_map, Contains-append_left, Contains-append_right, Contains-append_cases, Inst, Name, block_names, names_of, KeptMarks, moved_inst, kept_first, kept_insts, kept_blocks, kept_function}
use Rattle.ir_core.specs.declared.function.Function.{Function}
use Rattle.ir_core.specs.declared.function.Block.{Block}

abbrev Among : List Name → List Name → Type 0
Among xs ys = (name : Name) → Contains xs name → Contains ys name

joined : (xs us ys vs : List Name) → Among xs us → Among ys vs → Among (xs ++ ys) (us ++ vs)
joined xs us ys vs first second name h =
    elim (Contains-append_cases xs ys name h) [
      | inl left ↦ Contains-append_left us vs name (first name left)
      | inr right ↦ Contains-append_right us vs name (second name right)
    ]

same : (xs : List Name) → Among xs xs
same xs name h = h

abbrev inst_names : List Inst → List Name
inst_names insts = map (λ (i : Inst). i.name) insts

kept_inst_names : (kept : KeptMarks) (b k : ℕ) (insts : List Inst) → Among (inst_names (kept_insts kept b k insts)) (inst_names insts)
kept_inst_names kept b k [] = same []
kept_inst_names kept b k (i ∷ insts) = by (kept b k) (kept_inst_names kept b (suc k) insts)
  where
    by : (keep : Bool) → Among (inst_names (kept_insts kept b (suc k) insts)) (inst_names insts) → Among (inst_names (kept_first keep (moved_inst kept i) (kept_insts kept b (suc k) insts))) (i.name ∷ inst_names insts)
    by true rest = joined (i.name ∷ []) (i.name ∷ []) (inst_names (kept_insts kept b (suc k) insts)) (inst_names insts) (same (i.name ∷ [])) rest
    by false rest = λ name h. Contains-append_right (i.name ∷ []) (inst_names insts) name (rest name h)

kept_block_names : (kept : KeptMarks) (b : ℕ) (blocks : List Block) → Among (flat_map block_names (kept_blocks kept b blocks)) (flat_map block_names blocks)
kept_block_names kept b [] = same []
kept_block_names kept b (block ∷ blocks) =
    joined (block.name ∷ inst_names (kept_insts kept b 0 block.insts)) (block_names block) (flat_map block_names (kept_blocks kept (suc b) blocks)) (flat_map block_names blocks)
    (joined (block.name ∷ []) (block.name ∷ []) (inst_names (kept_insts kept b 0 block.insts)) (inst_names block.insts) (same (block.name ∷ [])) (kept_inst_names kept b 0 block.insts))
    (kept_block_names kept (suc b) blocks)

pub kept_names : (kept : KeptMarks) (f : Function) (name : Name) → Contains (names_of (kept_function kept f)) name → Contains (names_of f) name
kept_names kept f =
    let own : List Name = map (λ p. p.name) f.parameters in
    joined own own (flat_map block_names (kept_blocks kept 0 f.blocks)) (flat_map block_names f.blocks) (same own) (kept_block_names kept 0 f.blocks)
