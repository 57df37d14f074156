-- The operands, and the blocks that are named, of a function as written, by place.
use Rattle.ir_round_trip.proofs.Common.{◌≡◌, inl, inr, ℕ, suc, List, [], ◌∷◌, ◌++◌, Some, refl, slice_get, Contains, flat_map, RawFunction, RawBlock, RawInst, RawOp, RawTerminator, at_append, somewhere}

-- an item of concatenated lists, each made of one thing, is in the list of one of the things
made_at : {X Y : Type 0} (g : X → List Y) (xs : List X) (p : ℕ) (y : Y) → slice_get (flat_map g xs) p ≡ Some y → (x : X) × ((k : ℕ) × (slice_get xs k ≡ Some x)) × ((q : ℕ) × (slice_get (g x) q ≡ Some y))
made_at g [] p y at = cc
made_at g (x ∷ xs) p y at = elim (at_append (g x) (flat_map g xs) p y at) [
  | inl here ↦ (x, (0, refl), (p, here))
  | inr (q, is, behind) ↦ let (z, (k, there), found) = made_at g xs q y behind in (z, (suc k, there), found)
]

-- an item that is in an instruction or in the terminator of one of the function's blocks
module _ {Y : Type 0} (by_op : RawOp → List Y) (at_end : RawTerminator → List Y) where
  pub data StandsIn (raw : RawFunction) (y : Y) : Type 0 where
    in_inst : (b k q : ℕ) (block : RawBlock) (inst : RawInst) → slice_get raw.blocks b ≡ Some block → slice_get block.insts k ≡ Some inst → slice_get (by_op inst.op) q ≡ Some y → StandsIn raw y
    in_end : (b q : ℕ) (block : RawBlock) → slice_get raw.blocks b ≡ Some block → slice_get (at_end block.end) q ≡ Some y → StandsIn raw y

  abbrev in_block : RawBlock → List Y
  in_block block = flat_map (λ (i : RawInst). by_op i.op) block.insts ++ at_end block.end

  pub stands_in : (raw : RawFunction) (y : Y) → Contains (flat_map in_block raw.blocks) y → StandsIn raw y
  stands_in raw y among =
      let (p, at) = somewhere (flat_map in_block raw.blocks) y among in
      let (block, (b, is), (q, here)) = made_at in_block raw.blocks p y at in
      elim (at_append (flat_map (λ (i : RawInst). by_op i.op) block.insts) (at_end block.end) q y here) [
        | inl first ↦ let (inst, (k, inst_at), (j, y_at)) = made_at (λ (i : RawInst). by_op i.op) block.insts q y first in in_inst b k j block inst is inst_at y_at
        | inr (j, place, last) ↦ in_end b j block is last
      ]
