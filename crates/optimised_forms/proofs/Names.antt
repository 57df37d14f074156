-- The names of a rewritten function are among those of the old one.
use Rattle.optimised_forms.proofs.Common.{◌≡◌, ℕ, inl, inr, List, [], ◌∷◌, Some, refl, ap, subst, ◌∙◌, Contains, map, flat_map, Contains-append_left, Contains-append_right, Contains-append_cases, IsBlock, IsInst, Name, block_names, names_of, Function, Block, Inst, cases_in, contains_at, place_in, Contains-flat_map, flat_map-from, Fits, rewritten_function, Rewrite, in_map, map_in, block_back, inst_back}

abbrev own_names : Function → List Name
own_names f = map (λ p. p.name) f.parameters

abbrev inst_names : List Inst → List Name
inst_names insts = map (λ (i : Inst). i.name) insts

-- the names in a block, and of an instruction, are the function's
in_block : (f : Function) (b : ℕ) (block : Block) (name : Name) → IsBlock f b block → Contains (block_names block) name → Contains (names_of f) name
in_block f b block name at among =
    Contains-append_right (own_names f) (flat_map block_names f.blocks) name (Contains-flat_map block_names f.blocks block name (contains_at f.blocks b block at) among)

of_inst : (f : Function) (b k : ℕ) (inst : Inst) → IsInst f b k inst → Contains (names_of f) inst.name
of_inst f b k inst is =
    in_block f b is.block inst.name is.is_block
    (Contains-append_right (is.block.name ∷ []) (inst_names is.block.insts) inst.name (map_in (λ (i : Inst). i.name) is.block.insts inst (contains_at is.block.insts k inst is.is_inst)))

module _ (f : Function) (w : Rewrite) (root : Inst) (fits : Fits f w root) where
  abbrev new : Function
  new = rewritten_function w f

  inst_name : (b n : ℕ) (inst : Inst) (name : List ℕ) → IsInst new b n inst → inst.name ≡ Some name → Contains (names_of f) (Some name)
  inst_name b n inst name is named =
      elim (inst_back w f b n inst is) [
        | inl s ↦ subst (Contains (names_of f)) (ap (λ (x : Inst). x.name) s.is ∙ named) (of_inst f b s.place s.inst s.is_inst)
        | inr p ↦ subst (Contains (names_of f)) (fits.names p.place inst name p.is_put named) (of_inst f w.block w.place root fits.is_root)
      ]

  block_name : (b : ℕ) (block : Block) (name : List ℕ) → IsBlock new b block → Contains (block_names block) (Some name) → Contains (names_of f) (Some name)
  block_name b block name at among =
      elim (cases_in block.name (inst_names block.insts) (Some name) among) [
        | inl own ↦
            let (old, at_old, is) = block_back w f b block at in
            in_block f b old (Some name) at_old (subst (Contains (block_names old)) (ap (λ (x : Block). x.name) is ∙ own) (Contains-append_left (old.name ∷ []) (inst_names old.insts) old.name (contains_at (old.name ∷ []) 0 old.name refl)))
        | inr result ↦
            let (inst, there, named) = in_map (λ (i : Inst). i.name) block.insts (Some name) result in
            let (n, at_n) = place_in block.insts inst there in
            inst_name b n inst name (record { block = block; is_block = at; is_inst = at_n }) named
      ]

  pub names_back : (name : List ℕ) → Contains (names_of new) (Some name) → Contains (names_of f) (Some name)
  names_back name among =
      elim (Contains-append_cases (own_names f) (flat_map block_names new.blocks) (Some name) among) [
        | inl parameter ↦ Contains-append_left (own_names f) (flat_map block_names f.blocks) (Some name) parameter
        | inr other ↦
            let (b, block, at, there) = flat_map-from block_names new.blocks (Some name) other in
            block_name b block name at there
      ]
