-- An arena with inserted instructions, in which the root's register is replaced by an operand.
use Rattle.draft_steps.proofs.Common.{◌≡◌, ◌≢◌, ℕ, ◌⊎◌, inl, inr, cond, List, ◌∷◌, ◌++◌, map, Some, refl, sym, ap, subst, ◌∙◌, Contains, slice_get, option_map, cases_eq, slice_get-map, HasInst, IsBlock, end_of, Block, Function, Inst, Operand, Register, first_in, IsNeeded, by_end, by_inst, ReadsRegister, operands_at_end, Substitution, substituted_block, substituted_inst, substituted_operand, get_left, in_map, map_in, changed_at, instead, replaced, with_inst_removed, IsNeededWith, ends, is_one, with_put, is_same_register, other_register, same_register_self}
use Rattle.ir_core.specs.declared.operand.Operand.TheVariants as operands
use Rattle.ir_core.specs.declared.operand.Register.TheVariants as registers
use Rattle.needed.specs.Operands.{operands_of}
use Rattle.substitution.proofs.Pieces.{mapped}
use Rattle.draft_steps.specs.DeadCode.{reads}
use Rattle.draft_steps.proofs.Living.{needed_stays}
use Rattle.draft_steps.proofs.Mapping.{end_substituted, operands_substituted}
use Rattle.draft_steps.proofs.OneChange.{changed_here, changed_other}
use Rattle.draft_steps.proofs.Silencing.{taken_out_is_silenced}
use Rattle.draft_steps.proofs.WhoReads.{EndReads, InstReads, end_reads_it, inst_reads_it, no_inst_at_end, who}

-- ---- the root's register, and the others

pub instead_it : (from : Register) (to : Operand) (r : Register) → r ≡ from → instead from to r ≡ to
instead_it from to r same = ap (λ (s : Register). instead from to s) same ∙ ap (λ c. cond c to (operands.Register from)) (same_register_self from)

pub instead_other : (from : Register) (to : Operand) (r : Register) → ¬ (r ≡ from) → instead from to r ≡ operands.Register r
instead_other from to r ne = ap (λ c. cond c to (operands.Register r)) (other_register r from ne)

module _ (f : Function) (b n : ℕ) (put : List Inst) (result : Operand) (no_root : result ≢ operands.Register (registers.Result b n)) where
  abbrev root : Register
  root = registers.Result b n

  abbrev sigma : Substitution
  sigma = instead root result

  abbrev g : Function
  g = replaced (with_put f b put) root result

  -- the block with the inserted instructions
  abbrev with_more : Block → Block
  with_more block = record { name = block.name; insts = block.insts ++ put; end = block.end }

  put_block : (c : ℕ) (block : Block) → IsBlock f c block → (more : Block) × IsBlock (with_put f b put) c more × (more.end ≡ block.end)
      × ((k : ℕ) (i : Inst) → slice_get block.insts k ≡ Some i → slice_get more.insts k ≡ Some i)
  put_block c block is =
      elim (cases_eq c b) [
        | inr ne ↦ (block, changed_other b with_more f.blocks c ne ∙ is, refl, λ k i at. at)
        | inl same ↦
            let here : slice_get (changed_at b with_more f.blocks) c ≡ option_map with_more (slice_get f.blocks c) =
            ap (slice_get (changed_at b with_more f.blocks)) same ∙ (changed_here b with_more f.blocks ∙ ap (λ k. option_map with_more (slice_get f.blocks k)) (sym same)) in
            (with_more block, here ∙ ap (option_map with_more) is, refl, λ k i at. get_left block.insts put k i at)
      ]

  block_on : (c : ℕ) (more : Block) → IsBlock (with_put f b put) c more → IsBlock g c (substituted_block sigma more)
  block_on c more is = slice_get-map (substituted_block sigma) (with_put f b put).blocks c ∙ ap (option_map (substituted_block sigma)) is

  pub block_back : (c : ℕ) (new : Block) → IsBlock g c new → (more : Block) × IsBlock (with_put f b put) c more × (substituted_block sigma more ≡ new)
  block_back c new is = mapped (substituted_block sigma) (slice_get (with_put f b put).blocks c) new (sym (slice_get-map (substituted_block sigma) (with_put f b put).blocks c) ∙ is)

  -- ---- what read a register reads its replacement

  inst_on : (c k : ℕ) (r s : Register) → sigma r ≡ operands.Register s → InstReads f c k r → ReadsRegister g c k s
  inst_on c k r s stands i =
      let (more, is, same_end, keeps) = put_block c i.block i.is_block in
      let has : Contains (map (substituted_operand sigma) (operands_of i.inst.op)) (operands.Register s) = subst (Contains (map (substituted_operand sigma) (operands_of i.inst.op))) stands (map_in (substituted_operand sigma) (operands_of i.inst.op) (operands.Register r) i.has) in
      let at : slice_get (map (substituted_inst sigma) more.insts) k ≡ Some (substituted_inst sigma i.inst) = slice_get-map (substituted_inst sigma) more.insts k ∙ ap (option_map (substituted_inst sigma)) (keeps k i.inst i.is_inst) in
      inst_reads_it g c k (substituted_block sigma more) (substituted_inst sigma i.inst) s (block_on c more is) at (subst (λ (l : List Operand). Contains l (operands.Register s)) (sym (operands_substituted sigma i.inst.op)) has)

  end_on : (c k : ℕ) (r s : Register) → sigma r ≡ operands.Register s → EndReads f c k r → ReadsRegister g c (end_of g c) s
  end_on c k r s stands e =
      let (more, is, same_end, keeps) = put_block c e.block e.is_block in
      let has : Contains (map (substituted_operand sigma) (operands_at_end e.block.end)) (operands.Register s) = subst (Contains (map (substituted_operand sigma) (operands_at_end e.block.end))) stands (map_in (substituted_operand sigma) (operands_at_end e.block.end) (operands.Register r) e.has) in
      let there : Contains (map (substituted_operand sigma) (operands_at_end more.end)) (operands.Register s) = subst (λ x. Contains (map (substituted_operand sigma) (operands_at_end x)) (operands.Register s)) (sym same_end) has in
      end_reads_it g c (substituted_block sigma more) s (block_on c more is) (subst (λ (l : List Operand). Contains l (operands.Register s)) (sym (end_substituted sigma more.end)) there)

  -- ---- nothing reads the root's register

  no_operand : (a : Operand) → substituted_operand sigma a ≡ operands.Register root → ⊥
  no_operand (operands.Register r) e =
      elim (is_same_register r root) [
        | inl same ↦ no_root (sym (instead_it root result r same) ∙ e)
        | inr other ↦ other (let is : operands.Register r ≡ operands.Register root = sym (instead_other root result r other) ∙ e in cc)
      ]
  no_operand (operands.Number x) e = absurd cc
  no_operand operands.Undef e = absurd cc
  no_operand operands.Poison e = absurd cc

  none_of : (operands' : List Operand) → Contains (map (substituted_operand sigma) operands') (operands.Register root) → ⊥
  none_of operands' has = let old = in_map (substituted_operand sigma) operands' (operands.Register root) has in no_operand old.0 old.2

  pub none_reads_root : (c k : ℕ) → ReadsRegister g c k root → ⊥
  none_reads_root c k h =
      elim (who g c k root h) [
        | inl i ↦
            let (more, is, same) = block_back c i.block i.is_block in
            let at : slice_get (map (substituted_inst sigma) more.insts) k ≡ Some i.inst = subst (λ (x : Block). slice_get x.insts k ≡ Some i.inst) (sym same) i.is_inst in
            let old = mapped (substituted_inst sigma) (slice_get more.insts k) i.inst (sym (slice_get-map (substituted_inst sigma) more.insts k) ∙ at) in
            none_of (operands_of old.0.op) (subst (λ (l : List Operand). Contains l (operands.Register root)) (operands_substituted sigma old.0.op) (subst (λ (x : Inst). Contains (operands_of x.op) (operands.Register root)) (sym old.2) i.has))
        | inr e ↦
            let (more, is, same) = block_back c e.block e.is_block in
            none_of (operands_at_end more.end) (subst (λ (l : List Operand). Contains l (operands.Register root)) (end_substituted sigma more.end) (subst (λ (x : Block). Contains (operands_at_end x.end) (operands.Register root)) (sym same) e.has))
      ]

  pub root_unneeded : ¬ IsNeeded g root
  root_unneeded need = by root need refl
    where
      by : (r : Register) → IsNeeded g r → r ≡ root → ⊥
      by r (by_end c h) is = none_reads_root c (end_of g c) (subst (ReadsRegister g c (end_of g c)) is h)
      by r (by_inst c k need h) is = none_reads_root c k (subst (ReadsRegister g c k) is h)

  -- ---- what was live would be so, if the root were

  module _ (others : List Register) where
    pub needed_with_root : (r : Register) → IsNeeded f r → IsNeededWith g (root ∷ others) r
    needed_with_root r need = by r need (is_same_register r root)
      where
        by_reader : (c k : ℕ) (r : Register) → ReadsRegister f c k r → IsNeededWith g (root ∷ others) (registers.Result c k) → ¬ (r ≡ root) → IsNeededWith g (root ∷ others) r
        by_reader c k r h rest other =
            elim (who f c k r h) [
              | inl i ↦ reads c k rest (inst_on c k r r (instead_other root result r other) i)
              | inr e ↦ ends c (end_on c k r r (instead_other root result r other) e)
            ]

        by_terminator : (c : ℕ) (r : Register) → ReadsRegister f c (end_of f c) r → ¬ (r ≡ root) → IsNeededWith g (root ∷ others) r
        by_terminator c r h other =
            elim (who f c (end_of f c) r h) [
              | inl i ↦ absurd (no_inst_at_end f c (end_of f c) r refl i)
              | inr e ↦ ends c (end_on c (end_of f c) r r (instead_other root result r other) e)
            ]

        by : (r : Register) → IsNeeded f r → (r ≡ root) ⊎ ¬ (r ≡ root) → IsNeededWith g (root ∷ others) r
        by r need (inl same) = is_one (subst (Contains (root ∷ others)) (sym same) (first_in root others))
        by r (by_end c h) (inr other) = by_terminator c r h other
        by r (by_inst c k need h) (inr other) = by_reader c k r h (by (registers.Result c k) need (is_same_register (registers.Result c k) root)) other

  -- the operand that replaced the root's register is live, where the root was
  module _ (s : Register) (stands : result ≡ operands.Register s) where
    result_or : (r : Register) → IsNeeded f r → (IsNeeded g r × ¬ (r ≡ root)) ⊎ IsNeeded g s
    result_or r (by_end c h) =
        elim (who f c (end_of f c) r h) [
          | inl i ↦ absurd (no_inst_at_end f c (end_of f c) r refl i)
          | inr e ↦ elim (is_same_register r root) [
            | inl same ↦ inr (by_end c (end_on c (end_of f c) r s (instead_it root result r same ∙ stands) e))
            | inr other ↦ inl (by_end c (end_on c (end_of f c) r r (instead_other root result r other) e), other)
          ]
        ]
    result_or r (by_inst c k need h) =
        elim (result_or (registers.Result c k) need) [
          | inr found ↦ inr found
          | inl rest ↦ elim (who f c k r h) [
            | inr e ↦ elim (is_same_register r root) [
              | inl same ↦ inr (by_end c (end_on c k r s (instead_it root result r same ∙ stands) e))
              | inr other ↦ inl (by_end c (end_on c k r r (instead_other root result r other) e), other)
            ]
            | inl i ↦ elim (is_same_register r root) [
              | inl same ↦ inr (by_inst c k rest.0 (inst_on c k r s (instead_it root result r same ∙ stands) i))
              | inr other ↦ inl (by_inst c k rest.0 (inst_on c k r r (instead_other root result r other) i), other)
            ]
          ]
        ]

    pub result_needed : HasInst g b n → IsNeeded f root → IsNeeded (with_inst_removed g b n) s
    result_needed has need =
        elim (result_or root need) [
          | inl rest ↦ absurd (rest.1 refl)
          | inr found ↦ needed_stays g (with_inst_removed g b n) b n (taken_out_is_silenced g b n has) root_unneeded s found
        ]
