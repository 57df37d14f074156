-- Which instructions were removed where a function was cleaned; none was inserted or changed.
use Rattle.changes.proofs.Common.{◌≡◌, inl, inr, ℕ, ◌+◌, Bool, true, false, cond, List, [], ◌∷◌, Option, None, Some, refl, sym, ap, subst, ◌∙◌, arith, map, slice_get, option_map, Contains, cases_Bool, same_Some, HasInst, IsBlock, IsInst, Block, Function, Inst, Op, Binary, Compare, Unary, Select, Convert, Freeze, Phi, Operand, Register, KeepsNeeded, KeptMarks, kept_before, moved_register, moved_operand, moved_op, moved_inst, kept_block, kept_function, IsNeeded, by_inst, ReadsRegister, operands_of, kept_at, IsKept, kept_back, AllKnown, read_has, inst_reads, written_reads, Substitution, substituted_operand, substituted_entries, substituted_op, AreAscending, register_then, Went, Came, IsUnchanged, IsChanged, kept_moves}
use Rattle.ir_core.specs.declared.operand.Operand.TheVariants as operands
use Rattle.ir_core.specs.declared.operand.Register.TheVariants as registers
use Rattle.needed.proofs.Counting.{block_at, block_back}
use Rattle.changes.proofs.Ascending.{none_listed, same_listed}
use Rattle.changes.proofs.Rewritten.{has_of, inst_of}

-- ---- the new names of registers, as a substitution

module _ (kept : KeptMarks) where
  abbrev to : Substitution
  to r = operands.Register (moved_register kept r)

  same_operand : (a : Operand) → moved_operand kept a ≡ substituted_operand to a
  same_operand (operands.Register r) = refl
  same_operand (operands.Number n) = refl
  same_operand operands.Undef = refl
  same_operand operands.Poison = refl

  same_entries : (entries : List (Operand × ℕ)) → map (λ (e : Operand × ℕ). (moved_operand kept e.0, e.1)) entries ≡ substituted_entries to entries
  same_entries [] = refl
  same_entries (e ∷ entries) = let head = same_operand e.0 in let rest = same_entries entries in cc

  same_op : (op : Op) → moved_op kept op ≡ substituted_op to op
  same_op (Binary op flags x y) = let p = same_operand x in let q = same_operand y in cc
  same_op (Compare pred samesign width x y) = let p = same_operand x in let q = same_operand y in cc
  same_op (Unary op truth x) = let p = same_operand x in cc
  same_op (Select c x y) = let o = same_operand c in let p = same_operand x in let q = same_operand y in cc
  same_op (Convert cast flags from x) = let p = same_operand x in cc
  same_op (Freeze x) = let p = same_operand x in cc
  same_op (Phi entries) = ap (λ (es : List (Operand × ℕ)). Phi es) (same_entries entries)

module _ (f : Function) (known : AllKnown f) (kept : KeptMarks) (keeps : KeepsNeeded f kept) where
  abbrev new : Function
  new = kept_function kept f

  moves_kept : (b k : ℕ) → kept b k ≡ true → kept_moves kept b k ≡ Some (kept_before kept b k)
  moves_kept b k keep = ap (λ (c : Bool). cond c (Some (kept_before kept b k)) None) keep

  moves_gone : (b k : ℕ) → kept b k ≡ false → kept_moves kept b k ≡ None
  moves_gone b k gone = ap (λ (c : Bool). cond c (Some (kept_before kept b k)) None) gone

  pub went : (places : List (ℕ × ℕ)) → AreAscending (λ b k. HasInst f b k × ¬ IsNeeded f (registers.Result b k)) places → AreAscending (Went f new (kept_moves kept)) places
  went places are = same_listed (λ b k. HasInst f b k × ¬ IsNeeded f (registers.Result b k)) (Went f new (kept_moves kept)) places
      (λ b k x. let (has, unneeded) = x in elim (cases_Bool (kept b k)) [
        | inl keep ↦ absurd (unneeded ((keeps b k has).0 keep))
        | inr gone ↦ (has, moves_gone b k gone)
      ])
      (λ b k x. let (has, none) = x in elim (cases_Bool (kept b k)) [
        | inl keep ↦ let stays = moves_kept b k keep in absurd cc
        | inr gone ↦ (has, λ need. let keep : kept b k ≡ true = (keeps b k has).1 need in cc)
      ])
      are

  inst_on : (b k : ℕ) (inst : Inst) → IsInst f b k inst → kept b k ≡ true → IsInst new b (kept_before kept b k) (moved_inst kept inst)
  inst_on b k inst at keep =
      let same : 0 + k ≡ k = omega arith in
      record {
        block = kept_block kept b at.block;
        is_block = block_at kept f b at.block at.is_block;
        is_inst = kept_at kept b 0 at.block.insts k (kept_before kept b k) inst at.is_inst (ap (kept b) same ∙ keep) (omega (arith, ap (kept_before kept b) same));
      }

  -- an instruction of the cleaned function is a kept one
  record IsLeft (b l : ℕ) : Type 0 where
    place : ℕ
    inst : Inst
    at : IsInst f b place inst
    keep : kept b place ≡ true
    count : kept_before kept b place ≡ l

  left : (b l : ℕ) (now : Inst) → IsInst new b l now → IsLeft b l
  left b l now at =
      let was : (block : Block) × IsBlock f b block × (kept_block kept b block ≡ at.block) = block_back kept f b at.block at.is_block in
      let h : IsKept kept b 0 was.0.insts l now = kept_back kept b 0 was.0.insts l now (subst (λ (x : Block). slice_get x.insts l ≡ Some now) (sym was.2) at.is_inst) in
      let same : 0 + h.place ≡ h.place = omega arith in
      let count = h.count in
      record {
        place = h.place;
        inst = h.inst;
        at = record { block = was.0; is_block = was.1; is_inst = h.at };
        keep = ap (kept b) (sym same) ∙ h.keep;
        count = omega (arith, ap (kept_before kept b) same);
      }

  pub came : AreAscending (Came f new (kept_moves kept)) []
  came = none_listed (Came f new (kept_moves kept)) (λ b l x.
      let (has, none) = x in
      let now = inst_of new b l has in
      let h : IsLeft b l = left b l now.0 now.1 in
      none (h.place, (has_of f b h.place h.inst h.at, moves_kept b h.place h.keep ∙ ap (λ (n : ℕ). Some n) h.count)))

  -- what is kept reads only results of what is kept
  called : (b k : ℕ) (inst : Inst) → IsInst f b k inst → kept b k ≡ true → (r : Register) → Contains (operands_of inst.op) (operands.Register r) → option_map operands.Register (register_then (kept_moves kept) r) ≡ Some (to kept r)
  called b k inst at keep (registers.Parameter q) there = refl
  called b k inst at keep (registers.Result d j) there =
      let reads : ReadsRegister f b k (registers.Result d j) =
      written_reads f b k (registers.Result d j) (subst (λ (l : List Operand). Contains l (operands.Register (registers.Result d j))) (sym (inst_reads f b k at.block inst at.is_block at.is_inst)) there) in
      let need : IsNeeded f (registers.Result b k) = (keeps b k (has_of f b k inst at)).0 keep in
      let too : kept d j ≡ true = (keeps d j (read_has f known b k d j reads)).1 (by_inst b k need reads) in
      ap (λ (o : Option ℕ). option_map operands.Register (option_map (registers.Result d) o)) (moves_kept d j too)

  unchanged : (b k : ℕ) (inst : Inst) → IsInst f b k inst → kept b k ≡ true → IsUnchanged f new (kept_moves kept) b k (kept_before kept b k)
  unchanged b k inst at keep = (inst, moved_inst kept inst, at, inst_on b k inst at keep, record { to = to kept; called = called b k inst at keep; is = same_op kept inst.op })

  pub changed : AreAscending (IsChanged f new (kept_moves kept) (λ b k. ⊥)) []
  changed = none_listed (IsChanged f new (kept_moves kept) (λ b k. ⊥)) (λ b l x. let (k, stays, how) = x in elim how [
    | inl none ↦ none
    | inr changes ↦ elim (cases_Bool (kept b k)) [
      | inl keep ↦
          let place : kept_before kept b k ≡ l = same_Some (kept_before kept b k) l (sym (moves_kept b k keep) ∙ stays.1) in
          let old = inst_of f b k stays.0 in
          changes (subst (λ (n : ℕ). IsUnchanged f new (kept_moves kept) b k n) place (unchanged b k old.0 old.1 keep))
      | inr gone ↦ let goes = moves_gone b k gone in let stands = stays.1 in absurd cc
    ]
  ])
