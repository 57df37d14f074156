-- A settled draft is given by its arena and the numbers that stand, and tells which registers have exactly one use.
use Rattle.draft_steps.proofs.Common.{◌≡◌, ◌⊎◌, inl, inr, ◌<◌, ℕ, zero, suc, List, [], ◌∷◌, length, get_or, Some, refl, sym, ap, subst, ◌∙◌, arith, Contains, slice_get, cases_Bool, cases_eq, same_Some, slice_get_within, IsInst, Read, IsRead, read, end_of, reads_of, Function, Inst, Op, Freeze, Register, count_of, IsUsedOnce, IsUseCount, count_of_one, use_counts_are_one, reads_at_inst, AreArranged, row_of, numbers_of, none, IsSettled, Draft, Place, arena_place_end, arena_place_inst, read_in_block, read_in_inst, marked, standing_length, numbers_ordered, marked_stands, stands_there}
use Rattle.ir_core.specs.declared.operand.Operand.TheVariants as operands
use Rattle.ir_core.specs.declared.operand.Register.TheVariants as registers
use Rattle.needed.proofs.Counting.{contains_at}
use Rattle.needed.proofs.Reading.{end_of-is}

-- what is left of a removed instruction reads no register
gone_reads : (f : Function) (b n w i : ℕ) (op : Op) (r : Read) (register : Register) → op ≡ Freeze operands.Poison → slice_get (reads_of f b n w op) i ≡ Some r
    → r.operand ≡ operands.Register register → ⊥
gone_reads f b n w i op r register gone at reads = by i (subst (λ (o : Op). slice_get (reads_of f b n w o) i ≡ Some r) gone at)
  where
    by : (k : ℕ) → slice_get (read b n w operands.Poison ∷ []) k ≡ Some r → ⊥
    by zero here =
        let same : read b n w operands.Poison ≡ r = same_Some (read b n w operands.Poison) r here in
        let is : operands.Poison ≡ operands.Register register = ap (λ (x : Read). x.operand) same ∙ reads in
        cc
    by (suc k) here = cc

module _ (d : Draft) (settled : IsSettled d) where
  abbrev rows : List (List ℕ)
  rows = numbers_of d

  readers : (b n i : ℕ) (inst : Inst) (r : Read) (register : Register) → IsInst d.arena b n inst → IsRead d.arena b n i r → r.operand ≡ operands.Register register → Contains (row_of rows b) n
  readers b n i inst r register is is_read reads =
      let within : n < length is.block.insts = slice_get_within is.block.insts n inst is.is_inst in
      elim (cases_Bool (marked (get_or d.stand.items b []) n)) [
        | inl on ↦ marked_stands d settled.whole b is.block is.is_block n within on
        | inr off ↦
            let gone = (settled.whole.rows b is.block is.is_block).gone n inst is.is_inst off in
            absurd (gone_reads d.arena b n inst.width i inst.op r register gone (ap (λ (l : List Read). slice_get l i) (sym (reads_at_inst d.arena b n inst is)) ∙ is_read) reads)
      ]

  what_is_read : (b k i c n : ℕ) (r : Read) → IsRead d.arena b k i r → r.operand ≡ operands.Register (registers.Result c n) → Contains (row_of rows c) n
  what_is_read b k i c n r is_read reads =
      let (block, at) = read_in_block d.arena b k i r is_read in
      elim (read_in_inst d.arena b k i r block at is_read) [
        | inl (inst, here) ↦
            let within : k < length block.insts = slice_get_within block.insts k inst here in
            let few = (settled.whole.rows b block at).few in
            let less : k < none = omega (arith, within, few) in
            let place : Place = record { block = b; number = k } in
            settled.read_stands c n place (block, at, inl within)
            (record { operand = i; read = r; is_read = subst (λ (q : ℕ). IsRead d.arena b q i r) (sym (arena_place_inst d.arena place less)) is_read; reads = reads })
        | inr end ↦
            let place : Place = record { block = b; number = none } in
            let last : end_of d.arena b ≡ k = end_of-is d.arena b block at ∙ sym end in
            settled.read_stands c n place (block, at, inr refl)
            (record { operand = i; read = r; is_read = subst (λ (q : ℕ). IsRead d.arena b q i r) (sym (arena_place_end d.arena place refl ∙ last)) is_read; reads = reads })
      ]

  pub is_arranged : AreArranged d.arena rows
  is_arranged = record {
    as_many = standing_length d.stand.items d.orders.items ∙ settled.whole.ordered;
    there = stands_there d settled.whole;
    once = λ b k n at.
        let (block, is_block, within) = stands_there d settled.whole b n (contains_at (row_of rows b) n k at) in
        (numbers_ordered d settled.whole b block is_block).once k n at;
    readers_stand = readers;
    read_stands = what_is_read;
  }

  pub once_or_not : (r : Register) → IsUsedOnce d.arena r ⊎ ¬ IsUsedOnce d.arena r
  once_or_not r =
      let exact : IsUseCount d.arena r (count_of d.facts.uses r) = settled.whole.facts.uses.exact r in
      elim (cases_eq (count_of d.facts.uses r) 1) [
        | inl one ↦ inl ((count_of_one d.arena r).0 (subst (IsUseCount d.arena r) one exact))
        | inr other ↦ inr (λ once. other (use_counts_are_one d.arena r (count_of d.facts.uses r) 1 exact ((count_of_one d.arena r).1 once)))
      ]
