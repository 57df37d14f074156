-- The invariant of drafts, and the order and flags of a block where its instructions change.
use Rattle.draft.proofs.Common.{◌≡◌, inl, inr, ℕ, zero, suc, ◌+◌, ◌<◌, ◌≤◌, ◌^◌, Bool, true, false, List, [], ◌∷◌, ◌++◌, length, get_or, slice_set, Some, All, refl, sym, ap, subst, ◌∙◌, arith, Contains, slice_get, cases_eq, cases_lt, get_or_append_left, get_or_past, get_or_push, length_push, slice_get-get_or, slice_get_cases, slice_get_within, HasInst, IsBlock, Block, Inst, Freeze, gone, inst_changed, inst_put, Stands, numbers_in, numbers_of, none, AreRowsOf, IsWhole, Draft, changed_cases, changed_length, AreFew, AreKnown, known_reads, contained_at, standing_in, put_before, IsOrdering}
use Rattle.std.proofs.lemmas.List.{length-set}
use Rattle.ir_core.specs.declared.operand.Operand.TheVariants as operands
use Rattle.draft.proofs.Rows.{is_standing, marked, marked_other, put_keeps, put_ordering, put_there, standing_at, standing_length, stands_is}

nothing_stands : (n : ℕ) → Contains {X = ℕ} [] n → ⊥
nothing_stands n (k, within, is) = absurd (omega arith)

slice_get_left : {A : Type 0} (xs ys : List A) (n : ℕ) → n < length xs → slice_get (xs ++ ys) n ≡ slice_get xs n
slice_get_left [] ys n within = absurd (omega arith)
slice_get_left (x ∷ xs) ys zero within = refl
slice_get_left (x ∷ xs) ys (suc n) within = slice_get_left xs ys n (omega arith)

module _ (d : Draft) (whole : IsWhole d) where
  pub few_insts : AreFew d.arena
  few_insts b block at = (whole.rows b block at).few

  -- the instructions of each block are fewer than 2 ^ 32
  pub counted_insts : All (λ (b : Block). length b.insts < 2 ^ 32) d.arena.blocks
  counted_insts k e within =
      let at : IsBlock d.arena k (get_or d.arena.blocks k e) = slice_get-get_or d.arena.blocks k e within in
      let less = few_insts k (get_or d.arena.blocks k e) at in
      omega arith

  pub all_known : AreKnown d.arena
  all_known = known_reads d.arena whole.known

  module _ (b : ℕ) (block : Block) (at : IsBlock d.arena b block) where
    pub block_within : b < length d.arena.blocks
    block_within = slice_get_within d.arena.blocks b block at

    -- the numbers that stand in a block are those of its order that are marked
    pub numbers_are : numbers_in d b ≡ standing_in (get_or d.stand.items b []) (get_or d.orders.items b [])
    numbers_are =
        let within = block_within in
        let rows = whole.marked in
        standing_at d.stand.items d.orders.items b (omega arith)

    pub stands_marked : (n : ℕ) → Stands d b n → Contains (get_or d.orders.items b []) n × (marked (get_or d.stand.items b []) n ≡ true)
    stands_marked n stands = stands_is (get_or d.stand.items b []) (get_or d.orders.items b []) n (subst (λ (l : List ℕ). Contains l n) numbers_are stands)

    pub marked_stands : (n : ℕ) → n < length block.insts → marked (get_or d.stand.items b []) n ≡ true → Stands d b n
    marked_stands n within marked_so = subst (λ (l : List ℕ). Contains l n) (sym numbers_are)
        (is_standing (get_or d.stand.items b []) (get_or d.orders.items b []) n ((whole.rows b block at).all n within) marked_so)

  -- what stands is an instruction of the arena
  pub stands_there : (b n : ℕ) → Stands d b n → HasInst d.arena b n
  stands_there b n stands = elim (slice_get_cases d.arena.blocks b).1 [
    | inl (block, within, at, is) ↦
        let (there, marked_so) = stands_marked b block at n stands in
        let (k, here) = contained_at (get_or d.orders.items b []) n there in
        (block, at, (whole.rows b block at).ordering.below k n here)
    | inr (past, absent) ↦
        let count : length (numbers_of d) ≡ length d.orders.items = standing_length d.stand.items d.orders.items in
        let ordered = whole.ordered in
        let empty : numbers_in d b ≡ [] = get_or_past (numbers_of d) b [] (omega arith) in
        absurd (nothing_stands n (subst (λ (l : List ℕ). Contains l n) empty stands))
  ]

-- ---- rows

-- the order and flags fit a block with as many instructions, where those that don't stand read no register
pub rows_kept : (block block' : Block) (order : List ℕ) (stand : List Bool) → AreRowsOf block order stand → length block'.insts ≡ length block.insts
    → ((n : ℕ) (inst : Inst) → slice_get block'.insts n ≡ Some inst → marked stand n ≡ false → inst.op ≡ Freeze operands.Poison)
    → AreRowsOf block' order stand
rows_kept block block' order stand rows same gone_reads = record {
  few = let few = rows.few in omega arith;
  ordered = rows.ordered ∙ sym same;
  marked = rows.marked ∙ sym same;
  all = λ n within. rows.all n (omega arith);
  ordering = subst (λ (count : ℕ). IsOrdering count order) (sym same) rows.ordering;
  gone = gone_reads;
}

-- an instruction is changed, where one that reads no register still reads none
pub rows_swapped : (block : Block) (order : List ℕ) (stand : List Bool) (n : ℕ) (change : Inst → Inst) → AreRowsOf block order stand
    → ((inst : Inst) → inst.op ≡ Freeze operands.Poison → (change inst).op ≡ Freeze operands.Poison)
    → AreRowsOf (inst_changed n change block) order stand
rows_swapped block order stand n change rows none_came =
    rows_kept block (inst_changed n change block) order stand rows (changed_length n change block.insts)
    (λ m inst there unmarked. elim (changed_cases n change block.insts m inst there) [
      | inl (same, (was, at, is)) ↦ subst (λ (i : Inst). i.op ≡ Freeze operands.Poison) (sym is) (none_came was (rows.gone m was (ap (slice_get block.insts) same ∙ at) unmarked))
      | inr (apart, old) ↦ rows.gone m inst old unmarked
    ])

-- an instruction is removed
pub rows_less : (block : Block) (order : List ℕ) (stand : List Bool) (n : ℕ) → AreRowsOf block order stand
    → AreRowsOf (inst_changed n gone block) order (slice_set stand n false)
rows_less block order stand n rows = record {
  few = let few = rows.few in let same = changed_length n gone block.insts in omega arith;
  ordered = rows.ordered ∙ sym (changed_length n gone block.insts);
  marked = length-set stand n false ∙ rows.marked ∙ sym (changed_length n gone block.insts);
  all = λ m within. rows.all m (let same = changed_length n gone block.insts in omega arith);
  ordering = subst (λ (count : ℕ). IsOrdering count order) (sym (changed_length n gone block.insts)) rows.ordering;
  gone = λ m inst there unmarked. elim (changed_cases n gone block.insts m inst there) [
    | inl (same, (was, at, is)) ↦ ap (λ (i : Inst). i.op) is
    | inr (apart, old) ↦ rows.gone m inst old (sym (marked_other stand n m apart) ∙ unmarked)
  ];
}

-- an instruction is inserted before another
pub rows_more : (block : Block) (order : List ℕ) (stand : List Bool) (at : ℕ) (inst : Inst) → AreRowsOf block order stand → Contains order at → length block.insts + 1 ≤ none
    → AreRowsOf (inst_put inst block) (put_before order at (length block.insts)) (stand ++ true ∷ [])
rows_more block order stand at inst rows there room =
    let count = length_push block.insts inst in
    let put = put_there order at (length block.insts) there in
    let ordered = rows.ordered in
    let marks = rows.marked in
    let marked_count = length_push stand true in
    let put_count = put.1 in
    record {
      few = omega arith;
      ordered = omega arith;
      marked = omega arith;
      all = λ n within. elim (cases_eq n (length block.insts)) [
        | inl new ↦ subst (λ (k : ℕ). Contains (put_before order at (length block.insts)) k) (sym new) put.0
        | inr old ↦ put_keeps order at (length block.insts) n (rows.all n (omega arith))
      ];
      ordering = subst (λ (n : ℕ). IsOrdering n (put_before order at (length block.insts))) (let e : suc (length block.insts) ≡ length (block.insts ++ inst ∷ []) = omega arith in e) (put_ordering order at (length block.insts) rows.ordering);
      gone = λ n i here unmarked. elim (cases_lt n (length block.insts)) [
        | inl within ↦
            let less : n < length stand = omega arith in
            rows.gone n i (sym (slice_get_left block.insts (inst ∷ []) n within) ∙ here) (sym (get_or_append_left stand (true ∷ []) false n less) ∙ unmarked)
        | inr past ↦
            let inside = slice_get_within (block.insts ++ inst ∷ []) n i here in
            let last : marked (stand ++ true ∷ []) n ≡ true = get_or_push stand true false n (omega arith) in
            cc
      ];
    }
