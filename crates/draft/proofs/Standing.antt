-- In a draft between steps each result that is read is at a position of the function.
use Rattle.draft.proofs.Common.{◌≡◌, inl, inr, ℕ, suc, ◌<◌, ◌≤◌, Bool, List, [], ◌∷◌, ◌++◌, length, get_or, Option, None, Some, map, refl, sym, ap, subst, ◌∙◌, arith, Contains, option_to_list, slice_get, cases_Bool, get_or_past, slice_get_cases, slice_get_within, Block, Inst, Operand, Terminator, operands_of, operands_at_end, contained_at, contains_at, contains_first, Substitution, substituted_end, substituted_inst, substituted_operand, operands_at, block_of, blocks_of, function_of, insts_of, numbers_in, numbers_of, placed, standing_in, none, place_in, AreOrdered, IsOrdering, at_places, IsPlaceIn, arena_place, IsSettled, IsWhole, Draft, Place, operands_at_inst, operands_at_terminator, written_reads}
use Rattle.ir_core.specs.declared.operand.Operand.TheVariants as operands
use Rattle.ir_core.specs.declared.operand.Register.TheVariants as registers
use Rattle.needed.proofs.Counting.{contains_later}
use Rattle.draft.proofs.Rows.{Distinct, distinct_once, first_gone, first_stands, marked, once_distinct, standing_at, standing_length, stands_is}
use Rattle.draft.proofs.Substituted.{Agree, end_agrees, inst_agrees}

-- ---- the numbers that stand are there once too

standing_distinct : (stand : List Bool) (numbers : List ℕ) → Distinct numbers → Distinct (standing_in stand numbers)
standing_distinct stand [] distinct = tt
standing_distinct stand (n ∷ numbers) distinct = elim (cases_Bool (marked stand n)) [
  | inl marked_so ↦ subst Distinct (sym (first_stands stand n numbers marked_so)) (λ there. distinct.0 (stands_is stand numbers n there).0, standing_distinct stand numbers distinct.1)
  | inr unmarked ↦ subst Distinct (sym (first_gone stand n numbers unmarked)) (standing_distinct stand numbers distinct.1)
]

pub standing_ordering : (stand : List Bool) (numbers : List ℕ) (count : ℕ) → IsOrdering count numbers → IsOrdering count (standing_in stand numbers)
standing_ordering stand numbers count ordering = record {
  below = λ k n at.
      let there = (stands_is stand numbers n (contains_at (standing_in stand numbers) n k at)).0 in
      let (j, here) = contained_at numbers n there in
      ordering.below j n here;
  once = once_distinct (standing_in stand numbers) (standing_distinct stand numbers (distinct_once numbers ordering.once));
}

module _ (d : Draft) (whole : IsWhole d) where
  pub stand_ordering : (b : ℕ) → b < length d.orders.items → IsOrdering (length (get_or d.stand.items b [])) (get_or d.orders.items b [])
  stand_ordering b within =
      let ordered = whole.ordered in
      elim (slice_get_cases d.arena.blocks b).1 [
        | inl (block, inside, at, is) ↦
            let rows = whole.rows b block at in
            subst (λ (count : ℕ). IsOrdering count (get_or d.orders.items b [])) (sym rows.marked) rows.ordering
        | inr (past, absent) ↦ absurd (omega arith)
      ]

  pub numbers_ordered : AreOrdered d.arena.blocks (numbers_of d)
  numbers_ordered b block at =
      let within = slice_get_within d.arena.blocks b block at in
      let marks = whole.marked in
      subst (IsOrdering (length block.insts)) (sym (standing_at d.stand.items d.orders.items b (omega arith)))
      (standing_ordering (get_or d.stand.items b []) (get_or d.orders.items b []) (length block.insts) (whole.rows b block at).ordering)

-- ---- blocks on whose operands two substitutions agree

module _ (to to' : Substitution) where
  insts_agree : (insts : List Inst) (numbers : List ℕ) → ((n : ℕ) (inst : Inst) → Contains numbers n → slice_get insts n ≡ Some inst → Agree to to' (operands_of inst.op)) → insts_of to insts numbers ≡ insts_of to' insts numbers
  insts_agree insts [] agree = refl
  insts_agree insts (n ∷ numbers) agree =
      let first : map (substituted_inst to) (option_to_list (slice_get insts n)) ≡ map (substituted_inst to') (option_to_list (slice_get insts n)) = one (slice_get insts n) (λ inst at. agree n inst (contains_first n numbers) at) in
      ap (λ (l : List Inst). l ++ insts_of to insts numbers) first
      ∙ ap (λ (l : List Inst). map (substituted_inst to') (option_to_list (slice_get insts n)) ++ l) (insts_agree insts numbers (λ m inst there at. agree m inst (contains_later n numbers m there) at))
    where
      one : (o : Option Inst) → ((inst : Inst) → o ≡ Some inst → Agree to to' (operands_of inst.op)) → map (substituted_inst to) (option_to_list o) ≡ map (substituted_inst to') (option_to_list o)
      one None agree = refl
      one (Some inst) agree = ap (λ (i : Inst). i ∷ []) (inst_agrees to to' inst (agree inst refl))

  -- the two substitutions agree on the operands of these instructions and of the terminators
  pub record BlocksAgree (rows : List (List ℕ)) (blocks : List Block) : Type 0 where
    pub insts : (b n : ℕ) (block : Block) (inst : Inst) → slice_get blocks b ≡ Some block → Contains (get_or rows b []) n → slice_get block.insts n ≡ Some inst → Agree to to' (operands_of inst.op)
    pub ends : (b : ℕ) (block : Block) → slice_get blocks b ≡ Some block → Agree to to' (operands_at_end block.end)

  pub blocks_agree : (rows : List (List ℕ)) (blocks : List Block) → BlocksAgree rows blocks → blocks_of to rows blocks ≡ blocks_of to' rows blocks
  blocks_agree [] blocks agree = refl
  blocks_agree (row ∷ rows) [] agree = refl
  blocks_agree (row ∷ rows) (block ∷ blocks) agree =
      let insts : insts_of to block.insts row ≡ insts_of to' block.insts row = insts_agree block.insts row (λ n inst there at. agree.insts 0 n block inst refl there at) in
      let end : substituted_end to block.end ≡ substituted_end to' block.end = end_agrees to to' block.end (agree.ends 0 block refl) in
      let first : block_of to row block ≡ block_of to' row block =
      ap (λ (l : List Inst). let x : Block = record { name = block.name; insts = l; end = substituted_end to block.end } in x) insts
      ∙ ap (λ (t : Terminator). let x : Block = record { name = block.name; insts = insts_of to' block.insts row; end = t } in x) end in
      ap (λ (x : Block). x ∷ blocks_of to rows blocks) first
      ∙ ap (λ (l : List Block). block_of to' row block ∷ l) (blocks_agree rows blocks (record {
        insts = λ b n x inst at there here. agree.insts (suc b) n x inst at there here;
        ends = λ b x at. agree.ends (suc b) x at;
      }))

-- ---- the table of places of a settled draft

module _ (d : Draft) (settled : IsSettled d) (places : List (List ℕ)) (table : (b k n : ℕ) → slice_get (get_or (numbers_of d) b []) k ≡ Some n → get_or (get_or places b []) n 0 ≡ k) where
  stands_once : (b k n : ℕ) → slice_get (get_or (numbers_of d) b []) k ≡ Some n → place_in (get_or (numbers_of d) b []) n ≡ k
  stands_once b k n at = elim (slice_get_cases d.arena.blocks b).1 [
    | inl (block, inside, here, is) ↦ (numbers_ordered d settled.whole b block here).once k n at
    | inr (past, absent) ↦
        let ordered = settled.whole.ordered in
        let count : length (numbers_of d) ≡ length d.orders.items = standing_length d.stand.items d.orders.items in
        let empty : get_or (numbers_of d) b [] ≡ [] = get_or_past (numbers_of d) b [] (omega arith) in
        let nothing : slice_get {X = ℕ} [] k ≡ Some n = ap (λ (l : List ℕ). slice_get l k) (sym empty) ∙ at in
        cc
  ]

  read_agrees : (p : Place) (a : Operand) → IsPlaceIn d.arena p → Contains (operands_at d.arena p) a → substituted_operand (at_places places) a ≡ substituted_operand (placed (numbers_of d)) a
  read_agrees p (operands.Register (registers.Parameter q)) inside there = refl
  read_agrees p (operands.Register (registers.Result b n)) inside there =
      let stands : Contains (numbers_in d b) n = settled.read_stands b n p inside (written_reads d.arena p.block (arena_place d.arena p) (registers.Result b n) there) in
      let (k, at) = contained_at (numbers_in d b) n stands in
      ap (λ (m : ℕ). operands.Register (registers.Result b m)) (table b k n at ∙ sym (stands_once b k n at))
  read_agrees p (operands.Number n) inside there = refl
  read_agrees p operands.Undef inside there = refl
  read_agrees p operands.Poison inside there = refl

  pub placed_agree : BlocksAgree (at_places places) (placed (numbers_of d)) (numbers_of d) d.arena.blocks
  placed_agree = record {
    insts = λ b n block inst at there here a read.
        let p : Place = record { block = b; number = n } in
        let less = (settled.whole.rows b block at).few in
        let within = slice_get_within block.insts n inst here in
        read_agrees p a (block, at, inl within) (subst (λ (l : List Operand). Contains l a) (sym (operands_at_inst d.arena p block inst at here (omega arith))) read);
    ends = λ b block at a read.
        let p : Place = record { block = b; number = none } in
        read_agrees p a (block, at, inr refl) (subst (λ (l : List Operand). Contains l a) (sym (operands_at_terminator d.arena p block at refl)) read);
  }

  pub placed_blocks_are : blocks_of (at_places places) (numbers_of d) d.arena.blocks ≡ (function_of d).blocks
  placed_blocks_are = blocks_agree (at_places places) (placed (numbers_of d)) (numbers_of d) d.arena.blocks placed_agree

-- ---- as many as the arena has, and few

standing_shorter : (stand : List Bool) (numbers : List ℕ) → length (standing_in stand numbers) ≤ length numbers
standing_shorter stand [] = omega arith
standing_shorter stand (n ∷ numbers) =
    let rest = standing_shorter stand numbers in
    elim (cases_Bool (marked stand n)) [
      | inl stands ↦ let size = ap length (first_stands stand n numbers stands) in omega arith
      | inr went ↦ let size = ap length (first_gone stand n numbers went) in omega arith
    ]

pub numbers_few : (d : Draft) → IsWhole d → (b : ℕ) → length (get_or (numbers_of d) b []) ≤ none
numbers_few d whole b = elim (slice_get_cases d.arena.blocks b).1 [
  | inl (block, within, at, is) ↦
      let rows = whole.rows b block at in
      let few = rows.few in
      let count = rows.ordered in
      let marks = whole.marked in
      let row = ap length (standing_at d.stand.items d.orders.items b (omega arith)) in
      let shorter = standing_shorter (get_or d.stand.items b []) (get_or d.orders.items b []) in
      omega arith
  | inr (past, absent) ↦
      let ordered = whole.ordered in
      let count : length (numbers_of d) ≡ length d.orders.items = standing_length d.stand.items d.orders.items in
      let empty = ap length (get_or_past (numbers_of d) b [] (omega arith)) in
      omega arith
]
