-- Instructions are inserted into a draft before one of it, one after another.
use Rattle.draft_steps.proofs.Common.{◌≡◌, inl, inr, ℕ, zero, suc, ◌+◌, ◌<◌, ◌≤◌, List, [], ◌∷◌, ◌++◌, length, map, Some, All, refl, sym, ap, subst, ◌∙◌, arith, append_assoc, Contains, slice_get, slice_index_or, option_map, range_with_len, cases_eq, All-weaker, IsBlock, IsInst, IsKnown, end_of, Block, Function, Inst, Operand, Register, get_left, get_right, changed_at, inst_put, put_in, Stands, numbers_of, orders_of, KeepsOrders, none, put_before, MayPut, MayRead, all_before, rows_with, with_put, IsWhole, Draft, Place, HasAll, has_known, known_kept, keeps-itself, keeps-twice, same_place, put_keeps, stands_there}
use Rattle.std.proofs.lemmas.List.{length-append}
use Rattle.ir_core.specs.declared.operand.Register.TheVariants as registers
use Rattle.needed.specs.Operands.{operands_of}
use Rattle.draft_steps.proofs.OneChange.{changed_here, changed_other}
use Rattle.draft_steps.proofs.Room.{put_longer}
use Rattle.draft_steps.proofs.WhoReads.{end_of-is}

-- ---- one item of a list changed twice

changed_both : {A : Type 0} (k : ℕ) (first then both : A → A) (xs : List A) → ((x : A) → then (first x) ≡ both x) → changed_at k then (changed_at k first xs) ≡ changed_at k both xs
changed_both k first then both [] same = refl
changed_both {A = A} zero first then both (x ∷ xs) same = ap (λ (y : A). y ∷ xs) (same x)
changed_both {A = A} (suc k) first then both (x ∷ xs) same = ap (λ (l : List A). x ∷ l) (changed_both k first then both xs same)

changed_none : {A : Type 0} (k : ℕ) (change : A → A) (xs : List A) → ((x : A) → change x ≡ x) → changed_at k change xs ≡ xs
changed_none k change [] same = refl
changed_none {A = A} zero change (x ∷ xs) same = ap (λ (y : A). y ∷ xs) (same x)
changed_none {A = A} (suc k) change (x ∷ xs) same = ap (λ (l : List A). x ∷ l) (changed_none k change xs same)

pub append_none : {A : Type 0} (xs : List A) → xs ++ [] ≡ xs
append_none [] = refl
append_none {A = A} (x ∷ xs) = ap (λ (l : List A). x ∷ l) (append_none xs)

-- ---- the numbers of a row

before_more : (row : List ℕ) (at : ℕ) (numbers : List ℕ) (n : ℕ) → put_before (all_before row at numbers) at n ≡ all_before row at (numbers ++ n ∷ [])
before_more row at [] n = refl
before_more row at (m ∷ numbers) n = before_more (put_before row at m) at numbers n

before_keeps : (row : List ℕ) (at : ℕ) (numbers : List ℕ) → Contains row at → Contains (all_before row at numbers) at
before_keeps row at [] has = has
before_keeps row at (m ∷ numbers) has = before_keeps (put_before row at m) at numbers (put_keeps row at m at has)

changed_has : (rows : List (List ℕ)) (b at : ℕ) (change : List ℕ → List ℕ) → ((row : List ℕ) → Contains row at → Contains (change row) at)
    → Contains (slice_index_or rows b []) at → Contains (slice_index_or (changed_at b change rows) b []) at
changed_has [] b at change keeps has = has
changed_has (row ∷ rows) zero at change keeps has = keeps row has
changed_has (row ∷ rows) (suc b) at change keeps has = changed_has rows b at change keeps has

range_longer : (a : ℕ) (insts : List Inst) (inst : Inst) → range_with_len a (length (insts ++ inst ∷ [])) ≡ range_with_len a (length insts) ++ (a + length insts) ∷ []
range_longer a [] inst = let here : a ≡ a + 0 = omega arith in ap (λ (n : ℕ). n ∷ []) here
range_longer a (x ∷ insts) inst =
    let next : a + 1 + length insts ≡ a + suc (length insts) = omega arith in
    ap (λ (l : List ℕ). a ∷ l) (range_longer (a + 1) insts inst ∙ ap (λ (n : ℕ). range_with_len (a + 1) (length insts) ++ n ∷ []) next)

map_append : {A B : Type 0} (h : A → B) (xs ys : List A) → map h (xs ++ ys) ≡ map h xs ++ map h ys
map_append h [] ys = refl
map_append {B = B} h (x ∷ xs) ys = ap (λ (l : List B). h x ∷ l) (map_append h xs ys)

-- ---- the arena

module _ (f : Function) (b : ℕ) where
  abbrev longer : List Inst → Block → Block
  longer put block = record { name = block.name; insts = block.insts ++ put; end = block.end }

  with_blocks : List Block → Function
  with_blocks blocks = record { name = f.name; before = f.before; width = f.width; parameters = f.parameters; after = f.after; blocks = blocks }

  pub with_none : with_put f b [] ≡ f
  unfolding with_blocks
  with_none = ap with_blocks (changed_none b (longer []) f.blocks (λ x. ap (λ (l : List Inst). let y : Block = record { name = x.name; insts = l; end = x.end } in y) (append_none x.insts)))

  pub with_one_more : (put : List Inst) (inst : Inst) → put_in (with_put f b put) b inst ≡ with_put f b (put ++ inst ∷ [])
  unfolding with_blocks
  with_one_more put inst = ap with_blocks (changed_both b (longer put) (inst_put inst) (longer (put ++ inst ∷ [])) f.blocks
      (λ x. ap (λ (l : List Inst). let y : Block = record { name = x.name; insts = l; end = x.end } in y) (append_assoc x.insts put (inst ∷ []))))

  pub with_has : (put : List Inst) → HasAll f (with_put f b put)
  with_has put = record {
    parameters = refl;
    insts = λ d j (x, is, within). elim (cases_eq d b) [
      | inl same ↦
          let more = length-append x.insts put in (
            longer put x,
            ap (slice_get (with_put f b put).blocks) same ∙ (changed_here b (longer put) f.blocks ∙ ap (option_map (longer put)) (ap (slice_get f.blocks) (sym same) ∙ is)),
            omega arith,
          )
      | inr apart ↦ (x, changed_other b (longer put) f.blocks d apart ∙ is, within)
    ];
  }

  -- an instruction of the arena is one of the arena with inserted instructions
  pub with_inst : (put : List Inst) (c k : ℕ) (inst : Inst) → IsInst f c k inst → IsInst (with_put f b put) c k inst
  with_inst put c k inst at = elim (cases_eq c b) [
    | inl same ↦ record {
      block = longer put at.block;
      is_block = ap (slice_get (with_put f b put).blocks) same ∙ (changed_here b (longer put) f.blocks ∙ ap (option_map (longer put)) (ap (slice_get f.blocks) (sym same) ∙ at.is_block));
      is_inst = get_left at.block.insts put k inst at.is_inst;
    }
    | inr apart ↦ record { block = at.block; is_block = changed_other b (longer put) f.blocks c apart ∙ at.is_block; is_inst = at.is_inst }
  ]

  module _ (block : Block) (is_block : IsBlock f b block) (put : List Inst) where
    pub block_with : IsBlock (with_put f b put) b (longer put block)
    block_with = changed_here b (longer put) f.blocks ∙ ap (option_map (longer put)) is_block

    pub end_with : end_of (with_put f b put) b ≡ end_of f b + length put
    end_with = end_of-is (with_put f b put) b (longer put block) block_with ∙ (length-append block.insts put ∙ ap (λ n. n + length put) (sym (end_of-is f b block is_block)))

    pub with_known : (a : Operand) → MayRead f b (length put) a → IsKnown (with_put f b put) a
    with_known a may = elim may [
      | inl known ↦ known_kept f (with_put f b put) (with_has put) a known
      | inr (i, lt, is) ↦
          let size = length-append block.insts put in
          let end = end_of-is f b block is_block in
          let within : end_of f b + i < length (block.insts ++ put) = omega arith in
          subst (IsKnown (with_put f b put)) (sym is) (has_known (with_put f b put) b (end_of f b + i) (longer put block, block_with, within))
    ]

-- ---- the draft

-- these first ones of the instructions were inserted, and their places collected
pub record ArePut (old new : Draft) (at : Place) (done : List Inst) (given : List Place) : Type 0 where
  pub whole : IsWhole new
  pub arena : new.arena ≡ with_put old.arena at.block done
  pub numbers : numbers_of new ≡ rows_with (numbers_of old) at.block at.number (range_with_len (end_of old.arena at.block) (length done))
  pub fell : new.dead_candidates.items ≡ old.dead_candidates.items ++ map (λ number. registers.Result at.block number) (range_with_len (end_of old.arena at.block) (length done))
  pub orders : KeepsOrders (orders_of old) (orders_of new)
  pub told : given ≡ map (λ number. record { block = at.block; number = number }) (range_with_len (end_of old.arena at.block) (length done))

pub none_put : (old : Draft) (at : Place) → IsWhole old → ArePut old old at [] []
none_put old at whole = record {
  whole = whole;
  arena = sym (with_none old.arena at.block);
  numbers = sym (changed_none at.block (λ row. row) (numbers_of old) (λ row. refl));
  fell = sym (append_none old.dead_candidates.items);
  orders = keeps-itself (orders_of old);
  told = refl;
}

module _ (old mid : Draft) (at : Place) (done : List Inst) (given : List Place) (whole : IsWhole old) (stands : Stands old at.block at.number) (put : ArePut old mid at done given) where
  -- the instruction before which they are inserted still stands
  pub still_stands : Stands mid at.block at.number
  still_stands =
      let numbers : List ℕ = range_with_len (end_of old.arena at.block) (length done) in
      subst (λ (rows : List (List ℕ)). Contains (slice_index_or rows at.block []) at.number) (sym put.numbers)
      (changed_has (numbers_of old) at.block at.number (λ row. all_before row at.number numbers) (λ row has. before_keeps row at.number numbers has) stands)

  module _ (insts rest : List Inst) (inst : Inst) (all : done ++ inst ∷ rest ≡ insts) where
    pub next_room : ((block : Block) → IsBlock old.arena at.block block → length block.insts + length insts ≤ none) → (block : Block) → IsBlock mid.arena at.block block → length block.insts + 1 ≤ none
    next_room room x is =
        let (block, was, low) = put_longer old.arena at.block done at.block x (subst (λ (f : Function). IsBlock f at.block x) put.arena is) in
        let size : length done + length (inst ∷ rest) ≡ length insts = sym (length-append done (inst ∷ rest)) ∙ ap length all in
        let enough = room block was in
        omega arith

    next_is : slice_get insts (length done) ≡ Some inst
    next_is = subst (λ (l : List Inst). slice_get l (length done) ≡ Some inst) all (get_right done (inst ∷ rest) 0 (length done) inst refl (omega arith))

    pub next_known : MayPut old.arena at.block insts → All (IsKnown mid.arena) (operands_of inst.op)
    next_known readable =
        let (block, is_block, within) = stands_there old whole at.block at.number stands in
        subst (λ (f : Function). All (IsKnown f) (operands_of inst.op)) (sym put.arena)
        (All-weaker (MayRead old.arena at.block (length done)) (IsKnown (with_put old.arena at.block done)) (with_known old.arena at.block block is_block done) (operands_of inst.op) (readable (length done) inst next_is))

  -- one more is inserted
  pub put_more : (new : Draft) (inst : Inst) (place : Place) → IsWhole new → new.arena ≡ put_in mid.arena at.block inst
      → (place.block ≡ at.block) × (place.number ≡ end_of mid.arena at.block)
      → numbers_of new ≡ changed_at at.block (λ row. put_before row at.number (end_of mid.arena at.block)) (numbers_of mid)
      → KeepsOrders (orders_of mid) (orders_of new)
      → new.dead_candidates.items ≡ mid.dead_candidates.items ++ registers.Result at.block (end_of mid.arena at.block) ∷ []
      → ArePut old new at (done ++ inst ∷ []) (given ++ place ∷ [])
  put_more new inst place is_whole arena (block_is, number_is) numbers orders fell =
      let (block, is_block, within) = stands_there old whole at.block at.number stands in
      let end : end_of mid.arena at.block ≡ end_of old.arena at.block + length done = ap (λ (f : Function). end_of f at.block) put.arena ∙ end_with old.arena at.block block is_block done in
      let range = range_longer (end_of old.arena at.block) done inst in
      record {
        whole = is_whole;
        arena = arena ∙ (ap (λ (f : Function). put_in f at.block inst) put.arena ∙ with_one_more old.arena at.block done inst);
        numbers =
            numbers ∙ (ap (λ (n : ℕ). changed_at at.block (λ row. put_before row at.number n) (numbers_of mid)) end
            ∙ (ap (changed_at at.block (λ row. put_before row at.number (end_of old.arena at.block + length done))) put.numbers
            ∙ (changed_both at.block (λ row. all_before row at.number (range_with_len (end_of old.arena at.block) (length done))) (λ row. put_before row at.number (end_of old.arena at.block + length done))
            (λ row. all_before row at.number (range_with_len (end_of old.arena at.block) (length done) ++ (end_of old.arena at.block + length done) ∷ [])) (numbers_of old)
            (λ row. before_more row at.number (range_with_len (end_of old.arena at.block) (length done)) (end_of old.arena at.block + length done))
            ∙ ap (rows_with (numbers_of old) at.block at.number) (sym range))));
        fell =
            fell ∙ (ap (λ (n : ℕ). mid.dead_candidates.items ++ registers.Result at.block n ∷ []) end
            ∙ (ap (λ (l : List Register). l ++ registers.Result at.block (end_of old.arena at.block + length done) ∷ []) put.fell
            ∙ (append_assoc old.dead_candidates.items (map (λ number. registers.Result at.block number) (range_with_len (end_of old.arena at.block) (length done))) (registers.Result at.block (end_of old.arena at.block + length done) ∷ [])
            ∙ ap (λ (l : List Register). old.dead_candidates.items ++ l)
            (sym (map_append (λ number. registers.Result at.block number) (range_with_len (end_of old.arena at.block) (length done)) ((end_of old.arena at.block + length done) ∷ []))
            ∙ ap (map (λ number. registers.Result at.block number)) (sym range)))));
        orders = keeps-twice (orders_of old) (orders_of mid) (orders_of new) put.orders orders;
        told =
            ap (λ (p : Place). given ++ p ∷ []) (same_place place (record { block = at.block; number = end_of old.arena at.block + length done }) block_is (number_is ∙ end))
            ∙ (ap (λ (l : List Place). l ++ record { block = at.block; number = end_of old.arena at.block + length done } ∷ []) put.told
            ∙ (sym (map_append (λ number. record { block = at.block; number = number }) (range_with_len (end_of old.arena at.block) (length done)) ((end_of old.arena at.block + length done) ∷ []))
            ∙ ap (map (λ number. record { block = at.block; number = number })) (sym range)));
      }
