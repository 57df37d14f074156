-- The same instructions are live in a draft's function and in its arena.
use Rattle.draft_steps.proofs.Common.{◌≡◌, ℕ, ◌<◌, Bool, true, ◌⊎◌, inl, inr, ◌↔◌, List, [], length, map, Option, None, Some, refl, sym, ap, subst, ◌∙◌, arith, Contains, slice_get, slice_index_or, unwrap_or, same_Some, slice_get_within, unwrap_or-slice_get, IsBlock, end_of, Block, Function, Inst, Operand, Register, KeepsNeeded, IsNeeded, by_end, by_inst, ReadsRegister, operands_at_end, Substitution, substituted_operand, in_map, map_in, block_of, insts_of, placed, AreNumbersOf, both, get_blocks, inst_from, length-insts_of}
use Rattle.ir_core.specs.declared.operand.Operand.TheVariants as operands
use Rattle.ir_core.specs.declared.operand.Register.TheVariants as registers
use Rattle.ir_meaning.proofs.Pieces.{contains_at, some_at}
use Rattle.needed.specs.Operands.{operands_of}
use Rattle.places.specs.Orders.{place_in}
use Rattle.draft_steps.proofs.Leaving.{function_at, marks_of}
use Rattle.draft_steps.proofs.Mapping.{end_substituted, operands_substituted}
use Rattle.draft_steps.proofs.WhoReads.{EndReads, InstReads, end_of-is, end_reads_it, inst_reads_it, who}
use Rattle.draft_steps.proofs.RowPlaces.{at_place, is_in, one_place}
use Rattle.draft.proofs.InstsOf.{inst_at}

-- a result named by its position, in place of its number
abbrev pub placed_register : List (List ℕ) → Register → Register
placed_register rows (registers.Parameter p) = registers.Parameter p
placed_register rows (registers.Result b n) = registers.Result b (place_in (slice_index_or rows b []) n)

placed_is : (rows : List (List ℕ)) (r : Register) → placed rows r ≡ operands.Register (placed_register rows r)
placed_is rows (registers.Parameter p) = refl
placed_is rows (registers.Result b n) = refl

-- a live register has a use
pub reader_of : (f : Function) (r : Register) → IsNeeded f r → (b : ℕ) × (k : ℕ) × ReadsRegister f b k r
reader_of f r (by_end b h) = (b, end_of f b, h)
reader_of f r (by_inst b k need h) = (b, k, h)

-- The rows have numbers of instructions of the arena, each once, and each result that is read is of one of them.
pub record AreRows (f : Function) (rows : List (List ℕ)) : Type 0 where
  pub row : (b : ℕ) (block : Block) → IsBlock f b block → (numbers : List ℕ) × (slice_get rows b ≡ Some numbers)
  pub numbers : (b : ℕ) (block : Block) (row : List ℕ) → IsBlock f b block → slice_get rows b ≡ Some row → AreNumbersOf block.insts row
  pub once : (b i j n : ℕ) → slice_get (slice_index_or rows b []) i ≡ Some n → slice_get (slice_index_or rows b []) j ≡ Some n → i ≡ j
  pub read : (b k c m : ℕ) → ReadsRegister f b k (registers.Result c m) → Contains (slice_index_or rows c []) m

pub row_is : (rows : List (List ℕ)) (b : ℕ) (row : List ℕ) → slice_get rows b ≡ Some row → slice_index_or rows b [] ≡ row
row_is rows b row at = sym (unwrap_or-slice_get rows b []) ∙ ap (λ (o : Option (List ℕ)). unwrap_or o []) at

-- a block of the function is one of the arena, where results are named by position
pub record IsPlacedBlock (f : Function) (rows : List (List ℕ)) (b : ℕ) (new : Block) : Type 0 where
  pub row : List ℕ
  pub block : Block
  pub at : slice_get rows b ≡ Some row
  pub is_block : IsBlock f b block
  pub is : block_of (placed rows) row block ≡ new

module _ (f : Function) (rows : List (List ℕ)) (good : AreRows f rows) where
  abbrev F : Function
  F = function_at f rows

  abbrev to : Substitution
  to = placed rows

  pub block_on : (b : ℕ) (block : Block) (row : List ℕ) → IsBlock f b block → slice_get rows b ≡ Some row → IsBlock F b (block_of to row block)
  block_on b block row is at = get_blocks to rows f.blocks b ∙ (ap (λ (o : Option (List ℕ)). both (block_of to) o (slice_get f.blocks b)) at ∙ ap (both (block_of to) (Some row)) is)

  pub block_back : (b : ℕ) (new : Block) → IsBlock F b new → IsPlacedBlock f rows b new
  block_back b new is = by (slice_get rows b) (slice_get f.blocks b) refl refl (sym (get_blocks to rows f.blocks b) ∙ is)
    where
      by : (o : Option (List ℕ)) (p : Option Block) → slice_get rows b ≡ o → slice_get f.blocks b ≡ p → both (block_of to) o p ≡ Some new → IsPlacedBlock f rows b new
      by None p at is h = absurd cc
      by (Some row) None at is h = absurd cc
      by (Some row) (Some block) at is h = record { row = row; block = block; at = at; is_block = is; is = same_Some (block_of to row block) new h }

  -- a number of a row is at its position
  pub place_of : (b : ℕ) (block : Block) (row : List ℕ) (n : ℕ) → slice_get rows b ≡ Some row → Contains (slice_index_or rows b []) n → slice_get row (place_in (slice_index_or rows b []) n) ≡ Some n
  place_of b block row n at has = ap (λ (l : List ℕ). slice_get l (place_in (slice_index_or rows b []) n)) (sym (row_is rows b row at)) ∙ at_place (slice_index_or rows b []) n (is_in (slice_index_or rows b []) n has)

  within : (b : ℕ) (block : Block) (n : ℕ) → IsBlock f b block → Contains (slice_index_or rows b []) n → n < length block.insts
  within b block n is has =
      let (row, at) = good.row b block is in
      good.numbers b block row is at n (subst (λ (l : List ℕ). Contains l n) (row_is rows b row at) has)

  -- ---- reads of the arena are reads of the function

  end_on : (b k : ℕ) (r : Register) → EndReads f b k r → ReadsRegister F b (end_of F b) (placed_register rows r)
  end_on b k r e =
      let (row, at) = good.row b e.block e.is_block in
      let put : Contains (map (substituted_operand to) (operands_at_end e.block.end)) (operands.Register (placed_register rows r)) =
      subst (Contains (map (substituted_operand to) (operands_at_end e.block.end))) (placed_is rows r) (map_in (substituted_operand to) (operands_at_end e.block.end) (operands.Register r) e.has) in
      end_reads_it F b (block_of to row e.block) (placed_register rows r) (block_on b e.block row e.is_block at) (subst (λ (l : List Operand). Contains l (operands.Register (placed_register rows r))) (sym (end_substituted to e.block.end)) put)

  pub inst_on : (b n : ℕ) (r : Register) → InstReads f b n r → Contains (slice_index_or rows b []) n → ReadsRegister F b (place_in (slice_index_or rows b []) n) (placed_register rows r)
  inst_on b n r i has =
      let (row, at) = good.row b i.block i.is_block in
      let put : Contains (map (substituted_operand to) (operands_of i.inst.op)) (operands.Register (placed_register rows r)) =
      subst (Contains (map (substituted_operand to) (operands_of i.inst.op))) (placed_is rows r) (map_in (substituted_operand to) (operands_of i.inst.op) (operands.Register r) i.has) in
      inst_reads_it F b (place_in (slice_index_or rows b []) n) (block_of to row i.block) _ (placed_register rows r) (block_on b i.block row i.is_block at)
      (inst_at to i.block.insts row (place_in (slice_index_or rows b []) n) n i.inst (good.numbers b i.block row i.is_block at) (place_of b i.block row n at has) i.is_inst)
      (subst (λ (l : List Operand). Contains l (operands.Register (placed_register rows r))) (sym (operands_substituted to i.inst.op)) put)

  pub needed_on : (r : Register) → IsNeeded f r → IsNeeded F (placed_register rows r)
  needed_on r (by_end b h) =
      elim (who f b (end_of f b) r h) [
        | inl i ↦ absurd (let lt : end_of f b < length i.block.insts = slice_get_within i.block.insts (end_of f b) i.inst i.is_inst in let e : end_of f b ≡ length i.block.insts = end_of-is f b i.block i.is_block in omega arith)
        | inr e ↦ by_end b (end_on b (end_of f b) r e)
      ]
  needed_on r (by_inst b k need h) =
      let reader = reader_of f (registers.Result b k) need in
      let stands : Contains (slice_index_or rows b []) k = good.read reader.0 reader.1 b k reader.2 in
      elim (who f b k r h) [
        | inl i ↦ by_inst b (place_in (slice_index_or rows b []) k) (needed_on (registers.Result b k) need) (inst_on b k r i stands)
        | inr e ↦ absurd (let lt : k < length e.block.insts = within b e.block k e.is_block stands in let last : k ≡ length e.block.insts = e.last in omega arith)
      ]

  -- ---- and back

  -- an operand that is named so is a result at this position
  origin : (b j : ℕ) (a : Operand) → substituted_operand to a ≡ operands.Register (registers.Result b j) → (m : ℕ) × (a ≡ operands.Register (registers.Result b m)) × (place_in (slice_index_or rows b []) m ≡ j)
  origin b j (operands.Register (registers.Result c m)) e =
      let same : operands.Register (registers.Result c (place_in (slice_index_or rows c []) m)) ≡ operands.Register (registers.Result b j) = e in
      let block : c ≡ b = cc in
      let place : place_in (slice_index_or rows c []) m ≡ j = cc in
      (m, ap (λ d. operands.Register (registers.Result d m)) block, subst (λ (d : ℕ). place_in (slice_index_or rows d []) m ≡ j) block place)
  origin b j (operands.Register (registers.Parameter p)) e = absurd cc
  origin b j (operands.Number n) e = absurd cc
  origin b j operands.Undef e = absurd cc
  origin b j operands.Poison e = absurd cc

  -- how many instructions the function has of a block
  count_of : (c : ℕ) (new : Block) → IsBlock F c new → end_of F c ≡ length (slice_index_or rows c [])
  count_of c new is =
      let p = block_back c new is in
      end_of-is F c new is ∙ (sym (ap (λ (x : Block). length x.insts) p.is)
      ∙ (length-insts_of to p.block.insts p.row (good.numbers c p.block p.row p.is_block p.at) ∙ sym (ap (λ (l : List ℕ). length l) (row_is rows c p.row p.at))))

  -- what reads a register at a position reads it at the number there
  abbrev pub EndsRead : ℕ → ℕ → Register → Type 0
  EndsRead c l r = (l ≡ end_of F c) × ReadsRegister f c (end_of f c) r

  abbrev pub InstIsRead : ℕ → ℕ → Register → Type 0
  InstIsRead c l r = (n : ℕ) × (slice_get (slice_index_or rows c []) l ≡ Some n) × (l < end_of F c) × ReadsRegister f c n r

  pub record IsReadFrom (c l b j : ℕ) : Type 0 where
    pub number : ℕ
    pub stands : Contains (slice_index_or rows b []) number
    pub place : place_in (slice_index_or rows b []) number ≡ j
    pub count : end_of F c ≡ length (slice_index_or rows c [])
    pub reads : EndsRead c l (registers.Result b number) ⊎ InstIsRead c l (registers.Result b number)

  pub read_back : (c l b j : ℕ) (r : Register) → r ≡ registers.Result b j → ReadsRegister F c l r → IsReadFrom c l b j
  read_back c l b j r is h =
      elim (who F c l r h) [
        | inl i ↦
            let p = block_back c i.block i.is_block in
            let is_inst : slice_get (insts_of to p.block.insts p.row) l ≡ Some i.inst = subst (λ (x : Block). slice_get x.insts l ≡ Some i.inst) (sym p.is) i.is_inst in
            let from = inst_from to p.block.insts p.row l i.inst (good.numbers c p.block p.row p.is_block p.at) is_inst in
            let has : Contains (map (substituted_operand to) (operands_of from.1.op)) (operands.Register r) =
            subst (λ (l : List Operand). Contains l (operands.Register r)) (operands_substituted to from.1.op) (subst (λ (x : Inst). Contains (operands_of x.op) (operands.Register r)) (sym from.4) i.has) in
            let old = in_map (substituted_operand to) (operands_of from.1.op) (operands.Register r) has in
            let o = origin b j old.0 (old.2 ∙ ap operands.Register is) in
            let reads : ReadsRegister f c from.0 (registers.Result b o.0) = inst_reads_it f c from.0 p.block from.1 (registers.Result b o.0) p.is_block from.3 (subst (Contains (operands_of from.1.op)) o.1 old.1) in
            let lt : l < length i.block.insts = slice_get_within i.block.insts l i.inst i.is_inst in
            let end : end_of F c ≡ length i.block.insts = end_of-is F c i.block i.is_block in
            let at : slice_get (slice_index_or rows c []) l ≡ Some from.0 = ap (λ (x : List ℕ). slice_get x l) (row_is rows c p.row p.at) ∙ from.2 in
            record { number = o.0; stands = good.read c from.0 b o.0 reads; place = o.2; count = count_of c i.block i.is_block; reads = inr (from.0, at, within_end l (end_of F c) (length i.block.insts) lt end, reads) }
        | inr e ↦
            let p = block_back c e.block e.is_block in
            let has : Contains (map (substituted_operand to) (operands_at_end p.block.end)) (operands.Register r) =
            subst (λ (l : List Operand). Contains l (operands.Register r)) (end_substituted to p.block.end) (subst (λ (x : Block). Contains (operands_at_end x.end) (operands.Register r)) (sym p.is) e.has) in
            let old = in_map (substituted_operand to) (operands_at_end p.block.end) (operands.Register r) has in
            let o = origin b j old.0 (old.2 ∙ ap operands.Register is) in
            let reads : ReadsRegister f c (end_of f c) (registers.Result b o.0) = end_reads_it f c p.block (registers.Result b o.0) p.is_block (subst (Contains (operands_at_end p.block.end)) o.1 old.1) in
            record { number = o.0; stands = good.read c (end_of f c) b o.0 reads; place = o.2; count = count_of c e.block e.is_block; reads = inl (e.last ∙ sym (end_of-is F c e.block e.is_block), reads) }
      ]
    where
      within_end : (l end count : ℕ) → l < count → end ≡ count → l < end
      within_end l end count lt e = omega arith

  one_number : (b m n : ℕ) → Contains (slice_index_or rows b []) n → place_in (slice_index_or rows b []) m ≡ place_in (slice_index_or rows b []) n → m ≡ n
  one_number b m n has same = sym (one_place (slice_index_or rows b []) n m (is_in (slice_index_or rows b []) n has) (sym same))

  pub at_its_place : (c l n : ℕ) → slice_get (slice_index_or rows c []) l ≡ Some n → place_in (slice_index_or rows c []) n ≡ l
  at_its_place c l n at =
      let row : List ℕ = slice_index_or rows c [] in
      good.once c (place_in row n) l n (at_place row n (is_in row n (contains_at row l n at))) at

  -- a live instruction has a position in its block
  needed_before_end : (c k : ℕ) → IsNeeded F (registers.Result c k) → k < length (slice_index_or rows c [])
  needed_before_end c k need =
      let reader = reader_of F (registers.Result c k) need in
      let from = read_back reader.0 reader.1 c k (registers.Result c k) refl reader.2 in
      subst (λ (j : ℕ). j < length (slice_index_or rows c [])) from.place (is_in (slice_index_or rows c []) from.number from.stands)

  not_at_end : (k end count : ℕ) → k ≡ end → end ≡ count → k < count → ⊥
  not_at_end k end count last same lt = omega arith

  pub needed_back : (r : Register) → IsNeeded F r → (b n : ℕ) → r ≡ registers.Result b (place_in (slice_index_or rows b []) n) → Contains (slice_index_or rows b []) n → IsNeeded f (registers.Result b n)
  needed_back r (by_end c h) b n is has =
      let from = read_back c (end_of F c) b (place_in (slice_index_or rows b []) n) r is h in
      let number : from.number ≡ n = one_number b from.number n has from.place in
      elim from.reads [
        | inl end ↦ by_end c (subst (λ (k : ℕ). ReadsRegister f c (end_of f c) (registers.Result b k)) number end.1)
        | inr inst ↦ absurd (not_at_end (end_of F c) (end_of F c) (end_of F c) refl refl inst.2)
      ]
  needed_back r (by_inst c k need h) b n is has =
      let from = read_back c k b (place_in (slice_index_or rows b []) n) r is h in
      let number : from.number ≡ n = one_number b from.number n has from.place in
      elim from.reads [
        | inl end ↦ absurd (not_at_end k (end_of F c) (length (slice_index_or rows c [])) end.0 from.count (needed_before_end c k need))
        | inr inst ↦
            by_inst c inst.0 (needed_back (registers.Result c k) need c inst.0 (ap (registers.Result c) (sym (at_its_place c k inst.0 inst.1))) (contains_at (slice_index_or rows c []) k inst.0 inst.1))
            (subst (λ (m : ℕ). ReadsRegister f c inst.0 (registers.Result b m)) number inst.3)
      ]

  -- where exactly the live instructions of the arena are kept, exactly those of the function are
  module _ (keep : ℕ → ℕ → Bool) (keeps : (b n : ℕ) → Contains (slice_index_or rows b []) n → (keep b n ≡ true) ↔ IsNeeded f (registers.Result b n)) where
    pub keeps_needed : KeepsNeeded F (marks_of keep rows)
    keeps_needed b k (new, is_block, lt) =
        let row : List ℕ = slice_index_or rows b [] in
        let count : end_of F b ≡ length row = count_of b new is_block in
        let end : end_of F b ≡ length new.insts = end_of-is F b new is_block in
        let (n, at) = some_at row k (omega (arith, lt, count, end)) in
        let has : Contains row n = contains_at row k n at in
        let place : place_in row n ≡ k = at_its_place b k n at in
        let mark : marks_of keep rows b k ≡ keep b n = ap (keep b) (sym (unwrap_or-slice_get row k 0) ∙ ap (λ (o : Option ℕ). unwrap_or o 0) at) in
        let is = keeps b n has in (
          λ kept. subst (λ (j : ℕ). IsNeeded F (registers.Result b j)) place (needed_on (registers.Result b n) (is.0 (sym mark ∙ kept))),
          λ need. mark ∙ is.1 (needed_back (registers.Result b k) need b n (ap (registers.Result b) (sym place)) has),
        )
