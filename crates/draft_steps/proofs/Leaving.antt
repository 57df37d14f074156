-- Where instructions are removed from a draft, its function is the old one with those that are kept.
use Rattle.draft_steps.proofs.Common.{◌≡◌, ℕ, suc, ◌+◌, Bool, true, false, cond, List, [], ◌∷◌, Option, None, Some, refl, sym, ap, ◌∙◌, arith, Contains, slice_get, slice_index_or, option_map, unwrap_or, filter, unwrap_or-slice_get, IsBlock, Block, Function, Inst, Operand, first_in, later_in, KeptMarks, kept_before, kept_block, kept_blocks, kept_first, kept_function, kept_insts, moved_inst, moved_operand, operands_at_end, get-block, substituted_end, substituted_inst, substituted_operand, AreLeft, IsBlockLeft, IsLeft, block_of, blocks_of, insts_of, placed, AreNumbersOf, both, get_blocks, insts_more, rest_numbers}
use Rattle.ir_core.specs.declared.operand.Operand.TheVariants as operands
use Rattle.ir_core.specs.declared.operand.Register.TheVariants as registers
use Rattle.ir_meaning.proofs.Pieces.{some_at}
use Rattle.needed.specs.Operands.{operands_of}
use Rattle.places.specs.Orders.{place_in}
use Rattle.draft_steps.proofs.OneChange.{same_items}
use Rattle.draft_steps.proofs.Equal.{block_same, function_same}
use Rattle.draft_steps.proofs.Mapping.{moved_end_is_at, moved_inst_is_at}
use Rattle.draft_steps.proofs.RowPlaces.{Marks, is_in, marks_here, marks_later, place_kept}

-- the function of an arena and the numbers that stand in each block
abbrev pub function_at : Function → List (List ℕ) → Function
function_at f rows = record { name = f.name; before = f.before; width = f.width; parameters = f.parameters; after = f.after; blocks = blocks_of (placed rows) rows f.blocks }

-- for each position whether the instruction there is kept
abbrev pub marks_of : (ℕ → ℕ → Bool) → List (List ℕ) → KeptMarks
marks_of keep rows b k = keep b (slice_index_or (slice_index_or rows b []) k 0)

-- the operand is no result, or one of an instruction that stands and is kept
abbrev pub StaysIn : (ℕ → ℕ → Bool) → List (List ℕ) → Operand → Type 0
StaysIn keep rows (operands.Register (registers.Result c m)) = Contains (slice_index_or rows c []) m × (keep c m ≡ true)
StaysIn keep rows (operands.Register (registers.Parameter p)) = Unit {0}
StaysIn keep rows (operands.Number n) = Unit {0}
StaysIn keep rows operands.Undef = Unit {0}
StaysIn keep rows operands.Poison = Unit {0}

-- what is kept reads only results of what is kept
pub record ReadsStay (keep : ℕ → ℕ → Bool) (f : Function) (rows : List (List ℕ)) : Type 0 where
  pub insts : (b n : ℕ) (block : Block) (row : List ℕ) (i : Inst) → IsBlock f b block → slice_get rows b ≡ Some row → slice_get block.insts n ≡ Some i → Contains row n → keep b n ≡ true
      → (a : Operand) → Contains (operands_of i.op) a → StaysIn keep rows a
  pub ends : (b : ℕ) (block : Block) → IsBlock f b block → (a : Operand) → Contains (operands_at_end block.end) a → StaysIn keep rows a

module _ (keep : ℕ → ℕ → Bool) (f : Function) (rows : List (List ℕ)) (g : Function) (left : List (List ℕ)) (is : IsLeft keep f rows g left) where
  pub left_row : (c : ℕ) → slice_index_or left c [] ≡ filter (keep c) (slice_index_or rows c [])
  left_row c =
      sym (unwrap_or-slice_get left c []) ∙ (ap (λ (o : Option (List ℕ)). unwrap_or o []) (is.row c) ∙ (by (slice_get rows c) ∙ ap (filter (keep c)) (unwrap_or-slice_get rows c [])))
    where
      by : (o : Option (List ℕ)) → unwrap_or (option_map (filter (keep c)) o) [] ≡ filter (keep c) (unwrap_or o [])
      by None = refl
      by (Some row) = refl

  marked : (c : ℕ) (row : List ℕ) → slice_index_or rows c [] ≡ row → Marks (marks_of keep rows) c (keep c) 0 row
  marked c row same = λ i n at.
      let here : 0 + i ≡ i = omega arith in
      let item : slice_index_or row i 0 ≡ n = sym (unwrap_or-slice_get row i 0) ∙ ap (λ (o : Option ℕ). unwrap_or o 0) at in
      ap ((marks_of keep rows) c) here ∙ ap (keep c) (ap (λ (l : List ℕ). slice_index_or l i 0) same ∙ item)

  placed_left : (c m : ℕ) → Contains (slice_index_or rows c []) m → keep c m ≡ true → place_in (slice_index_or left c []) m ≡ kept_before (marks_of keep rows) c (place_in (slice_index_or rows c []) m)
  placed_left c m has keeps =
      let row : List ℕ = slice_index_or rows c [] in
      let there = place_kept (marks_of keep rows) c (keep c) 0 row m (marked c row refl) (is_in row m has) keeps in
      ap (λ (l : List ℕ). place_in l m) (left_row c) ∙ by (place_in (filter (keep c) row) m) (place_in row m) there
    where
      by : (p q : ℕ) → p + kept_before (marks_of keep rows) c 0 ≡ kept_before (marks_of keep rows) c (0 + q) → p ≡ kept_before (marks_of keep rows) c q
      by p q e = let none : p ≡ p + kept_before (marks_of keep rows) c 0 = omega arith in let same : 0 + q ≡ q = omega arith in none ∙ (e ∙ ap (kept_before (marks_of keep rows) c) same)

  stays_moved : (a : Operand) → StaysIn keep rows a → moved_operand (marks_of keep rows) (substituted_operand (placed rows) a) ≡ substituted_operand (placed left) a
  stays_moved (operands.Register (registers.Result c m)) stays = ap (λ k. operands.Register (registers.Result c k)) (sym (placed_left c m stays.0 stays.1))
  stays_moved (operands.Register (registers.Parameter p)) stays = refl
  stays_moved (operands.Number n) stays = refl
  stays_moved operands.Undef stays = refl
  stays_moved operands.Poison stays = refl

  -- the instructions of a block, from a position on
  insts_left : (b j : ℕ) (old new : List Inst) (row : List ℕ) → AreNumbersOf old row
      → Marks (marks_of keep rows) b (keep b) j row
      → ((n : ℕ) (i : Inst) → keep b n ≡ true → slice_get old n ≡ Some i → slice_get new n ≡ Some i)
      → ((n : ℕ) (i : Inst) → slice_get old n ≡ Some i → Contains row n → keep b n ≡ true → (a : Operand) → Contains (operands_of i.op) a → StaysIn keep rows a)
      → insts_of (placed left) new (filter (keep b) row) ≡ kept_insts (marks_of keep rows) b j (insts_of (placed rows) old row)
  insts_left b j old new [] all at kept reads = refl
  insts_left b j old new (n ∷ row) all at kept reads =
      let (i, here) = some_at old n (all n (first_in n row)) in
      let rest : insts_of (placed left) new (filter (keep b) row) ≡ kept_insts (marks_of keep rows) b (suc j) (insts_of (placed rows) old row) =
      insts_left b (suc j) old new row (rest_numbers (placed rows) old n row all) (marks_later (marks_of keep rows) b (keep b) j n row at) kept (λ m x is_inst has. reads m x is_inst (later_in n row m has)) in
      let split : kept_insts (marks_of keep rows) b j (insts_of (placed rows) old (n ∷ row)) ≡ kept_first (keep b n) (moved_inst (marks_of keep rows) (substituted_inst (placed rows) i)) (kept_insts (marks_of keep rows) b (suc j) (insts_of (placed rows) old row)) =
      ap (kept_insts (marks_of keep rows) b j) (insts_more (placed rows) old n row i here) ∙ ap (λ c. kept_first c (moved_inst (marks_of keep rows) (substituted_inst (placed rows) i)) (kept_insts (marks_of keep rows) b (suc j) (insts_of (placed rows) old row))) (marks_here (marks_of keep rows) b (keep b) j n row at) in
      elim (keep b n) as (λ c. keep b n ≡ c → insts_of (placed left) new (filter (keep b) (n ∷ row)) ≡ kept_insts (marks_of keep rows) b j (insts_of (placed rows) old (n ∷ row))) [
        | true ↦ λ e.
            let same : moved_inst (marks_of keep rows) (substituted_inst (placed rows) i) ≡ substituted_inst (placed left) i = moved_inst_is_at (marks_of keep rows) (placed rows) (placed left) i (λ a has. stays_moved a (reads n i here (first_in n row) e a has)) in
            let one : insts_of (placed left) new (filter (keep b) (n ∷ row)) ≡ substituted_inst (placed left) i ∷ insts_of (placed left) new (filter (keep b) row) =
            ap (λ c. insts_of (placed left) new (cond c (n ∷ filter (keep b) row) (filter (keep b) row))) e ∙ insts_more (placed left) new n (filter (keep b) row) i (kept n i e here) in
            let keeps : kept_insts (marks_of keep rows) b j (insts_of (placed rows) old (n ∷ row)) ≡ moved_inst (marks_of keep rows) (substituted_inst (placed rows) i) ∷ kept_insts (marks_of keep rows) b (suc j) (insts_of (placed rows) old row) =
            split ∙ ap (λ c. kept_first c (moved_inst (marks_of keep rows) (substituted_inst (placed rows) i)) (kept_insts (marks_of keep rows) b (suc j) (insts_of (placed rows) old row))) e in
            one ∙ (ap (λ (x : Inst). x ∷ insts_of (placed left) new (filter (keep b) row)) (sym same) ∙ (ap (λ (l : List Inst). moved_inst (marks_of keep rows) (substituted_inst (placed rows) i) ∷ l) rest ∙ sym keeps))
        | false ↦ λ e.
            let none : insts_of (placed left) new (filter (keep b) (n ∷ row)) ≡ insts_of (placed left) new (filter (keep b) row) =
            ap (λ c. insts_of (placed left) new (cond c (n ∷ filter (keep b) row) (filter (keep b) row))) e in
            let drops : kept_insts (marks_of keep rows) b j (insts_of (placed rows) old (n ∷ row)) ≡ kept_insts (marks_of keep rows) b (suc j) (insts_of (placed rows) old row) =
            split ∙ ap (λ c. kept_first c (moved_inst (marks_of keep rows) (substituted_inst (placed rows) i)) (kept_insts (marks_of keep rows) b (suc j) (insts_of (placed rows) old row))) e in
            none ∙ (rest ∙ sym drops)
      ] refl

  module _ (numbers : (b : ℕ) (block : Block) (row : List ℕ) → IsBlock f b block → slice_get rows b ≡ Some row → AreNumbersOf block.insts row) (stay : ReadsStay keep f rows) where
    block_left : (b : ℕ) (row : List ℕ) (old new : Block) → slice_get rows b ≡ Some row → IsBlock f b old → IsBlockLeft (keep b) old new
        → block_of (placed left) (filter (keep b) row) new ≡ kept_block (marks_of keep rows) b (block_of (placed rows) row old)
    block_left b row old new at is_block h =
        let row_is : slice_index_or rows b [] ≡ row = sym (unwrap_or-slice_get rows b []) ∙ ap (λ (o : Option (List ℕ)). unwrap_or o []) at in
        let insts : insts_of (placed left) new.insts (filter (keep b) row) ≡ kept_insts (marks_of keep rows) b 0 (insts_of (placed rows) old.insts row) =
        insts_left b 0 old.insts new.insts row (numbers b old row is_block at) (marked b row row_is) h.kept (λ n i here has keeps. stay.insts b n old row i is_block at here has keeps) in
        let end = moved_end_is_at (marks_of keep rows) (placed rows) (placed left) old.end (λ a has. stays_moved a (stay.ends b old is_block a has)) in
        block_same _ _ _ _ _ _ h.name insts (ap (substituted_end (placed left)) h.end ∙ sym end)

    blocks_left : (b : ℕ) (o : Option (List ℕ)) (p q : Option Block) → slice_get rows b ≡ o → slice_get f.blocks b ≡ p → slice_get g.blocks b ≡ q → AreLeft (keep b) p q
        → both (block_of (placed left)) (option_map (filter (keep b)) o) q ≡ option_map (kept_block (marks_of keep rows) b) (both (block_of (placed rows)) o p)
    blocks_left b None p q at old new h = refl
    blocks_left b (Some row) None None at old new h = refl
    blocks_left b (Some row) None (Some y) at old new h = absurd h
    blocks_left b (Some row) (Some x) None at old new h = absurd h
    blocks_left b (Some row) (Some x) (Some y) at old new h = ap (λ z. Some z) (block_left b row x y at old h)

    pub left_is : function_at g left ≡ kept_function (marks_of keep rows) (function_at f rows)
    left_is =
        let blocks : blocks_of (placed left) left g.blocks ≡ kept_blocks (marks_of keep rows) 0 (blocks_of (placed rows) rows f.blocks) =
        same_items (blocks_of (placed left) left g.blocks) (kept_blocks (marks_of keep rows) 0 (blocks_of (placed rows) rows f.blocks)) (λ b.
        get_blocks (placed left) left g.blocks b ∙ (ap (λ (o : Option (List ℕ)). both (block_of (placed left)) o (slice_get g.blocks b)) (is.row b)
        ∙ (blocks_left b (slice_get rows b) (slice_get f.blocks b) (slice_get g.blocks b) refl refl refl (is.blocks b)
        ∙ (ap (option_map (kept_block (marks_of keep rows) b)) (sym (get_blocks (placed rows) rows f.blocks b)) ∙ sym (get-block (marks_of keep rows) (function_at f rows) b))))) in
        function_same (function_at g left) (kept_function (marks_of keep rows) (function_at f rows)) is.name is.before is.width is.parameters is.after blocks
