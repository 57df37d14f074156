-- The draft of a function when it is made: every instruction stands, and its number is its position.
use Rattle.draft.proofs.Common.{◌≡◌, ℕ, zero, suc, ◌+◌, ◌<◌, ◌≤◌, ◌^◌, inl, inr, Bool, true, false, List, [], ◌∷◌, length, map, replicate, get_or, All, Some, refl, sym, ap, subst, ◌∙◌, arith, Contains, IsFalse, slice_get, option_map, range_with_len, get_or-replicate, length-map, length-replicate, get_or-range_with_len, length-range_with_len, get_or_from_slice_get, slice_get-get_or, slice_get-map, slice_get_within, HasInst, MeetsChecks, Block, Function, Inst, Op, Operand, Terminator, AreFactsOf, contained_at, contains_at, contains_first, substituted_inst, substituted_operand, operands_at, Stands, block_of, blocks_of, function_of, insts_of, numbers_of, placed, standing, standing_in, none, place_in, IsOrdering, AreReadersOf, IsPlaceIn, arena_place, AreRowsOf, HasNoCycles, IsSettled, Draft, Place, known_has, AreFew, AreKnown, known_reads, operands_at_inst, operands_at_terminator, reads_written}
use Rattle.ir_core.specs.declared.operand.Operand.TheVariants as operands
use Rattle.ir_core.specs.declared.operand.Register.TheVariants as registers
use Rattle.needed.proofs.Counting.{contains_later}
use Rattle.draft.proofs.InstsOf.{insts_more}
use Rattle.draft.proofs.Rows.{first_stands, marked, place_first, place_later}
use Rattle.draft.proofs.Standing.{blocks_agree}
use Rattle.draft.proofs.Substituted.{end_itself, itself, op_itself}

-- ---- the numbers of a block in order

abbrev pub all_of : Block → List ℕ
all_of block = range_with_len 0 (length block.insts)

abbrev pub all_stand : Block → List Bool
all_stand block = replicate (length block.insts) true

range_at : (n k m : ℕ) → slice_get (range_with_len 0 n) k ≡ Some m → (k < n) × (m ≡ k)
range_at n k m at =
    let size = length-range_with_len 0 n in
    let within = slice_get_within (range_with_len 0 n) k m at in
    let less : k < n = omega arith in
    let is = get_or_from_slice_get (range_with_len 0 n) k m 0 at in
    let read = get_or-range_with_len 0 n k 0 less in
    (less, omega arith)

pub range_has : (n k : ℕ) → k < n → Contains (range_with_len 0 n) k
range_has n k less =
    let within : k < length (range_with_len 0 n) = omega (arith, length-range_with_len 0 n) in
    let read : get_or (range_with_len 0 n) k 0 ≡ k = omega (arith, get_or-range_with_len 0 n k 0 less) in
    contains_at (range_with_len 0 n) k k (slice_get-get_or (range_with_len 0 n) k 0 within ∙ ap (λ (m : ℕ). Some m) read)

place_range : (a n j : ℕ) → j < n → place_in (range_with_len a n) (a + j) ≡ j
place_range a zero j less = absurd (omega arith)
place_range a (suc n) zero less = place_first a (a + 0) (range_with_len (a + 1) n) (omega arith)
place_range a (suc n) (suc j) less =
    let next : a + suc j ≡ a + 1 + j = omega arith in
    place_later a (a + suc j) (range_with_len (a + 1) n) (λ e. absurd (omega arith))
    ∙ ap suc (ap (place_in (range_with_len (a + 1) n)) next ∙ place_range (a + 1) n j (omega arith))

pub place_is : (n k : ℕ) → k < n → place_in (range_with_len 0 n) k ≡ k
place_is n k less = let start : 0 + k ≡ k = omega arith in ap (place_in (range_with_len 0 n)) (sym start) ∙ place_range 0 n k less

range_ordering : (n : ℕ) → IsOrdering n (range_with_len 0 n)
range_ordering n = record {
  below = λ k m at. let found = range_at n k m at in omega arith;
  once = λ k m at.
      let (less, same) = range_at n k m at in
      ap (place_in (range_with_len 0 n)) same ∙ place_is n k less;
}

pub rows_all : (block : Block) → length block.insts ≤ none → AreRowsOf block (all_of block) (all_stand block)
rows_all block few = record {
  few = few;
  ordered = length-range_with_len 0 (length block.insts);
  marked = length-replicate (length block.insts) true;
  all = range_has (length block.insts);
  ordering = range_ordering (length block.insts);
  gone = λ n inst at unmarked.
      let within = slice_get_within block.insts n inst at in
      let stands : marked (all_stand block) n ≡ true = get_or-replicate (length block.insts) n true false within in
      cc;
}

-- ---- all stand

standing_all : (stand : List Bool) (numbers : List ℕ) → ((n : ℕ) → Contains numbers n → marked stand n ≡ true) → standing_in stand numbers ≡ numbers
standing_all stand [] all = refl
standing_all stand (n ∷ numbers) all =
    first_stands stand n numbers (all n (contains_first n numbers)) ∙ ap (λ (l : List ℕ). n ∷ l) (standing_all stand numbers (λ m there. all m (contains_later n numbers m there)))

block_stands : (block : Block) → standing_in (all_stand block) (all_of block) ≡ all_of block
block_stands block = standing_all (all_stand block) (all_of block) (λ n there.
    let (k, at) = contained_at (all_of block) n there in
    let (less, same) = range_at (length block.insts) k n at in
    get_or-replicate (length block.insts) n true false (omega arith))

pub numbers_all : (blocks : List Block) → standing (map all_stand blocks) (map all_of blocks) ≡ map all_of blocks
numbers_all [] = refl
numbers_all (block ∷ blocks) =
    ap (λ (l : List ℕ). l ∷ standing (map all_stand blocks) (map all_of blocks)) (block_stands block)
    ∙ ap (λ (l : List (List ℕ)). all_of block ∷ l) (numbers_all blocks)

pub row_at : {A : Type 0} (g : Block → List A) (blocks : List Block) (b : ℕ) (block : Block) → slice_get blocks b ≡ Some block → get_or (map g blocks) b [] ≡ g block
row_at g blocks b block at = get_or_from_slice_get (map g blocks) b (g block) [] (slice_get-map g blocks b ∙ ap (option_map g) at)

-- ---- with positions in place of numbers the function is itself

inst_itself : (inst : Inst) → substituted_inst itself inst ≡ inst
inst_itself inst = ap (λ (op : Op). let i : Inst = record { name = inst.name; width = inst.width; op = op } in i) (op_itself inst.op)

insts_all : (all : List Inst) (a : ℕ) (rest : List Inst) → ((k : ℕ) (inst : Inst) → slice_get rest k ≡ Some inst → slice_get all (a + k) ≡ Some inst) → insts_of itself all (range_with_len a (length rest)) ≡ rest
insts_all all a [] at = refl
insts_all all a (inst ∷ rest) at =
    let start : a + 0 ≡ a = omega arith in
    let here : slice_get all a ≡ Some inst = ap (slice_get all) (sym start) ∙ at 0 inst refl in
    let later = insts_all all (a + 1) rest (λ k i is. let next : a + 1 + k ≡ a + suc k = omega arith in ap (slice_get all) next ∙ at (suc k) i is) in
    insts_more itself all a (range_with_len (a + 1) (length rest)) inst here
    ∙ ap (λ (i : Inst). i ∷ insts_of itself all (range_with_len (a + 1) (length rest))) (inst_itself inst)
    ∙ ap (λ (l : List Inst). inst ∷ l) later

block_itself : (block : Block) → block_of itself (all_of block) block ≡ block
block_itself block =
    let insts : insts_of itself block.insts (all_of block) ≡ block.insts = insts_all block.insts 0 block.insts (λ k inst at. let start : 0 + k ≡ k = omega arith in ap (slice_get block.insts) start ∙ at) in
    ap (λ (l : List Inst). let x : Block = record { name = block.name; insts = l; end = (block_of itself (all_of block) block).end } in x) insts
    ∙ ap (λ (t : Terminator). let x : Block = record { name = block.name; insts = block.insts; end = t } in x) (end_itself block.end)

blocks_itself : (blocks : List Block) → blocks_of itself (map all_of blocks) blocks ≡ blocks
blocks_itself [] = refl
blocks_itself (block ∷ blocks) = ap (λ (x : Block). x ∷ blocks_of itself (map all_of blocks) blocks) (block_itself block) ∙ ap (λ (l : List Block). block ∷ l) (blocks_itself blocks)

module _ (f : Function) (known : AreKnown f) (few : AreFew f) where
  -- the substitution leaves a register that is read as it is
  read_itself : (p : Place) (a : Operand) → IsPlaceIn f p → Contains (operands_at f p) a → substituted_operand (placed (map all_of f.blocks)) a ≡ substituted_operand itself a
  read_itself p (operands.Register (registers.Parameter q)) inside there = refl
  read_itself p (operands.Register (registers.Result b n)) inside there =
      let (block, at, within) = known_has f b n (known p (operands.Register (registers.Result b n)) inside there) in
      ap (λ (m : ℕ). operands.Register (registers.Result b m)) (ap (λ (l : List ℕ). place_in l n) (row_at all_of f.blocks b block at) ∙ place_is (length block.insts) n within)
  read_itself p (operands.Number n) inside there = refl
  read_itself p operands.Undef inside there = refl
  read_itself p operands.Poison inside there = refl

  pub placed_itself : blocks_of (placed (map all_of f.blocks)) (map all_of f.blocks) f.blocks ≡ f.blocks
  placed_itself =
      blocks_agree (placed (map all_of f.blocks)) itself (map all_of f.blocks) f.blocks (record {
        insts = λ b n block inst at there here a read.
            let p : Place = record { block = b; number = n } in
            let less = few b block at in
            let within = slice_get_within block.insts n inst here in
            read_itself p a (block, at, inl within) (subst (λ (l : List Operand). Contains l a) (sym (operands_at_inst f p block inst at here (omega arith))) read);
        ends = λ b block at a read.
            let p : Place = record { block = b; number = none } in
            read_itself p a (block, at, inr refl) (subst (λ (l : List Operand). Contains l a) (sym (operands_at_terminator f p block at refl)) read);
      })
      ∙ blocks_itself f.blocks

-- ---- the draft

pub few_of : (f : Function) → All (λ (b : Block). length b.insts ≤ none) f.blocks → AreFew f
few_of f few b block at =
    let less = few b block (slice_get_within f.blocks b block at) in
    let is = ap (λ (x : Block). length x.insts) (get_or_from_slice_get f.blocks b block block at) in
    omega arith

module _ (d : Draft) (checks : MeetsChecks d.arena) (few : length d.arena.blocks < 2 ^ 32) (few_insts : AreFew d.arena) (orders : d.orders.items ≡ map all_of d.arena.blocks) (stand : d.stand.items ≡ map all_stand d.arena.blocks) where
  all_numbers : numbers_of d ≡ map all_of d.arena.blocks
  all_numbers = ap (λ (s : List (List Bool)). standing s d.orders.items) stand ∙ ap (standing (map all_stand d.arena.blocks)) orders ∙ numbers_all d.arena.blocks

  known : AreKnown d.arena
  known = known_reads d.arena checks.formed.registers

  pub stands_all : (b n : ℕ) → HasInst d.arena b n → Stands d b n
  stands_all b n (block, at, within) =
      subst (λ (l : List ℕ). Contains l n) (sym (ap (λ (rows : List (List ℕ)). get_or rows b []) all_numbers ∙ row_at all_of d.arena.blocks b block at))
      (range_has (length block.insts) n within)

  pub function_itself : function_of d ≡ d.arena
  function_itself =
      ap (λ (l : List Block). let f : Function = record { name = d.arena.name; before = d.arena.before; width = d.arena.width; parameters = d.arena.parameters; after = d.arena.after; blocks = l } in f)
      (ap (λ (rows : List (List ℕ)). blocks_of (placed rows) rows d.arena.blocks) all_numbers ∙ placed_itself d.arena known few_insts)

  pub settled_at_first : AreFactsOf d.arena d.facts → AreReadersOf d.arena d.readers → (IsFalse d.has_cycles → HasNoCycles d.arena) → d.dead_candidates.items ≡ [] → IsSettled d
  settled_at_first facts readers cycles none_fell = record {
    whole = record {
      few = few;
      ordered = ap length orders ∙ length-map d.arena.blocks all_of;
      marked = ap length stand ∙ length-map d.arena.blocks all_stand;
      rows = λ b block at.
          subst (λ (order : List ℕ). AreRowsOf block order (get_or d.stand.items b [])) (sym (ap (λ (rows : List (List ℕ)). get_or rows b []) orders ∙ row_at all_of d.arena.blocks b block at))
          (subst (λ (row : List Bool). AreRowsOf block (all_of block) row) (sym (ap (λ (rows : List (List Bool)). get_or rows b []) stand ∙ row_at all_stand d.arena.blocks b block at))
          (rows_all block (few_insts b block at)));
      known = checks.formed.registers;
      facts = facts;
      readers = readers;
      cycles = cycles;
    };
    read_stands = λ b n p inside reads.
        stands_all b n (known_has d.arena b n (known p (operands.Register (registers.Result b n)) inside (reads_written d.arena p.block (arena_place d.arena p) (registers.Result b n) reads)));
    none_fell = none_fell;
  }
