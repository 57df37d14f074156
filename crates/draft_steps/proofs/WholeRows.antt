-- The numbers that stand in a draft, and what is read in a settled one.
use Rattle.draft_steps.proofs.Common.{◌≡◌, ℕ, ◌<◌, ◌≤◌, inl, inr, List, [], length, get_or, Some, refl, sym, subst, ◌∙◌, arith, Contains, slice_get, IsBlock, slice_get_within, Block, ReadsRegister, contained_at, Stands, numbers_in, numbers_of, none, IsOrdering, arena_place, IsSettled, IsWhole, Draft, Place, arena_place_end, arena_place_inst, standing_length, standing_ordering, numbers_are, stands_there}
use Rattle.ir_core.specs.declared.operand.Register.TheVariants as registers
use Rattle.ir_meaning.proofs.Pieces.{contains_at, some_at}
use Rattle.places.specs.Orders.{place_in}
use Rattle.draft_steps.proofs.Needing.{AreRows, row_is}
use Rattle.draft_steps.proofs.WhoReads.{end_of-is, who}

module _ (d : Draft) (whole : IsWhole d) where
  ordering : (b : ℕ) (block : Block) → IsBlock d.arena b block → IsOrdering (length block.insts) (numbers_in d b)
  ordering b block is =
      subst (IsOrdering (length block.insts)) (sym (numbers_are d whole b block is))
      (standing_ordering (get_or d.stand.items b []) (get_or d.orders.items b []) (length block.insts) (whole.rows b block is).ordering)

  one : (b n i : ℕ) → slice_get (numbers_in d b) i ≡ Some n → place_in (numbers_in d b) n ≡ i
  one b n i at =
      let (block, is, lt) = stands_there d whole b n (contains_at (numbers_in d b) i n at) in
      (ordering b block is).once i n at

  pub whole_rows : ((b k c m : ℕ) → ReadsRegister d.arena b k (registers.Result c m) → Stands d c m) → AreRows d.arena (numbers_of d)
  whole_rows read = record {
    row = λ b block is.
        let within : b < length d.arena.blocks = slice_get_within d.arena.blocks b block is in
        let count : length (numbers_of d) ≡ length d.orders.items = standing_length d.stand.items d.orders.items in
        let ordered = whole.ordered in
        some_at (numbers_of d) b (omega arith);
    numbers = λ b block row is at n has.
        let here : Contains (numbers_in d b) n = subst (λ (l : List ℕ). Contains l n) (sym (row_is (numbers_of d) b row at)) has in
        let (k, is_at) = contained_at (numbers_in d b) n here in
        (ordering b block is).below k n is_at;
    once = λ b i j n at_i at_j. sym (one b n i at_i) ∙ one b n j at_j;
    read = read;
  }

-- a result that is read in a settled draft is of an instruction that stands
pub settled_reads : (d : Draft) → IsSettled d → (b k c m : ℕ) → ReadsRegister d.arena b k (registers.Result c m) → Stands d c m
settled_reads d settled b k c m h =
    elim (who d.arena b k (registers.Result c m) h) [
      | inl i ↦
          let lt : k < length i.block.insts = slice_get_within i.block.insts k i.inst i.is_inst in
          let few : length i.block.insts ≤ none = (settled.whole.rows b i.block i.is_block).few in
          let p : Place = record { block = b; number = k } in
          let here : k ≡ arena_place d.arena p = sym (arena_place_inst d.arena p (omega (arith, lt, few))) in
          settled.read_stands c m p (i.block, i.is_block, inl lt) (subst (λ (j : ℕ). ReadsRegister d.arena b j (registers.Result c m)) here h)
      | inr e ↦
          let p : Place = record { block = b; number = none } in
          let here : k ≡ arena_place d.arena p = e.last ∙ (sym (end_of-is d.arena b e.block e.is_block) ∙ sym (arena_place_end d.arena p refl)) in
          settled.read_stands c m p (e.block, e.is_block, inr refl) (subst (λ (j : ℕ). ReadsRegister d.arena b j (registers.Result c m)) here h)
    ]

pub settled_rows : (d : Draft) → IsSettled d → AreRows d.arena (numbers_of d)
settled_rows d settled = whole_rows d settled.whole (settled_reads d settled)
