-- The function of an arena has the instructions that stand, each at the position of its number.
use Rattle.draft_steps.proofs.Common.{◌≡◌, ◌⊎◌, inl, inr, ℕ, ◌<◌, List, length, map, Option, Some, refl, sym, ap, subst, ◌∙◌, arith, Contains, option_map, slice_get, unwrap_or, same_Some, slice_get_cases, slice_get_within, IsBlock, Names, targets_of, IsInst, Read, end_of, reads_at, IsReached, Block, Function, Inst, Operand, Register, reads_at-end, get-map, get_from_map, Substitution, substituted_end, substituted_inst, substituted_operand, IsNamedAt, IsUsedOnce, reads_at_inst, block_of, insts_of, placed, AreArranged, arranged, row_of, reached_along}
use Rattle.ir_core.specs.declared.operand.Operand.TheVariants as operands
use Rattle.ir_core.specs.declared.operand.Register.TheVariants as registers
use Rattle.ir_meaning.proofs.Pieces.{contains_at, some_at}
use Rattle.needed.proofs.Reading.{end_of-is}
use Rattle.places.specs.Orders.{place_in}
use Rattle.draft_steps.proofs.Once.{once_on}
use Rattle.draft_steps.proofs.Reading.{end_substituted, operands_read, read_cases, reads_substituted, targets_substituted}
use Rattle.draft_steps.proofs.Rows.{as_many_insts, block_at, block_back, inst_at, inst_back, number_there}

-- a result named by its position, in place of its number
abbrev pub placed_register : List (List ℕ) → Register → Register
placed_register rows (registers.Parameter p) = registers.Parameter p
placed_register rows (registers.Result b n) = registers.Result b (place_in (row_of rows b) n)

pub placed-is : (rows : List (List ℕ)) (r : Register) → placed rows r ≡ operands.Register (placed_register rows r)
placed-is rows (registers.Parameter p) = refl
placed-is rows (registers.Result b n) = refl

-- the register is a parameter, or the result of an instruction that stands
abbrev pub IsStanding : List (List ℕ) → Register → Type 0
IsStanding rows (registers.Parameter p) = Unit {0}
IsStanding rows (registers.Result b n) = Contains (row_of rows b) n

module _ (arena : Function) (rows : List (List ℕ)) (are : AreArranged arena rows) where
  abbrev F : Function
  F = arranged arena rows

  abbrev to : Substitution
  to = placed rows

  -- ---- blocks

  pub block_on : (b : ℕ) (block : Block) → IsBlock arena b block → IsBlock F b (block_of to (row_of rows b) block)
  block_on b block at = block_at to rows arena.blocks b block are.as_many at

  pub known_in : (b : ℕ) (block : Block) → IsBlock arena b block → (n : ℕ) → Contains (row_of rows b) n → n < length block.insts
  known_in b block at n has =
      let there = are.there b n has in
      subst (λ (x : Block). n < length x.insts) (same_Some there.0 block (sym there.1 ∙ at)) there.2

  names_on : (b c : ℕ) → Names arena b c → Names F b c
  names_on b c h = (block_of to (row_of rows b) h.0, block_on b h.0 h.1, subst (λ (l : List ℕ). Contains l c) (sym (targets_substituted to h.0.end)) h.2)

  names_back : (b c : ℕ) → Names F b c → Names arena b c
  names_back b c h =
      let (block, at, same) = block_back to rows arena.blocks b h.0 h.1 in
      let named : Contains (targets_of (substituted_end to block.end)) c = subst (λ (x : Block). Contains (targets_of x.end) c) (sym same) h.2 in
      (block, at, subst (λ (l : List ℕ). Contains l c) (targets_substituted to block.end) named)

  pub reached_on : (b : ℕ) → IsReached arena b → IsReached F b
  reached_on = reached_along arena F names_on

  pub reached_back : (b : ℕ) → IsReached F b → IsReached arena b
  reached_back = reached_along F arena names_back

  -- a position before the end of a block is that of a number
  pub number_at : (b k : ℕ) → k < end_of F b → (n : ℕ) × (slice_get (row_of rows b) k ≡ Some n)
  number_at b k less = elim (slice_get_cases F.blocks b).1 [
    | inr (past, none) ↦ absurd (let end : end_of F b ≡ 0 = ap (λ (o : Option Block). unwrap_or (option_map (λ (x : Block). length x.insts) o) 0) none in omega (arith, less, end))
    | inl (new, lt, at, is) ↦
        let (block, at_block, same) = block_back to rows arena.blocks b new at in
        let count : length new.insts ≡ length (row_of rows b) = ap (λ (x : Block). length x.insts) (sym same) ∙ as_many_insts to block.insts (row_of rows b) (known_in b block at_block) in
        some_at (row_of rows b) k (omega (arith, less, end_of-is F b new at, count))
  ]

  -- ---- instructions

  pub inst_on : (b n : ℕ) (inst : Inst) → Contains (row_of rows b) n → IsInst arena b n inst → IsInst F b (place_in (row_of rows b) n) (substituted_inst to inst)
  inst_on b n inst has is = record {
    block = block_of to (row_of rows b) is.block;
    is_block = block_on b is.block is.is_block;
    is_inst = inst_at to is.block.insts (row_of rows b) (place_in (row_of rows b) n) n inst (known_in b is.block is.is_block) (number_there (row_of rows b) n has) is.is_inst;
  }

  pub record WasInst (b k : ℕ) (new : Inst) : Type 0 where
    pub n : ℕ
    pub inst : Inst
    pub number : slice_get (row_of rows b) k ≡ Some n
    pub is_inst : IsInst arena b n inst
    pub same : substituted_inst to inst ≡ new

  pub inst_was : (b k : ℕ) (new : Inst) → IsInst F b k new → WasInst b k new
  inst_was b k new is =
      let (block, at, same) = block_back to rows arena.blocks b is.block is.is_block in
      let here : slice_get (insts_of to block.insts (row_of rows b)) k ≡ Some new = ap (λ (x : Block). slice_get x.insts k) same ∙ is.is_inst in
      let was = inst_back to block.insts (row_of rows b) k new (known_in b block at) here in
      record { n = was.n; inst = was.inst; number = was.number; is_inst = record { block = block; is_block = at; is_inst = was.is_inst }; same = was.same }

  -- ---- the operands

  -- instruction k of the arena's block is at position q, or both are the terminator's
  abbrev pub SamePlace : ℕ → ℕ → ℕ → Type 0
  SamePlace b k q = (slice_get (row_of rows b) q ≡ Some k) ⊎ ((block : Block) × IsBlock arena b block × (k ≡ length block.insts) × (q ≡ length (row_of rows b)))

  one_place : (b k p q : ℕ) → SamePlace b k p → SamePlace b k q → p ≡ q
  one_place b k p q (inl x) (inl y) = sym (are.once b p k x) ∙ are.once b q k y
  one_place b k p q (inl x) (inr (block, at, end, past)) = absurd (let less : k < length block.insts = known_in b block at k (contains_at (row_of rows b) p k x) in omega (arith, less, end))
  one_place b k p q (inr (block, at, end, past)) (inl y) = absurd (let less : k < length block.insts = known_in b block at k (contains_at (row_of rows b) q k y) in omega (arith, less, end))
  one_place b k p q (inr x) (inr y) = x.3 ∙ sym y.3

  one_number : (b q k j : ℕ) → SamePlace b k q → SamePlace b j q → k ≡ j
  one_number b q k j (inl x) (inl y) = same_Some k j (sym x ∙ y)
  one_number b q k j (inl x) (inr y) = absurd (let less : q < length (row_of rows b) = slice_get_within (row_of rows b) q k x in omega (arith, less, y.3))
  one_number b q k j (inr x) (inl y) = absurd (let less : q < length (row_of rows b) = slice_get_within (row_of rows b) q j y in omega (arith, less, x.3))
  one_number b q k j (inr x) (inr y) = x.2 ∙ ap (λ (z : Block). length z.insts) (same_Some x.0 y.0 (sym x.1 ∙ y.1)) ∙ sym y.2

  abbrev operands_at : Function → ℕ → ℕ → List Operand
  operands_at f b k = operands_read (reads_at f b k)

  same_operands : (b k q : ℕ) → SamePlace b k q → operands_at F b q ≡ map (substituted_operand to) (operands_at arena b k)
  same_operands b k q (inl at) =
      let has : Contains (row_of rows b) k = contains_at (row_of rows b) q k at in
      let (block, is_block, within) = are.there b k has in
      let (inst, is_inst) = some_at block.insts k within in
      let is : IsInst arena b k inst = record { block = block; is_block = is_block; is_inst = is_inst } in
      let now : IsInst F b q (substituted_inst to inst) = subst (λ (p : ℕ). IsInst F b p (substituted_inst to inst)) (are.once b q k at) (inst_on b k inst has is) in
      ap operands_read (reads_at_inst F b q (substituted_inst to inst) now) ∙ reads_substituted to arena F b k q inst.width inst.op
      ∙ ap (λ (l : List Read). map (substituted_operand to) (operands_read l)) (sym (reads_at_inst arena b k inst is))
  same_operands b k q (inr (block, at, end, past)) =
      let now : IsBlock F b (block_of to (row_of rows b) block) = block_on b block at in
      let count : length (insts_of to block.insts (row_of rows b)) ≡ length (row_of rows b) = as_many_insts to block.insts (row_of rows b) (known_in b block at) in
      let there : q ≡ length (insts_of to block.insts (row_of rows b)) = past ∙ sym count in
      ap (λ (p : ℕ). operands_at F b p) there
      ∙ ap operands_read (reads_at-end F b (block_of to (row_of rows b) block) now)
      ∙ end_substituted to arena F b (length block.insts) (length (insts_of to block.insts (row_of rows b))) block.end
      ∙ ap (λ (l : List Read). map (substituted_operand to) (operands_read l)) (sym (reads_at-end arena b block at))
      ∙ ap (λ (p : ℕ). map (substituted_operand to) (operands_at arena b p)) (sym end)

  -- ---- the uses of a register

  operand_named : (f : Function) (b k i : ℕ) (r : Register) → IsNamedAt f r b k i → slice_get (operands_at f b k) i ≡ Some (operands.Register r)
  operand_named f b k i r (read, is_read, names) = get-map (λ (x : Read). x.operand) (reads_at f b k) i read is_read ∙ ap Some names

  named_operand : (f : Function) (b k i : ℕ) (r : Register) → slice_get (operands_at f b k) i ≡ Some (operands.Register r) → IsNamedAt f r b k i
  named_operand f b k i r at = get_from_map (λ (x : Read). x.operand) (reads_at f b k) i (operands.Register r) at

  on : (r : Register) (b k i : ℕ) → IsNamedAt arena r b k i → (q : ℕ) × SamePlace b k q × IsNamedAt F (placed_register rows r) b q i
  on r b k i (read, is_read, names) = by (read_cases arena b k i read is_read)
    where
      there : (q : ℕ) → SamePlace b k q → IsNamedAt F (placed_register rows r) b q i
      there q same =
          named_operand F b q i (placed_register rows r)
          (ap (λ (l : List Operand). slice_get l i) (same_operands b k q same)
          ∙ get-map (substituted_operand to) (operands_at arena b k) i (operands.Register r) (operand_named arena b k i r (read, is_read, names))
          ∙ ap Some (placed-is rows r))

      by : ((inst : Inst) × IsInst arena b k inst) ⊎ ((block : Block) × IsBlock arena b block × (k ≡ length block.insts)) → (q : ℕ) × SamePlace b k q × IsNamedAt F (placed_register rows r) b q i
      by (inl (inst, is_inst)) =
          let at = number_there (row_of rows b) k (are.readers_stand b k i inst read r is_inst is_read names) in
          (place_in (row_of rows b) k, inl at, there (place_in (row_of rows b) k) (inl at))
      by (inr (block, at, end)) =
          (length (row_of rows b), inr (block, at, end, refl), there (length (row_of rows b)) (inr (block, at, end, refl)))

  -- registers with one name in the function are the same
  apart : (r s : Register) → IsStanding rows r → IsStanding rows s → placed_register rows r ≡ placed_register rows s → r ≡ s
  apart (registers.Parameter p) (registers.Parameter q) x y same = same
  apart (registers.Parameter p) (registers.Result c m) x y same = absurd cc
  apart (registers.Result b n) (registers.Parameter q) x y same = absurd cc
  apart (registers.Result b n) (registers.Result c m) x y same =
      let block : b ≡ c = cc in
      let place : place_in (row_of rows b) n ≡ place_in (row_of rows c) m = cc in
      let first : slice_get (row_of rows c) (place_in (row_of rows c) m) ≡ Some n =
      subst (λ (k : ℕ). slice_get (row_of rows c) k ≡ Some n) place (subst (λ (d : ℕ). slice_get (row_of rows d) (place_in (row_of rows b) n) ≡ Some n) block (number_there (row_of rows b) n x)) in
      let number : n ≡ m = same_Some n m (sym first ∙ number_there (row_of rows c) m y) in
      cc

  standing_read : (b k i : ℕ) (s : Register) → IsNamedAt arena s b k i → IsStanding rows s
  standing_read b k i (registers.Parameter p) named = tt
  standing_read b k i (registers.Result c n) named = are.read_stands b k i c n named.0 named.1 named.2

  -- an operand with the name of a register is that register
  same_operand : (b k i : ℕ) (r : Register) → IsStanding rows r → (x : Operand) → ((s : Register) → x ≡ operands.Register s → IsNamedAt arena s b k i)
      → substituted_operand to x ≡ operands.Register (placed_register rows r) → x ≡ operands.Register r
  same_operand b k i r stands (operands.Register s) named is =
      let same_registers : operands.Register (placed_register rows s) ≡ operands.Register (placed_register rows r) = sym (placed-is rows s) ∙ is in
      let placed_same : placed_register rows s ≡ placed_register rows r = cc in
      ap operands.Register (apart s r (standing_read b k i s (named s refl)) stands placed_same)
  same_operand b k i r stands (operands.Number n) named is = absurd cc
  same_operand b k i r stands operands.Undef named is = absurd cc
  same_operand b k i r stands operands.Poison named is = absurd cc

  back : (r : Register) → IsStanding rows r → (b q i : ℕ) → IsNamedAt F (placed_register rows r) b q i → (k : ℕ) × SamePlace b k q × IsNamedAt arena r b k i
  back r stands b q i (read, is_read, names) = by (read_cases F b q i read is_read)
    where
      was : (k : ℕ) → SamePlace b k q → IsNamedAt arena r b k i
      was k same =
          let at : slice_get (map (substituted_operand to) (operands_at arena b k)) i ≡ Some (operands.Register (placed_register rows r)) =
          ap (λ (l : List Operand). slice_get l i) (sym (same_operands b k q same)) ∙ operand_named F b q i (placed_register rows r) (read, is_read, names) in
          let (x, at_x, is_x) = get_from_map (substituted_operand to) (operands_at arena b k) i (operands.Register (placed_register rows r)) at in
          named_operand arena b k i r (at_x ∙ ap Some (same_operand b k i r stands x (λ s is_s. get_from_map (λ (y : Read). y.operand) (reads_at arena b k) i (operands.Register s) (at_x ∙ ap Some is_s)) is_x))

      by : ((inst : Inst) × IsInst F b q inst) ⊎ ((block : Block) × IsBlock F b block × (q ≡ length block.insts)) → (k : ℕ) × SamePlace b k q × IsNamedAt arena r b k i
      by (inl (new, is_inst)) =
          let inst = inst_was b q new is_inst in
          (inst.n, inl inst.number, was inst.n (inl inst.number))
      by (inr (new, at, end)) =
          let (block, at_block, same) = block_back to rows arena.blocks b new at in
          let count : length new.insts ≡ length (row_of rows b) = ap (λ (x : Block). length x.insts) (sym same) ∙ as_many_insts to block.insts (row_of rows b) (known_in b block at_block) in
          let last : q ≡ length (row_of rows b) = end ∙ count in
          (length block.insts, inr (block, at_block, refl, last), was (length block.insts) (inr (block, at_block, refl, last)))

  -- ---- registers with exactly one use

  pub used_once_on : (r : Register) → IsStanding rows r → IsUsedOnce arena r → IsUsedOnce F (placed_register rows r)
  used_once_on r stands = once_on arena F r (placed_register rows r) SamePlace (on r) (back r stands) one_place

  pub used_once_back : (r : Register) → IsStanding rows r → IsUsedOnce F (placed_register rows r) → IsUsedOnce arena r
  used_once_back r stands = once_on F arena (placed_register rows r) r (λ b q k. SamePlace b k q) (back r stands) (on r) (λ b q k j x y. one_number b q k j x y)
