-- The count of a register is how many uses of it there are: the list of all its uses, in order.
use Rattle.readers.proofs.Common.{◌≡◌, ◌⊎◌, inl, inr, ℕ, zero, suc, ◌+◌, ◌<◌, Bool, true, cond, List, [], ◌∷◌, ◌++◌, length, get_or, Some, refl, sym, ap, subst, ◌∙◌, arith, length-append, zero-add, AllPairs, Contains, option_map, slice_get, sum_by, cases_Bool, Contains-append_cases, Contains-append_left, Contains-append_right, Contains-get_or, sum_by-cons, same_Some, slice_get-map, slice_get_within, IsBlock, IsKnown, Read, reads_at, Block, Function, Inst, Operand, Register, operands_of, operands_at_end, contains_first, contains_later, end_of-is, end_reads, inst_reads, AreCounts, HasNumber, count_of, IsNamedAt, IsUseCount, StandsBefore, UsePlace, Uses, use_counts_are_one, names, times, times_in, times_in_function}
use Rattle.ir_core.specs.declared.operand.Operand.TheVariants as operands
use Rattle.readers.proofs.Counting.{one_if}
use Rattle.readers.proofs.Naming.{names_is, names_self}
use Rattle.readers.proofs.Reading.{read_at_written, read_in_block, read_in_inst, written}

-- ---- places in order

abbrev use_at : ℕ → ℕ → ℕ → UsePlace
use_at b k i = (b, k, i)

abbrev InOrder : List UsePlace → Type 0
InOrder [] = Unit {0}
InOrder (x ∷ xs) = ((y : UsePlace) → Contains xs y → StandsBefore x y) × InOrder xs

in_order_append : (xs ys : List UsePlace) → InOrder xs → InOrder ys → ((x y : UsePlace) → Contains xs x → Contains ys y → StandsBefore x y) → InOrder (xs ++ ys)
in_order_append [] ys p q across = q
in_order_append (x ∷ xs) ys p q across = (
  λ y h. elim (Contains-append_cases xs ys y h) [ inl here ↦ p.0 y here | inr there ↦ across x y (contains_first x xs) there ],
  in_order_append xs ys p.1 q (λ w y there too. across w y (contains_later x xs w there) too),
)

all_pairs : (xs : List UsePlace) → InOrder xs → AllPairs StandsBefore xs
all_pairs [] p i j d less within = absurd (omega arith)
all_pairs (x ∷ xs) p zero zero d less within = absurd (omega arith)
all_pairs (x ∷ xs) p zero (suc j) d less within = p.0 (get_or xs j d) (Contains-get_or xs j d (omega arith))
all_pairs (x ∷ xs) p (suc i) zero d less within = absurd (omega arith)
all_pairs (x ∷ xs) p (suc i) (suc j) d less within = all_pairs xs p.1 i j d (omega arith) (omega arith)

nothing_in : (x : UsePlace) → Contains {X = UsePlace} [] x → ⊥
nothing_in x (k, within, is) = absurd (omega arith)

first_or_later : (x : UsePlace) (xs : List UsePlace) (y : UsePlace) → Contains (x ∷ xs) y → (y ≡ x) ⊎ Contains xs y
first_or_later x xs y (zero, within, is) = inl (sym is)
first_or_later x xs y (suc k, within, is) = inr (k, omega arith, is)

module _ (r : Register) where
  -- ---- of some operands of one place, from operand i on

  named_from : ℕ → ℕ → ℕ → List Operand → List UsePlace
  named_from b k i [] = []
  named_from b k i (a ∷ reads) = cond (names r a) ((b, k, i) ∷ named_from b k (suc i) reads) (named_from b k (suc i) reads)

  -- the use is of one of these operands, which is the register
  abbrev IsNamed : ℕ → ℕ → ℕ → List Operand → UsePlace → Type 0
  IsNamed b k i reads z = (j : ℕ) × (z ≡ (b, k, i + j)) × (slice_get reads j ≡ Some (operands.Register r))

  named_later : (b k i : ℕ) (a : Operand) (reads : List Operand) (z : UsePlace) → IsNamed b k (suc i) reads z → IsNamed b k i (a ∷ reads) z
  named_later b k i a reads z (j, is, at) = (suc j, is ∙ ap (λ (n : ℕ). use_at b k n) (let e : suc i + j ≡ i + suc j = omega arith in e), at)

  named_first : (b k i : ℕ) (a : Operand) (reads : List Operand) (z : UsePlace) → names r a ≡ true → z ≡ (b, k, i) → IsNamed b k i (a ∷ reads) z
  named_first b k i a reads z named is =
      (0, is ∙ ap (λ (n : ℕ). use_at b k n) (let e : i ≡ i + 0 = omega arith in e), ap (λ (x : Operand). Some x) (names_is r a named))

  is_named : (b k i : ℕ) (reads : List Operand) (z : UsePlace) → Contains (named_from b k i reads) z → IsNamed b k i reads z
  unfolding named_from
  is_named b k i [] z h = absurd (nothing_in z h)
  is_named b k i (a ∷ reads) z h = elim (cases_Bool (names r a)) [
    | inl named ↦
        let here : Contains ((b, k, i) ∷ named_from b k (suc i) reads) z = subst (λ (t : Bool). Contains (cond t ((b, k, i) ∷ named_from b k (suc i) reads) (named_from b k (suc i) reads)) z) named h in
        elim (first_or_later (b, k, i) (named_from b k (suc i) reads) z here) [
          | inl is ↦ named_first b k i a reads z named is
          | inr later ↦ named_later b k i a reads z (is_named b k (suc i) reads z later)
        ]
    | inr other ↦
        let later : Contains (named_from b k (suc i) reads) z = subst (λ (t : Bool). Contains (cond t ((b, k, i) ∷ named_from b k (suc i) reads) (named_from b k (suc i) reads)) z) other h in
        named_later b k i a reads z (is_named b k (suc i) reads z later)
  ]

  named_is_listed : (b k i : ℕ) (reads : List Operand) (j : ℕ) → slice_get reads j ≡ Some (operands.Register r) → Contains (named_from b k i reads) (b, k, i + j)
  unfolding named_from
  named_is_listed b k i [] j at = absurd cc
  named_is_listed b k i (a ∷ reads) zero at =
      let named : names r a ≡ true = names_self r a (same_Some a (operands.Register r) at) in
      let e : i ≡ i + 0 = omega arith in
      subst (λ (t : Bool). Contains (cond t ((b, k, i) ∷ named_from b k (suc i) reads) (named_from b k (suc i) reads)) (b, k, i + 0)) (sym named)
      (subst (λ (n : ℕ). Contains ((b, k, i) ∷ named_from b k (suc i) reads) (b, k, n)) e (contains_first (b, k, i) (named_from b k (suc i) reads)))
  named_is_listed b k i (a ∷ reads) (suc j) at =
      let e : suc i + j ≡ i + suc j = omega arith in
      let later : Contains (named_from b k (suc i) reads) (b, k, i + suc j) = subst (λ (n : ℕ). Contains (named_from b k (suc i) reads) (b, k, n)) e (named_is_listed b k (suc i) reads j at) in
      elim (cases_Bool (names r a)) [
        | inl named ↦ subst (λ (t : Bool). Contains (cond t ((b, k, i) ∷ named_from b k (suc i) reads) (named_from b k (suc i) reads)) (b, k, i + suc j)) (sym named)
            (contains_later (b, k, i) (named_from b k (suc i) reads) (b, k, i + suc j) later)
        | inr other ↦ subst (λ (t : Bool). Contains (cond t ((b, k, i) ∷ named_from b k (suc i) reads) (named_from b k (suc i) reads)) (b, k, i + suc j)) (sym other) later
      ]

  named_in_order : (b k i : ℕ) (reads : List Operand) → InOrder (named_from b k i reads)
  unfolding named_from
  named_in_order b k i [] = tt
  named_in_order b k i (a ∷ reads) =
      let rest : InOrder (named_from b k (suc i) reads) = named_in_order b k (suc i) reads in
      let first : (y : UsePlace) → Contains (named_from b k (suc i) reads) y → StandsBefore (b, k, i) y =
      λ y h. let (j, is, at) = is_named b k (suc i) reads y h in subst (λ (z : UsePlace). StandsBefore (b, k, i) z) (sym is) (inr (refl, inr (refl, omega arith))) in
      elim (cases_Bool (names r a)) [
        | inl named ↦ subst (λ (t : Bool). InOrder (cond t ((b, k, i) ∷ named_from b k (suc i) reads) (named_from b k (suc i) reads))) (sym named) (first, rest)
        | inr other ↦ subst (λ (t : Bool). InOrder (cond t ((b, k, i) ∷ named_from b k (suc i) reads) (named_from b k (suc i) reads))) (sym other) rest
      ]

  named_count : (b k i : ℕ) (reads : List Operand) → length (named_from b k i reads) ≡ times r reads
  unfolding named_from
  named_count b k i [] = refl
  named_count b k i (a ∷ reads) =
      let rest = named_count b k (suc i) reads in
      let step = sum_by-cons (one_if r) a reads in
      elim (cases_Bool (names r a)) [
        | inl named ↦
            let now : length (named_from b k i (a ∷ reads)) ≡ suc (length (named_from b k (suc i) reads)) = ap (λ (t : Bool). length (cond t ((b, k, i) ∷ named_from b k (suc i) reads) (named_from b k (suc i) reads))) named in
            let one : one_if r a ≡ 1 = ap (λ (t : Bool). cond t 1 0) named in
            omega arith
        | inr other ↦
            let now : length (named_from b k i (a ∷ reads)) ≡ length (named_from b k (suc i) reads) = ap (λ (t : Bool). length (cond t ((b, k, i) ∷ named_from b k (suc i) reads) (named_from b k (suc i) reads))) other in
            let none : one_if r a ≡ 0 = ap (λ (t : Bool). cond t 1 0) other in
            omega arith
      ]

  -- ---- of the instructions of a block from place k on

  insts_from : ℕ → ℕ → List Inst → List UsePlace
  insts_from b k [] = []
  insts_from b k (inst ∷ insts) = named_from b k 0 (operands_of inst.op) ++ insts_from b (suc k) insts

  -- the use is by one of these instructions
  record IsInInst (b k : ℕ) (insts : List Inst) (z : UsePlace) : Type 0 where
    place : ℕ
    operand : ℕ
    inst : Inst
    is : z ≡ (b, k + place, operand)
    at : slice_get insts place ≡ Some inst
    reads : slice_get (operands_of inst.op) operand ≡ Some (operands.Register r)

  in_inst : (b k : ℕ) (insts : List Inst) (z : UsePlace) → Contains (insts_from b k insts) z → IsInInst b k insts z
  unfolding insts_from
  in_inst b k [] z h = absurd (nothing_in z h)
  in_inst b k (inst ∷ insts) z h = elim (Contains-append_cases (named_from b k 0 (operands_of inst.op)) (insts_from b (suc k) insts) z h) [
    | inl first ↦
        let (j, is, at) = is_named b k 0 (operands_of inst.op) z first in
        let e : k ≡ k + 0 = omega arith in
        record { place = 0; operand = j; inst = inst; is = is ∙ ap (λ (n : ℕ). use_at b k n) (zero-add j) ∙ ap (λ (n : ℕ). use_at b n j) e; at = refl; reads = at }
    | inr later ↦
        let found = in_inst b (suc k) insts z later in
        let e : suc k + found.place ≡ k + suc found.place = omega arith in
        record { place = suc found.place; operand = found.operand; inst = found.inst; is = found.is ∙ ap (λ (n : ℕ). use_at b n found.operand) e; at = found.at; reads = found.reads }
  ]

  inst_is_listed : (b k : ℕ) (insts : List Inst) (m j : ℕ) (inst : Inst) → slice_get insts m ≡ Some inst → slice_get (operands_of inst.op) j ≡ Some (operands.Register r) → Contains (insts_from b k insts) (b, k + m, j)
  unfolding insts_from
  inst_is_listed b k [] m j inst at reads = absurd cc
  inst_is_listed b k (i ∷ insts) zero j inst at reads =
      let same : i ≡ inst = same_Some i inst at in
      let e : k ≡ k + 0 = omega arith in
      let here : Contains (named_from b k 0 (operands_of i.op)) (b, k, 0 + j) = named_is_listed b k 0 (operands_of i.op) j (ap (λ (x : Inst). slice_get (operands_of x.op) j) same ∙ reads) in
      Contains-append_left (named_from b k 0 (operands_of i.op)) (insts_from b (suc k) insts) (b, k + 0, j)
      (subst (λ (n : ℕ). Contains (named_from b k 0 (operands_of i.op)) (b, n, j)) e (subst (λ (n : ℕ). Contains (named_from b k 0 (operands_of i.op)) (b, k, n)) (zero-add j) here))
  inst_is_listed b k (i ∷ insts) (suc m) j inst at reads =
      let e : suc k + m ≡ k + suc m = omega arith in
      Contains-append_right (named_from b k 0 (operands_of i.op)) (insts_from b (suc k) insts) (b, k + suc m, j)
      (subst (λ (n : ℕ). Contains (insts_from b (suc k) insts) (b, n, j)) e (inst_is_listed b (suc k) insts m j inst at reads))

  insts_in_order : (b k : ℕ) (insts : List Inst) → InOrder (insts_from b k insts)
  unfolding insts_from
  insts_in_order b k [] = tt
  insts_in_order b k (inst ∷ insts) = in_order_append (named_from b k 0 (operands_of inst.op)) (insts_from b (suc k) insts) (named_in_order b k 0 (operands_of inst.op)) (insts_in_order b (suc k) insts)
      (λ x y here there.
      let (j, is, at) = is_named b k 0 (operands_of inst.op) x here in
      let found = in_inst b (suc k) insts y there in
      subst (λ (z : UsePlace). StandsBefore z y) (sym is) (subst (λ (z : UsePlace). StandsBefore (b, k, 0 + j) z) (sym found.is) (inr (refl, inl (omega arith)))))

  insts_count : (b k : ℕ) (insts : List Inst) → length (insts_from b k insts) ≡ sum_by (λ (inst : Inst). times r (operands_of inst.op)) insts
  unfolding insts_from
  insts_count b k [] = refl
  insts_count b k (inst ∷ insts) =
      let both = length-append (named_from b k 0 (operands_of inst.op)) (insts_from b (suc k) insts) in
      let first = named_count b k 0 (operands_of inst.op) in
      let rest = insts_count b (suc k) insts in
      let step = sum_by-cons (λ (i : Inst). times r (operands_of i.op)) inst insts in
      omega arith

  -- ---- of a block

  block_uses : ℕ → Block → List UsePlace
  block_uses b block = insts_from b 0 block.insts ++ named_from b (length block.insts) 0 (operands_at_end block.end)

  -- the use is by an instruction of the block or by its terminator
  data IsInBlock (b : ℕ) (block : Block) (z : UsePlace) : Type 0 where
    by_inst : (k j : ℕ) (inst : Inst) → z ≡ (b, k, j) → slice_get block.insts k ≡ Some inst → slice_get (operands_of inst.op) j ≡ Some (operands.Register r) → IsInBlock b block z
    by_end : (j : ℕ) → z ≡ (b, length block.insts, j) → slice_get (operands_at_end block.end) j ≡ Some (operands.Register r) → IsInBlock b block z

  in_block : (b : ℕ) (block : Block) (z : UsePlace) → Contains (block_uses b block) z → IsInBlock b block z
  unfolding block_uses
  in_block b block z h = elim (Contains-append_cases (insts_from b 0 block.insts) (named_from b (length block.insts) 0 (operands_at_end block.end)) z h) [
    | inl first ↦
        let found = in_inst b 0 block.insts z first in
        by_inst found.place found.operand found.inst (found.is ∙ ap (λ (n : ℕ). use_at b n found.operand) (zero-add found.place)) found.at found.reads
    | inr last ↦
        let (j, is, at) = is_named b (length block.insts) 0 (operands_at_end block.end) z last in
        by_end j (is ∙ ap (λ (n : ℕ). use_at b (length block.insts) n) (zero-add j)) at
  ]

  block_inst_listed : (b : ℕ) (block : Block) (k j : ℕ) (inst : Inst) → slice_get block.insts k ≡ Some inst → slice_get (operands_of inst.op) j ≡ Some (operands.Register r) → Contains (block_uses b block) (b, k, j)
  unfolding block_uses
  block_inst_listed b block k j inst at reads =
      Contains-append_left (insts_from b 0 block.insts) (named_from b (length block.insts) 0 (operands_at_end block.end)) (b, k, j)
      (subst (λ (n : ℕ). Contains (insts_from b 0 block.insts) (b, n, j)) (zero-add k) (inst_is_listed b 0 block.insts k j inst at reads))

  block_end_listed : (b : ℕ) (block : Block) (j : ℕ) → slice_get (operands_at_end block.end) j ≡ Some (operands.Register r) → Contains (block_uses b block) (b, length block.insts, j)
  unfolding block_uses
  block_end_listed b block j reads =
      Contains-append_right (insts_from b 0 block.insts) (named_from b (length block.insts) 0 (operands_at_end block.end)) (b, length block.insts, j)
      (subst (λ (n : ℕ). Contains (named_from b (length block.insts) 0 (operands_at_end block.end)) (b, length block.insts, n)) (zero-add j)
      (named_is_listed b (length block.insts) 0 (operands_at_end block.end) j reads))

  block_in_order : (b : ℕ) (block : Block) → InOrder (block_uses b block)
  unfolding block_uses
  block_in_order b block = in_order_append (insts_from b 0 block.insts) (named_from b (length block.insts) 0 (operands_at_end block.end))
      (insts_in_order b 0 block.insts) (named_in_order b (length block.insts) 0 (operands_at_end block.end))
      (λ x y here there.
      let found = in_inst b 0 block.insts x here in
      let (j, is, at) = is_named b (length block.insts) 0 (operands_at_end block.end) y there in
      let within = slice_get_within block.insts found.place found.inst found.at in
      subst (λ (z : UsePlace). StandsBefore z y) (sym found.is) (subst (λ (z : UsePlace). StandsBefore (b, 0 + found.place, found.operand) z) (sym is) (inr (refl, inl (omega arith)))))

  block_count : (b : ℕ) (block : Block) → length (block_uses b block) ≡ times_in r block
  unfolding block_uses
  block_count b block =
      let both = length-append (insts_from b 0 block.insts) (named_from b (length block.insts) 0 (operands_at_end block.end)) in
      let first = insts_count b 0 block.insts in
      let last = named_count b (length block.insts) 0 (operands_at_end block.end) in
      omega arith

  -- ---- of the blocks from block b on

  uses_from : ℕ → List Block → List UsePlace
  uses_from b [] = []
  uses_from b (block ∷ blocks) = block_uses b block ++ uses_from (suc b) blocks

  record IsInBlocks (b : ℕ) (blocks : List Block) (z : UsePlace) : Type 0 where
    index : ℕ
    block : Block
    at : slice_get blocks index ≡ Some block
    inside : IsInBlock (b + index) block z

  in_blocks : (b : ℕ) (blocks : List Block) (z : UsePlace) → Contains (uses_from b blocks) z → IsInBlocks b blocks z
  unfolding uses_from
  in_blocks b [] z h = absurd (nothing_in z h)
  in_blocks b (block ∷ blocks) z h = elim (Contains-append_cases (block_uses b block) (uses_from (suc b) blocks) z h) [
    | inl first ↦
        let e : b ≡ b + 0 = omega arith in
        record { index = 0; block = block; at = refl; inside = subst (λ (n : ℕ). IsInBlock n block z) e (in_block b block z first) }
    | inr later ↦
        let found = in_blocks (suc b) blocks z later in
        let e : suc b + found.index ≡ b + suc found.index = omega arith in
        record { index = suc found.index; block = found.block; at = found.at; inside = subst (λ (n : ℕ). IsInBlock n found.block z) e found.inside }
  ]

  block_is_listed : (b : ℕ) (blocks : List Block) (m : ℕ) (block : Block) (z : UsePlace) → slice_get blocks m ≡ Some block → Contains (block_uses (b + m) block) z → Contains (uses_from b blocks) z
  unfolding uses_from
  block_is_listed b [] m block z at h = absurd cc
  block_is_listed b (first ∷ blocks) zero block z at h =
      let same : first ≡ block = same_Some first block at in
      let e : b + 0 ≡ b = omega arith in
      Contains-append_left (block_uses b first) (uses_from (suc b) blocks) z
      (subst (λ (x : Block). Contains (block_uses b x) z) (sym same) (subst (λ (n : ℕ). Contains (block_uses n block) z) e h))
  block_is_listed b (first ∷ blocks) (suc m) block z at h =
      let e : b + suc m ≡ suc b + m = omega arith in
      Contains-append_right (block_uses b first) (uses_from (suc b) blocks) z
      (block_is_listed (suc b) blocks m block z at (subst (λ (n : ℕ). Contains (block_uses n block) z) e h))

  -- uses in a block stand before those in a later one
  stands_before : (b c : ℕ) (block other : Block) (x y : UsePlace) → b < c → IsInBlock b block x → IsInBlock c other y → StandsBefore x y
  stands_before b c block other x y less (by_inst k j inst is at reads) (by_inst l m inst' is' at' reads') = subst (λ (z : UsePlace). StandsBefore z y) (sym is) (subst (λ (z : UsePlace). StandsBefore (b, k, j) z) (sym is') (inl less))
  stands_before b c block other x y less (by_inst k j inst is at reads) (by_end m is' reads') = subst (λ (z : UsePlace). StandsBefore z y) (sym is) (subst (λ (z : UsePlace). StandsBefore (b, k, j) z) (sym is') (inl less))
  stands_before b c block other x y less (by_end j is reads) (by_inst l m inst' is' at' reads') = subst (λ (z : UsePlace). StandsBefore z y) (sym is) (subst (λ (z : UsePlace). StandsBefore (b, length block.insts, j) z) (sym is') (inl less))
  stands_before b c block other x y less (by_end j is reads) (by_end m is' reads') = subst (λ (z : UsePlace). StandsBefore z y) (sym is) (subst (λ (z : UsePlace). StandsBefore (b, length block.insts, j) z) (sym is') (inl less))

  uses_in_order : (b : ℕ) (blocks : List Block) → InOrder (uses_from b blocks)
  unfolding uses_from
  uses_in_order b [] = tt
  uses_in_order b (block ∷ blocks) = in_order_append (block_uses b block) (uses_from (suc b) blocks) (block_in_order b block) (uses_in_order (suc b) blocks)
      (λ x y here there.
      let found = in_blocks (suc b) blocks y there in
      stands_before b (suc b + found.index) block found.block x y (omega arith) (in_block b block x here) found.inside)

  uses_count : (b : ℕ) (blocks : List Block) → length (uses_from b blocks) ≡ sum_by (times_in r) blocks
  unfolding uses_from
  uses_count b [] = refl
  uses_count b (block ∷ blocks) =
      let both = length-append (block_uses b block) (uses_from (suc b) blocks) in
      let first = block_count b block in
      let rest = uses_count (suc b) blocks in
      let step = sum_by-cons (times_in r) block blocks in
      omega arith

  -- ---- of a function

  module _ (f : Function) where
    named_at : (c : ℕ) (block : Block) (z : UsePlace) → IsBlock f c block → IsInBlock c block z → IsNamedAt f r z.0 z.1 z.2
    named_at c block z at (by_inst k j inst is here reads) =
        let reading = inst_reads f c k block inst at here in
        let found : IsNamedAt f r c k j = read_at_written f c k j (operands.Register r) (ap (λ (l : List Operand). slice_get l j) reading ∙ reads) in
        subst (λ (y : UsePlace). IsNamedAt f r y.0 y.1 y.2) (sym is) found
    named_at c block z at (by_end j is reads) =
        let here : written f c (length block.insts) ≡ operands_at_end block.end = ap (written f c) (sym (end_of-is f c block at)) ∙ end_reads f c block at in
        let found : IsNamedAt f r c (length block.insts) j = read_at_written f c (length block.insts) j (operands.Register r) (ap (λ (l : List Operand). slice_get l j) here ∙ reads) in
        subst (λ (y : UsePlace). IsNamedAt f r y.0 y.1 y.2) (sym is) found

    -- a read of the register is of one of the operands that are read there
    named_operand : (c k j : ℕ) (reads : List Operand) → written f c k ≡ reads → IsNamedAt f r c k j → slice_get reads j ≡ Some (operands.Register r)
    named_operand c k j reads is (read, at, names) =
        ap (λ (l : List Operand). slice_get l j) (sym is) ∙ slice_get-map (λ (x : Read). x.operand) (reads_at f c k) j ∙ ap (option_map (λ (x : Read). x.operand)) at ∙ ap (λ (a : Operand). Some a) names

    named_in_block : (c k j : ℕ) (block : Block) → IsBlock f c block → IsNamedAt f r c k j → Contains (block_uses c block) (c, k, j)
    named_in_block c k j block at named = elim (read_in_inst f c k j named.0 block at named.1) [
      | inl (inst, here) ↦ block_inst_listed c block k j inst here (named_operand c k j (operands_of inst.op) (inst_reads f c k block inst at here) named)
      | inr last ↦
          let named_last : IsNamedAt f r c (length block.insts) j = subst (λ (n : ℕ). IsNamedAt f r c n j) last named in
          let here : written f c (length block.insts) ≡ operands_at_end block.end = ap (written f c) (sym (end_of-is f c block at)) ∙ end_reads f c block at in
          subst (λ (n : ℕ). Contains (block_uses c block) (c, n, j)) (sym last) (block_end_listed c block j (named_operand c (length block.insts) j (operands_at_end block.end) here named_last))
    ]

    all_named : (b k i : ℕ) → IsNamedAt f r b k i → Contains (uses_from 0 f.blocks) (b, k, i)
    all_named b k i named =
        let (block, at) = read_in_block f b k i named.0 named.1 in
        block_is_listed 0 f.blocks b block (b, k, i) at
        (subst (λ (n : ℕ). Contains (block_uses n block) (b, k, i)) (sym (zero-add b)) (named_in_block b k i block at named))

    only_named : (z : UsePlace) → Contains (uses_from 0 f.blocks) z → IsNamedAt f r z.0 z.1 z.2
    only_named z h =
        let found = in_blocks 0 f.blocks z h in
        named_at found.index found.block z found.at (subst (λ (n : ℕ). IsInBlock n found.block z) (zero-add found.index) found.inside)

    pub use_count : IsUseCount f r (times_in_function r f)
    use_count = (
      uses_from 0 f.blocks,
      record {
        in_order = all_pairs (uses_from 0 f.blocks) (uses_in_order 0 f.blocks);
        each = λ b k i. (only_named (b, k, i), all_named b k i);
      },
      uses_count 0 f.blocks,
    )

-- exact counts of uses are these numbers
pub counts_are_times : (f : Function) (uses : Uses) → AreCounts f uses → (r : Register) → count_of uses r ≡ times_in_function r f
counts_are_times f uses counts r = use_counts_are_one f r (count_of uses r) (times_in_function r f) (counts.exact r) (use_count r f)

pub times_are_counts : (f : Function) (uses : Uses) → ((r : Register) → IsKnown f (operands.Register r) → HasNumber uses r) → ((r : Register) → count_of uses r ≡ times_in_function r f) → AreCounts f uses
times_are_counts f uses there same = record {
  there = there;
  exact = λ r. subst (λ (n : ℕ). IsUseCount f r n) (sym (same r)) (use_count r f);
}
