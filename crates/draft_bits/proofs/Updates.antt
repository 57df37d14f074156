-- What is known of a draft is set right place by place: what stands in a reached block and doesn't wait is right.
use Rattle.draft_bits.proofs.Common.{◌≡◌, ◌⊎◌, ℕ, ◌<◌, List, length, Some, refl, sym, ap, subst, ◌∙◌, arith, inl, inr, eq-eqb, ne_eqb, Contains, slice_get, unwrap_or, cases_eq, cases_has, end_of-is, slice_get_within, some_at, stands_there, Function, Inst, Operand, IsInst, IsPhi, Read, reads_of, KnownBit, known_operand, known_result, unknown, arena_of, Draft, DraftBits, AreBitsBefore, AreBitsOf, AreGrown, HasEntries, HasSameBits, IsIdle, IsRight, IsUpdating, IsWhole, StandsReached, facts_at, results_at, Has, Place, Rows}
use Rattle.ir_core.specs.declared.operand.Operand.TheVariants as operands
use Rattle.ir_core.specs.declared.operand.Register.TheVariants as registers
use Rattle.places.specs.Worklist.{WorklistView}
use Rattle.draft_bits.proofs.Made.{result_alike}

operand_same : (b : ℕ) (results results' : List (List KnownBit)) (N : ℕ) (x : Operand) → ((m : ℕ) → x ≡ operands.Register (registers.Result b m) → slice_get results' m ≡ slice_get results m)
    → known_operand b results N x ≡ known_operand b results' N x
operand_same b results results' N (operands.Number n) same = refl
operand_same b results results' N operands.Undef same = refl
operand_same b results results' N operands.Poison same = refl
operand_same b results results' N (operands.Register (registers.Parameter p)) same = refl
operand_same b results results' N (operands.Register (registers.Result c m)) same = elim (cases_eq c b) [
  | inr other ↦ rw (ne_eqb c b other) refl
  | inl here ↦
      let entry = same m (ap (λ (d : ℕ). operands.Register (registers.Result d m)) here) in
      rw (here, eq-eqb b b refl) (ap (λ o. unwrap_or o (unknown N)) (sym entry))
]

-- what an instruction reads of its block
abbrev pub ReadsOfItsBlock : Function → ℕ → ℕ → Inst → ℕ → Type 0
ReadsOfItsBlock f b n inst m = ¬ IsPhi inst.op × (i : ℕ) × (r : Read) × (slice_get (reads_of f b n inst.width inst.op) i ≡ Some r) × (r.operand ≡ operands.Register (registers.Result b m))

-- the table says the same of an instruction where the same is known of what it reads
pub table_same : (f : Function) (b n : ℕ) (inst : Inst) (results results' : List (List KnownBit)) → ((m : ℕ) → ReadsOfItsBlock f b n inst m → slice_get results' m ≡ slice_get results m)
    → known_result (known_operand b results) inst.width inst.op ≡ known_result (known_operand b results') inst.width inst.op
table_same f b n inst results results' same =
    result_alike (known_operand b results) (known_operand b results') f b n inst.width inst.op (λ no_phi i r at. operand_same b results results' r.width r.operand (λ m reads. same m (no_phi, i, r, at, reads)))

-- so what is right stays right
pub right_stays : (f : Function) (b n : ℕ) (inst : Inst) (results results' : List (List KnownBit)) → slice_get results' n ≡ slice_get results n
    → ((m : ℕ) → ReadsOfItsBlock f b n inst m → slice_get results' m ≡ slice_get results m) → IsRight b results n inst → IsRight b results' n inst
right_stays f b n inst results results' entry same right = entry ∙ right ∙ ap Some (table_same f b n inst results results' same)

-- at first, where the rows have grown, and all touched places wait that stand
module _ (d : Draft) (touched : List Place) (waiting : Rows) (old bits : DraftBits) (whole : IsWhole d) (before : AreBitsBefore d touched old) (grown : AreGrown old bits)
    (entries : (b n : ℕ) → Contains touched (record { block = b; number = n }) → HasEntries d bits b)
    (only : (b n : ℕ) → Has waiting b n → StandsReached d b n × Contains touched (record { block = b; number = n }))
    (waits : (b n : ℕ) → StandsReached d b n → Contains touched (record { block = b; number = n }) → Has waiting b n) where
  right_before : (b n : ℕ) (inst : Inst) → StandsReached d b n → ¬ Has waiting b n → IsInst d.arena b n inst → IsRight b (results_at bits b) n inst
  right_before b n inst stands away is =
      let free : ¬ Contains touched (record { block = b; number = n }) = λ has. away (waits b n stands has) in
      let was = before.right b n inst stands free is in
      right_stays (arena_of d) b n inst (results_at old b) (results_at bits b) (grown.kept b n (slice_get_within (results_at old b) n _ was))
      (λ m (no_phi, i, r, at, reads). grown.kept b m (before.reads b n i m inst r stands free is no_phi at reads)) was

  entry_there : (b n : ℕ) → StandsReached d b n → n < length (results_at bits b)
  entry_there b n stands =
      let (block, at, within) = stands_there d whole b n stands.1 in
      let (inst, is_inst) = some_at block.insts n within in
      elim (cases_has waiting b n) [
        | inl has ↦ let end = end_of-is d.arena b block at in let room = entries b n (only b n has).1 in omega (arith, within, end, room)
        | inr away ↦ slice_get_within (results_at bits b) n _ (right_before b n inst stands away (record { block = block; is_block = at; is_inst = is_inst }))
      ]

  pub begun : IsUpdating d waiting bits
  begun = record {
    as_many = grown.as_many ∙ before.as_many;
    blocks = λ b within. grown.blocks b ∙ before.blocks b within;
    stand = λ b n has. (only b n has).0;
    right = right_before;
    room = entry_there;
  }

-- at last
pub finished : (d : Draft) (waiting : Rows) (bits : DraftBits) (left : WorklistView) → IsUpdating d waiting bits → ((b n : ℕ) → ¬ Has waiting b n) → IsIdle (length bits.blocks.items) left
    → AreBitsOf d (record { blocks = bits.blocks; none = bits.none; waiting = Some left })
finished d waiting bits left are none idle = record { as_many = are.as_many; blocks = are.blocks; right = λ b n inst stands is. are.right b n inst stands (none b n) is; idle = idle }

-- A place is set right whose instruction doesn't read its own result. What reads it, and is no phi, waits, or the
-- result has the bits that it had.
module _ (d : Draft) (waiting left : Rows) (p : Place) (old bits : DraftBits) (are : IsUpdating d waiting old)
    (as_many : length bits.blocks.items ≡ length old.blocks.items) (blocks : (b : ℕ) → (facts_at bits b).block ≡ (facts_at old b).block)
    (rows : (b : ℕ) → length (results_at bits b) ≡ length (results_at old b))
    (others : (b n : ℕ) → ¬ ((b ≡ p.block) × (n ≡ p.number)) → HasSameBits old bits b n)
    (right_here : (inst : Inst) → IsInst (arena_of d) p.block p.number inst
    → slice_get (results_at bits p.block) p.number ≡ Some (known_result (known_operand p.block (results_at old p.block)) inst.width inst.op))
    (no_loop : (inst : Inst) → IsInst (arena_of d) p.block p.number inst → ¬ ReadsOfItsBlock (arena_of d) p.block p.number inst p.number)
    (stand : (b n : ℕ) → Has left b n → StandsReached d b n)
    (still : (b n : ℕ) → ¬ ((b ≡ p.block) × (n ≡ p.number)) → Has waiting b n → Has left b n)
    (told : HasSameBits old bits p.block p.number
    ⊎ ((n : ℕ) (inst : Inst) → StandsReached d p.block n → IsInst (arena_of d) p.block n inst → ReadsOfItsBlock (arena_of d) p.block n inst p.number → Has left p.block n)) where
  abbrev IsHere : ℕ → ℕ → Type 0
  IsHere b n = (b ≡ p.block) × (n ≡ p.number)

  -- what an instruction reads that doesn't wait has the bits that it had
  reads_kept : (b n : ℕ) (inst : Inst) → StandsReached d b n → ¬ Has left b n → IsInst (arena_of d) b n inst → (m : ℕ) → ReadsOfItsBlock (arena_of d) b n inst m → HasSameBits old bits b m
  reads_kept b n inst stands away is m reads = elim (cases_eq b p.block) [
    | inr other ↦ others b m (λ here. other here.0)
    | inl block ↦ elim (cases_eq m p.number) [
      | inr other ↦ others b m (λ here. other here.1)
      | inl number ↦ elim told [
        | inl same ↦ rw (block, number) same
        | inr wait ↦
            absurd (away (subst (λ c. Has left c n) (sym block)
            (wait n inst (subst (λ c. StandsReached d c n) block stands) (subst (λ c. IsInst (arena_of d) c n inst) block is)
            (subst (λ k. ReadsOfItsBlock (arena_of d) p.block n inst k) number (subst (λ c. ReadsOfItsBlock (arena_of d) c n inst m) block reads)))))
      ]
    ]
  ]

  right_there : (b n : ℕ) (inst : Inst) → IsHere b n → IsInst (arena_of d) b n inst → IsRight b (results_at bits b) n inst
  right_there b n inst (block, number) is =
      let here : IsInst (arena_of d) p.block p.number inst = subst (λ k. IsInst (arena_of d) p.block k inst) number (subst (λ c. IsInst (arena_of d) c n inst) block is) in
      let said = table_same (arena_of d) p.block p.number inst (results_at old p.block) (results_at bits p.block)
      (λ m reads. others p.block m (λ (same, number). no_loop inst here (subst (λ k. ReadsOfItsBlock (arena_of d) p.block p.number inst k) number reads))) in
      rw (block, number) (right_here inst here ∙ ap Some said)

  right_elsewhere : (b n : ℕ) (inst : Inst) → ¬ IsHere b n → StandsReached d b n → ¬ Has left b n → IsInst (arena_of d) b n inst → IsRight b (results_at bits b) n inst
  right_elsewhere b n inst other stands away is =
      right_stays (arena_of d) b n inst (results_at old b) (results_at bits b) (others b n other) (reads_kept b n inst stands away is) (are.right b n inst stands (λ has. away (still b n other has)) is)

  pub updated : IsUpdating d left bits
  updated = record {
    as_many = as_many ∙ are.as_many;
    blocks = λ b within. blocks b ∙ are.blocks b within;
    stand = stand;
    right = λ b n inst stands away is. elim (cases_eq b p.block) [
      | inr other ↦ right_elsewhere b n inst (λ here. other here.0) stands away is
      | inl block ↦ elim (cases_eq n p.number) [
        | inr other ↦ right_elsewhere b n inst (λ here. other here.1) stands away is
        | inl number ↦ right_there b n inst (block, number) is
      ]
    ];
    room = λ b n stands. subst (λ (k : ℕ). n < k) (sym (rows b)) (are.room b n stands);
  }

-- where the place that was set right has the bits that it had, all have
pub none_differs : (p : Place) (old bits : DraftBits) → ((b n : ℕ) → ¬ ((b ≡ p.block) × (n ≡ p.number)) → HasSameBits old bits b n) → HasSameBits old bits p.block p.number → (b n : ℕ) → HasSameBits old bits b n
none_differs p old bits others here b n = elim (cases_eq b p.block) [
  | inr other ↦ others b n (λ is. other is.0)
  | inl block ↦ elim (cases_eq n p.number) [
    | inr other ↦ others b n (λ is. other is.1)
    | inl number ↦ subst (λ (c : ℕ). HasSameBits old bits c n) (sym block) (subst (HasSameBits old bits p.block) (sym number) here)
  ]
]

-- where there is no block, nothing is wrong
pub nothing_kept : (d : Draft) (touched : List Place) (bits : DraftBits) → length bits.blocks.items ≡ 0 → AreBitsBefore d touched bits → AreBitsOf d bits
nothing_kept d touched bits none before = record {
  as_many = before.as_many;
  blocks = before.blocks;
  right = λ b n inst stands is.
      let within = slice_get_within d.arena.blocks b is.block is.is_block in
      absurd (omega (arith, within, none, before.as_many));
  idle = before.idle;
}
