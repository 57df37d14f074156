-- The use lists of a function, place by place.
use Rattle.readers.proofs.Common.{◌≡◌, ◌⊎◌, ◌↔◌, inl, inr, ℕ, zero, suc, ◌+◌, ◌<◌, ◌≤◌, List, [], ◌∷◌, length, get_or, replicate, map, sym, ap, subst, ◌∙◌, arith, Contains, IsSome, option_map, slice_get, cases_eq, cases_lt, get_or-replicate, get_or_past, length-map, length-replicate, get_or_from_slice_get, same_Some, slice_get-map, slice_get_cases, slice_get_within, IsBlock, IsKnown, Read, IsRead, end_of, Block, Function, Parameter, Register, operands_at, none, AreListed, AreReadersOf, HasList, IsPlaceIn, IsReader, arena_place, listed_for, Place, Readers, end_of-is}
use Rattle.ir_core.specs.declared.operand.Operand.TheVariants as operands
use Rattle.ir_core.specs.declared.operand.Register.TheVariants as registers
use Rattle.readers.proofs.Changing.{known_has}
use Rattle.readers.proofs.Places.{known_reads}
use Rattle.readers.proofs.Reading.{reads_written, same_place, written_reads}

-- ---- lists without places

empty_at : {A : Type 0} (n p : ℕ) → get_or {A = List A} (replicate n []) p [] ≡ []
empty_at {A = A} n p = elim (cases_lt p n) [
  | inl less ↦ get_or-replicate {A = List A} n p [] [] less
  | inr past ↦ get_or_past {X = List A} (replicate n []) p [] (omega (arith, length-replicate {A = List A} n []))
]

known_parameter : (xs : List Parameter) (p : ℕ) → IsSome (option_map (λ (x : Parameter). x.width) (slice_get xs p)) → p < length xs
known_parameter [] p h = absurd cc
known_parameter (x ∷ xs) zero h = omega arith
known_parameter (x ∷ xs) (suc p) h = let lt : p < length xs = known_parameter xs p h in omega arith

module _ (f : Function) (readers : Readers) (parameters : readers.parameters ≡ replicate (length f.parameters) []) (results : readers.results.items ≡ map (λ (b : Block). replicate (length b.insts) []) f.blocks) where
  row_at : (d : ℕ) (block : Block) → IsBlock f d block → get_or readers.results.items d [] ≡ replicate (length block.insts) []
  row_at d block at =
      let g : Block → List (List Place) = λ b. replicate (length b.insts) [] in
      ap (λ (l : List (List (List Place))). get_or l d []) results
      ∙ get_or_from_slice_get (map g f.blocks) d (g block) [] (slice_get-map g f.blocks d ∙ ap (option_map g) at)

  pub none_there : (r : Register) → IsKnown f (operands.Register r) → HasList readers r
  none_there (registers.Parameter p) known =
      let within = known_parameter f.parameters p known in
      let size = ap length parameters in
      let count = length-replicate {A = List Place} (length f.parameters) [] in
      omega arith
  none_there (registers.Result d j) known =
      let (block, at, within) = known_has f d j known in
      let size = ap length (row_at d block at) in
      let count = length-replicate {A = List Place} (length block.insts) [] in
      omega arith

  pub none_listed : (r : Register) → listed_for readers r ≡ []
  none_listed (registers.Parameter p) = ap (λ (l : List (List Place)). get_or l p []) parameters ∙ empty_at (length f.parameters) p
  none_listed (registers.Result d j) = elim (slice_get_cases f.blocks d).1 [
    | inl (block, within, at, is) ↦ ap (λ (l : List (List Place)). get_or l j []) (row_at d block at) ∙ empty_at (length block.insts) j
    | inr (past, absent) ↦
        let size = ap length results in
        let count = length-map f.blocks (λ (b : Block). replicate {A = List Place} (length b.insts) []) in
        ap (λ (l : List (List Place)). get_or l j []) (get_or_past readers.results.items d [] (omega arith))
  ]

-- ---- of a block

-- the use lists have the first n instructions of the block
pub record AreListedBelow (f : Function) (block n : ℕ) (old new : Readers) : Type 0 where
  pub there : (r : Register) → HasList old r → HasList new r
  pub listed : (r : Register) (p : Place) → Contains (listed_for new r) p ↔ (Contains (listed_for old r) p ⊎ ((p.block ≡ block) × (p.number < n) × Contains (operands_at f p) (operands.Register r)))

pub none_below : (f : Function) (block : ℕ) (readers : Readers) → AreListedBelow f block 0 readers readers
none_below f block readers = record {
  there = λ r h. h;
  listed = λ r p. (λ h. inl h, λ h. elim h [ inl old ↦ old | inr (b, less, reads) ↦ absurd (omega arith) ]);
}

pub one_below : (f : Function) (block n : ℕ) (old mid new : Readers) → AreListedBelow f block n old mid → AreListed (record { block = block; number = n }) (operands_at f (record { block = block; number = n })) mid new → AreListedBelow f block (n + 1) old new
one_below f block n old mid new below one =
    let q : Place = record { block = block; number = n } in
    record {
      there = λ r h. one.there r (below.there r h);
      listed = λ r p. (
        λ h. elim ((one.listed r p).0 h) [
          | inl older ↦ elim ((below.listed r p).0 older) [
            | inl oldest ↦ inl oldest
            | inr (b, less, reads) ↦ inr (b, omega arith, reads)
          ]
          | inr (reads, same) ↦
              let b : p.block ≡ block = ap (λ (x : Place). x.block) same in
              let number : p.number ≡ n = ap (λ (x : Place). x.number) same in
              inr (b, omega arith, subst (λ (x : Place). Contains (operands_at f x) (operands.Register r)) (sym same) reads)
        ],
        λ h. elim h [
          | inl oldest ↦ (one.listed r p).1 (inl ((below.listed r p).1 (inl oldest)))
          | inr (b, less, reads) ↦ elim (cases_eq p.number n) [
            | inl number ↦
                let same : p ≡ q = same_place p q b number in
                (one.listed r p).1 (inr (subst (λ (x : Place). Contains (operands_at f x) (operands.Register r)) same reads, same))
            | inr apart ↦ (one.listed r p).1 (inl ((below.listed r p).1 (inr (b, omega arith, reads))))
          ]
        ],
      );
    }

-- with the terminator they have all of the block
pub block_listed : (f : Function) (b end : ℕ) (block : Block) (old mid new : Readers) → IsBlock f b block → end ≡ length block.insts → AreListedBelow f b end old mid
    → AreListed (record { block = b; number = none }) (operands_at f (record { block = b; number = none })) mid new
    → (r : Register) (p : Place) → Contains (listed_for new r) p ↔ (Contains (listed_for old r) p ⊎ ((p.block ≡ b) × IsPlaceIn f p × IsReader f r p))
block_listed f b end block old mid new at count below one r p =
    let q : Place = record { block = b; number = none } in (
      λ h. elim ((one.listed r p).0 h) [
        | inl older ↦ elim ((below.listed r p).0 older) [
          | inl oldest ↦ inl oldest
          | inr (same, less, reads) ↦ inr (same, (block, ap (slice_get f.blocks) same ∙ at, inl (omega arith)), written_reads f p.block (arena_place f p) r reads)
        ]
        | inr (reads, same) ↦
            let here : p.block ≡ b = ap (λ (x : Place). x.block) same in
            let number : p.number ≡ none = ap (λ (x : Place). x.number) same in
            inr (here, (block, ap (slice_get f.blocks) here ∙ at, inr number), written_reads f p.block (arena_place f p) r (subst (λ (x : Place). Contains (operands_at f x) (operands.Register r)) (sym same) reads))
      ],
      λ h. elim h [
        | inl oldest ↦ (one.listed r p).1 (inl ((below.listed r p).1 (inl oldest)))
        | inr (here, (x, is, inside), reader) ↦
            let reads = reads_written f p.block (arena_place f p) r reader in
            let x_is : x ≡ block = same_Some x block (sym is ∙ ap (slice_get f.blocks) here ∙ at) in
            let size = ap (λ (z : Block). length z.insts) x_is in
            elim inside [
              | inl within ↦ (one.listed r p).1 (inl ((below.listed r p).1 (inr (here, omega arith, reads))))
              | inr number ↦
                  let same : p ≡ q = same_place p q here number in
                  (one.listed r p).1 (inr (subst (λ (y : Place). Contains (operands_at f y) (operands.Register r)) same reads, same))
            ]
      ],
    )

pub block_lists : (f : Function) (b end : ℕ) (old mid new : Readers) → b < length f.blocks → end ≡ end_of f b → AreListedBelow f b end old mid
    → AreListed (record { block = b; number = none }) (operands_at f (record { block = b; number = none })) mid new
    → (r : Register) (p : Place) → Contains (listed_for new r) p ↔ (Contains (listed_for old r) p ⊎ ((p.block ≡ b) × IsPlaceIn f p × IsReader f r p))
block_lists f b end old mid new within is below one = elim (slice_get_cases f.blocks b).1 [
  | inl (block, inside, at, same) ↦ block_listed f b end block old mid new at (is ∙ end_of-is f b block at) below one
  | inr (past, absent) ↦ absurd (omega arith)
]

-- there is a list for what is read at a place of the block
pub place_known : (f : Function) (b n : ℕ) → ((c k i : ℕ) (r : Read) → IsRead f c k i r → IsKnown f r.operand) → b < length f.blocks → (n < end_of f b) ⊎ (n ≡ none)
    → (r : Register) → Contains (operands_at f (record { block = b; number = n })) (operands.Register r) → IsKnown f (operands.Register r)
place_known f b n known within is r there = elim (slice_get_cases f.blocks b).1 [
  | inl (block, inside, at, same) ↦
      let size = end_of-is f b block at in
      known_reads f known (record { block = b; number = n }) (operands.Register r) (block, at, elim is [ inl less ↦ inl (omega arith) | inr end ↦ inr end ]) there
  | inr (past, absent) ↦ absurd (omega arith)
]

-- ---- of all blocks

-- the use lists have exactly the places of the first n blocks
pub record AreListedBefore (f : Function) (n : ℕ) (readers : Readers) : Type 0 where
  pub there : (r : Register) → IsKnown f (operands.Register r) → HasList readers r
  pub listed : (r : Register) (p : Place) → Contains (listed_for readers r) p ↔ ((p.block < n) × IsPlaceIn f p × IsReader f r p)

nothing_contained : (p : Place) → Contains {X = Place} [] p → ⊥
nothing_contained p (k, within, is) = absurd (omega arith)

pub none_before : (f : Function) (readers : Readers) → ((r : Register) → IsKnown f (operands.Register r) → HasList readers r) → ((r : Register) → listed_for readers r ≡ []) → AreListedBefore f 0 readers
none_before f readers there empty = record {
  there = there;
  listed = λ r p. (λ h. absurd (nothing_contained p (subst (λ (l : List Place). Contains l p) (empty r) h)), λ (less, inside, reads). absurd (omega arith));
}

pub one_before : (f : Function) (b : ℕ) (old new : Readers) → AreListedBefore f b old → ((r : Register) → HasList old r → HasList new r)
    → ((r : Register) (p : Place) → Contains (listed_for new r) p ↔ (Contains (listed_for old r) p ⊎ ((p.block ≡ b) × IsPlaceIn f p × IsReader f r p))) → AreListedBefore f (b + 1) new
one_before f b old new before there listed = record {
  there = λ r known. there r (before.there r known);
  listed = λ r p. (
    λ h. elim ((listed r p).0 h) [
      | inl older ↦ let (less, inside, reads) = (before.listed r p).0 older in (omega arith, inside, reads)
      | inr (same, inside, reads) ↦ (omega arith, inside, reads)
    ],
    λ (less, inside, reads). elim (cases_eq p.block b) [
      | inl same ↦ (listed r p).1 (inr (same, inside, reads))
      | inr apart ↦ (listed r p).1 (inl ((before.listed r p).1 (omega arith, inside, reads)))
    ],
  );
}

pub all_before : (f : Function) (n : ℕ) (readers : Readers) → length f.blocks ≤ n → AreListedBefore f n readers → AreReadersOf f readers
all_before f n readers past before = record {
  there = before.there;
  complete = λ r p inside reads. let (block, at, k) = inside in (before.listed r p).1 (omega (arith, slice_get_within f.blocks p.block block at), inside, reads);
  places = λ r p h. ((before.listed r p).0 h).1;
}
