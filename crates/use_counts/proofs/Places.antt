-- How uses are counted place by place.
use Rattle.use_counts.proofs.Common.{◌≡◌, ◌⊎◌, inl, inr, ℕ, ◌+◌, ◌<◌, ◌≤◌, List, [], ◌∷◌, ◌++◌, length, get_or, Option, None, Some, cond, refl, sym, ap, subst, ◌∙◌, arith, length-append, slice_get, option_map, unwrap_or, Contains, cases_eq, ne_eqb, Contains-append_left, Contains-push, Contains-push_cases, Contains-get_or, all_pairs_push, slice_get_cases, slice_get_within, same_Some, IsBefore, Read, IsRead, end_of, reads_at, reads_in, reads_by, reads_at_end, Block, Function, Operand, Register, AreUsesAmong, IsCountAmong, AreCountsAmong, IsCounted, AreCounts, count_of, IsNamedAt, UsePlace, StandsBefore, Uses}
use Rattle.ir_core.specs.declared.operand.Operand.TheVariants as operands
use Rattle.ir_core.specs.declared.operand.Register.TheVariants as registers

-- ---- one operand more

-- P holds of the operands counted so far, and Q of those and of operand i at place k of block b
record Goes (P Q : ℕ → ℕ → ℕ → Type 0) (b k i : ℕ) : Type 0 where
  older : (c l j : ℕ) → P c l j → IsBefore c l j b k i
  still : (c l j : ℕ) → P c l j → Q c l j
  here : Q b k i
  split : (c l j : ℕ) → Q c l j → P c l j ⊎ ((c ≡ b) × (l ≡ k) × (j ≡ i))

same_read : (f : Function) (b k i : ℕ) (r r' : Read) → IsRead f b k i r → IsRead f b k i r' → r ≡ r'
same_read f b k i r r' at at' = same_Some r r' (sym at ∙ at')

-- the register that is named at the new place is the one that is read there
named_here : (f : Function) (register : Register) (b k i c l j : ℕ) (r : Read) → IsRead f b k i r → c ≡ b → l ≡ k → j ≡ i → IsNamedAt f register c l j → r.operand ≡ operands.Register register
named_here f register b k i c l j r at eb ek ei (r', at', is) =
    let moved : IsRead f b k i r' = subst (λ (x : ℕ). IsRead f b k x r') ei (subst (λ (x : ℕ). IsRead f b x j r') ek (subst (λ (x : ℕ). IsRead f x l j r') eb at')) in
    ap (λ (x : Read). x.operand) (same_read f b k i r r' at moved) ∙ is

module _ (f : Function) (register : Register) (P Q : ℕ → ℕ → ℕ → Type 0) (b k i : ℕ) (r : Read) (goes : Goes P Q b k i) (at : IsRead f b k i r) where
  stands_before : (places : List UsePlace) → AreUsesAmong f register P places → (z : UsePlace) → Contains places z → StandsBefore z (b, k, i)
  stands_before places among (c, l, j) there = goes.older c l j ((among.each c l j).0 there).1

  one_use_more : r.operand ≡ operands.Register register → (n : ℕ) → IsCountAmong f register P n → IsCountAmong f register Q (n + 1)
  one_use_more is n (places, among, count) = (
    places ++ (b, k, i) ∷ [],
    record {
      in_order = all_pairs_push StandsBefore places (b, k, i) among.in_order (λ m d within. stands_before places among (get_or places m d) (Contains-get_or places m d within));
      each = λ c l j. (
        λ there. elim (Contains-push_cases places (b, k, i) (c, l, j) there) [
          | inl older ↦ let (named, within) = (among.each c l j).0 older in (named, goes.still c l j within)
          | inr same ↦ subst (λ (z : UsePlace). IsNamedAt f register z.0 z.1 z.2 × Q z.0 z.1 z.2) same ((r, at, is), goes.here)
        ],
        λ (named, within). elim (goes.split c l j within) [
          | inl older ↦ Contains-append_left places ((b, k, i) ∷ []) (c, l, j) ((among.each c l j).1 (named, older))
          | inr (eb, ek, ei) ↦
              let same : (b, k, i) ≡ (c, l, j) = cc in
              subst (λ (z : UsePlace). Contains (places ++ (b, k, i) ∷ []) z) same (Contains-push places (b, k, i))
        ],
      );
    },
    length-append places ((b, k, i) ∷ []) ∙ ap (λ (m : ℕ). m + 1) count,
  )

  no_use_more : (r.operand ≡ operands.Register register → ⊥) → (n : ℕ) → IsCountAmong f register P n → IsCountAmong f register Q n
  no_use_more other n (places, among, count) = (
    places,
    record {
      in_order = among.in_order;
      each = λ c l j. (
        λ there. let (named, within) = (among.each c l j).0 there in (named, goes.still c l j within),
        λ (named, within). elim (goes.split c l j within) [
          | inl older ↦ (among.each c l j).1 (named, older)
          | inr (eb, ek, ei) ↦ absurd (other (named_here f register b k i c l j r at eb ek ei named))
        ],
      );
    },
    count,
  )

goes_on : (b k i : ℕ) → Goes (λ c l j. IsBefore c l j b k i) (λ c l j. IsBefore c l j b k (i + 1)) b k i
goes_on b k i = record {
  older = λ c l j before. before;
  still = λ c l j before. elim before [
    | inl less ↦ inl less
    | inr (same, inl less) ↦ inr (same, inl less)
    | inr (same, inr (too, less)) ↦ inr (same, inr (too, omega arith))
  ];
  here = inr (refl, inr (refl, omega arith));
  split = λ c l j before. elim before [
    | inl less ↦ inl (inl less)
    | inr (same, inl less) ↦ inl (inr (same, inl less))
    | inr (same, inr (too, less)) ↦ elim (cases_eq j i) [
      | inl e ↦ inr (same, too, e)
      | inr apart ↦ inl (inr (same, inr (too, omega arith)))
    ]
  ];
}

-- whether an operand is a register
is_it : (a : Operand) (register : Register) → (a ≡ operands.Register register) ⊎ ¬ (a ≡ operands.Register register)
is_it (operands.Number n) register = inr (λ e. cc)
is_it operands.Undef register = inr (λ e. cc)
is_it operands.Poison register = inr (λ e. cc)
is_it (operands.Register (registers.Parameter q)) (registers.Result d p) = inr (λ e. cc)
is_it (operands.Register (registers.Result b k)) (registers.Parameter p) = inr (λ e. cc)
is_it (operands.Register (registers.Parameter q)) (registers.Parameter p) = elim (cases_eq q p) [
  | inl same ↦ inl cc
  | inr apart ↦ inr (λ e. apart cc)
]
is_it (operands.Register (registers.Result b k)) (registers.Result d p) = elim (cases_eq b d) [
  | inl block ↦ elim (cases_eq k p) [
    | inl place ↦ inl cc
    | inr apart ↦ inr (λ e. apart cc)
  ]
  | inr apart ↦ inr (λ e. apart cc)
]

-- the counts after one more operand was counted
pub counts_more : (f : Function) (old new : Uses) (b k i : ℕ) (r : Read) → AreCountsAmong f (λ c l j. IsBefore c l j b k i) old → IsRead f b k i r → IsCounted r.operand old new
    → AreCountsAmong f (λ c l j. IsBefore c l j b k (i + 1)) new
counts_more f old new b k i r are at counted = record {
  there = λ register known. counted.there register (are.there register known);
  exact = λ register. elim (is_it r.operand register) [
    | inl this ↦
        subst (λ (n : ℕ). IsCountAmong f register (λ c l j. IsBefore c l j b k (i + 1)) n) (sym (counted.named register this))
        (one_use_more f register (λ c l j. IsBefore c l j b k i) (λ c l j. IsBefore c l j b k (i + 1)) b k i r (goes_on b k i) at this (count_of old register) (are.exact register))
    | inr other ↦
        subst (λ (n : ℕ). IsCountAmong f register (λ c l j. IsBefore c l j b k (i + 1)) n) (sym (counted.others register other))
        (no_use_more f register (λ c l j. IsBefore c l j b k i) (λ c l j. IsBefore c l j b k (i + 1)) b k i r (goes_on b k i) at other (count_of old register) (are.exact register))
  ];
}

-- ---- the same operands

-- where P and Q hold of the same operands, the counts are the same
same_counts : (f : Function) (uses : Uses) (P Q : ℕ → ℕ → ℕ → Type 0) → ((c l j : ℕ) → P c l j → Q c l j) → ((c l j : ℕ) (r : Read) → IsRead f c l j r → Q c l j → P c l j)
    → AreCountsAmong f P uses → AreCountsAmong f Q uses
same_counts f uses P Q still back are = record {
  there = are.there;
  exact = λ register. let (places, among, count) = are.exact register in (
    places,
    record {
      in_order = among.in_order;
      each = λ c l j. (
        λ there. let (named, within) = (among.each c l j).0 there in (named, still c l j within),
        λ (named, within). (among.each c l j).1 (named, back c l j named.0 named.1 within),
      );
    },
    count,
  );
}

-- the indices of an operand that is read are within their lists: the operand's, the place's and the block's
operand_within : (f : Function) (b k i : ℕ) (r : Read) → IsRead f b k i r → i < length (reads_at f b k)
operand_within f b k i r at = slice_get_within (reads_at f b k) i r at

nothing_in : (f : Function) (b k i : ℕ) (r : Read) (o : Option Block) → slice_get (reads_in f b k o) i ≡ Some r → (block : Block) × (o ≡ Some block)
nothing_in f b k i r None at = absurd cc
nothing_in f b k i r (Some block) at = (block, refl)

read_block : (f : Function) (b k i : ℕ) (r : Read) → IsRead f b k i r → (block : Block) × (slice_get f.blocks b ≡ Some block)
read_block f b k i r at = nothing_in f b k i r (slice_get f.blocks b) at

within_place : (f : Function) (b k c l j place : ℕ) (r : Read) → c ≡ b → l ≡ k → place ≡ length (reads_at f b k) → IsRead f c l j r → j < place
within_place f b k c l j place r eb ek is at =
    let moved : IsRead f b k j r = subst (λ (x : ℕ). IsRead f b x j r) ek (subst (λ (x : ℕ). IsRead f x l j r) eb at) in
    omega (arith, operand_within f b k j r moved)

pub place_past : (f : Function) (b k place : ℕ) (uses : Uses) → place ≡ length (reads_at f b k) → AreCountsAmong f (λ c l j. IsBefore c l j b k place) uses → AreCountsAmong f (λ c l j. IsBefore c l j b (k + 1) 0) uses
place_past f b k place uses is are = same_counts f uses (λ c l j. IsBefore c l j b k place) (λ c l j. IsBefore c l j b (k + 1) 0)
    (λ c l j before. elim before [
      | inl less ↦ inl less
      | inr (same, inl less) ↦ inr (same, inl (omega arith))
      | inr (same, inr (too, less)) ↦ inr (same, inl (omega arith))
    ])
    (λ c l j r at before. elim before [
      | inl less ↦ inl less
      | inr (same, inl less) ↦ elim (cases_eq l k) [
        | inl e ↦ inr (same, inr (e, within_place f b k c l j place r same e is at))
        | inr apart ↦ inr (same, inl (omega arith))
      ]
      | inr (same, inr (too, less)) ↦ absurd (omega arith)
    ])
    are

-- there are no reads at places behind the terminator's
place_in : (f : Function) (b k i : ℕ) (r : Read) (block : Block) → slice_get f.blocks b ≡ Some block → IsRead f b k i r → k ≤ length block.insts
place_in f b k i r block at_b at = elim (slice_get_cases block.insts k).1 [
  | inl (inst, within, at_k, is) ↦ omega arith
  | inr (past, none) ↦ elim (cases_eq k (length block.insts)) [
    | inl e ↦ omega arith
    | inr apart ↦
        let nothing : reads_at f b k ≡ [] =
        ap (reads_in f b k) at_b ∙ ap (reads_by f b k block) none ∙ ap (λ c. cond c (reads_at_end f b k block.end) []) (ne_eqb k (length block.insts) apart) in
        let short : i < length (reads_at f b k) = operand_within f b k i r at in
        absurd (omega (arith, ap length nothing))
  ]
]

end_is : (f : Function) (b : ℕ) (block : Block) → slice_get f.blocks b ≡ Some block → end_of f b ≡ length block.insts
end_is f b block at = ap (λ o. unwrap_or (option_map (λ (x : Block). length x.insts) o) 0) at

place_within : (f : Function) (b k i : ℕ) (r : Read) → IsRead f b k i r → k ≤ end_of f b
place_within f b k i r at =
    let (block, at_b) = read_block f b k i r at in
    omega (arith, place_in f b k i r block at_b at, end_is f b block at_b)

pub block_past : (f : Function) (b end : ℕ) (uses : Uses) → end ≡ end_of f b → AreCountsAmong f (λ c l j. IsBefore c l j b (end + 1) 0) uses → AreCountsAmong f (λ c l j. IsBefore c l j (b + 1) 0 0) uses
block_past f b end uses is are = same_counts f uses (λ c l j. IsBefore c l j b (end + 1) 0) (λ c l j. IsBefore c l j (b + 1) 0 0)
    (λ c l j before. elim before [
      | inl less ↦ inl (omega arith)
      | inr (same, inl less) ↦ inl (omega arith)
      | inr (same, inr (too, less)) ↦ inl (omega arith)
    ])
    (λ c l j r at before. elim before [
      | inl less ↦ elim (cases_eq c b) [
        | inl e ↦ inr (e, inl (omega (arith, place_within f b l j r (subst (λ (x : ℕ). IsRead f x l j r) e at))))
        | inr apart ↦ inl (omega arith)
      ]
      | inr (same, inl less) ↦ absurd (omega arith)
      | inr (same, inr (too, less)) ↦ absurd (omega arith)
    ])
    are

-- once the last block is passed, all operands are counted
pub all_past : (f : Function) (b : ℕ) (uses : Uses) → length f.blocks ≤ b → AreCountsAmong f (λ c l j. IsBefore c l j b 0 0) uses → AreCounts f uses
all_past f b uses past are = record {
  there = are.there;
  exact = λ register. let (places, among, count) = are.exact register in (
    places,
    record {
      in_order = among.in_order;
      each = λ c l j. (
        λ there. ((among.each c l j).0 there).0,
        λ named. let (block, at_b) = read_block f c l j named.0 named.1 in
            (among.each c l j).1 (named, inl (omega (arith, slice_get_within f.blocks c block at_b))),
      );
    },
    count,
  );
}

-- there is a read at each index below their number
pub read_there : (f : Function) (b k i n : ℕ) → n ≡ length (reads_at f b k) → i < n → (r : Read) × IsRead f b k i r
read_there f b k i n count less = elim (slice_get_cases (reads_at f b k) i).1 [
  | inl (r, within, at, is) ↦ (r, at)
  | inr (past, none) ↦ absurd (omega arith)
]
