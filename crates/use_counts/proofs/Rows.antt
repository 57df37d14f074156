-- What a table has for each register, as its rows are made and changed.
use Rattle.use_counts.proofs.Common.{◌≡◌, inl, inr, ℕ, ◌+◌, ◌<◌, List, [], length, map, get_or, slice_set, Option, None, Some, refl, sym, ap, subst, ◌∙◌, arith, get_or-set_other, slice_get, IsSome, option_map, option_and_then, replicate, AllPairs, cases_eq, get_or-set_at, length-set, length-map, length-replicate, get_or_past, get_or-replicate, slice_get_cases, slice_get_within, get_or_from_slice_get, slice_get-map, IsBefore, IsKnown, Block, Function, Parameter, Inst, Operand, Register, AreCountsAmong, IsCountAmong, IsCounted, one_more, AreCounts, HasNumber, count_of, StandsBefore, IsUseCount, Uses}
use Rattle.ir_core.specs.declared.operand.Operand.TheVariants as operands
use Rattle.ir_core.specs.declared.operand.Register.TheVariants as registers

-- the number in a table of use counts is the register's count
pub exact_at : (f : Function) (uses : Uses) (register : Register) (n : ℕ) → n ≡ count_of uses register → AreCounts f uses → IsUseCount f register n
exact_at f uses register n is counts = subst (λ (m : ℕ). IsUseCount f register m) (sym is) (counts.exact register)

-- ---- one use more

pub row_within : (rows : List (List ℕ)) (b k : ℕ) → k < length (get_or rows b []) → b < length rows
row_within rows b k within = elim (slice_get_cases rows b).1 [
  | inl (row, less, at, is) ↦ less
  | inr (past, at) ↦ absurd (omega (arith, ap length (get_or_past rows b [] past)))
]

module _ (old new : Uses) (p : ℕ) (within : p < length old.parameters) (row : new.parameters ≡ one_more old.parameters p) (rows : new.results.items ≡ old.results.items) (a : Operand) (is : a ≡ operands.Register (registers.Parameter p)) where
  still_there : (register : Register) → HasNumber old register → HasNumber new register
  still_there (registers.Parameter q) has = omega (arith, ap length row, length-set old.parameters p (get_or old.parameters p 0 + 1))
  still_there (registers.Result b k) has = subst (λ (l : List (List ℕ)). k < length (get_or l b [])) (sym rows) has

  goes_up : (register : Register) → a ≡ operands.Register register → count_of new register ≡ count_of old register + 1
  goes_up (registers.Parameter q) this =
      let same : q ≡ p = cc in
      ap (λ (l : List ℕ). get_or l q 0) row ∙ get_or-set_at old.parameters p q (get_or old.parameters p 0 + 1) 0 same within ∙ ap (λ (k : ℕ). get_or old.parameters k 0 + 1) (sym same)
  goes_up (registers.Result b k) this = cc

  stays : (register : Register) → ¬ (a ≡ operands.Register register) → count_of new register ≡ count_of old register
  stays (registers.Parameter q) other =
      ap (λ (l : List ℕ). get_or l q 0) row ∙ get_or-set_other old.parameters p q (get_or old.parameters p 0 + 1) 0 (λ same. other (is ∙ ap (λ (k : ℕ). operands.Register (registers.Parameter k)) (sym same)))
  stays (registers.Result b k) other = ap (λ (l : List (List ℕ)). get_or (get_or l b []) k 0) rows

  pub parameter_counted : IsCounted a old new
  parameter_counted = record { there = still_there; named = goes_up; others = stays }

module _ (old new : Uses) (b k : ℕ) (row : List ℕ) (is_row : get_or old.results.items b [] ≡ row) (within : b < length old.results.items) (inside : k < length row) (parameters : new.parameters ≡ old.parameters) (rows : new.results.items ≡ slice_set old.results.items b (one_more row k)) (a : Operand) (is : a ≡ operands.Register (registers.Result b k)) where
  -- the row of the block, and all others
  this_row : (d : ℕ) → d ≡ b → get_or new.results.items d [] ≡ one_more row k
  this_row d same = ap (λ (l : List (List ℕ)). get_or l d []) rows ∙ get_or-set_at old.results.items b d (one_more row k) [] same within

  that_row : (d : ℕ) → d ≡ b → get_or old.results.items d [] ≡ row
  that_row d same = ap (λ (e : ℕ). get_or old.results.items e []) same ∙ is_row

  other_row : (d : ℕ) → (d ≡ b → ⊥) → get_or new.results.items d [] ≡ get_or old.results.items d []
  other_row d apart = ap (λ (l : List (List ℕ)). get_or l d []) rows ∙ get_or-set_other old.results.items b d (one_more row k) [] apart

  result_still_there : (register : Register) → HasNumber old register → HasNumber new register
  result_still_there (registers.Parameter q) has = omega (arith, ap length parameters)
  result_still_there (registers.Result d p) has = elim (cases_eq d b) [
    | inl same ↦ omega (arith, ap length (this_row d same), ap length (that_row d same), length-set row k (get_or row k 0 + 1))
    | inr apart ↦ omega (arith, ap length (other_row d apart))
  ]

  result_goes_up : (register : Register) → a ≡ operands.Register register → count_of new register ≡ count_of old register + 1
  result_goes_up (registers.Parameter q) this = cc
  result_goes_up (registers.Result d p) this =
      let same : d ≡ b = cc in
      let too : p ≡ k = cc in
      ap (λ (l : List ℕ). get_or l p 0) (this_row d same)
      ∙ get_or-set_at row k p (get_or row k 0 + 1) 0 too inside
      ∙ ap (λ (j : ℕ). get_or row j 0 + 1) (sym too)
      ∙ ap (λ (l : List ℕ). get_or l p 0 + 1) (sym (that_row d same))

  result_stays : (register : Register) → ¬ (a ≡ operands.Register register) → count_of new register ≡ count_of old register
  result_stays (registers.Parameter q) other = ap (λ (l : List ℕ). get_or l q 0) parameters
  result_stays (registers.Result d p) other = elim (cases_eq d b) [
    | inl same ↦
        ap (λ (l : List ℕ). get_or l p 0) (this_row d same)
        ∙ get_or-set_other row k p (get_or row k 0 + 1) 0
        (λ too. other (is ∙ (ap (λ (e : ℕ). operands.Register (registers.Result e k)) (sym same) ∙ ap (λ (j : ℕ). operands.Register (registers.Result d j)) (sym too))))
        ∙ ap (λ (l : List ℕ). get_or l p 0) (sym (that_row d same))
    | inr apart ↦ ap (λ (l : List ℕ). get_or l p 0) (other_row d apart)
  ]

  pub result_counted : IsCounted a old new
  result_counted = record { there = result_still_there; named = result_goes_up; others = result_stays }

-- ---- before the first operand

zero_at : (n k : ℕ) → get_or {A = ℕ} (replicate n 0) k 0 ≡ 0
zero_at n k = elim (slice_get_cases (replicate {A = ℕ} n 0) k).1 [
  | inl (x, within, at, is) ↦ get_or-replicate n k 0 0 (omega (arith, length-replicate {A = ℕ} n 0))
  | inr (past, at) ↦ get_or_past {X = ℕ} (replicate n 0) k 0 past
]

-- the row of zeros of a block
abbrev zeros : Block → List ℕ
zeros b = replicate (length b.insts) 0

row_of : (blocks : List Block) (d : ℕ) (block : Block) → slice_get blocks d ≡ Some block → get_or (map zeros blocks) d [] ≡ zeros block
row_of blocks d block at = get_or_from_slice_get (map zeros blocks) d (zeros block) [] (slice_get-map zeros blocks d ∙ ap (λ o. option_map zeros o) at)

zero_in : (blocks : List Block) (d p : ℕ) → get_or (get_or (map zeros blocks) d []) p 0 ≡ 0
zero_in blocks d p = elim (slice_get_cases blocks d).1 [
  | inl (block, within, at, is) ↦ ap (λ (l : List ℕ). get_or l p 0) (row_of blocks d block at) ∙ zero_at (length block.insts) p
  | inr (past, at) ↦ ap (λ (l : List ℕ). get_or l p 0) (get_or_past (map zeros blocks) d [] (omega (arith, length-map blocks zeros)))
]

and_then_some : {X Y : Type 0} (o : Option X) (g : X → Option Y) → IsSome (option_and_then g o) → (x : X) × (o ≡ Some x) × IsSome (g x)
and_then_some None g some = absurd cc
and_then_some (Some x) g some = (x, refl, some)

map_some : {X Y : Type 0} (o : Option X) (g : X → Y) → IsSome (option_map g o) → (x : X) × (o ≡ Some x)
map_some None g some = absurd cc
map_some (Some x) g some = (x, refl)

-- no operand comes before the first place
nothing_before : (b k i : ℕ) → IsBefore b k i 0 0 0 → ⊥
nothing_before b k i (inl less) = omega arith
nothing_before b k i (inr (same, inl less)) = omega arith
nothing_before b k i (inr (same, inr (too, less))) = omega arith

no_pairs : AllPairs StandsBefore []
no_pairs = λ i j d less within. absurd (omega arith)

nothing_yet : (f : Function) (register : Register) (n : ℕ) → n ≡ 0 → IsCountAmong f register (λ b k i. IsBefore b k i 0 0 0) n
nothing_yet f register n zero_is = (
  [],
  record {
    in_order = no_pairs;
    each = λ b k i. (λ there. absurd (omega (arith, there.1)), λ named. absurd (nothing_before b k i named.1));
  },
  sym zero_is,
)

module _ (f : Function) (uses : Uses) (parameters : uses.parameters ≡ replicate (length f.parameters) 0) (results : uses.results.items ≡ map zeros f.blocks) where
  all_there : (register : Register) → IsKnown f (operands.Register register) → HasNumber uses register
  all_there (registers.Parameter p) known =
      let (parameter, at) = map_some (slice_get f.parameters p) (λ (q : Parameter). q.width) known in
      let within : p < length f.parameters = slice_get_within f.parameters p parameter at in
      omega (arith, ap length parameters, length-replicate {A = ℕ} (length f.parameters) 0)
  all_there (registers.Result d p) known =
      let (block, at, inside) = and_then_some (slice_get f.blocks d) (λ (b : Block). option_map (λ i. i.width) (slice_get b.insts p)) known in
      let (inst, at_p) = map_some (slice_get block.insts p) (λ (i : Inst). i.width) inside in
      let within : p < length block.insts = slice_get_within block.insts p inst at_p in
      let row : get_or uses.results.items d [] ≡ zeros block = ap (λ (l : List (List ℕ)). get_or l d []) results ∙ row_of f.blocks d block at in
      omega (arith, ap length row, length-replicate {A = ℕ} (length block.insts) 0)

  all_zero : (register : Register) → count_of uses register ≡ 0
  all_zero (registers.Parameter p) = ap (λ (l : List ℕ). get_or l p 0) parameters ∙ zero_at (length f.parameters) p
  all_zero (registers.Result d p) = ap (λ (l : List (List ℕ)). get_or (get_or l d []) p 0) results ∙ zero_in f.blocks d p

  pub none_counted : AreCountsAmong f (λ b k i. IsBefore b k i 0 0 0) uses
  none_counted = record { there = all_there; exact = λ register. nothing_yet f register (count_of uses register) (all_zero register) }
