-- What is found of a function's results instruction by instruction is right at each, and so it is of a draft that is
-- made of the function.
use Rattle.draft_bits.proofs.Common.{◌≡◌, ◌⊎◌, ℕ, zero, suc, ◌+◌, ◌<◌, ◌≤◌, List, [], ◌∷◌, ◌++◌, length, get_or, take, All, All-nil, Option, None, Some, refl, sym, ap, subst, ◌∙◌, arith, inl, inr, eq-eqb, ne_eqb, slice_get, unwrap_or, cases_eq, cases_lt, get-append_cases, get_or_from_slice_get, get_or_past, length_push, none-some, same_Some, slice_get_within, option_map, Block, Function, Inst, Op, Operand, IsInst, IsPhi, Read, end_of, reads_of, MeetsChecks, IsReached, some_at, reads_at_inst, KnownBit, insts_of, known_at, known_operand, known_result, known_results, unknown, result_at, inst_there, ReadsStandBefore, itself, op_itself, operand_itself, arena_of, Draft, DraftBits, Facts, AreBitsOf, AreFactsIn, HasFewBits, IsRight, KeepsNoneWaiting, facts_at, results_at}
use Rattle.ir_core.specs.declared.operand.Operand.TheVariants as operands
use Rattle.ir_core.specs.declared.operand.Register.TheVariants as registers
use Rattle.draft_bits.proofs.Positions.{same_front}
use Rattle.draft_bits.proofs.Renaming.{result_renamed}

-- what the table says of an instruction is the same where as much is known of what it reads
pub result_alike : (known known' : ℕ → Operand → List KnownBit) (f : Function) (b p N : ℕ) (op : Op)
    → (¬ IsPhi op → (i : ℕ) (r : Read) → slice_get (reads_of f b p N op) i ≡ Some r → known r.width r.operand ≡ known' r.width r.operand) → known_result known N op ≡ known_result known' N op
result_alike known known' f b p N op alike =
    result_renamed known known' itself (λ r. (r, refl)) f b p N op (λ no_phi i r at. alike no_phi i r at ∙ ap (known' r.width) (sym (operand_itself r.operand))) ∙ ap (known_result known' N) (op_itself op)

module _ (reads_before : ReadsStandBefore) (f : Function) (checks : MeetsChecks f) (b : ℕ) (reached : IsReached f b) where
  abbrev all : List (List KnownBit)
  all = known_results b (insts_of f b)

  -- of what stands before an instruction the same is known there and behind
  earlier : (n N : ℕ) (inst : Inst) (x : Operand) → IsInst f b n inst → ((m : ℕ) → x ≡ operands.Register (registers.Result b m) → m < n) → known_operand b all N x ≡ known_at f b n N x
  earlier n N inst (operands.Number x) is before = refl
  earlier n N inst operands.Undef is before = refl
  earlier n N inst operands.Poison is before = refl
  earlier n N inst (operands.Register (registers.Parameter p)) is before = refl
  earlier n N inst (operands.Register (registers.Result c m)) is before = elim (cases_eq c b) [
    | inr other ↦ rw (ne_eqb c b other) refl
    | inl here ↦
        let less : m < n = before m (ap (λ (d : ℕ). operands.Register (registers.Result d m)) here) in
        let (read, at) = some_at is.block.insts m (omega (arith, less, slice_get_within is.block.insts n inst is.is_inst)) in
        let front : slice_get (known_results b (take n (insts_of f b))) m ≡ slice_get all m = same_front f b m n read (record { block = is.block; is_block = is.is_block; is_inst = at }) less in
        rw (here, eq-eqb b b refl) (ap (λ o. unwrap_or o (unknown N)) (sym front))
  ]

  pub is_right : (n : ℕ) (inst : Inst) → IsInst f b n inst → IsRight b all n inst
  is_right n inst is =
      let entry : slice_get (known_results b (take (suc n) (insts_of f b))) n ≡ Some (known_result (known_at f b n) inst.width inst.op) = result_at b (insts_of f b) n (suc n) inst (inst_there f b n inst is) (omega arith) in
      let front = same_front f b n (suc n) inst is (omega arith) in
      let alike : known_result (known_operand b all) inst.width inst.op ≡ known_result (known_at f b n) inst.width inst.op =
      result_alike (known_operand b all) (known_at f b n) f b n inst.width inst.op
      (λ no_phi i r at. earlier n r.width inst r.operand is
      (λ m reads. reads_before f b n m i inst r checks reached is no_phi (ap (λ (l : List Read). slice_get l i) (reads_at_inst f b n inst is) ∙ at) reads)) in
      sym front ∙ entry ∙ ap Some (sym alike)

insts_in : (o : Option Block) → unwrap_or (option_map (λ (block : Block). length block.insts) o) 0 ≡ length (unwrap_or (option_map (λ (block : Block). block.insts) o) [])
insts_in None = refl
insts_in (Some block) = refl

pub as_many_insts : (f : Function) (b : ℕ) → end_of f b ≡ length (insts_of f b)
as_many_insts f b = insts_in (slice_get f.blocks b)

-- what is known of the blocks so far
abbrev pub AreFactsSoFar : Function → List Facts → ℕ → Type 0
AreFactsSoFar f blocks count = (length blocks ≡ count) × ((b : ℕ) (facts : Facts) → slice_get blocks b ≡ Some facts → AreFactsIn f b facts)

pub one_more : (f : Function) (blocks more : List Facts) (count : ℕ) (facts : Facts) → more ≡ blocks ++ facts ∷ [] → AreFactsIn f count facts → AreFactsSoFar f blocks count → AreFactsSoFar f more (count + 1)
one_more f blocks more count facts is are (as_many, each) =
    (omega (arith, ap length is, length_push blocks facts, as_many), λ b found at. found_in b found (get-append_cases blocks (facts ∷ []) b found (subst (λ (l : List Facts). slice_get l b ≡ Some found) is at)))
  where
    found_in : (b : ℕ) (found : Facts) → (slice_get blocks b ≡ Some found) ⊎ ((j : ℕ) × (b ≡ length blocks + j) × (slice_get (facts ∷ []) j ≡ Some found)) → AreFactsIn f b found
    found_in b found (inl before) = each b found before
    found_in b found (inr (zero, place, there)) =
        let last : b ≡ count = omega (arith, place, as_many) in
        subst (λ (k : ℕ). AreFactsIn f k found) (sym last) (subst (AreFactsIn f count) (same_Some facts found there) are)
    found_in b found (inr (suc j, place, there)) = absurd (none-some found there)

-- a draft's bits, where all blocks are found
pub made : ReadsStandBefore → (d : Draft) (bits : DraftBits) → MeetsChecks (arena_of d) → AreFactsSoFar (arena_of d) bits.blocks.items (length (arena_of d).blocks) → KeepsNoneWaiting bits → AreBitsOf d bits
made reads_before d bits checks (as_many, each) idle = record {
  as_many = as_many;
  blocks = λ b within. (facts_there b within).block;
  right = λ b n inst stands is.
      let within : b < length (arena_of d).blocks = slice_get_within (arena_of d).blocks b is.block is.is_block in
      subst (λ (results : List (List KnownBit)). IsRight b results n inst) (sym ((facts_there b within).results stands.0)) (is_right reads_before (arena_of d) checks b stands.0 n inst is);
  idle = idle;
}
  where
    facts_there : (b : ℕ) → b < length (arena_of d).blocks → AreFactsIn (arena_of d) b (facts_at bits b)
    facts_there b within =
        let (facts, at) = some_at bits.blocks.items b (omega (arith, within, as_many)) in
        subst (AreFactsIn (arena_of d) b) (sym (get_or_from_slice_get bits.blocks.items b facts bits.none at)) (each b facts at)

-- no word is longer
pub few_bits : (f : Function) (bits : DraftBits) (count : ℕ) → AreFactsSoFar f bits.blocks.items count → bits.none.results ≡ [] → HasFewBits bits
few_bits f bits count (as_many, each) none b = elim (cases_lt b (length bits.blocks.items)) [
  | inl within ↦
      let (facts, at) = some_at bits.blocks.items b within in
      subst (λ (x : Facts). All (λ (word : List KnownBit). length word ≤ 64) x.results) (sym (get_or_from_slice_get bits.blocks.items b facts bits.none at)) (each b facts at).few
  | inr past ↦
      let empty : results_at bits b ≡ [] = ap (λ (x : Facts). x.results) (get_or_past bits.blocks.items b bits.none past) ∙ none in
      subst (All (λ (word : List KnownBit). length word ≤ 64)) (sym empty) (λ k d lt. absurd (omega arith))
]

-- where nothing is kept
pub no_results : (bits : DraftBits) → bits.blocks.items ≡ [] → bits.none.results ≡ [] → (b : ℕ) → results_at bits b ≡ []
no_results bits empty none b = ap (λ (l : List Facts). (get_or l b bits.none).results) empty ∙ none

pub no_bits : (bits : DraftBits) → bits.blocks.items ≡ [] → bits.none.results ≡ [] → HasFewBits bits
no_bits bits empty none b = subst (All (λ (word : List KnownBit). length word ≤ 64)) (sym (no_results bits empty none b)) (All-nil (λ (word : List KnownBit). length word ≤ 64))
