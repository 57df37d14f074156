-- Numbers and their positions, and the instructions with some numbers.
use Rattle.draft_steps.proofs.Common.{◌≡◌, ◌<◌, inl, inr, ℕ, zero, suc, Bool, List, [], ◌∷◌, ◌++◌, length, get_or, map, Option, Some, refl, sym, ap, ◌∙◌, arith, Contains, if◌then◌else◌, option_to_list, slice_get, cases_eq, eq-eqb, ne_eqb, same_Some, Block, Inst, cases_in, first_in, later_in, not_in_empty, Substitution, substituted_inst, block_of, blocks_of, insts_of}
use Rattle.ir_meaning.proofs.Pieces.{some_at}
use Rattle.places.specs.Orders.{place_in}

-- ---- the position of a number

abbrev chosen : ℕ → List ℕ → Bool → ℕ
chosen n numbers here = if here then 0 else suc (place_in numbers n)

pub place_here : (m n : ℕ) (numbers : List ℕ) → m ≡ n → place_in (m ∷ numbers) n ≡ 0
place_here m n numbers same = ap (chosen n numbers) (eq-eqb m n same)

pub place_later : (m n : ℕ) (numbers : List ℕ) → (m ≡ n → ⊥) → place_in (m ∷ numbers) n ≡ suc (place_in numbers n)
place_later m n numbers other = ap (chosen n numbers) (ne_eqb m n other)

pub number_there : (numbers : List ℕ) (n : ℕ) → Contains numbers n → slice_get numbers (place_in numbers n) ≡ Some n
number_there [] n has = absurd (not_in_empty n has)
number_there (m ∷ numbers) n has = elim (cases_eq m n) [
  | inl same ↦ ap (slice_get (m ∷ numbers)) (place_here m n numbers same) ∙ ap Some same
  | inr other ↦ elim (cases_in m numbers n has) [
    | inl same ↦ absurd (other same)
    | inr later ↦ ap (slice_get (m ∷ numbers)) (place_later m n numbers other) ∙ number_there numbers n later
  ]
]

-- ---- the instructions with some numbers

module _ (to : Substitution) (insts : List Inst) where
  abbrev pub AreKnown : List ℕ → Type 0
  AreKnown numbers = (n : ℕ) → Contains numbers n → n < length insts

  first_inst : (n : ℕ) (numbers : List ℕ) (inst : Inst) → slice_get insts n ≡ Some inst → insts_of to insts (n ∷ numbers) ≡ substituted_inst to inst ∷ insts_of to insts numbers
  first_inst n numbers inst at = ap (λ (o : Option Inst). map (substituted_inst to) (option_to_list o) ++ insts_of to insts numbers) at

  known_first : (n : ℕ) (numbers : List ℕ) → AreKnown (n ∷ numbers) → (inst : Inst) × (slice_get insts n ≡ Some inst)
  known_first n numbers known = some_at insts n (known n (first_in n numbers))

  known_later : (n : ℕ) (numbers : List ℕ) → AreKnown (n ∷ numbers) → AreKnown numbers
  known_later n numbers known m has = known m (later_in n numbers m has)

  pub as_many_insts : (numbers : List ℕ) → AreKnown numbers → length (insts_of to insts numbers) ≡ length numbers
  as_many_insts [] known = refl
  as_many_insts (n ∷ numbers) known =
      let (inst, at) = known_first n numbers known in
      ap length (first_inst n numbers inst at) ∙ ap suc (as_many_insts numbers (known_later n numbers known))

  pub inst_at : (numbers : List ℕ) (k n : ℕ) (inst : Inst) → AreKnown numbers → slice_get numbers k ≡ Some n → slice_get insts n ≡ Some inst
      → slice_get (insts_of to insts numbers) k ≡ Some (substituted_inst to inst)
  inst_at [] k n inst known at is = absurd cc
  inst_at (m ∷ numbers) zero n inst known at is =
      let here : slice_get insts m ≡ Some inst = ap (slice_get insts) (same_Some m n at) ∙ is in
      ap (λ (l : List Inst). slice_get l 0) (first_inst m numbers inst here)
  inst_at (m ∷ numbers) (suc k) n inst known at is =
      let (first, there) = known_first m numbers known in
      ap (λ (l : List Inst). slice_get l (suc k)) (first_inst m numbers first there) ∙ inst_at numbers k n inst (known_later m numbers known) at is

  pub record Numbered (numbers : List ℕ) (k : ℕ) (new : Inst) : Type 0 where
    pub n : ℕ
    pub inst : Inst
    pub number : slice_get numbers k ≡ Some n
    pub is_inst : slice_get insts n ≡ Some inst
    pub same : substituted_inst to inst ≡ new

  pub inst_back : (numbers : List ℕ) (k : ℕ) (new : Inst) → AreKnown numbers → slice_get (insts_of to insts numbers) k ≡ Some new → Numbered numbers k new
  inst_back [] k new known at = absurd cc
  inst_back (m ∷ numbers) zero new known at =
      let (first, there) = known_first m numbers known in
      let is : Some (substituted_inst to first) ≡ Some new = sym (ap (λ (l : List Inst). slice_get l 0) (first_inst m numbers first there)) ∙ at in
      record { n = m; inst = first; number = refl; is_inst = there; same = same_Some (substituted_inst to first) new is }
  inst_back (m ∷ numbers) (suc k) new known at =
      let (first, there) = known_first m numbers known in
      let later : slice_get (insts_of to insts numbers) k ≡ Some new = sym (ap (λ (l : List Inst). slice_get l (suc k)) (first_inst m numbers first there)) ∙ at in
      let rest = inst_back numbers k new (known_later m numbers known) later in
      record { n = rest.n; inst = rest.inst; number = rest.number; is_inst = rest.is_inst; same = rest.same }

-- ---- the blocks of some rows

pub block_at : (to : Substitution) (rows : List (List ℕ)) (blocks : List Block) (b : ℕ) (block : Block) → length rows ≡ length blocks → slice_get blocks b ≡ Some block
    → slice_get (blocks_of to rows blocks) b ≡ Some (block_of to (get_or rows b []) block)
block_at to [] [] b block same at = absurd cc
block_at to [] (x ∷ blocks) b block same at = absurd (omega (arith, same))
block_at to (row ∷ rows) [] b block same at = absurd cc
block_at to (row ∷ rows) (x ∷ blocks) zero block same at = ap (λ (y : Block). Some (block_of to row y)) (same_Some x block at)
block_at to (row ∷ rows) (x ∷ blocks) (suc b) block same at = block_at to rows blocks b block (omega (arith, same)) at

pub block_back : (to : Substitution) (rows : List (List ℕ)) (blocks : List Block) (b : ℕ) (new : Block) → slice_get (blocks_of to rows blocks) b ≡ Some new
    → (block : Block) × (slice_get blocks b ≡ Some block) × (block_of to (get_or rows b []) block ≡ new)
block_back to [] blocks b new at = absurd cc
block_back to (row ∷ rows) [] b new at = absurd cc
block_back to (row ∷ rows) (x ∷ blocks) zero new at = (x, refl, same_Some (block_of to row x) new at)
block_back to (row ∷ rows) (x ∷ blocks) (suc b) new at = block_back to rows blocks b new at
