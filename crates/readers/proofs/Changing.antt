-- A function in which one block is changed.
use Rattle.readers.proofs.Common.{◌≡◌, ◌⊎◌, inl, inr, ℕ, zero, suc, ◌+◌, ◌<◌, List, [], ◌∷◌, ◌++◌, length, get_or, slice_set, Option, None, Some, refl, sym, ap, subst, ◌∙◌, arith, IsSome, option_and_then, option_map, slice_get, sum_by, cases_eq, sum_by-set, get_or_from_slice_get, same_Some, slice_get-get_or, slice_get_cases, slice_get_within, HasInst, IsBlock, IsKnown, width_of, Block, Function, Parameter, Inst, Operand, Terminator, changed_at, end_changed, inst_changed, inst_put}
use Rattle.ir_core.specs.declared.operand.Operand.TheVariants as operands
use Rattle.ir_core.specs.declared.operand.Register.TheVariants as registers

-- ---- a list with a change at one place

pub changed_length : {A : Type 0} (k : ℕ) (change : A → A) (xs : List A) → length (changed_at k change xs) ≡ length xs
changed_length k change [] = refl
changed_length zero change (x ∷ xs) = refl
changed_length (suc k) change (x ∷ xs) = ap suc (changed_length k change xs)

pub changed_here : {A : Type 0} (k : ℕ) (change : A → A) (xs : List A) (x : A) → slice_get xs k ≡ Some x → slice_get (changed_at k change xs) k ≡ Some (change x)
changed_here k change [] x at = absurd cc
changed_here {A = A} zero change (y ∷ xs) x at = ap (λ (z : A). Some (change z)) (same_Some y x at)
changed_here (suc k) change (y ∷ xs) x at = changed_here k change xs x at

pub changed_other : {A : Type 0} (k : ℕ) (change : A → A) (xs : List A) (j : ℕ) → (j ≡ k → ⊥) → slice_get (changed_at k change xs) j ≡ slice_get xs j
changed_other k change [] j apart = refl
changed_other zero change (y ∷ xs) zero apart = absurd (apart refl)
changed_other zero change (y ∷ xs) (suc j) apart = refl
changed_other (suc k) change (y ∷ xs) zero apart = refl
changed_other (suc k) change (y ∷ xs) (suc j) apart = changed_other k change xs j (λ e. apart (ap suc e))

pub changed_is_set : {A : Type 0} (k : ℕ) (change : A → A) (xs : List A) (x : A) → slice_get xs k ≡ Some x → slice_set xs k (change x) ≡ changed_at k change xs
changed_is_set k change [] x at = refl
changed_is_set {A = A} zero change (y ∷ xs) x at = ap (λ (z : A). change z ∷ xs) (sym (same_Some y x at))
changed_is_set {A = A} (suc k) change (y ∷ xs) x at = ap (λ (l : List A). y ∷ l) (changed_is_set k change xs x at)

pub changed_sum : {A : Type 0} (h : A → ℕ) (k : ℕ) (change : A → A) (xs : List A) (x : A) → slice_get xs k ≡ Some x → sum_by h (changed_at k change xs) + h x ≡ sum_by h xs + h (change x)
changed_sum h k change xs x at =
    let sums = sum_by-set h xs k (change x) x (slice_get_within xs k x at) in
    let was : h (get_or xs k x) ≡ h x = ap h (get_or_from_slice_get xs k x x at) in
    let same : sum_by h (slice_set xs k (change x)) ≡ sum_by h (changed_at k change xs) = ap (sum_by h) (changed_is_set k change xs x at) in
    omega arith

-- an item of the changed list is an item of the old one, or the change of one
pub changed_cases : {A : Type 0} (k : ℕ) (change : A → A) (xs : List A) (j : ℕ) (y : A) → slice_get (changed_at k change xs) j ≡ Some y
    → ((j ≡ k) × ((x : A) × (slice_get xs k ≡ Some x) × (y ≡ change x))) ⊎ (¬ (j ≡ k) × (slice_get xs j ≡ Some y))
changed_cases k change xs j y at = elim (cases_eq j k) [
  | inl same ↦
      let there : slice_get (changed_at k change xs) k ≡ Some y = subst (λ (n : ℕ). slice_get (changed_at k change xs) n ≡ Some y) same at in
      let within : k < length xs = omega (arith, slice_get_within (changed_at k change xs) k y there, changed_length k change xs) in
      let old : slice_get xs k ≡ Some (get_or xs k y) = slice_get-get_or xs k y within in
      inl (same, (get_or xs k y, old, same_Some y (change (get_or xs k y)) (sym there ∙ changed_here k change xs (get_or xs k y) old)))
  | inr apart ↦ inr (apart, sym (changed_other k change xs j apart) ∙ at)
]

-- ---- which registers a function has

known_result : (f : Function) (d j : ℕ) (o : Option Block) → slice_get f.blocks d ≡ o → IsSome (option_and_then (λ (block : Block). option_map (λ (i : Inst). i.width) (slice_get block.insts j)) o) → HasInst f d j
known_result f d j None e h = absurd cc
known_result f d j (Some block) e h = (block, e, inside block.insts j h)
  where
    inside : (insts : List Inst) (j : ℕ) → IsSome (option_map (λ (i : Inst). i.width) (slice_get insts j)) → j < length insts
    inside [] j h = absurd cc
    inside (i ∷ insts) zero h = omega arith
    inside (i ∷ insts) (suc j) h = let lt : j < length insts = inside insts j h in omega arith

pub known_has : (f : Function) (d j : ℕ) → IsKnown f (operands.Register (registers.Result d j)) → HasInst f d j
known_has f d j h = known_result f d j (slice_get f.blocks d) refl h

pub has_known : (f : Function) (d j : ℕ) → HasInst f d j → IsKnown f (operands.Register (registers.Result d j))
has_known f d j (block, at, within) = elim (slice_get_cases block.insts j).1 [
  | inl (inst, less, here, is) ↦
      let width : width_of f (registers.Result d j) ≡ Some inst.width =
      ap (option_and_then (λ (b : Block). option_map (λ (i : Inst). i.width) (slice_get b.insts j))) at ∙ ap (option_map (λ (i : Inst). i.width)) here in
      subst (λ (o : Option ℕ). IsSome o) (sym width) refl
  | inr (past, absent) ↦ absurd (omega arith)
]

-- the second function has the registers of the first
pub record HasAll (f f' : Function) : Type 0 where
  pub parameters : f'.parameters ≡ f.parameters
  pub insts : (d j : ℕ) → HasInst f d j → HasInst f' d j

pub known_kept : (f f' : Function) → HasAll f f' → (a : Operand) → IsKnown f a → IsKnown f' a
known_kept f f' all (operands.Register (registers.Parameter p)) h = subst (λ (l : List Parameter). IsSome (option_map (λ (x : Parameter). x.width) (slice_get l p))) (sym all.parameters) h
known_kept f f' all (operands.Register (registers.Result d j)) h = has_known f' d j (all.insts d j (known_has f d j h))
known_kept f f' all (operands.Number n) h = tt
known_kept f f' all operands.Undef h = tt
known_kept f f' all operands.Poison h = tt

-- the instruction that the function has there
pub inst_there : (f : Function) (d j : ℕ) → HasInst f d j → (block : Block) × (inst : Inst) × IsBlock f d block × (slice_get block.insts j ≡ Some inst)
inst_there f d j (block, at, within) = elim (slice_get_cases block.insts j).1 [
  | inl (inst, inside, here, is) ↦ (block, inst, at, here)
  | inr (past, absent) ↦ absurd (omega arith)
]

-- ---- a block that is written

pub block_pushed : (blocks : List Block) (b : ℕ) (inst : Inst) (now : Block) (insts : List Inst) → b < length blocks → now ≡ get_or blocks b now → insts ≡ now.insts ++ inst ∷ []
    → slice_set blocks b (record { name = now.name; insts = insts; end = now.end }) ≡ changed_at b (inst_put inst) blocks
block_pushed blocks b inst now insts within is grown =
    let there : slice_get blocks b ≡ Some now = slice_get-get_or blocks b now within ∙ ap (λ (x : Block). Some x) (sym is) in
    ap (λ (l : List Inst). slice_set blocks b (let x : Block = record { name = now.name; insts = l; end = now.end } in x)) grown
    ∙ changed_is_set b (inst_put inst) blocks now there

pub block_with : (blocks : List Block) (b n : ℕ) (change : Inst → Inst) (now : Block) (old new : Inst) → (block : Block) × (slice_get blocks b ≡ Some block) × (n < length block.insts) → now ≡ get_or blocks b now → old ≡ get_or now.insts n old → new ≡ change old
    → slice_set blocks b (record { name = now.name; insts = slice_set now.insts n new; end = now.end }) ≡ changed_at b (inst_changed n change) blocks
block_with blocks b n change now old new (block, at, within) is old_is new_is =
    let there : slice_get blocks b ≡ Some now = slice_get-get_or blocks b now (slice_get_within blocks b block at) ∙ ap (λ (x : Block). Some x) (sym is) in
    let same : block ≡ now = same_Some block now (sym at ∙ there) in
    let size = ap (λ (x : Block). length x.insts) same in
    let inst_at : slice_get now.insts n ≡ Some old = slice_get-get_or now.insts n old (omega arith) ∙ ap (λ (i : Inst). Some i) (sym old_is) in
    let insts : slice_set now.insts n new ≡ changed_at n change now.insts = ap (slice_set now.insts n) new_is ∙ changed_is_set n change now.insts old inst_at in
    ap (λ (l : List Inst). slice_set blocks b (let x : Block = record { name = now.name; insts = l; end = now.end } in x)) insts
    ∙ changed_is_set b (inst_changed n change) blocks now there

pub block_ended : (blocks : List Block) (b : ℕ) (change : Terminator → Terminator) (now : Block) (end : Terminator) → b < length blocks → now ≡ get_or blocks b now → end ≡ change now.end
    → slice_set blocks b (record { name = now.name; insts = now.insts; end = end }) ≡ changed_at b (end_changed change) blocks
block_ended blocks b change now end within is end_is =
    let there : slice_get blocks b ≡ Some now = slice_get-get_or blocks b now within ∙ ap (λ (x : Block). Some x) (sym is) in
    ap (λ (t : Terminator). slice_set blocks b (let x : Block = record { name = now.name; insts = now.insts; end = t } in x)) end_is
    ∙ changed_is_set b (end_changed change) blocks now there
