-- The indices of instructions once only some of them are kept.
use Rattle.needed.proofs.Common.{◌≡◌, ℕ, zero, suc, ◌+◌, ◌-◌, ◌<◌, ◌≤◌, Bool, true, false, cond, ◌⊎◌, inl, inr, List, [], ◌∷◌, length, Option, None, Some, refl, sym, ap, subst, ◌∙◌, arith, Contains, slice_get, option_map, cases_eq, same_Some, slice_get_within, slice_get-get_or, get_or_from_slice_get, Function, Block, Inst, IsBlock, KeptMarks, kept_before, moved_inst, kept_first, kept_insts, kept_block, kept_blocks, kept_function}

-- ---- how many are kept

pub count-kept : (kept : KeptMarks) (b k : ℕ) → kept b k ≡ true → kept_before kept b (suc k) ≡ suc (kept_before kept b k)
count-kept kept b k e = ap (λ c. cond c 1 0 + kept_before kept b k) e ∙ omega arith

pub count-dropped : (kept : KeptMarks) (b k : ℕ) → kept b k ≡ false → kept_before kept b (suc k) ≡ kept_before kept b k
count-dropped kept b k e = ap (λ c. cond c 1 0 + kept_before kept b k) e ∙ omega arith

pub count-monotone : (kept : KeptMarks) (b j k : ℕ) → j ≤ k → kept_before kept b j ≤ kept_before kept b k
count-monotone kept b j zero le = let none : j ≡ 0 = omega arith in subst (λ i. kept_before kept b i ≤ 0) (sym none) (omega arith)
count-monotone kept b j (suc k) le =
    let before : j ≤ k → kept_before kept b j ≤ kept_before kept b k = λ h. count-monotone kept b j k h in
    by before (cases_eq j (suc k))
  where
    by : (j ≤ k → kept_before kept b j ≤ kept_before kept b k) → (j ≡ suc k) ⊎ (j ≡ suc k → ⊥) → kept_before kept b j ≤ kept_before kept b (suc k)
    by before (inl same) = subst (λ i. kept_before kept b j ≤ kept_before kept b i) same (omega arith)
    by before (inr ne) = let h : kept_before kept b j ≤ kept_before kept b k = before (omega arith) in omega arith

pub count-below : (kept : KeptMarks) (b j k : ℕ) → j < k → kept b j ≡ true → kept_before kept b j < kept_before kept b k
count-below kept b j k lt e =
    let one : kept_before kept b (suc j) ≡ suc (kept_before kept b j) = count-kept kept b j e in
    let rest : kept_before kept b (suc j) ≤ kept_before kept b k = count-monotone kept b (suc j) k (omega arith) in
    omega (arith, one, rest)

pub below_or : (j k : ℕ) → (j < k) ⊎ (k ≤ j)
below_or zero zero = inr (omega arith)
below_or zero (suc k) = inl (omega arith)
below_or (suc j) zero = inr (omega arith)
below_or (suc j) (suc k) = elim (below_or j k) [ inl less ↦ inl (omega arith) | inr more ↦ inr (omega arith) ]

-- two kept instructions have different new indices
pub same_place : (kept : KeptMarks) (b j k : ℕ) → kept b j ≡ true → kept b k ≡ true → kept_before kept b j ≡ kept_before kept b k → j ≡ k
same_place kept b j k at_j at_k same =
    elim (below_or j k) [
      | inl less ↦ absurd (let lt : kept_before kept b j < kept_before kept b k = count-below kept b j k less at_j in omega arith)
      | inr more ↦ elim (below_or k j) [
        | inl less ↦ absurd (let lt : kept_before kept b k < kept_before kept b j = count-below kept b k j less at_k in omega arith)
        | inr least ↦ omega arith
      ]
    ]

cond_le : (c : Bool) → cond c 1 0 ≤ 1
cond_le true = omega arith
cond_le false = omega arith

pub kept_before_le : (kept : KeptMarks) (b k : ℕ) → kept_before kept b k ≤ k
kept_before_le kept b zero = omega arith
kept_before_le kept b (suc k) = let h : kept_before kept b k ≤ k = kept_before_le kept b k in let one : cond (kept b k) 1 0 ≤ 1 = cond_le (kept b k) in omega arith

-- ---- options and lists

-- if mapping an option gives a value, the option has one
pub mapped : {A B : Type 0} (f : A → B) (o : Option A) (y : B) → option_map f o ≡ Some y → (x : A) × (o ≡ Some x) × (f x ≡ y)
mapped f None y h = absurd cc
mapped f (Some x) y h = (x, refl, same_Some (f x) y h)

-- an item that a list contains has an index, and an item at an index is contained
pub contained_at : {A : Type 0} (xs : List A) (x : A) → Contains xs x → (i : ℕ) × (slice_get xs i ≡ Some x)
contained_at xs x h = (h.0, slice_get-get_or xs h.0 x h.1 ∙ ap (λ y. Some y) h.2)

pub contains_at : {A : Type 0} (xs : List A) (x : A) (i : ℕ) → slice_get xs i ≡ Some x → Contains xs x
contains_at xs x i h = (i, slice_get_within xs i x h, get_or_from_slice_get xs i x x h)

pub contains_first : {A : Type 0} (x : A) (xs : List A) → Contains (x ∷ xs) x
contains_first x xs = contains_at (x ∷ xs) x 0 refl

pub contains_later : {A : Type 0} (y : A) (xs : List A) (x : A) → Contains xs x → Contains (y ∷ xs) x
contains_later y xs x h = let at : (i : ℕ) × (slice_get xs i ≡ Some x) = contained_at xs x h in contains_at (y ∷ xs) x (suc at.0) at.1

-- x and `rest` are the list from place k on
pub rest_here : {A : Type 0} (all : List A) (k : ℕ) (x : A) (rest : List A) → ((i : ℕ) → slice_get all (k + i) ≡ slice_get (x ∷ rest) i) → slice_get all k ≡ Some x
rest_here all k x rest h = ap (slice_get all) (omega arith) ∙ h 0

pub rest_next : {A : Type 0} (all : List A) (k : ℕ) (x : A) (rest : List A) → ((i : ℕ) → slice_get all (k + i) ≡ slice_get (x ∷ rest) i) → (i : ℕ) → slice_get all (suc k + i) ≡ slice_get rest i
rest_next all k x rest h i = ap (slice_get all) (omega arith) ∙ h (suc i)

-- ---- the new indices of kept instructions

pub length-kept : (kept : KeptMarks) (b k : ℕ) (insts : List Inst) → length (kept_insts kept b k insts) + kept_before kept b k ≡ kept_before kept b (k + length insts)
length-kept kept b k [] = let e : k ≡ k + 0 = omega arith in omega (arith, ap (kept_before kept b) e)
length-kept kept b k (i ∷ insts) = by (kept b k) refl (length-kept kept b (suc k) insts)
  where
    by : (keep : Bool) → kept b k ≡ keep → length (kept_insts kept b (suc k) insts) + kept_before kept b (suc k) ≡ kept_before kept b (suc k + length insts) → length (kept_first keep (moved_inst kept i) (kept_insts kept b (suc k) insts)) + kept_before kept b k ≡ kept_before kept b (k + suc (length insts))
    by true e h = let next : suc k + length insts ≡ k + suc (length insts) = omega arith in omega (arith, h, count-kept kept b k e, ap (kept_before kept b) next)
    by false e h = let next : suc k + length insts ≡ k + suc (length insts) = omega arith in omega (arith, h, count-dropped kept b k e, ap (kept_before kept b) next)

-- the new index of a kept instruction is the number of kept ones before it
pub kept_at : (kept : KeptMarks) (b k : ℕ) (insts : List Inst) (j c : ℕ) (i : Inst) → slice_get insts j ≡ Some i → kept b (k + j) ≡ true → c + kept_before kept b k ≡ kept_before kept b (k + j) → slice_get (kept_insts kept b k insts) c ≡ Some (moved_inst kept i)
kept_at kept b k [] j c i h keep at = absurd cc
kept_at kept b k (x ∷ insts) zero c i h keep at =
    let here : k + 0 ≡ k = omega arith in
    let kept_here : kept b k ≡ true = ap (kept b) (sym here) ∙ keep in
    let first : c ≡ 0 = omega (arith, at, ap (kept_before kept b) here) in
    let same : x ≡ i = same_Some x i h in
    subst (λ n. slice_get (kept_insts kept b k (x ∷ insts)) n ≡ Some (moved_inst kept i)) (sym first)
    (subst (λ keep. slice_get (kept_first keep (moved_inst kept x) (kept_insts kept b (suc k) insts)) 0 ≡ Some (moved_inst kept i)) (sym kept_here) (ap (λ (y : Inst). Some (moved_inst kept y)) same))
kept_at kept b k (x ∷ insts) (suc j) c i h keep at =
    let next : suc k + j ≡ k + suc j = omega arith in
    let keep_next : kept b (suc k + j) ≡ true = ap (kept b) next ∙ keep in
    by (kept b k) refl (ap (kept_before kept b) next) (count-monotone kept b (suc k) (suc k + j) (omega arith)) (λ d at_d. kept_at kept b (suc k) insts j d i h keep_next at_d)
  where
    by : (first : Bool) → kept b k ≡ first → kept_before kept b (suc k + j) ≡ kept_before kept b (k + suc j) → kept_before kept b (suc k) ≤ kept_before kept b (suc k + j)
        → ((d : ℕ) → d + kept_before kept b (suc k) ≡ kept_before kept b (suc k + j) → slice_get (kept_insts kept b (suc k) insts) d ≡ Some (moved_inst kept i))
        → slice_get (kept_first first (moved_inst kept x) (kept_insts kept b (suc k) insts)) c ≡ Some (moved_inst kept i)
    by true e same more rest =
        let one : kept_before kept b (suc k) ≡ suc (kept_before kept b k) = count-kept kept b k e in
        let behind : suc (c - 1) ≡ c = omega (arith, one, same, more, at) in
        subst (λ n. slice_get (moved_inst kept x ∷ kept_insts kept b (suc k) insts) n ≡ Some (moved_inst kept i)) behind (rest (c - 1) (omega (arith, one, same, more, at)))
    by false e same more rest =
        let none : kept_before kept b (suc k) ≡ kept_before kept b k = count-dropped kept b k e in
        rest c (omega (arith, none, same, at))

-- an instruction that is left is a kept one of the old ones, with its registers renamed
pub record IsKept (kept : KeptMarks) (b k : ℕ) (insts : List Inst) (c : ℕ) (new : Inst) : Type 0 where
  pub place : ℕ
  pub inst : Inst
  pub at : slice_get insts place ≡ Some inst
  pub keep : kept b (k + place) ≡ true
  pub count : c + kept_before kept b k ≡ kept_before kept b (k + place)
  pub moved : moved_inst kept inst ≡ new

kept_later : (kept : KeptMarks) (b k : ℕ) (x : Inst) (insts : List Inst) (c d : ℕ) (new : Inst) → d + kept_before kept b k ≡ c + kept_before kept b (suc k) → IsKept kept b (suc k) insts c new → IsKept kept b k (x ∷ insts) d new
kept_later kept b k x insts c d new same h =
    let next : suc k + h.place ≡ k + suc h.place = omega arith in
    record { place = suc h.place; inst = h.inst; at = h.at; keep = ap (kept b) (sym next) ∙ h.keep; count = same ∙ h.count ∙ ap (kept_before kept b) next; moved = h.moved }

pub kept_back : (kept : KeptMarks) (b k : ℕ) (insts : List Inst) (c : ℕ) (new : Inst) → slice_get (kept_insts kept b k insts) c ≡ Some new → IsKept kept b k insts c new
kept_back kept b k [] c new h = absurd cc
kept_back kept b k (x ∷ insts) c new h = by (kept b k) refl c h (λ d. kept_back kept b (suc k) insts d new)
  where
    by : (first : Bool) → kept b k ≡ first → (c : ℕ) → slice_get (kept_first first (moved_inst kept x) (kept_insts kept b (suc k) insts)) c ≡ Some new → ((d : ℕ) → slice_get (kept_insts kept b (suc k) insts) d ≡ Some new → IsKept kept b (suc k) insts d new) → IsKept kept b k (x ∷ insts) c new
    by true e zero h rest =
        let here : k ≡ k + 0 = omega arith in
        record { place = 0; inst = x; at = refl; keep = ap (kept b) (sym here) ∙ e; count = omega (arith, ap (kept_before kept b) here); moved = same_Some (moved_inst kept x) new h }
    by true e (suc c) h rest = kept_later kept b k x insts c (suc c) new (omega (arith, count-kept kept b k e)) (rest c h)
    by false e c h rest = kept_later kept b k x insts c c new (omega (arith, count-dropped kept b k e)) (rest c h)

-- ---- blocks

get-kept_blocks : (kept : KeptMarks) (b : ℕ) (blocks : List Block) (n : ℕ) → slice_get (kept_blocks kept b blocks) n ≡ option_map (kept_block kept (b + n)) (slice_get blocks n)
get-kept_blocks kept b [] n = refl
get-kept_blocks kept b (x ∷ blocks) zero = let here : b ≡ b + 0 = omega arith in ap (λ c. Some (kept_block kept c x)) here
get-kept_blocks kept b (x ∷ blocks) (suc n) = let next : suc b + n ≡ b + suc n = omega arith in get-kept_blocks kept (suc b) blocks n ∙ ap (λ c. option_map (kept_block kept c) (slice_get blocks n)) next

pub get-block : (kept : KeptMarks) (f : Function) (b : ℕ) → slice_get (kept_blocks kept 0 f.blocks) b ≡ option_map (kept_block kept b) (slice_get f.blocks b)
get-block kept f b = let same : 0 + b ≡ b = omega arith in get-kept_blocks kept 0 f.blocks b ∙ ap (λ c. option_map (kept_block kept c) (slice_get f.blocks b)) same

pub block_at : (kept : KeptMarks) (f : Function) (b : ℕ) (block : Block) → IsBlock f b block → IsBlock (kept_function kept f) b (kept_block kept b block)
block_at kept f b block h = get-block kept f b ∙ ap (option_map (kept_block kept b)) h

pub block_back : (kept : KeptMarks) (f : Function) (b : ℕ) (new : Block) → IsBlock (kept_function kept f) b new → (block : Block) × IsBlock f b block × (kept_block kept b block ≡ new)
block_back kept f b new h = mapped (kept_block kept b) (slice_get f.blocks b) new (sym (get-block kept f b) ∙ h)
