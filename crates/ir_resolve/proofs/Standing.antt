-- The indices of parameters, blocks and results in text order.
use Rattle.ir_resolve.proofs.Common.{◌≡◌, ◌⊎◌, inl, inr, ℕ, zero, suc, ◌+◌, List, [], ◌∷◌, ◌++◌, map, take, length, Option, None, Some, refl, sym, ap, ◌∙◌, arith, slice_get, option_map, flat_map, enumerate_from, length-append, length-map, map-append, length-enumerate_from, slice_get-map, RawFunction, RawParameter, RawBlock, RawInst, written_in, written_names, Defined, parameter_defined, result_defined, block_defined, parameters_defined, definitions_of}
use Rattle.ir_resolve.specs.declared.names.definition.Entity.TheVariants as entities

-- ---- concatenated lists, and numbered lists

pub get_right : {X : Type 0} (xs ys : List X) (q : ℕ) → slice_get (xs ++ ys) (length xs + q) ≡ slice_get ys q
get_right [] ys q = ap (slice_get ys) (omega arith)
get_right (x ∷ xs) ys q = let e : suc (length xs) + q ≡ suc (length xs + q) = omega arith in ap (slice_get (x ∷ xs ++ ys)) e ∙ get_right xs ys q

pub get_left : {X : Type 0} (xs ys : List X) (p : ℕ) (z : X) → slice_get xs p ≡ Some z → slice_get (xs ++ ys) p ≡ Some z
get_left [] ys p z at = cc
get_left (x ∷ xs) ys zero z at = at
get_left (x ∷ xs) ys (suc p) z at = get_left xs ys p z at

-- an item of a concatenation is one of the one list or of the other
pub get_cases : {X : Type 0} (xs ys : List X) (p : ℕ) (z : X) → slice_get (xs ++ ys) p ≡ Some z → (slice_get xs p ≡ Some z) ⊎ ((q : ℕ) × (p ≡ length xs + q) × (slice_get ys q ≡ Some z))
get_cases [] ys p z at = inr (p, omega arith, at)
get_cases (x ∷ xs) ys zero z at = inl at
get_cases (x ∷ xs) ys (suc p) z at = elim (get_cases xs ys p z at) [ inl left ↦ inl left | inr (q, is, right) ↦ inr (q, omega arith, right) ]

pub get_numbered : {X : Type 0} (n : ℕ) (xs : List X) (k : ℕ) → slice_get (enumerate_from n xs) k ≡ option_map (λ (x : X). (n + k, x)) (slice_get xs k)
get_numbered n [] k = refl
get_numbered n (x ∷ xs) zero = ap (λ m. Some (m, x)) (omega arith)
get_numbered n (x ∷ xs) (suc k) =
    let same : (n + 1) + k ≡ n + suc k = omega arith in
    get_numbered (n + 1) xs k ∙ ap (λ m. option_map (λ x. (m, x)) (slice_get xs k)) same

-- the item at an index of a list that is made of numbered items
made_at : {X Y : Type 0} (f : ℕ × X → Y) (n : ℕ) (xs : List X) (k : ℕ) (x : X) → slice_get xs k ≡ Some x → slice_get (map f (enumerate_from n xs)) k ≡ Some (f (n + k, x))
made_at f n xs k x at = slice_get-map f (enumerate_from n xs) k ∙ ap (option_map f) (get_numbered n xs k ∙ ap (option_map (λ y. (n + k, y))) at)

pub some_same : {X : Type 0} {x y : X} → Some x ≡ Some y → x ≡ y
some_same h = cc

pub mapped : {X Y : Type 0} (g : X → Y) (o : Option X) (y : Y) → option_map g o ≡ Some y → (x : X) × (o ≡ Some x) × (g x ≡ y)
mapped g None y h = cc
mapped g (Some x) y h = (x, refl, cc)

made_from : {X Y : Type 0} (f : ℕ × X → Y) (n : ℕ) (xs : List X) (k : ℕ) (y : Y) → slice_get (map f (enumerate_from n xs)) k ≡ Some y → (x : X) × (slice_get xs k ≡ Some x) × (f (n + k, x) ≡ y)
made_from f n xs k y at =
    let (p, p_at, p_is) = mapped f (slice_get (enumerate_from n xs) k) y (sym (slice_get-map f (enumerate_from n xs) k) ∙ at) in
    let (x, x_at, x_is) = mapped (λ z. (n + k, z)) (slice_get xs k) p (sym (get_numbered n xs k) ∙ p_at) in
    (x, x_at, ap f x_is ∙ p_is)

-- ---- parameters

pub parameter_stands : (ps : List RawParameter) (k : ℕ) (p : RawParameter) → slice_get ps k ≡ Some p → slice_get (parameters_defined ps) k ≡ Some (parameter_defined (k, p))
parameter_stands ps k p at = made_at parameter_defined 0 ps k p at ∙ ap (λ m. Some (parameter_defined (m, p))) (omega arith)

pub parameter_at : (ps : List RawParameter) (k : ℕ) (d : Defined) → slice_get (parameters_defined ps) k ≡ Some d → (p : RawParameter) × (slice_get ps k ≡ Some p) × (parameter_defined (k, p) ≡ d)
parameter_at ps k d at =
    let (p, p_at, is) = made_from parameter_defined 0 ps k d at in
    let same : 0 + k ≡ k = omega arith in
    (p, p_at, ap (λ m. parameter_defined (m, p)) (sym same) ∙ is)

-- ---- blocks with their results

abbrev pub from : ℕ → List RawBlock → List Defined
from n blocks = flat_map block_defined (enumerate_from n blocks)

-- how many things stand before block i
abbrev pub before : List RawBlock → ℕ → ℕ
before blocks i = length (flat_map written_in (take i blocks))

length-block : (n : ℕ) (b : RawBlock) → length (block_defined (n, b)) ≡ length (written_in b)
length-block n b = ap suc (length-map (enumerate_from 0 b.insts) (result_defined n) ∙ length-enumerate_from 0 b.insts ∙ sym (length-map b.insts (λ i. Some i.result)))

-- d is the definition of block i or of a result of it, at this index
pub data StandsFor (n : ℕ) (blocks : List RawBlock) (q : ℕ) (d : Defined) : Type 0 where
  block : (i : ℕ) (b : RawBlock) → slice_get blocks i ≡ Some b → q ≡ before blocks i → d ≡ (b.label, entities.Block (n + i)) → StandsFor n blocks q d
  result : (i j : ℕ) (b : RawBlock) (inst : RawInst) → slice_get blocks i ≡ Some b → slice_get b.insts j ≡ Some inst → q ≡ before blocks i + suc j → d ≡ result_defined (n + i) (j, inst) → StandsFor n blocks q d

before-cons : (b : RawBlock) (blocks : List RawBlock) (i : ℕ) → before (b ∷ blocks) (suc i) ≡ length (written_in b) + before blocks i
before-cons b blocks i = length-append (written_in b) (flat_map written_in (take i blocks))

-- the same for a block and those behind it
one_more : (n : ℕ) (b : RawBlock) (blocks : List RawBlock) (q r : ℕ) (d : Defined) → q ≡ length (written_in b) + r → StandsFor (n + 1) blocks r d → StandsFor n (b ∷ blocks) q d
one_more n b blocks q r d is (block i c at place defines) =
    let number : (n + 1) + i ≡ n + suc i = omega arith in
    block (suc i) c at (omega (arith, before-cons b blocks i)) (defines ∙ ap (λ m. (c.label, entities.Block m)) number)
one_more n b blocks q r d is (result i j c inst at inst_at place defines) =
    let number : (n + 1) + i ≡ n + suc i = omega arith in
    result (suc i) j c inst at inst_at (omega (arith, before-cons b blocks i)) (defines ∙ ap (λ m. result_defined m (j, inst)) number)

within_block : (n : ℕ) (b : RawBlock) (blocks : List RawBlock) (q : ℕ) (d : Defined) → slice_get (block_defined (n, b)) q ≡ Some d → StandsFor n (b ∷ blocks) q d
within_block n b blocks zero d at = let number : n ≡ n + 0 = omega arith in block 0 b refl refl (sym (some_same at) ∙ ap (λ m. (b.label, entities.Block m)) number)
within_block n b blocks (suc j) d at =
    let (inst, inst_at, is) = made_from (result_defined n) 0 b.insts j d at in
    let number : n ≡ n + 0 = omega arith in
    let place : 0 + j ≡ j = omega arith in
    result 0 j b inst refl inst_at (omega arith) (sym is ∙ ap (λ m. result_defined n (m, inst)) place ∙ ap (λ m. result_defined m (j, inst)) number)

pub stands_for : (n : ℕ) (blocks : List RawBlock) (q : ℕ) (d : Defined) → slice_get (from n blocks) q ≡ Some d → StandsFor n blocks q d
stands_for n [] q d at = cc
stands_for n (b ∷ blocks) q d at =
    elim (get_cases (block_defined (n, b)) (from (n + 1) blocks) q d at) [
      | inl own ↦ within_block n b blocks q d own
      | inr (r, is, others) ↦ one_more n b blocks q r d (is ∙ ap (λ m. m + r) (length-block n b)) (stands_for (n + 1) blocks r d others)
    ]

-- and conversely
pub block_stands : (n : ℕ) (blocks : List RawBlock) (i : ℕ) (b : RawBlock) (q : ℕ) → slice_get blocks i ≡ Some b → q ≡ before blocks i → slice_get (from n blocks) q ≡ Some (b.label, entities.Block (n + i))
block_stands n [] i b q at place = cc
block_stands n (c ∷ blocks) zero b q at place =
    let one : c ≡ b = some_same at in
    let number : n ≡ n + 0 = omega arith in
    ap (slice_get (from n (c ∷ blocks))) place ∙ ap (λ (x : RawBlock). Some (x.label, entities.Block n)) one ∙ ap (λ m. Some (b.label, entities.Block m)) number
block_stands n (c ∷ blocks) (suc i) b q at place =
    let number : (n + 1) + i ≡ n + suc i = omega arith in
    ap (slice_get (from n (c ∷ blocks))) (place ∙ before-cons c blocks i ∙ ap (λ m. m + before blocks i) (sym (length-block n c)))
    ∙ get_right (block_defined (n, c)) (from (n + 1) blocks) (before blocks i)
    ∙ block_stands (n + 1) blocks i b (before blocks i) at refl ∙ ap (λ m. Some (b.label, entities.Block m)) number

pub result_stands : (n : ℕ) (blocks : List RawBlock) (i j : ℕ) (b : RawBlock) (inst : RawInst) (q : ℕ) → slice_get blocks i ≡ Some b → slice_get b.insts j ≡ Some inst → q ≡ before blocks i + suc j
    → slice_get (from n blocks) q ≡ Some (result_defined (n + i) (j, inst))
result_stands n [] i j b inst q at inst_at place = cc
result_stands n (c ∷ blocks) zero j b inst q at inst_at place =
    let one : c ≡ b = some_same at in
    let number : n ≡ n + 0 = omega arith in
    let here : 0 + suc j ≡ suc j = omega arith in
    let index : 0 + j ≡ j = omega arith in
    ap (slice_get (from n (c ∷ blocks))) (place ∙ here)
    ∙ get_left (block_defined (n, c)) (from (n + 1) blocks) (suc j) (result_defined n (0 + j, inst)) (made_at (result_defined n) 0 c.insts j inst (ap (λ (x : RawBlock). slice_get x.insts j) one ∙ inst_at))
    ∙ ap (λ m. Some (result_defined n (m, inst))) index ∙ ap (λ m. Some (result_defined m (j, inst))) number
result_stands n (c ∷ blocks) (suc i) j b inst q at inst_at place =
    let number : (n + 1) + i ≡ n + suc i = omega arith in
    let shift : q ≡ length (block_defined (n, c)) + (before blocks i + suc j) = omega (arith, before-cons c blocks i, length-block n c) in
    ap (slice_get (from n (c ∷ blocks))) shift
    ∙ get_right (block_defined (n, c)) (from (n + 1) blocks) (before blocks i + suc j)
    ∙ result_stands (n + 1) blocks i j b inst (before blocks i + suc j) at inst_at refl ∙ ap (λ m. Some (result_defined m (j, inst))) number

-- ---- the identifiers that are written for them

written_parameters : (n : ℕ) (ps : List RawParameter) → map (λ (d : Defined). d.0) (map parameter_defined (enumerate_from n ps)) ≡ map (λ p. p.name) ps
written_parameters n [] = refl
written_parameters n (p ∷ ps) = ap (λ ws. p.name ∷ ws) (written_parameters (n + 1) ps)

written_results : (b n : ℕ) (insts : List RawInst) → map (λ (d : Defined). d.0) (map (result_defined b) (enumerate_from n insts)) ≡ map (λ i. Some i.result) insts
written_results b n [] = refl
written_results b n (i ∷ insts) = ap (λ ws. Some i.result ∷ ws) (written_results b (n + 1) insts)

written_blocks : (n : ℕ) (blocks : List RawBlock) → map (λ (d : Defined). d.0) (from n blocks) ≡ flat_map written_in blocks
written_blocks n [] = refl
written_blocks n (b ∷ blocks) =
    map-append (λ (d : Defined). d.0) (block_defined (n, b)) (from (n + 1) blocks)
    ∙ ap (λ ws. (b.label ∷ ws) ++ map (λ (d : Defined). d.0) (from (n + 1) blocks)) (written_results n 0 b.insts)
    ∙ ap (λ ws. written_in b ++ ws) (written_blocks (n + 1) blocks)

pub written_definitions : (raw : RawFunction) → map (λ (d : Defined). d.0) (definitions_of raw) ≡ written_names raw
written_definitions raw =
    map-append (λ (d : Defined). d.0) (parameters_defined raw.parameters) (from 0 raw.blocks)
    ∙ ap (λ ws. ws ++ map (λ (d : Defined). d.0) (from 0 raw.blocks)) (written_parameters 0 raw.parameters)
    ∙ ap (λ ws. map (λ p. p.name) raw.parameters ++ ws) (written_blocks 0 raw.blocks)
