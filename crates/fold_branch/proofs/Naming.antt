-- A folded function has some of the old function's names, in order: those of the instructions that went are gone.
use Rattle.fold_branch.proofs.Common.{◌≡◌, ℕ, zero, suc, Bool, true, false, List, [], ◌∷◌, ◌++◌, map, Option, Some, refl, ap, arith, slice_get, slice_index_or, flat_map, Contains, contains_at, place_in, NamesDiffer, Name, block_names, names_of, Block, Function, Inst, folded_inst, folded_as, folded_blocks, choices_of, folded_function}

-- some of a list, in order
data Part : List Name → List Name → Type 0 where
  none : Part [] []
  with : {xs ys : List Name} (x : Name) → Part xs ys → Part (x ∷ xs) (x ∷ ys)
  without : {xs ys : List Name} (y : Name) → Part xs ys → Part xs (y ∷ ys)

part_same : (xs : List Name) → Part xs xs
part_same [] = none
part_same (x ∷ xs) = with x (part_same xs)

part_none : (xs : List Name) → Part [] xs
part_none [] = none
part_none (x ∷ xs) = without x (part_none xs)

part_append : {xs ys us vs : List Name} → Part xs ys → Part us vs → Part (xs ++ us) (ys ++ vs)
part_append none q = q
part_append (with x p) q = with x (part_append p q)
part_append (without y p) q = without y (part_append p q)

part_member : {xs ys : List Name} → Part xs ys → (i : ℕ) (x : Name) → slice_get xs i ≡ Some x → (j : ℕ) × (slice_get ys j ≡ Some x)
part_member none i x h = absurd cc
part_member (with y p) zero x h = (0, h)
part_member (with y p) (suc i) x h = let m : (j : ℕ) × (slice_get _ j ≡ Some x) = part_member p i x h in (suc m.0, m.1)
part_member (without y p) i x h = let m : (j : ℕ) × (slice_get _ j ≡ Some x) = part_member p i x h in (suc m.0, m.1)

differ_tail : (y : Name) (ys : List Name) → NamesDiffer (y ∷ ys) → NamesDiffer ys
differ_tail y ys d i j n a b = let e : suc i ≡ suc j = d (suc i) (suc j) n a b in omega arith

differ_with : (x : Name) (xs ys : List Name) → ((i : ℕ) (z : Name) → slice_get xs i ≡ Some z → (j : ℕ) × (slice_get ys j ≡ Some z)) → NamesDiffer xs → NamesDiffer (x ∷ ys) → NamesDiffer (x ∷ xs)
differ_with x xs ys member h d zero zero n a b = refl
differ_with x xs ys member h d zero (suc j) n a b =
    let m : (k : ℕ) × (slice_get ys k ≡ Some (Some n)) = member j (Some n) b in
    let e : 0 ≡ suc m.0 = d 0 (suc m.0) n a m.1 in
    absurd (omega arith)
differ_with x xs ys member h d (suc i) zero n a b =
    let m : (k : ℕ) × (slice_get ys k ≡ Some (Some n)) = member i (Some n) a in
    let e : suc m.0 ≡ 0 = d (suc m.0) 0 n m.1 b in
    absurd (omega arith)
differ_with x xs ys member h d (suc i) (suc j) n a b = ap suc (h i j n a b)

-- of names that differ some differ too
differ_part : {xs ys : List Name} → Part xs ys → NamesDiffer ys → NamesDiffer xs
differ_part none d = d
differ_part (with {xs = xs} {ys = ys} x p) d = differ_with x xs ys (part_member p) (differ_part p (differ_tail x ys d)) d
differ_part (without {ys = ys} y p) d = differ_part p (differ_tail y ys d)

insts_part : (choices : List (Option ℕ)) (reached : List Bool) (b : ℕ) (insts : List Inst) → Part (map (λ (i : Inst). i.name) (map (folded_inst choices reached b) insts)) (map (λ (i : Inst). i.name) insts)
insts_part choices reached b [] = none
insts_part choices reached b (i ∷ insts) = with i.name (insts_part choices reached b insts)

block_part : (choices : List (Option ℕ)) (reached : List Bool) (b : ℕ) (block : Block) (mark : Bool) → Part (block_names (folded_as choices reached b mark block)) (block_names block)
block_part choices reached b block true = with block.name (insts_part choices reached b block.insts)
block_part choices reached b block false = with block.name (part_none (map (λ (i : Inst). i.name) block.insts))

blocks_part : (choices : List (Option ℕ)) (reached : List Bool) (b : ℕ) (blocks : List Block) → Part (flat_map block_names (folded_blocks choices reached b blocks)) (flat_map block_names blocks)
blocks_part choices reached b [] = none
blocks_part choices reached b (block ∷ blocks) = part_append (block_part choices reached b block (slice_index_or reached b false)) (blocks_part choices reached (suc b) blocks)

function_part : (f : Function) (reached : List Bool) → Part (names_of (folded_function reached f)) (names_of f)
function_part f reached = part_append (part_same (map (λ p. p.name) f.parameters)) (blocks_part (choices_of f) reached 0 f.blocks)

pub names_differ : (f : Function) (reached : List Bool) → NamesDiffer (names_of f) → NamesDiffer (names_of (folded_function reached f))
names_differ f reached = differ_part (function_part f reached)

pub name_was : (f : Function) (reached : List Bool) (name : Name) → Contains (names_of (folded_function reached f)) name → Contains (names_of f) name
name_was f reached name has =
    let at : (i : ℕ) × (slice_get (names_of (folded_function reached f)) i ≡ Some name) = place_in (names_of (folded_function reached f)) name has in
    let was : (j : ℕ) × (slice_get (names_of f) j ≡ Some name) = part_member (function_part f reached) at.0 name at.1 in
    contains_at (names_of f) was.0 name was.1
