-- If no name is given twice in the old function, none is in the rewritten one.
use Rattle.substitution.proofs.Common.{◌≡◌, ◌≢◌, ℕ, zero, suc, ◌+◌, ◌<◌, inl, inr, List, [], ◌∷◌, ◌++◌, length, Option, Some, refl, sym, ap, subst, ◌∙◌, arith, append_assoc, map, slice_get, flat_map, same_Some, NamesDiffer, block_names, names_of, Function, Block, Inst, Rewrite, rewritten_insts, rewritten_block, rewritten_blocks, rewritten_function, Fits}
use Rattle.substitution.proofs.Pieces.{get_cases}
use Rattle.substitution.proofs.Placing.{IsTheRoot, insts_root, insts_other}

abbrev Given : Type 0
Given = Option (List ℕ)

-- the second list is the first with ys in the place of one item, x
data Replaced (x : Given) (ys : List Given) : List Given → List Given → Type 0 where
  here : (zs : List Given) → Replaced x ys (x ∷ zs) (ys ++ zs)
  later : (z : Given) (old new : List Given) → Replaced x ys old new → Replaced x ys (z ∷ old) (z ∷ new)

replaced_behind : (x : Given) (ys zs old new : List Given) → Replaced x ys old new → Replaced x ys (zs ++ old) (zs ++ new)
replaced_behind x ys [] old new h = h
replaced_behind x ys (z ∷ zs) old new h = Replaced.later z (zs ++ old) (zs ++ new) (replaced_behind x ys zs old new h)

replaced_before : (x : Given) (ys old new zs : List Given) → Replaced x ys old new → Replaced x ys (old ++ zs) (new ++ zs)
replaced_before x ys old new zs (Replaced.here us) = subst (λ l. Replaced x ys (x ∷ us ++ zs) l) (sym (append_assoc ys us zs)) (Replaced.here (us ++ zs))
replaced_before x ys old new zs (Replaced.later z before after h) = Replaced.later z (before ++ zs) (after ++ zs) (replaced_before x ys before after zs h)

member : (x : Given) (ys old new : List Given) → ((i : ℕ) (name : List ℕ) → slice_get ys i ≡ Some (Some name) → x ≡ Some name) → Replaced x ys old new
    → (i : ℕ) (name : List ℕ) → slice_get new i ≡ Some (Some name) → (j : ℕ) × (slice_get old j ≡ Some (Some name))
member x ys old new named (Replaced.here zs) i name h =
    elim (get_cases ys zs i (Some name) h) [
      | inl put ↦ (0, ap (λ (y : Given). Some y) (named i name put))
      | inr behind ↦ (suc behind.0, behind.2)
    ]
member x ys old new named (Replaced.later z before after r) zero name h = (0, h)
member x ys old new named (Replaced.later z before after r) (suc i) name h =
    let at : (j : ℕ) × (slice_get before j ≡ Some (Some name)) = member x ys before after named r i name h in
    (suc at.0, at.1)

differ_tail : (y : Given) (ys : List Given) → NamesDiffer (y ∷ ys) → NamesDiffer ys
differ_tail y ys d i j n a b = let e : suc i ≡ suc j = d (suc i) (suc j) n a b in omega arith

differ_with : (x : Given) (xs ys : List Given) → ((i : ℕ) (name : List ℕ) → slice_get xs i ≡ Some (Some name) → (j : ℕ) × (slice_get ys j ≡ Some (Some name))) → NamesDiffer xs → NamesDiffer (x ∷ ys) → NamesDiffer (x ∷ xs)
differ_with x xs ys among h d zero zero n a b = refl
differ_with x xs ys among h d zero (suc j) n a b =
    let at : (k : ℕ) × (slice_get ys k ≡ Some (Some n)) = among j n b in
    let e : 0 ≡ suc at.0 = d 0 (suc at.0) n a at.1 in
    absurd (omega arith)
differ_with x xs ys among h d (suc i) zero n a b =
    let at : (k : ℕ) × (slice_get ys k ≡ Some (Some n)) = among i n a in
    let e : suc at.0 ≡ 0 = d (suc at.0) 0 n at.1 b in
    absurd (omega arith)
differ_with x xs ys among h d (suc i) (suc j) n a b = ap suc (h i j n a b)

-- the names ys in front of zs, none given twice
differ_joined : (x : Given) (ys zs : List Given) → ((i : ℕ) (name : List ℕ) → slice_get ys i ≡ Some (Some name) → x ≡ Some name) → NamesDiffer ys → NamesDiffer (x ∷ zs) → NamesDiffer (ys ++ zs)
differ_joined x ys zs named p q i j n a b =
    elim (get_cases ys zs i (Some n) a) [
      | inl i_put ↦ elim (get_cases ys zs j (Some n) b) [
        | inl j_put ↦ p i j n i_put j_put
        | inr j_behind ↦ absurd (let e : 0 ≡ suc j_behind.0 = q 0 (suc j_behind.0) n (ap (λ (y : Given). Some y) (named i n i_put)) j_behind.2 in omega arith)
      ]
      | inr i_behind ↦ elim (get_cases ys zs j (Some n) b) [
        | inl j_put ↦ absurd (let e : 0 ≡ suc i_behind.0 = q 0 (suc i_behind.0) n (ap (λ (y : Given). Some y) (named j n j_put)) i_behind.2 in omega arith)
        | inr j_behind ↦
            let e : suc i_behind.0 ≡ suc j_behind.0 = q (suc i_behind.0) (suc j_behind.0) n i_behind.2 j_behind.2 in
            let at_i : i ≡ length ys + i_behind.0 = i_behind.1 in
            let at_j : j ≡ length ys + j_behind.0 = j_behind.1 in
            omega arith
      ]
    ]

differ_replaced : (x : Given) (ys old new : List Given) → ((i : ℕ) (name : List ℕ) → slice_get ys i ≡ Some (Some name) → x ≡ Some name) → NamesDiffer ys → Replaced x ys old new → NamesDiffer old → NamesDiffer new
differ_replaced x ys old new named p (Replaced.here zs) d = differ_joined x ys zs named p d
differ_replaced x ys old new named p (Replaced.later z before after r) d = differ_with z after before (member x ys before after named r) (differ_replaced x ys before after named p r (differ_tail z before d)) d

-- ---- the names of a function

abbrev inst_names : List Inst → List Given
inst_names insts = map (λ (i : Inst). i.name) insts

names-joined : (xs ys : List Inst) → inst_names (xs ++ ys) ≡ inst_names xs ++ inst_names ys
names-joined [] ys = refl
names-joined (x ∷ xs) ys = ap (λ (l : List Given). x.name ∷ l) (names-joined xs ys)

-- instructions among which the root isn't keep their names
names-other : (w : Rewrite) (b k : ℕ) (insts : List Inst) → ((j : ℕ) → ¬ IsTheRoot w b (k + j)) → inst_names (rewritten_insts w b k insts) ≡ inst_names insts
names-other w b k [] other = refl
names-other w b k (i ∷ insts) other =
    let here : k + 0 ≡ k = omega arith in
    let first : ¬ IsTheRoot w b k = subst (λ (n : ℕ). ¬ IsTheRoot w b n) here (other 0) in
    let rest : inst_names (rewritten_insts w b (suc k) insts) ≡ inst_names insts = names-other w b (suc k) insts (λ j. let next : k + suc j ≡ suc k + j = omega arith in subst (λ (n : ℕ). ¬ IsTheRoot w b n) next (other (suc j))) in
    ap inst_names (insts_other w b k i insts first) ∙ ap (λ (l : List Given). i.name ∷ l) rest

abbrev Put : Rewrite → List Given
Put w = inst_names w.put

insts_replaced : (w : Rewrite) (b k : ℕ) (insts : List Inst) (j : ℕ) (root : Inst) → slice_get insts j ≡ Some root → b ≡ w.block → k + j ≡ w.place → Replaced root.name (Put w) (inst_names insts) (inst_names (rewritten_insts w b k insts))
insts_replaced w b k [] j root h same at = absurd cc
insts_replaced w b k (i ∷ insts) zero root h same at =
    let here : IsTheRoot w b k = (same, omega arith) in
    let is : i ≡ root = same_Some i root h in
    let rest : inst_names (rewritten_insts w b (suc k) insts) ≡ inst_names insts = names-other w b (suc k) insts (λ j h. let e : suc k + j ≡ w.place = h.1 in omega arith) in
    let new : inst_names (rewritten_insts w b k (i ∷ insts)) ≡ Put w ++ inst_names insts =
    ap inst_names (insts_root w b k i insts here) ∙ names-joined w.put (rewritten_insts w b (suc k) insts) ∙ ap (λ (l : List Given). Put w ++ l) rest in
    subst (λ (l : List Given). Replaced root.name (Put w) (i.name ∷ inst_names insts) l) (sym new)
    (subst (λ (x : Inst). Replaced x.name (Put w) (i.name ∷ inst_names insts) (Put w ++ inst_names insts)) is (Replaced.here (inst_names insts)))
insts_replaced w b k (i ∷ insts) (suc j) root h same at =
    let first : ¬ IsTheRoot w b k = λ h. let e : k ≡ w.place = h.1 in omega arith in
    subst (λ (l : List Given). Replaced root.name (Put w) (i.name ∷ inst_names insts) l) (sym (ap inst_names (insts_other w b k i insts first)))
    (Replaced.later i.name (inst_names insts) (inst_names (rewritten_insts w b (suc k) insts)) (insts_replaced w b (suc k) insts j root h same (omega arith)))

block-other : (w : Rewrite) (b : ℕ) (block : Block) → b ≢ w.block → block_names (rewritten_block w b block) ≡ block_names block
block-other w b block ne = ap (λ (l : List Given). block.name ∷ l) (names-other w b 0 block.insts (λ j h. ne h.0))

blocks-other : (w : Rewrite) (b : ℕ) (blocks : List Block) → w.block < b → flat_map block_names (rewritten_blocks w b blocks) ≡ flat_map block_names blocks
blocks-other w b [] lt = refl
blocks-other w b (x ∷ blocks) lt =
    let first : block_names (rewritten_block w b x) ≡ block_names x = block-other w b x (λ e. omega arith) in
    ap (λ (l : List Given). l ++ flat_map block_names (rewritten_blocks w (suc b) blocks)) first ∙ ap (λ (l : List Given). block_names x ++ l) (blocks-other w (suc b) blocks (omega arith))

blocks_replaced : (w : Rewrite) (b : ℕ) (blocks : List Block) (n : ℕ) (block : Block) (root : Inst) → slice_get blocks n ≡ Some block → b + n ≡ w.block → slice_get block.insts w.place ≡ Some root
    → Replaced root.name (Put w) (flat_map block_names blocks) (flat_map block_names (rewritten_blocks w b blocks))
blocks_replaced w b [] n block root h at is = absurd cc
blocks_replaced w b (x ∷ blocks) zero block root h at is =
    let same : b ≡ w.block = omega arith in
    let there : slice_get x.insts w.place ≡ Some root = subst (λ (y : Block). slice_get y.insts w.place ≡ Some root) (sym (same_Some x block h)) is in
    let first : Replaced root.name (Put w) (block_names x) (block_names (rewritten_block w b x)) =
    Replaced.later x.name (inst_names x.insts) (inst_names (rewritten_insts w b 0 x.insts)) (insts_replaced w b 0 x.insts w.place root there same (omega arith)) in
    subst (λ (l : List Given). Replaced root.name (Put w) (block_names x ++ flat_map block_names blocks) (block_names (rewritten_block w b x) ++ l)) (sym (blocks-other w (suc b) blocks (omega arith)))
    (replaced_before root.name (Put w) (block_names x) (block_names (rewritten_block w b x)) (flat_map block_names blocks) first)
blocks_replaced w b (x ∷ blocks) (suc n) block root h at is =
    let first : block_names (rewritten_block w b x) ≡ block_names x = block-other w b x (λ e. omega arith) in
    subst (λ (l : List Given). Replaced root.name (Put w) (block_names x ++ flat_map block_names blocks) (l ++ flat_map block_names (rewritten_blocks w (suc b) blocks))) (sym first)
    (replaced_behind root.name (Put w) (block_names x) (flat_map block_names blocks) (flat_map block_names (rewritten_blocks w (suc b) blocks)) (blocks_replaced w (suc b) blocks n block root h (omega arith) is))

names_named : (insts : List Inst) (root : Inst) → ((i : ℕ) (inst : Inst) (name : List ℕ) → slice_get insts i ≡ Some inst → inst.name ≡ Some name → root.name ≡ Some name)
    → (i : ℕ) (name : List ℕ) → slice_get (inst_names insts) i ≡ Some (Some name) → root.name ≡ Some name
names_named [] root h i name at = absurd cc
names_named (x ∷ insts) root h zero name at = h 0 x name refl (same_Some x.name (Some name) at)
names_named (x ∷ insts) root h (suc i) name at = names_named insts root (λ j. h (suc j)) i name at

pub names_differ : (f : Function) (w : Rewrite) (root : Inst) → Fits f w root → NamesDiffer (names_of f) → NamesDiffer (names_of (rewritten_function w f))
names_differ f w root fits d =
    let parameters : List Given = map (λ p. p.name) f.parameters in
    let blocks : Replaced root.name (Put w) (flat_map block_names f.blocks) (flat_map block_names (rewritten_blocks w 0 f.blocks)) =
    blocks_replaced w 0 f.blocks w.block fits.is_root.block root fits.is_root.is_block (omega arith) fits.is_root.is_inst in
    differ_replaced root.name (Put w) (names_of f) (names_of (rewritten_function w f)) (names_named w.put root fits.names) fits.named_once
    (replaced_behind root.name (Put w) parameters (flat_map block_names f.blocks) (flat_map block_names (rewritten_blocks w 0 f.blocks)) blocks) d
