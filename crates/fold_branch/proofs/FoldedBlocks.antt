-- Blocks, instructions and terminators of folded functions.
use Rattle.fold_branch.proofs.Common.{◌≡◌, ℕ, zero, suc, ◌+◌, Bool, true, false, List, [], ◌∷◌, length, get_or, Option, None, Some, Contains, refl, sym, ap, subst, ◌∙◌, option_map, arith, slice_get, slice_get-map, get_or_from_slice_get, targets_of, IsBlock, Names, IsInst, IfPhi, IsWalk, Block, Function, Inst, Op, Binary, Compare, Unary, Select, Convert, Freeze, Phi, Operand, not_in_empty, mapped, chosen, decided_end, decided, staying, folded_op, folded_inst, folded_as, folded_block, folded_blocks, choices_of, folded_function, IsMarked}
use Rattle.fold_branch.proofs.Decided.{leads}

-- ---- blocks by place

get-folded_blocks : (choices : List (Option ℕ)) (reached : List Bool) (b : ℕ) (blocks : List Block) (n : ℕ) → slice_get (folded_blocks choices reached b blocks) n ≡ option_map (folded_block choices reached (b + n)) (slice_get blocks n)
get-folded_blocks choices reached b [] n = refl
get-folded_blocks choices reached b (x ∷ blocks) zero = let here : b ≡ b + 0 = omega arith in ap (λ c. Some (folded_block choices reached c x)) here
get-folded_blocks choices reached b (x ∷ blocks) (suc n) =
    let next : suc b + n ≡ b + suc n = omega arith in
    get-folded_blocks choices reached (suc b) blocks n ∙ ap (λ c. option_map (folded_block choices reached c) (slice_get blocks n)) next

pub length-folded_blocks : (choices : List (Option ℕ)) (reached : List Bool) (b : ℕ) (blocks : List Block) → length (folded_blocks choices reached b blocks) ≡ length blocks
length-folded_blocks choices reached b [] = refl
length-folded_blocks choices reached b (x ∷ blocks) = ap suc (length-folded_blocks choices reached (suc b) blocks)

-- the choice at the end of a block
pub choice_at : (f : Function) (b : ℕ) (block : Block) → IsBlock f b block → get_or (choices_of f) b None ≡ chosen block.end
choice_at f b block at =
    let read : slice_get (choices_of f) b ≡ Some (chosen block.end) = slice_get-map (λ (x : Block). chosen x.end) f.blocks b ∙ ap (option_map (λ (x : Block). chosen x.end)) at in
    get_or_from_slice_get (choices_of f) b (chosen block.end) None read

module _ (f : Function) (reached : List Bool) where
  abbrev pub folded : Function
  folded = folded_function reached f

  pub get-block : (b : ℕ) → slice_get folded.blocks b ≡ option_map (folded_block (choices_of f) reached b) (slice_get f.blocks b)
  get-block b = let same : 0 + b ≡ b = omega arith in get-folded_blocks (choices_of f) reached 0 f.blocks b ∙ ap (λ c. option_map (folded_block (choices_of f) reached c) (slice_get f.blocks b)) same

  -- a block that is reached, as it is then
  pub block_on : (b : ℕ) (block : Block) → IsBlock f b block → IsMarked reached b → IsBlock folded b (folded_as (choices_of f) reached b true block)
  block_on b block at mark = get-block b ∙ ap (option_map (folded_block (choices_of f) reached b)) at ∙ ap (λ m. Some (folded_as (choices_of f) reached b m block)) mark

  pub block_back : (b : ℕ) (new : Block) → IsBlock folded b new → (block : Block) × IsBlock f b block × (folded_block (choices_of f) reached b block ≡ new)
  block_back b new at = mapped (folded_block (choices_of f) reached b) (slice_get f.blocks b) new (sym (get-block b) ∙ at)

  -- ---- where folded blocks lead

  target_back : (b c : ℕ) (block : Block) (mark : Bool) → Contains (targets_of (folded_as (choices_of f) reached b mark block).end) c → (mark ≡ true) × Contains (targets_of (decided_end block.end)) c
  target_back b c block true h = (refl, h)
  target_back b c block false h = absurd (not_in_empty c h)

  -- a block that leads somewhere is reached, and leads there once choices are jumps
  pub folded_leads : (b c : ℕ) → Names folded b c → IsMarked reached b × Names (decided f) b c
  folded_leads b c h =
      let was : (block : Block) × IsBlock f b block × (folded_block (choices_of f) reached b block ≡ h.0) = block_back b h.0 h.1 in
      let has : (get_or reached b false ≡ true) × Contains (targets_of (decided_end was.0.end)) c = target_back b c was.0 (get_or reached b false) (subst (λ (x : Block). Contains (targets_of x.end) c) (sym was.2) h.2) in
      (has.0, leads f b c was.0 was.1 has.1)

  pub leads_on : (b c : ℕ) (block : Block) → IsBlock f b block → IsMarked reached b → Contains (targets_of (decided_end block.end)) c → Names folded b c
  leads_on b c block at mark has = (folded_as (choices_of f) reached b true block, block_on b block at mark, has)

  pub walk_decided : (walk : List ℕ) → IsWalk folded walk → IsWalk (decided f) walk
  walk_decided [] h = h
  walk_decided (b ∷ []) h = h
  walk_decided (c ∷ b ∷ before) h = ((folded_leads b c h.0).1, walk_decided (b ∷ before) h.1)

  -- ---- instructions by place

  insts_back : (b k : ℕ) (block : Block) (mark : Bool) (new : Inst) → slice_get (folded_as (choices_of f) reached b mark block).insts k ≡ Some new
      → (mark ≡ true) × (inst : Inst) × (slice_get block.insts k ≡ Some inst) × (folded_inst (choices_of f) reached b inst ≡ new)
  insts_back b k block true new h =
      let was : (inst : Inst) × (slice_get block.insts k ≡ Some inst) × (folded_inst (choices_of f) reached b inst ≡ new) =
      mapped (folded_inst (choices_of f) reached b) (slice_get block.insts k) new (sym (slice_get-map (folded_inst (choices_of f) reached b) block.insts k) ∙ h) in
      (refl, was.0, was.1, was.2)
  insts_back b k block false new h = absurd cc

  -- an instruction of the folded function is one of a block that is reached
  pub record InstBack (b k : ℕ) (new : Inst) : Type 0 where
    pub inst : Inst
    pub was : IsInst f b k inst
    pub mark : IsMarked reached b
    pub is : folded_inst (choices_of f) reached b inst ≡ new

  pub inst_back : (b k : ℕ) (new : Inst) → IsInst folded b k new → InstBack b k new
  inst_back b k new h =
      let was : (block : Block) × IsBlock f b block × (folded_block (choices_of f) reached b block ≡ h.block) = block_back b h.block h.is_block in
      let at : (get_or reached b false ≡ true) × (inst : Inst) × (slice_get was.0.insts k ≡ Some inst) × (folded_inst (choices_of f) reached b inst ≡ new) =
      insts_back b k was.0 (get_or reached b false) new (subst (λ (x : Block). slice_get x.insts k ≡ Some new) (sym was.2) h.is_inst) in
      record { inst = at.1; was = record { block = was.0; is_block = was.1; is_inst = at.2 }; mark = at.0; is = at.3 }

  pub inst_on : (b k : ℕ) (inst : Inst) → IsInst f b k inst → IsMarked reached b → IsInst folded b k (folded_inst (choices_of f) reached b inst)
  inst_on b k inst h mark = record {
    block = folded_as (choices_of f) reached b true h.block;
    is_block = block_on b h.block h.is_block mark;
    is_inst = slice_get-map (folded_inst (choices_of f) reached b) h.block.insts k ∙ ap (option_map (folded_inst (choices_of f) reached b)) h.is_inst;
  }

-- ---- operations

-- from the case of a folded operation to the same of the operation
pub if_phi_back : (choices : List (Option ℕ)) (reached : List Bool) (b : ℕ) (op : Op) (P P' : List (Operand × ℕ) → Type 0) (Q Q' R : Type 0)
    → ((entries : List (Operand × ℕ)) → P (staying choices reached b [] entries) → P' entries × R) → (Q → Q' × R) → IfPhi P Q (folded_op choices reached b op) → IfPhi P' Q' op × R
if_phi_back choices reached b (Phi entries) P P' Q Q' R f g h = f entries h
if_phi_back choices reached b (Binary op flags x y) P P' Q Q' R f g h = g h
if_phi_back choices reached b (Compare pred samesign width x y) P P' Q Q' R f g h = g h
if_phi_back choices reached b (Unary op truth x) P P' Q Q' R f g h = g h
if_phi_back choices reached b (Select c x y) P P' Q Q' R f g h = g h
if_phi_back choices reached b (Convert cast flags from x) P P' Q Q' R f g h = g h
if_phi_back choices reached b (Freeze x) P P' Q Q' R f g h = g h
