-- A cleaned function meets the checks that the old one met.
use Rattle.needed.proofs.Common.{◌≡◌, ℕ, zero, suc, ◌+◌, ◌<◌, ◌≤◌, ◌==◌, Bool, true, false, cond, inl, inr, List, [], ◌∷◌, ◌++◌, length, Option, None, Some, refl, sym, ap, subst, ◌∙◌, arith, Contains, map, slice_get, option_map, option_and_then, unwrap_or, IsSome, flat_map, slice_get-map, eqb-true, Number, Function, Block, Inst, Op, Binary, Compare, Unary, Select, Convert, Freeze, Phi, Operand, Register, Terminator, IsAssigned, targets_of, IsBlock, Names, HasInst, IsInst, NamesDiffer, IsKnown, OperandHasWidth, IsTyped, CasesFit, IsPhi, EntriesFit, IsFormed, MeetsChecks, block_names, names_of, width_of, Read, read, IsRead, end_of, reads_of, reads_at_end, reads_by, reads_in, reads_at, IsWalk, KeptMarks, kept_before, moved_register, moved_operand, moved_op, moved_inst, moved_end, kept_first, kept_insts, kept_block, kept_blocks, kept_function, KeepsNeeded, IsCleaned, CleanedNumbersWereThere}
use Rattle.ir_core.specs.declared.operand.Operand.TheVariants as operands
use Rattle.ir_core.specs.declared.operand.Register.TheVariants as registers
use Rattle.ir_core.specs.declared.terminator.Terminator.TheVariants as terminators
use Rattle.needed.proofs.Counting.{count-monotone, count-below, below_or, mapped, contained_at, contains_at, length-kept, kept_at, IsKept, kept_back, get-block, block_at, block_back}
use Rattle.needed.proofs.Reading.{reads_at-inst, reads_at-end, Stays, OperandStays, ReadsStay, inst_reads_stay, end_reads_stay}

-- ---- names

-- xs is a sublist of ys: some of its items, in order
data Part {A : Type 0} : List A → List A → Type 0 where
  none : Part [] []
  with : {xs ys : List A} (x : A) → Part xs ys → Part (x ∷ xs) (x ∷ ys)
  without : {xs ys : List A} (y : A) → Part xs ys → Part xs (y ∷ ys)

part_same : {A : Type 0} (xs : List A) → Part xs xs
part_same [] = none
part_same (x ∷ xs) = with x (part_same xs)

part_append : {A : Type 0} {xs ys : List A} {us vs : List A} → Part xs ys → Part us vs → Part (xs ++ us) (ys ++ vs)
part_append none q = q
part_append (with x p) q = with x (part_append p q)
part_append (without y p) q = without y (part_append p q)

part_member : {A : Type 0} {xs ys : List A} → Part xs ys → (i : ℕ) (x : A) → slice_get xs i ≡ Some x → (j : ℕ) × (slice_get ys j ≡ Some x)
part_member none i x h = absurd cc
part_member (with y p) zero x h = (0, h)
part_member (with y p) (suc i) x h = let m : (j : ℕ) × (slice_get _ j ≡ Some x) = part_member p i x h in (suc m.0, m.1)
part_member (without y p) i x h = let m : (j : ℕ) × (slice_get _ j ≡ Some x) = part_member p i x h in (suc m.0, m.1)

abbrev Given : Type 0
Given = Option (List ℕ)

differ_tail : (y : Given) (ys : List Given) → NamesDiffer (y ∷ ys) → NamesDiffer ys
differ_tail y ys d i j n a b = let e : suc i ≡ suc j = d (suc i) (suc j) n a b in omega arith

differ_with : (x : Given) (xs ys : List Given) → ((i : ℕ) (z : Given) → slice_get xs i ≡ Some z → (j : ℕ) × (slice_get ys j ≡ Some z)) → NamesDiffer xs → NamesDiffer (x ∷ ys) → NamesDiffer (x ∷ xs)
differ_with x xs ys member h d zero zero n a b = refl
differ_with x xs ys member h d zero (suc j) n a b =
    let m : (k : ℕ) × (slice_get ys k ≡ Some (Some n)) = member j (Some n) b in
    let e : 0 ≡ suc m.0 = d 0 (suc m.0) n a m.1 in
    absurd (omega arith)
differ_with x xs ys member h d (suc i) zero n a b =
    let m : (k : ℕ) × (slice_get ys k ≡ Some (Some n)) = member i (Some n) a in
    let e : suc m.0 ≡ 0 = d (suc m.0) 0 n m.1 b in
    absurd (omega arith)
differ_with x xs ys member h d (suc i) (suc j) n a b = ap suc (h i j n a b)

-- if no name is given twice in a list, none is in a sublist
differ_part : {xs ys : List Given} → Part xs ys → NamesDiffer ys → NamesDiffer xs
differ_part none d = d
differ_part (with {xs = xs} {ys = ys} x p) d = differ_with x xs ys (part_member p) (differ_part p (differ_tail x ys d)) d
differ_part (without {ys = ys} y p) d = differ_part p (differ_tail y ys d)

insts_part : (kept : KeptMarks) (b k : ℕ) (insts : List Inst) → Part (map (λ (i : Inst). i.name) (kept_insts kept b k insts)) (map (λ (i : Inst). i.name) insts)
insts_part kept b k [] = none
insts_part kept b k (i ∷ insts) = by (kept b k) (insts_part kept b (suc k) insts)
  where
    by : (keep : Bool) → Part (map (λ (i : Inst). i.name) (kept_insts kept b (suc k) insts)) (map (λ (i : Inst). i.name) insts) → Part (map (λ (i : Inst). i.name) (kept_first keep (moved_inst kept i) (kept_insts kept b (suc k) insts))) (i.name ∷ map (λ (i : Inst). i.name) insts)
    by true p = with i.name p
    by false p = without i.name p

blocks_part : (kept : KeptMarks) (b : ℕ) (blocks : List Block) → Part (flat_map block_names (kept_blocks kept b blocks)) (flat_map block_names blocks)
blocks_part kept b [] = none
blocks_part kept b (block ∷ blocks) = part_append (with block.name (insts_part kept b 0 block.insts)) (blocks_part kept (suc b) blocks)

names_part : (kept : KeptMarks) (f : Function) → Part (names_of (kept_function kept f)) (names_of f)
names_part kept f = part_append (part_same (map (λ p. p.name) f.parameters)) (blocks_part kept 0 f.blocks)

-- ---- options

some_of : {A : Type 0} (o : Option A) → IsSome o → (x : A) × (o ≡ Some x)
some_of None h = absurd cc
some_of (Some x) h = (x, refl)

is_some_from : {A : Type 0} (o : Option A) (x : A) → o ≡ Some x → IsSome o
is_some_from o x e = subst IsSome (sym e) refl

chained : {A B : Type 0} (f : A → Option B) (o : Option A) (y : B) → option_and_then f o ≡ Some y → (x : A) × (o ≡ Some x) × (f x ≡ Some y)
chained f None y h = absurd cc
chained f (Some x) y h = (x, refl, h)

length-kept_blocks : (kept : KeptMarks) (b : ℕ) (blocks : List Block) → length (kept_blocks kept b blocks) ≡ length blocks
length-kept_blocks kept b [] = refl
length-kept_blocks kept b (x ∷ blocks) = ap suc (length-kept_blocks kept (suc b) blocks)

-- ---- what the cleaned function reads

abbrev moved_read : KeptMarks → Read → Read
moved_read kept r = record { operand = moved_operand kept r.operand; width = r.width; block = r.block; place = kept_before kept r.block r.place }

targets-moved : (kept : KeptMarks) (t : Terminator) → targets_of (moved_end kept t) ≡ targets_of t
targets-moved kept (terminators.Return a) = refl
targets-moved kept (terminators.Jump to) = refl
targets-moved kept (terminators.Branch c to other) = refl
targets-moved kept (terminators.Switch a width other cases) = refl
targets-moved kept terminators.Unreachable = refl

typed-moved : (kept : KeptMarks) (w : ℕ) (op : Op) → IsTyped w op → IsTyped w (moved_op kept op)
typed-moved kept w (Binary op flags x y) h = h
typed-moved kept w (Compare pred samesign compared x y) h = h
typed-moved kept w (Select c x y) h = h
typed-moved kept w (Convert cast flags from x) h = h
typed-moved kept w (Unary op truth x) h = h
typed-moved kept w (Freeze x) h = h
typed-moved kept w (Phi entries) h = h

phi-moved : (kept : KeptMarks) (op : Op) → IsPhi op → IsPhi (moved_op kept op)
phi-moved kept (Binary op flags x y) h = h
phi-moved kept (Compare pred samesign compared x y) h = h
phi-moved kept (Select c x y) h = h
phi-moved kept (Convert cast flags from x) h = h
phi-moved kept (Unary op truth x) h = h
phi-moved kept (Freeze x) h = h
phi-moved kept (Phi entries) h = h

phi-back : (kept : KeptMarks) (op : Op) → IsPhi (moved_op kept op) → IsPhi op
phi-back kept (Binary op flags x y) h = h
phi-back kept (Compare pred samesign compared x y) h = h
phi-back kept (Select c x y) h = h
phi-back kept (Convert cast flags from x) h = h
phi-back kept (Unary op truth x) h = h
phi-back kept (Freeze x) h = h
phi-back kept (Phi entries) h = h

cases-moved : (kept : KeptMarks) (t : Terminator) → CasesFit t → CasesFit (moved_end kept t)
cases-moved kept (terminators.Return a) h = h
cases-moved kept (terminators.Jump to) h = h
cases-moved kept (terminators.Branch c to other) h = h
cases-moved kept (terminators.Switch a width other cases) h = h
cases-moved kept terminators.Unreachable h = h

abbrev moved_entries : KeptMarks → List (Operand × ℕ) → List (Operand × ℕ)
moved_entries kept entries = map (λ (e : Operand × ℕ). (moved_operand kept e.0, e.1)) entries

entries_back : (kept : KeptMarks) (op : Op) (new : List (Operand × ℕ)) → moved_op kept op ≡ Phi new → (entries : List (Operand × ℕ)) × (op ≡ Phi entries) × (moved_entries kept entries ≡ new)
entries_back kept (Binary op flags x y) new e = absurd cc
entries_back kept (Compare pred samesign compared x y) new e = absurd cc
entries_back kept (Select c x y) new e = absurd cc
entries_back kept (Convert cast flags from x) new e = absurd cc
entries_back kept (Unary op truth x) new e = absurd cc
entries_back kept (Freeze x) new e = absurd cc
entries_back kept (Phi entries) new e = (entries, refl, cc)

-- if an operand is a register after renaming, it was one before
register_back : (kept : KeptMarks) (a : Operand) (new : Register) → moved_operand kept a ≡ operands.Register new → (r : Register) × (a ≡ operands.Register r) × (moved_register kept r ≡ new)
register_back kept (operands.Register r) new e = (r, refl, cc)
register_back kept (operands.Number n) new e = absurd cc
register_back kept operands.Undef new e = absurd cc
register_back kept operands.Poison new e = absurd cc

number_back : (kept : KeptMarks) (a : Operand) (n : Number) → moved_operand kept a ≡ operands.Number n → a ≡ operands.Number n
number_back kept (operands.Register r) n e = absurd cc
number_back kept (operands.Number x) n e = e
number_back kept operands.Undef n e = absurd cc
number_back kept operands.Poison n e = absurd cc

module _ (f : Function) (m : MeetsChecks f) (kept : KeptMarks) (needed : KeepsNeeded f kept) where
  abbrev cleaned : Function
  cleaned = kept_function kept f

  -- an instruction of the cleaned function is a kept one of the old function, with its registers renamed
  pub record InstBack (b c : ℕ) (new : Inst) : Type 0 where
    pub place : ℕ
    pub inst : Inst
    pub is_inst : IsInst f b place inst
    pub keep : kept b place ≡ true
    pub count : c ≡ kept_before kept b place
    pub moved : moved_inst kept inst ≡ new

  back_in : (b c : ℕ) (block : Block) (new : Inst) → IsBlock f b block → slice_get (kept_insts kept b 0 block.insts) c ≡ Some new → InstBack b c new
  back_in b c block new at h =
      let i : IsKept kept b 0 block.insts c new = kept_back kept b 0 block.insts c new h in
      let same : 0 + i.place ≡ i.place = omega arith in
      record {
        place = i.place;
        inst = i.inst;
        is_inst = record { block = block; is_block = at; is_inst = i.at };
        keep = ap (kept b) (sym same) ∙ i.keep;
        count = omega (arith, i.count, ap (kept_before kept b) same);
        moved = i.moved;
      }

  pub inst_back : (b c : ℕ) (new : Inst) → IsInst cleaned b c new → InstBack b c new
  inst_back b c new h =
      let was : (block : Block) × IsBlock f b block × (kept_block kept b block ≡ h.block) = block_back kept f b h.block h.is_block in
      back_in b c was.0 new was.1 (subst (λ (x : Block). slice_get x.insts c ≡ Some new) (sym was.2) h.is_inst)

  pub inst_on : (b k : ℕ) (inst : Inst) → IsInst f b k inst → kept b k ≡ true → IsInst cleaned b (kept_before kept b k) (moved_inst kept inst)
  inst_on b k inst h keep =
      let same : k ≡ 0 + k = omega arith in
      record {
        block = kept_block kept b h.block;
        is_block = block_at kept f b h.block h.is_block;
        is_inst = kept_at kept b 0 h.block.insts k (kept_before kept b k) inst h.is_inst (ap (kept b) (sym same) ∙ keep) (omega (arith, ap (kept_before kept b) same));
      }

  names_back : (b c : ℕ) → Names cleaned b c → Names f b c
  names_back b c h =
      let was : (block : Block) × IsBlock f b block × (kept_block kept b block ≡ h.0) = block_back kept f b h.0 h.1 in
      let named : Contains (targets_of (moved_end kept was.0.end)) c = subst (λ (x : Block). Contains (targets_of x.end) c) (sym was.2) h.2 in
      (was.0, was.1, subst (λ l. Contains l c) (targets-moved kept was.0.end) named)

  names_on : (b c : ℕ) → Names f b c → Names cleaned b c
  names_on b c h = (kept_block kept b h.0, block_at kept f b h.0 h.1, subst (λ l. Contains l c) (sym (targets-moved kept h.0.end)) h.2)

  walk_back : (blocks : List ℕ) → IsWalk cleaned blocks → IsWalk f blocks
  walk_back [] h = h
  walk_back (b ∷ []) h = h
  walk_back (c ∷ b ∷ before) h = (names_back b c h.0, walk_back (b ∷ before) h.1)

  -- ---- registers

  length-inside : (b : ℕ) (block : Block) → length (kept_insts kept b 0 block.insts) ≡ kept_before kept b (length block.insts)
  length-inside b block = let same : 0 + length block.insts ≡ length block.insts = omega arith in omega (arith, length-kept kept b 0 block.insts, ap (kept_before kept b) same)

  has_on : (d j : ℕ) → HasInst f d j → kept d j ≡ true → HasInst cleaned d (kept_before kept d j)
  has_on d j h keep = (
    kept_block kept d h.0,
    block_at kept f d h.0 h.1,
    (let below : kept_before kept d j < kept_before kept d (length h.0.insts) = count-below kept d j (length h.0.insts) h.2 keep in omega (arith, length-inside d h.0)),
  )

  width_on : (r : Register) (w : ℕ) → Stays kept r → width_of f r ≡ Some w → width_of cleaned (moved_register kept r) ≡ Some w
  width_on (registers.Parameter p) w s e = e
  width_on (registers.Result d j) w s e =
      let in_block : (block : Block) × (slice_get f.blocks d ≡ Some block) × (option_map (λ (i : Inst). i.width) (slice_get block.insts j) ≡ Some w) = chained (λ (block : Block). option_map (λ (i : Inst). i.width) (slice_get block.insts j)) (slice_get f.blocks d) w e in
      let at : (i : Inst) × (slice_get in_block.0.insts j ≡ Some i) × (i.width ≡ w) = mapped (λ (i : Inst). i.width) (slice_get in_block.0.insts j) w in_block.2 in
      let was : IsInst f d j at.0 = record { block = in_block.0; is_block = in_block.1; is_inst = at.1 } in
      let now : IsInst cleaned d (kept_before kept d j) (moved_inst kept at.0) = inst_on d j at.0 was s in
      ap (option_and_then (λ (block : Block). option_map (λ (i : Inst). i.width) (slice_get block.insts (kept_before kept d j)))) now.is_block
      ∙ ap (option_map (λ (i : Inst). i.width)) now.is_inst
      ∙ ap (λ n. Some n) at.2

  known_on : (a : Operand) → OperandStays kept a → IsKnown f a → IsKnown cleaned (moved_operand kept a)
  known_on (operands.Register r) s h = let w : (w : ℕ) × (width_of f r ≡ Some w) = some_of (width_of f r) h in is_some_from (width_of cleaned (moved_register kept r)) w.0 (width_on r w.0 s w.1)
  known_on (operands.Number n) s h = h
  known_on operands.Undef s h = h
  known_on operands.Poison s h = h

  has_width_on : (w : ℕ) (a : Operand) → OperandStays kept a → OperandHasWidth f w a → OperandHasWidth cleaned w (moved_operand kept a)
  has_width_on w (operands.Register r) s h = width_on r w s h
  has_width_on w (operands.Number n) s h = h
  has_width_on w operands.Undef s h = h
  has_width_on w operands.Poison s h = h

  assigned_on : (r : Register) (b k : ℕ) → Stays kept r → IsAssigned f r b k → IsAssigned cleaned (moved_register kept r) b (kept_before kept b k)
  assigned_on (registers.Parameter p) b k s h = h
  assigned_on (registers.Result d j) b k s h = (
    has_on d j h.0 s,
    λ before walk. elim (h.1 before (walk_back (b ∷ before) walk)) [
      | inl passed ↦ inl passed
      | inr here ↦
          let at_b : kept b j ≡ true = ap (λ x. kept x j) (sym here.0) ∙ s in
          let same : kept_before kept d j ≡ kept_before kept b j = ap (λ x. kept_before kept x j) here.0 in
          let below : kept_before kept b j < kept_before kept b k = count-below kept b j k here.1 at_b in
          inr (here.0, omega (arith, same, below))
    ],
  )

  -- ---- reads

  end_of-cleaned : (b : ℕ) → end_of cleaned b ≡ kept_before kept b (end_of f b)
  end_of-cleaned b = ap (λ (o : Option Block). unwrap_or (option_map (λ (x : Block). length x.insts) o) 0) (get-block kept f b) ∙ by (slice_get f.blocks b)
    where
      by : (o : Option Block) → unwrap_or (option_map (λ (x : Block). length x.insts) (option_map (kept_block kept b) o)) 0 ≡ kept_before kept b (unwrap_or (option_map (λ (x : Block). length x.insts) o) 0)
      by None = refl
      by (Some block) = length-inside b block

  entry_reads-moved : (w : ℕ) (entries : List (Operand × ℕ)) → map (λ (e : Operand × ℕ). read e.1 (end_of cleaned e.1) w e.0) (moved_entries kept entries) ≡ map (moved_read kept) (map (λ (e : Operand × ℕ). read e.1 (end_of f e.1) w e.0) entries)
  entry_reads-moved w [] = refl
  entry_reads-moved w (e ∷ entries) =
      ap (λ n. read e.1 n w (moved_operand kept e.0) ∷ map (λ (e : Operand × ℕ). read e.1 (end_of cleaned e.1) w e.0) (moved_entries kept entries)) (end_of-cleaned e.1)
      ∙ ap (λ rest. moved_read kept (read e.1 (end_of f e.1) w e.0) ∷ rest) (entry_reads-moved w entries)

  reads_of-moved : (b k w : ℕ) (op : Op) → reads_of cleaned b (kept_before kept b k) w (moved_op kept op) ≡ map (moved_read kept) (reads_of f b k w op)
  reads_of-moved b k w (Binary op flags x y) = refl
  reads_of-moved b k w (Compare pred samesign compared x y) = refl
  reads_of-moved b k w (Select c x y) = refl
  reads_of-moved b k w (Convert cast flags from x) = refl
  reads_of-moved b k w (Unary op truth x) = refl
  reads_of-moved b k w (Freeze x) = refl
  reads_of-moved b k w (Phi entries) = entry_reads-moved w entries

  reads_at_end-moved : (b k : ℕ) (t : Terminator) → reads_at_end cleaned b (kept_before kept b k) (moved_end kept t) ≡ map (moved_read kept) (reads_at_end f b k t)
  reads_at_end-moved b k (terminators.Return a) = refl
  reads_at_end-moved b k (terminators.Jump to) = refl
  reads_at_end-moved b k (terminators.Branch c to other) = refl
  reads_at_end-moved b k (terminators.Switch a width other cases) = refl
  reads_at_end-moved b k terminators.Unreachable = refl

  -- a read of the cleaned function is one of the old function, with its register renamed
  record ReadBack (b i : ℕ) (new : Read) : Type 0 where
    place : ℕ
    old : Read
    is_read : IsRead f b place i old
    stays : OperandStays kept old.operand
    moved : moved_read kept old ≡ new

  read_moved : (b k i : ℕ) (reads : List Read) (new : Read) → reads_at f b k ≡ reads → ReadsStay kept reads → slice_get (map (moved_read kept) reads) i ≡ Some new → ReadBack b i new
  read_moved b k i reads new e stay h =
      let r : (r : Read) × (slice_get reads i ≡ Some r) × (moved_read kept r ≡ new) = mapped (moved_read kept) (slice_get reads i) new (sym (slice_get-map (moved_read kept) reads i) ∙ h) in
      record { place = k; old = r.0; is_read = ap (λ l. slice_get l i) e ∙ r.1; stays = stay i r.0 r.1; moved = r.2 }

  inst_read_back : (b c i : ℕ) (new : Inst) (r : Read) → InstBack b c new → slice_get (reads_of cleaned b c new.width new.op) i ≡ Some r → ReadBack b i r
  inst_read_back b c i new r back h =
      let inst : Inst = back.inst in
      let at_inst : slice_get (reads_of cleaned b c inst.width (moved_op kept inst.op)) i ≡ Some r = subst (λ (x : Inst). slice_get (reads_of cleaned b c x.width x.op) i ≡ Some r) (sym back.moved) h in
      let at_place : slice_get (reads_of cleaned b (kept_before kept b back.place) inst.width (moved_op kept inst.op)) i ≡ Some r = subst (λ n. slice_get (reads_of cleaned b n inst.width (moved_op kept inst.op)) i ≡ Some r) back.count at_inst in
      let block : Block = back.is_inst.block in
      read_moved b back.place i (reads_of f b back.place inst.width inst.op) r
      (reads_at-inst f b back.place block inst back.is_inst.is_block back.is_inst.is_inst)
      (inst_reads_stay f m kept needed b back.place block inst back.is_inst.is_block back.is_inst.is_inst back.keep)
      (ap (λ l. slice_get l i) (sym (reads_of-moved b back.place inst.width inst.op)) ∙ at_place)

  end_read_back : (b c i : ℕ) (block : Block) (r : Read) → IsBlock f b block → c ≡ kept_before kept b (length block.insts) → slice_get (reads_at_end cleaned b c (moved_end kept block.end)) i ≡ Some r → ReadBack b i r
  end_read_back b c i block r at count h =
      let n = length block.insts in
      let at_end : slice_get (reads_at_end cleaned b (kept_before kept b n) (moved_end kept block.end)) i ≡ Some r = subst (λ n. slice_get (reads_at_end cleaned b n (moved_end kept block.end)) i ≡ Some r) count h in
      read_moved b n i (reads_at_end f b n block.end) r (reads_at-end f b block at) (end_reads_stay f m kept needed b block at) (ap (λ l. slice_get l i) (sym (reads_at_end-moved b n block.end)) ∙ at_end)

  block_read_back : (b c i : ℕ) (block : Block) (r : Read) → IsBlock f b block → (o : Option Inst) → slice_get (kept_insts kept b 0 block.insts) c ≡ o → slice_get (reads_by cleaned b c (kept_block kept b block) o) i ≡ Some r → ReadBack b i r
  block_read_back b c i block r at (Some new) e h = inst_read_back b c i new r (back_in b c block new at e) h
  block_read_back b c i block r at None e h = by (c == length (kept_insts kept b 0 block.insts)) refl h
    where
      by : (is : Bool) → (c == length (kept_insts kept b 0 block.insts)) ≡ is → slice_get (cond is (reads_at_end cleaned b c (moved_end kept block.end)) []) i ≡ Some r → ReadBack b i r
      by true same h = end_read_back b c i block r at (eqb-true c (length (kept_insts kept b 0 block.insts)) same ∙ length-inside b block) h
      by false same h = absurd cc

  read_back : (b c i : ℕ) (r : Read) → IsRead cleaned b c i r → ReadBack b i r
  read_back b c i r h = by (slice_get f.blocks b) refl (ap (λ o. slice_get (reads_in cleaned b c o) i) (sym (get-block kept f b)) ∙ h)
    where
      by : (o : Option Block) → slice_get f.blocks b ≡ o → slice_get (reads_in cleaned b c (option_map (kept_block kept b) o)) i ≡ Some r → ReadBack b i r
      by None e h = absurd cc
      by (Some block) e h = block_read_back b c i block r e (slice_get (kept_insts kept b 0 block.insts) c) refl h

  -- ---- the checks

  entries_on : (b : ℕ) (entries : List (Operand × ℕ)) → EntriesFit f b entries → EntriesFit cleaned b (moved_entries kept entries)
  entries_on b entries fits = record {
    some = nonempty entries fits.some;
    from = λ c. (λ h. let a : (a : Operand) × Contains entries (a, c) × (moved_operand kept a ≡ h.0) = was h.0 c h.1 in names_on c b ((fits.from c).0 (a.0, a.1)), λ n. let a : (a : Operand) × Contains entries (a, c) = (fits.from c).1 (names_back c b n) in (moved_operand kept a.0, now a.0 c a.1));
    one = λ x y c p q.
        let a : (a : Operand) × Contains entries (a, c) × (moved_operand kept a ≡ x) = was x c p in
        let d : (a : Operand) × Contains entries (a, c) × (moved_operand kept a ≡ y) = was y c q in
        sym a.2 ∙ ap (moved_operand kept) (fits.one a.0 d.0 c a.1 d.1) ∙ d.2;
  }
    where
      nonempty : (entries : List (Operand × ℕ)) → 0 < length entries → 0 < length (moved_entries kept entries)
      nonempty [] lt = lt
      nonempty (e ∷ entries) lt = omega arith

      was : (x : Operand) (c : ℕ) → Contains (moved_entries kept entries) (x, c) → (a : Operand) × Contains entries (a, c) × (moved_operand kept a ≡ x)
      was x c h =
          let move : Operand × ℕ → Operand × ℕ = λ e. (moved_operand kept e.0, e.1) in
          let at : (i : ℕ) × (slice_get (moved_entries kept entries) i ≡ Some (x, c)) = contained_at (moved_entries kept entries) (x, c) h in
          let e : (e : Operand × ℕ) × (slice_get entries at.0 ≡ Some e) × (move e ≡ (x, c)) = mapped move (slice_get entries at.0) (x, c) (sym (slice_get-map move entries at.0) ∙ at.1) in
          (e.0.0, subst (λ d. Contains entries (e.0.0, d)) (ap (λ (p : Operand × ℕ). p.1) e.2) (contains_at entries e.0 at.0 e.1), ap (λ (p : Operand × ℕ). p.0) e.2)

      now : (a : Operand) (c : ℕ) → Contains entries (a, c) → Contains (moved_entries kept entries) (moved_operand kept a, c)
      now a c h =
          let move : Operand × ℕ → Operand × ℕ = λ e. (moved_operand kept e.0, e.1) in
          let at : (i : ℕ) × (slice_get entries i ≡ Some (a, c)) = contained_at entries (a, c) h in
          contains_at (moved_entries kept entries) (moved_operand kept a, c) at.0 (slice_get-map move entries at.0 ∙ ap (option_map move) at.1)

  phis_on : (b k : ℕ) (new : Inst) (entries : List (Operand × ℕ)) → IsInst cleaned b k new → new.op ≡ Phi entries → EntriesFit cleaned b entries
  phis_on b k new entries h phi =
      let back : InstBack b k new = inst_back b k new h in
      let was : (es : List (Operand × ℕ)) × (back.inst.op ≡ Phi es) × (moved_entries kept es ≡ entries) = entries_back kept back.inst.op entries (ap (λ (x : Inst). x.op) back.moved ∙ phi) in
      subst (EntriesFit cleaned b) was.2 (entries_on b was.0 (m.formed.phis b back.place back.inst was.0 back.is_inst was.1))

  phis_first_on : (b j k : ℕ) (earlier later : Inst) → IsInst cleaned b j earlier → IsInst cleaned b k later → j < k → IsPhi later.op → IsPhi earlier.op
  phis_first_on b j k earlier later h g lt phi =
      let p : InstBack b j earlier = inst_back b j earlier h in
      let q : InstBack b k later = inst_back b k later g in
      let was_phi : IsPhi q.inst.op = phi-back kept q.inst.op (subst (λ (x : Inst). IsPhi x.op) (sym q.moved) phi) in
      elim (below_or p.place q.place) [
        | inl less ↦ subst (λ (x : Inst). IsPhi x.op) p.moved (phi-moved kept p.inst.op (m.formed.phis_first b p.place q.place p.inst q.inst p.is_inst q.is_inst less was_phi))
        | inr more ↦ absurd (let le : kept_before kept b q.place ≤ kept_before kept b p.place = count-monotone kept b q.place p.place more in omega (arith, p.count, q.count, le, lt))
      ]

  formed_on : IsFormed cleaned
  formed_on = record {
    some_block = let some : 0 < length f.blocks = m.formed.some_block in omega (arith, some, length-kept_blocks kept 0 f.blocks);
    names = differ_part (names_part kept f) m.formed.names;
    registers = λ b k i r h. let back : ReadBack b i r = read_back b k i r h in subst (λ (x : Read). IsKnown cleaned x.operand) back.moved (known_on back.old.operand back.stays (m.formed.registers b back.place i back.old back.is_read));
    blocks = λ b c h. let lt : c < length f.blocks = m.formed.blocks b c (names_back b c h) in omega (arith, lt, length-kept_blocks kept 0 f.blocks);
    operands = λ b k i r h. let back : ReadBack b i r = read_back b k i r h in subst (λ (x : Read). OperandHasWidth cleaned x.width x.operand) back.moved (has_width_on back.old.width back.old.operand back.stays (m.formed.operands b back.place i back.old back.is_read));
    insts = λ b k new h. let back : InstBack b k new = inst_back b k new h in subst (λ (x : Inst). IsTyped x.width x.op) back.moved (typed-moved kept back.inst.width back.inst.op (m.formed.insts b back.place back.inst back.is_inst));
    cases = λ b new h. let was : (block : Block) × IsBlock f b block × (kept_block kept b block ≡ new) = block_back kept f b new h in subst (λ (x : Block). CasesFit x.end) was.2 (cases-moved kept was.0.end (m.formed.cases b was.0 was.1));
    phis_first = phis_first_on;
    phis = phis_on;
    entry = λ b h. m.formed.entry b (names_back b 0 h);
  }

  pub checked : MeetsChecks cleaned
  checked = record {
    formed = formed_on;
    assigned = λ b k i r h register e.
        let back : ReadBack b i r = read_back b k i r h in
        let old : Read = back.old in
        let was : (x : Register) × (old.operand ≡ operands.Register x) × (moved_register kept x ≡ register) = register_back kept old.operand register (ap (λ (x : Read). x.operand) back.moved ∙ e) in
        let a : IsAssigned f was.0 old.block old.place = m.assigned b back.place i old back.is_read was.0 was.1 in
        let now : IsAssigned cleaned (moved_register kept was.0) old.block (kept_before kept old.block old.place) = assigned_on was.0 old.block old.place (subst (OperandStays kept) was.1 back.stays) a in
        subst (λ (x : Read). IsAssigned cleaned register x.block x.place) back.moved (subst (λ x. IsAssigned cleaned x old.block (kept_before kept old.block old.place)) was.2 now);
  }

  -- a literal number that is read in the cleaned function is read in the old one
  pub number_was : (b k i : ℕ) (r : Read) (n : Number) → IsRead cleaned b k i r → r.operand ≡ operands.Number n
      → (place : ℕ) × (old : Read) × IsRead f b place i old × (old.operand ≡ operands.Number n)
  number_was b k i r n h e =
      let back : ReadBack b i r = read_back b k i r h in
      (back.place, back.old, back.is_read, number_back kept back.old.operand n (ap (λ (x : Read). x.operand) back.moved ∙ e))

pub cleaned_numbers : CleanedNumbersWereThere
cleaned_numbers f g b k i r n m c h e = number_was f m c.0 c.1 b k i r n (subst (λ (x : Function). IsRead x b k i r) c.2 h) e

pub cleaned_meets : (f g : Function) → MeetsChecks f → IsCleaned f g → MeetsChecks g
cleaned_meets f g m c = subst MeetsChecks (sym c.2) (checked f m c.0 c.1)
