-- A folded function meets the checks that the old one met.
use Rattle.fold_branch.proofs.Common.{◌≡◌, ℕ, ◌<◌, Bool, true, false, inl, inr, List, [], ◌∷◌, length, map, get_or, Option, None, Some, Contains, IsSome, refl, sym, ap, subst, ◌∙◌, option_map, option_and_then, arith, slice_get, slice_index_or, length-map, IsAssigned, targets_of, IsBlock, Names, HasInst, IsInst, IsKnown, OperandHasWidth, IsTyped, CasesFit, IsPhi, EntriesFit, IsFormed, MeetsChecks, width_of, Read, IsRead, IsWalk, IsReached, Block, Function, Inst, Op, Binary, Compare, Unary, Select, Convert, Freeze, Phi, Operand, Register, Terminator, first_in, later_in, some_at, contains_at, mapped, only_one, chosen, jump_or, decided_end, decided, staying, folded_op, folded_inst, folded_as, folded_block, choices_of, AreReached, FoldedFunctionsMeetChecks, FoldedNumbersWereThere, IsMarked, HasEntry}
use Rattle.ir_core.specs.declared.operand.Operand.TheVariants as operands
use Rattle.ir_core.specs.declared.operand.Register.TheVariants as registers
use Rattle.fold_branch.proofs.Decided.{leads_back, named_before, walk_before, on_walk}
use Rattle.fold_branch.proofs.FoldedBlocks.{folded, choice_at, length-folded_blocks, block_on, block_back, folded_leads, leads_on, walk_decided, InstBack, inst_back, inst_on}
use Rattle.fold_branch.proofs.Naming.{names_differ}
use Rattle.fold_branch.proofs.Reading.{ReadBack, read_back}
use Rattle.fold_branch.proofs.Staying.{LeadsHere, staying_among, staying_reached, staying_some}

-- ---- options

some_of : {A : Type 0} (o : Option A) → IsSome o → (x : A) × (o ≡ Some x)
some_of None h = absurd cc
some_of (Some x) h = (x, refl)

is_some_from : {A : Type 0} (o : Option A) (x : A) → o ≡ Some x → IsSome o
is_some_from o x e = subst IsSome (sym e) refl

chained : {A B : Type 0} (f : A → Option B) (o : Option A) (y : B) → option_and_then f o ≡ Some y → (x : A) × (o ≡ Some x) × (f x ≡ Some y)
chained f None y h = absurd cc
chained f (Some x) y h = (x, refl, h)

-- ---- operations and terminators

module _ (choices : List (Option ℕ)) (reached : List Bool) (b : ℕ) where
  typed_on : (w : ℕ) (op : Op) → IsTyped w op → IsTyped w (folded_op choices reached b op)
  typed_on w (Binary op flags x y) h = h
  typed_on w (Compare pred samesign compared x y) h = h
  typed_on w (Unary op truth x) h = h
  typed_on w (Select c x y) h = h
  typed_on w (Convert cast flags from x) h = h
  typed_on w (Freeze x) h = h
  typed_on w (Phi entries) h = h

  phi_on : (op : Op) → IsPhi op → IsPhi (folded_op choices reached b op)
  phi_on (Binary op flags x y) h = h
  phi_on (Compare pred samesign compared x y) h = h
  phi_on (Unary op truth x) h = h
  phi_on (Select c x y) h = h
  phi_on (Convert cast flags from x) h = h
  phi_on (Freeze x) h = h
  phi_on (Phi entries) h = h

  phi_was : (op : Op) → IsPhi (folded_op choices reached b op) → IsPhi op
  phi_was (Binary op flags x y) h = h
  phi_was (Compare pred samesign compared x y) h = h
  phi_was (Unary op truth x) h = h
  phi_was (Select c x y) h = h
  phi_was (Convert cast flags from x) h = h
  phi_was (Freeze x) h = h
  phi_was (Phi entries) h = h

  entries_were : (op : Op) (new : List (Operand × ℕ)) → folded_op choices reached b op ≡ Phi new → (entries : List (Operand × ℕ)) × (op ≡ Phi entries) × (staying choices reached b [] entries ≡ new)
  entries_were (Binary op flags x y) new e = absurd cc
  entries_were (Compare pred samesign compared x y) new e = absurd cc
  entries_were (Unary op truth x) new e = absurd cc
  entries_were (Select c x y) new e = absurd cc
  entries_were (Convert cast flags from x) new e = absurd cc
  entries_were (Freeze x) new e = absurd cc
  entries_were (Phi entries) new e = (entries, refl, cc)

  cases_on : (block : Block) (mark : Bool) → CasesFit block.end → CasesFit (folded_as choices reached b mark block).end
  cases_on block false h = tt
  cases_on block true h = by (chosen block.end)
    where
      by : (choice : Option ℕ) → CasesFit (jump_or choice block.end)
      by None = h
      by (Some to) = tt

-- where a decided terminator leads to the block, none is chosen at its end, or this one
chosen_here : (t : Terminator) (b : ℕ) → Contains (targets_of (decided_end t)) b → LeadsHere b (chosen t)
chosen_here t b h = by (chosen t) h
  where
    by : (choice : Option ℕ) → Contains (targets_of (jump_or choice t)) b → LeadsHere b choice
    by None h = inl refl
    by (Some to) h = inr (ap (λ c. Some c) (only_one to b h))

here_chosen : (t : Terminator) (b : ℕ) → Contains (targets_of t) b → LeadsHere b (chosen t) → Contains (targets_of (decided_end t)) b
here_chosen t b h (inl none) = subst (λ choice. Contains (targets_of (jump_or choice t)) b) (sym none) h
here_chosen t b h (inr here) = subst (λ choice. Contains (targets_of (jump_or choice t)) b) (sym here) (first_in b [])

module _ (f : Function) (m : MeetsChecks f) (reached : List Bool) (r : AreReached (decided f) reached) where
  abbrev g : Function
  g = folded f reached

  abbrev choices : List (Option ℕ)
  choices = choices_of f

  names_back : (b c : ℕ) → Names g b c → Names f b c
  names_back b c h = named_before f b c (folded_leads f reached b c h).1

  walk_back : (walk : List ℕ) → IsWalk g walk → IsWalk f walk
  walk_back walk h = walk_before f walk (walk_decided f reached walk h)

  -- ---- registers

  -- the register stands: a parameter, or the result of an instruction of a block that is reached
  abbrev Stands : Register → Type 0
  Stands (registers.Parameter p) = Unit {0}
  Stands (registers.Result d j) = IsMarked reached d

  -- what is assigned in a block that is reached stands
  stands : (register : Register) (b k : ℕ) → IsMarked reached b → IsAssigned f register b k → Stands register
  stands (registers.Parameter p) b k mark a = tt
  stands (registers.Result d j) b k mark a =
      let walk : IsReached (decided f) b = (r.exact b).0 mark in
      elim (a.1 walk.0 (walk_before f (b ∷ walk.0) walk.1)) [
        | inl passed ↦ (r.exact d).1 (on_walk (decided f) (b ∷ walk.0) d walk.1 (later_in b walk.0 d passed))
        | inr here ↦ subst (IsMarked reached) (sym here.0) mark
      ]

  width_on : (register : Register) (w : ℕ) → Stands register → width_of f register ≡ Some w → width_of g register ≡ Some w
  width_on (registers.Parameter p) w s h = h
  width_on (registers.Result d j) w s h =
      let width_at : Block → Option ℕ = λ block. option_map (λ (i : Inst). i.width) (slice_get block.insts j) in
      let in_block : (block : Block) × (slice_get f.blocks d ≡ Some block) × (width_at block ≡ Some w) = chained width_at (slice_get f.blocks d) w h in
      let at : (i : Inst) × (slice_get in_block.0.insts j ≡ Some i) × (i.width ≡ w) = mapped (λ (i : Inst). i.width) (slice_get in_block.0.insts j) w in_block.2 in
      let now : IsInst g d j (folded_inst choices reached d at.0) = inst_on f reached d j at.0 (record { block = in_block.0; is_block = in_block.1; is_inst = at.1 }) s in
      ap (option_and_then (λ (block : Block). option_map (λ (i : Inst). i.width) (slice_get block.insts j))) now.is_block
      ∙ ap (option_map (λ (i : Inst). i.width)) now.is_inst
      ∙ ap (λ n. Some n) at.2

  -- what the operand reads stands
  abbrev OperandStands : Operand → Type 0
  OperandStands a = (register : Register) → a ≡ operands.Register register → Stands register

  known_on : (a : Operand) → OperandStands a → IsKnown f a → IsKnown g a
  known_on (operands.Register x) s h = let w : (w : ℕ) × (width_of f x ≡ Some w) = some_of (width_of f x) h in is_some_from (width_of g x) w.0 (width_on x w.0 (s x refl) w.1)
  known_on (operands.Number n) s h = h
  known_on operands.Undef s h = h
  known_on operands.Poison s h = h

  has_width_on : (w : ℕ) (a : Operand) → OperandStands a → OperandHasWidth f w a → OperandHasWidth g w a
  has_width_on w (operands.Register x) s h = width_on x w (s x refl) h
  has_width_on w (operands.Number n) s h = h
  has_width_on w operands.Undef s h = h
  has_width_on w operands.Poison s h = h

  -- what is read stands
  reads_stand : (b k : ℕ) (x : Read) → ReadBack f reached b k x → OperandStands x.operand
  reads_stand b k x back register is = stands register x.block x.place back.2 (m.assigned b k back.0 x back.1 register is)

  has_on : (d j : ℕ) → HasInst f d j → IsMarked reached d → HasInst g d j
  has_on d j h mark =
      let size : length (map (folded_inst choices reached d) h.0.insts) ≡ length h.0.insts = length-map h.0.insts (folded_inst choices reached d) in
      let lt : j < length h.0.insts = h.2 in
      (folded_as choices reached d true h.0, block_on f reached d h.0 h.1 mark, omega (arith, size, lt))

  assigned_on : (register : Register) (b k : ℕ) → Stands register → IsAssigned f register b k → IsAssigned g register b k
  assigned_on (registers.Parameter p) b k s a = a
  assigned_on (registers.Result d j) b k s a = (has_on d j a.0 s, λ before walk. a.1 before (walk_back (b ∷ before) walk))

  -- ---- phis

  -- a block that is reached has an entry for each block that leads to it
  entry_for : (b c : ℕ) (entries : List (Operand × ℕ)) → EntriesFit f b entries → IsMarked reached c → Names (decided f) c b → HasEntry (staying choices reached b [] entries) c
  entry_for b c entries fits mark names =
      let block : (block : Block) × IsBlock f c block × Contains (targets_of (decided_end block.end)) b = leads_back f c b names in
      let a : (a : Operand) × Contains entries (a, c) = (fits.from c).1 (named_before f c b names) in
      let here : LeadsHere b (get_or choices c None) = subst (LeadsHere b) (sym (choice_at f c block.0 block.1)) (chosen_here block.0.end b block.2) in
      staying_some choices reached b [] entries a.0 c a.1 mark here refl

  names_of_entry : (b c : ℕ) (entries : List (Operand × ℕ)) → EntriesFit f b entries → HasEntry (staying choices reached b [] entries) c → Names g c b
  names_of_entry b c entries fits has =
      let was : IsMarked reached c × LeadsHere b (get_or choices c None) = staying_reached choices reached b [] entries (has.0, c) has.1 in
      let named : Names f c b = (fits.from c).0 (has.0, staying_among choices reached b [] entries (has.0, c) has.1) in
      leads_on f reached c b named.0 named.1 was.0 (here_chosen named.0.end b named.2 (subst (LeadsHere b) (choice_at f c named.0 named.1) was.1))

  -- some entry is left: a run comes to the block from somewhere
  some_left : (b : ℕ) (entries : List (Operand × ℕ)) → EntriesFit f b entries → IsReached (decided f) b → (c : ℕ) × HasEntry (staying choices reached b [] entries) c
  some_left b entries fits ([], walk) =
      let e : (e : Operand × ℕ) × (slice_get entries 0 ≡ Some e) = some_at entries 0 fits.some in
      let named : Names f e.0.1 b = (fits.from e.0.1).0 (e.0.0, contains_at entries 0 e.0 e.1) in
      absurd (m.formed.entry e.0.1 (subst (Names f e.0.1) walk named))
  some_left b entries fits (c ∷ before, walk) = (c, entry_for b c entries fits ((r.exact c).1 (before, walk.1)) walk.0)

  entries_on : (b : ℕ) (entries : List (Operand × ℕ)) → EntriesFit f b entries → IsMarked reached b → EntriesFit g b (staying choices reached b [] entries)
  entries_on b entries fits mark = record {
    some = let left : (c : ℕ) × HasEntry (staying choices reached b [] entries) c = some_left b entries fits ((r.exact b).0 mark) in let lt = left.1.1.1 in omega arith;
    from = λ c. (names_of_entry b c entries fits, λ names. entry_for b c entries fits (folded_leads f reached c b names).0 (folded_leads f reached c b names).1);
    one = λ x y c p q. fits.one x y c (staying_among choices reached b [] entries (x, c) p) (staying_among choices reached b [] entries (y, c) q);
  }

  phis_on : (b k : ℕ) (new : Inst) (entries : List (Operand × ℕ)) → IsInst g b k new → new.op ≡ Phi entries → EntriesFit g b entries
  phis_on b k new entries h phi =
      let back : InstBack f reached b k new = inst_back f reached b k new h in
      let was : (es : List (Operand × ℕ)) × (back.inst.op ≡ Phi es) × (staying choices reached b [] es ≡ entries) = entries_were choices reached b back.inst.op entries (ap (λ (x : Inst). x.op) back.is ∙ phi) in
      subst (EntriesFit g b) was.2 (entries_on b was.0 (m.formed.phis b k back.inst was.0 back.was was.1) back.mark)

  phis_first_on : (b j k : ℕ) (earlier later : Inst) → IsInst g b j earlier → IsInst g b k later → j < k → IsPhi later.op → IsPhi earlier.op
  phis_first_on b j k earlier later h i lt phi =
      let p : InstBack f reached b j earlier = inst_back f reached b j earlier h in
      let q : InstBack f reached b k later = inst_back f reached b k later i in
      let was_phi : IsPhi q.inst.op = phi_was choices reached b q.inst.op (subst (λ (x : Inst). IsPhi x.op) (sym q.is) phi) in
      subst (λ (x : Inst). IsPhi x.op) p.is (phi_on choices reached b p.inst.op (m.formed.phis_first b j k p.inst q.inst p.was q.was lt was_phi))

  -- ---- the checks

  formed_on : IsFormed g
  formed_on = record {
    some_block = let some : 0 < length f.blocks = m.formed.some_block in omega (arith, some, length-folded_blocks choices reached 0 f.blocks);
    names = names_differ f reached m.formed.names;
    registers = λ b k i x h. let back : ReadBack f reached b k x = read_back f reached b k i x h in known_on x.operand (reads_stand b k x back) (m.formed.registers b k back.0 x back.1);
    blocks = λ b c h. let lt : c < length f.blocks = m.formed.blocks b c (names_back b c h) in omega (arith, lt, length-folded_blocks choices reached 0 f.blocks);
    operands = λ b k i x h. let back : ReadBack f reached b k x = read_back f reached b k i x h in has_width_on x.width x.operand (reads_stand b k x back) (m.formed.operands b k back.0 x back.1);
    insts = λ b k new h. let back : InstBack f reached b k new = inst_back f reached b k new h in subst (λ (x : Inst). IsTyped x.width x.op) back.is (typed_on choices reached b back.inst.width back.inst.op (m.formed.insts b k back.inst back.was));
    cases = λ b new h. let was : (block : Block) × IsBlock f b block × (folded_block choices reached b block ≡ new) = block_back f reached b new h in
        subst (λ (x : Block). CasesFit x.end) was.2 (cases_on choices reached b was.0 (slice_index_or reached b false) (m.formed.cases b was.0 was.1));
    phis_first = phis_first_on;
    phis = phis_on;
    entry = λ b h. m.formed.entry b (names_back b 0 h);
  }

  pub checked : MeetsChecks g
  checked = record {
    formed = formed_on;
    assigned = λ b k i x h register is.
        let back : ReadBack f reached b k x = read_back f reached b k i x h in
        assigned_on register x.block x.place (reads_stand b k x back register is) (m.assigned b k back.0 x back.1 register is);
  }

pub folded_meets : FoldedFunctionsMeetChecks
folded_meets f new m is = subst MeetsChecks (sym is.2) (checked f m is.0 is.1)

pub folded_numbers : FoldedNumbersWereThere
folded_numbers f new b k i x n is h number =
    let back : ReadBack f is.0 b k x = read_back f is.0 b k i x (subst (λ (y : Function). IsRead y b k i x) is.2 h) in
    (back.0, x, back.1, number)
