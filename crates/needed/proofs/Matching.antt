-- The simulation of a run of the cleaned function by one of the old function.
use Rattle.needed.proofs.Common.{◌≡◌, ℕ, zero, suc, ◌+◌, ◌<◌, ◌==◌, Bool, true, false, cond, ◌⊎◌, inl, inr, List, [], ◌∷◌, length, Option, None, Some, refl, sym, ap, subst, ◌∙◌, arith, Contains, map, slice_get, option_map, slice_get-map, AllowsValue-refl, Number, Value, Effect, Function, Block, Inst, Op, Binary, Compare, Unary, Select, Convert, Freeze, Phi, Operand, Register, Terminator, Outcome, IsAssigned, ReadIsAssigned, targets_of, IsBlock, Names, IsPhi, IsInst, EntriesFit, MeetsChecks, read, end_of, reads_of, reads_at_end, AreArguments, AllowsOutcome, Refines, Registers, arguments, has_noundef, breaks_noundef, Ending, Undefines, Returns, Goes, returning, going_by, branch_target, switch_target, GoesOn, Leads, IfPhi, OpGives, PhiGives, EndGives, Follows, Enters, Passes, RunsFrom, Starts, holding, AnyNumber, OperandGives, IsWalk, KeptMarks, kept_before, moved_operand, moved_op, moved_inst, moved_end, kept_first, kept_insts, kept_block, kept_blocks, kept_function, KeepsNeeded, IsCleaned}
use Rattle.ops.specs.declared.value.Value.TheVariants as values
use Rattle.ops.specs.declared.value.Effect.TheVariants as effects
use Rattle.ir_core.specs.declared.operand.Operand.TheVariants as operands
use Rattle.ir_core.specs.declared.operand.Register.TheVariants as registers
use Rattle.ir_core.specs.declared.terminator.Terminator.TheVariants as terminators
use Rattle.ir_core.specs.declared.outcome.Outcome.TheVariants as outcomes
use Rattle.needed.proofs.Counting.{count-kept, count-dropped, contained_at, contains_at, contains_first, contains_later, rest_here, rest_next, block_back}
use Rattle.needed.proofs.Reading.{IsThere, own_place, ReadsStay, inst_reads_stay, end_reads_stay, inst_reads_assigned}
use Rattle.needed.proofs.Holding.{IsHeld, Held, assigned_held, held_next, held_on, held_first, OperandHeld, operand_held, ReadsHeld, operand_gives, op_gives, Agree, agree_kept, agree_dropped, operand_back, op_back, phi_back}

-- ---- phis

phi_or_not : (op : Op) → ((entries : List (Operand × ℕ)) × (op ≡ Phi entries)) ⊎ ¬ IsPhi op
phi_or_not (Binary op flags x y) = inr (λ h. h)
phi_or_not (Compare pred samesign compared x y) = inr (λ h. h)
phi_or_not (Select c x y) = inr (λ h. h)
phi_or_not (Convert cast flags from x) = inr (λ h. h)
phi_or_not (Unary op truth x) = inr (λ h. h)
phi_or_not (Freeze x) = inr (λ h. h)
phi_or_not (Phi entries) = inl (entries, refl)

no_phi_to : (P : List (Operand × ℕ) → Type 0) (Q : Type 0) (op : Op) → ¬ IsPhi op → Q → IfPhi P Q op
no_phi_to P Q (Binary op flags x y) n q = q
no_phi_to P Q (Compare pred samesign compared x y) n q = q
no_phi_to P Q (Select c x y) n q = q
no_phi_to P Q (Convert cast flags from x) n q = q
no_phi_to P Q (Unary op truth x) n q = q
no_phi_to P Q (Freeze x) n q = q
no_phi_to P Q (Phi entries) n q = absurd (n tt)

no_phi_from : (kept : KeptMarks) (P : List (Operand × ℕ) → Type 0) (Q : Type 0) (op : Op) → ¬ IsPhi op → IfPhi P Q (moved_op kept op) → Q
no_phi_from kept P Q (Binary op flags x y) n q = q
no_phi_from kept P Q (Compare pred samesign compared x y) n q = q
no_phi_from kept P Q (Select c x y) n q = q
no_phi_from kept P Q (Convert cast flags from x) n q = q
no_phi_from kept P Q (Unary op truth x) n q = q
no_phi_from kept P Q (Freeze x) n q = q
no_phi_from kept P Q (Phi entries) n q = absurd (n tt)

-- none of these is a phi
abbrev NoPhis : List Inst → Type 0
NoPhis insts = (i : ℕ) (inst : Inst) → slice_get insts i ≡ Some inst → ¬ IsPhi inst.op

-- the block before this one, on a walk through these
abbrev last : List ℕ → Option ℕ
last [] = None
last (c ∷ before) = Some c

-- ---- terminators

switch_or : (cases : List (Number × ℕ)) (other n : ℕ) → (switch_target cases other n ≡ other) ⊎ Contains (map (λ (c : Number × ℕ). c.1) cases) (switch_target cases other n)
switch_or [] other n = inl refl
switch_or (c ∷ cases) other n = by (c.0.number == n) (switch_or cases other n)
  where
    by : (is : Bool) → (switch_target cases other n ≡ other) ⊎ Contains (map (λ (c : Number × ℕ). c.1) cases) (switch_target cases other n)
        → (cond is c.1 (switch_target cases other n) ≡ other) ⊎ Contains (c.1 ∷ map (λ (c : Number × ℕ). c.1) cases) (cond is c.1 (switch_target cases other n))
    by true h = inr (contains_first c.1 (map (λ (c : Number × ℕ). c.1) cases))
    by false (inl e) = inl e
    by false (inr k) = inr (contains_later c.1 (map (λ (c : Number × ℕ). c.1) cases) (switch_target cases other n) k)

switch_targets : (cases : List (Number × ℕ)) (other n : ℕ) → Contains (other ∷ map (λ (c : Number × ℕ). c.1) cases) (switch_target cases other n)
switch_targets cases other n =
    elim (switch_or cases other n) [
      | inl e ↦ subst (Contains (other ∷ map (λ (c : Number × ℕ). c.1) cases)) (sym e) (contains_first other (map (λ (c : Number × ℕ). c.1) cases))
      | inr k ↦ contains_later other (map (λ (c : Number × ℕ). c.1) cases) (switch_target cases other n) k
    ]

branch_targets : (to other : ℕ) (is : Bool) → Contains (to ∷ other ∷ []) (cond is to other)
branch_targets to other true = contains_first to (other ∷ [])
branch_targets to other false = contains_later to (other ∷ []) other (contains_first other [])

returning-moved : (kept : KeptMarks) (nd : Bool) (a : Operand) (v : Value) → returning nd (moved_operand kept a) v ≡ returning nd a v
returning-moved kept nd (operands.Register r) v = refl
returning-moved kept nd (operands.Number n) v = refl
returning-moved kept nd operands.Undef v = refl
returning-moved kept nd operands.Poison v = refl

first_of_some : {A : Type 0} (xs : List A) → 0 < length xs → (x : A) × (slice_get xs 0 ≡ Some x)
first_of_some [] lt = absurd (omega arith)
first_of_some (x ∷ xs) lt = (x, refl)

block_names-kept : (kept : KeptMarks) (b : ℕ) (blocks : List Block) → map (λ (x : Block). x.name) (kept_blocks kept b blocks) ≡ map (λ (x : Block). x.name) blocks
block_names-kept kept b [] = refl
block_names-kept kept b (x ∷ blocks) = ap (λ names. x.name ∷ names) (block_names-kept kept (suc b) blocks)

-- ---- the cleaned function

module _ (f : Function) (m : MeetsChecks f) (kept : KeptMarks) (needed : KeepsNeeded f kept) where
  abbrev cleaned : Function
  cleaned = kept_function kept f

  -- the old function's pass through block b ends as the cleaned one's does, or in undefined behaviour
  abbrev Match : ℕ → List ℕ → Ending → Ending → Type 0
  Match b before Undefines end = Unit {0}
  Match b before (Returns v) end = end ≡ Returns v
  Match b before (Goes c held) end = (new : Registers) × (end ≡ Goes c new) × Held f c (b ∷ before) 0 held × Agree kept held new × Names f b c

  abbrev Matched : ℕ → List ℕ → Ending → (Ending → Type 0) → Type 0
  Matched b before end P = (old : Ending) × P old × Match b before old end

  match_choice : (b : ℕ) (before : List ℕ) (c : Bool) (v : Value) (end : Ending) → end ≡ cond c Undefines (Returns v) → Match b before (cond c Undefines (Returns v)) end
  match_choice b before true v end e = tt
  match_choice b before false v end e = e

  match_go : (b : ℕ) (before : List ℕ) (to : ℕ → ℕ) (a : Operand) (v : Value) (held new : Registers) (end : Ending)
      → ((n : ℕ) → Names f b (to n)) → ((c : ℕ) → Held f c (b ∷ before) 0 held) → Agree kept held new → end ≡ going_by to new (moved_operand kept a) v → Match b before (going_by to held a v) end
  match_go b before to (operands.Register r) (values.Bits n) held new end names on h e = (new, e, on (to n.number), h, names n.number)
  match_go b before to (operands.Register r) values.Poison held new end names on h e = tt
  match_go b before to (operands.Number x) (values.Bits n) held new end names on h e = (new, e, on (to n.number), h, names n.number)
  match_go b before to (operands.Number x) values.Poison held new end names on h e = tt
  match_go b before to operands.Undef v held new end names on h e = tt
  match_go b before to operands.Poison (values.Bits n) held new end names on h e = (new, e, on (to n.number), h, names n.number)
  match_go b before to operands.Poison values.Poison held new end names on h e = tt

  end_back : (b n : ℕ) (before : List ℕ) (held new : Registers) (t : Terminator) (end : Ending)
      → Agree kept held new → ((c : ℕ) → Contains (targets_of t) c → Names f b c) → ((c : ℕ) → Held f c (b ∷ before) 0 held) → ReadsStay kept (reads_at_end f b n t)
      → EndGives AnyNumber new cleaned (moved_end kept t) end → Matched b before end (λ old. EndGives AnyNumber held f t old)
  end_back b n before held new (terminators.Return a) end h names on s g = (
    returning (has_noundef f.before) a g.0,
    (g.0, operand_back kept held new f.width a g.0 h (s 0 (read b n f.width a) refl) g.1, refl),
    match_choice b before _ g.0 end (g.2 ∙ returning-moved kept (has_noundef f.before) a g.0),
  )
  end_back b n before held new (terminators.Jump c) end h names on s g = (Goes c held, refl, (new, g, on c, h, names c (contains_first c [])))
  end_back b n before held new (terminators.Branch c to other) end h names on s g = (
    going_by (branch_target to other) held c g.0,
    (g.0, operand_back kept held new 1 c g.0 h (s 0 (read b n 1 c) refl) g.1, refl),
    match_go b before (branch_target to other) c g.0 held new end (λ x. names (branch_target to other x) (branch_targets to other (x == 1))) on h g.2,
  )
  end_back b n before held new (terminators.Switch a width other cases) end h names on s g = (
    going_by (switch_target cases other) held a g.0,
    (g.0, operand_back kept held new width a g.0 h (s 0 (read b n width a) refl) g.1, refl),
    match_go b before (switch_target cases other) a g.0 held new end (λ x. names (switch_target cases other x) (switch_targets cases other x)) on h g.2,
  )
  end_back b n before held new terminators.Unreachable end h names on s g = (Undefines, refl, tt)

  -- a register that is assigned at the end of the block before is held where this one is entered
  held_from : (b c : ℕ) (before : List ℕ) (was : Registers) (r : Register) → IsWalk f (c ∷ before) → Held f b (c ∷ before) 0 was → IsAssigned f r c (end_of f c) → IsHeld was r
  held_from b c before was (registers.Parameter p) walk hd a = hd.parameters p a
  held_from b c before was (registers.Result d j) walk hd a =
      hd.results d j a.0 (elim (a.1 before walk) [ inl passed ↦ inl (contains_later c before d passed) | inr here ↦ inl (subst (Contains (c ∷ before)) (sym here.0) (contains_first c before)) ])

  -- each phi of a block that is entered takes a value
  phi_gives : (b : ℕ) (before : List ℕ) (block : Block) → IsBlock f b block → IsWalk f (b ∷ before) → (was : Registers) → Held f b before 0 was
      → (k : ℕ) (i : Inst) (entries : List (Operand × ℕ)) → slice_get block.insts k ≡ Some i → i.op ≡ Phi entries → (v : Value) × PhiGives AnyNumber was (last before) i.width entries v
  phi_gives b [] block at walk was hd k i entries here phi =
      let fits : EntriesFit f b entries = m.formed.phis b k i entries (record { block = block; is_block = at; is_inst = here }) phi in
      let e : (a : Operand × ℕ) × (slice_get entries 0 ≡ Some a) = first_of_some entries fits.some in
      let names : Names f e.0.1 b = (fits.from e.0.1).0 (e.0.0, contains_at entries e.0 0 e.1) in
      absurd (m.formed.entry e.0.1 (subst (Names f e.0.1) walk names))
  phi_gives b (c ∷ before) block at walk was hd k i entries here phi =
      let fits : EntriesFit f b entries = m.formed.phis b k i entries (record { block = block; is_block = at; is_inst = here }) phi in
      let a : (a : Operand) × Contains entries (a, c) = (fits.from c).1 walk.0 in
      let at_entry : (j : ℕ) × (slice_get entries j ≡ Some (a.0, c)) = contained_at entries (a.0, c) a.1 in
      let is : slice_get (reads_of f b k i.width i.op) at_entry.0 ≡ Some (read c (end_of f c) i.width a.0) =
      ap (λ op. slice_get (reads_of f b k i.width op) at_entry.0) phi ∙ slice_get-map (λ (e : Operand × ℕ). read e.1 (end_of f e.1) i.width e.0) entries at_entry.0 ∙ ap (option_map (λ (e : Operand × ℕ). read e.1 (end_of f e.1) i.width e.0)) at_entry.1 in
      let assigned : ReadIsAssigned f (read c (end_of f c) i.width a.0) = inst_reads_assigned f m kept needed b k block i at here at_entry.0 (read c (end_of f c) i.width a.0) is in
      let held : OperandHeld was a.0 = operand_held was a.0 (λ r e. held_from b c before was r walk.1 hd (assigned r e)) in
      let v : (v : Value) × OperandGives AnyNumber was i.width a.0 v = operand_gives was i.width a.0 held in
      (v.0, (c, a.0, refl, a.1, v.1))

  -- ---- a block

  module _ (b : ℕ) (before : List ℕ) (block : Block) (at : IsBlock f b block) (walk : IsWalk f (b ∷ before)) where
    abbrev End : Terminator
    End = moved_end kept block.end

    -- the registers that an instruction reads are held at its place
    reads_held : (k : ℕ) (inst : Inst) (held : Registers) → slice_get block.insts k ≡ Some inst → ¬ IsPhi inst.op → Held f b before k held → ReadsHeld held (reads_of f b k inst.width inst.op)
    reads_held k inst held here other h i r e =
        let there : IsThere b k r = own_place f b k inst.width inst.op other i r e in
        let a : ReadIsAssigned f r = inst_reads_assigned f m kept needed b k block inst at here i r e in
        operand_held held r.operand (λ register is. assigned_held f b before k held register walk h (subst (λ c. IsAssigned f register c k) there.0 (subst (λ j. IsAssigned f register r.block j) there.1 (a register is))))

    -- the rest of a pass from place k on is simulated, whatever registers hold
    abbrev Rest : ℕ → List Inst → Ending → Type 0
    Rest k insts end = (held new : Registers) → Held f b before k held → Agree kept held new
        → Follows AnyNumber cleaned b (kept_before kept b k) (kept_insts kept b k insts) End new end → Matched b before end (λ old. Follows AnyNumber f b k insts block.end held old)

    follows_kept : (k : ℕ) (i : Inst) (insts : List Inst) (held new : Registers) (end : Ending)
        → Held f b before k held → Agree kept held new → kept b k ≡ true → Rest (suc k) insts end
        → (e : Effect) → OpGives AnyNumber held i.width i.op e
        → GoesOn (λ v. Follows AnyNumber cleaned b (suc (kept_before kept b k)) (kept_insts kept b (suc k) insts) End (holding new b (kept_before kept b k) v) end) e end
        → Matched b before end (λ old. Follows AnyNumber f b k (i ∷ insts) block.end held old)
    follows_kept k i insts held new end hd h keep rest effects.Undefined gives g = (Undefines, (effects.Undefined, gives, refl), tt)
    follows_kept k i insts held new end hd h keep rest (effects.Gives v) gives g =
        let next : Registers = holding new b (kept_before kept b k) v in
        let r : Matched b before end (λ old. Follows AnyNumber f b (suc k) insts block.end (holding held b k v) old) =
        rest (holding held b k v) next (held_next f b before k held v hd) (agree_kept kept b k held new v keep h)
        (subst (λ c. Follows AnyNumber cleaned b c (kept_insts kept b (suc k) insts) End next end) (sym (count-kept kept b k keep)) g) in
        (r.0, (effects.Gives v, gives, r.1), r.2)

    follows_dropped : (k : ℕ) (i : Inst) (insts : List Inst) (held new : Registers) (end : Ending)
        → Held f b before k held → Agree kept held new → kept b k ≡ false → Rest (suc k) insts end
        → (e : Effect) → OpGives AnyNumber held i.width i.op e
        → Follows AnyNumber cleaned b (kept_before kept b k) (kept_insts kept b (suc k) insts) End new end
        → Matched b before end (λ old. Follows AnyNumber f b k (i ∷ insts) block.end held old)
    follows_dropped k i insts held new end hd h gone rest effects.Undefined gives g = (Undefines, (effects.Undefined, gives, refl), tt)
    follows_dropped k i insts held new end hd h gone rest (effects.Gives v) gives g =
        let r : Matched b before end (λ old. Follows AnyNumber f b (suc k) insts block.end (holding held b k v) old) =
        rest (holding held b k v) new (held_next f b before k held v hd) (agree_dropped kept b k held new v gone h)
        (subst (λ c. Follows AnyNumber cleaned b c (kept_insts kept b (suc k) insts) End new end) (sym (count-dropped kept b k gone)) g) in
        (r.0, (effects.Gives v, gives, r.1), r.2)

    follows_step : (k : ℕ) (i : Inst) (insts : List Inst) (held new : Registers) (end : Ending)
        → slice_get block.insts k ≡ Some i → ¬ IsPhi i.op → Held f b before k held → Agree kept held new → Rest (suc k) insts end
        → (keep : Bool) → kept b k ≡ keep → Follows AnyNumber cleaned b (kept_before kept b k) (kept_first keep (moved_inst kept i) (kept_insts kept b (suc k) insts)) End new end
        → Matched b before end (λ old. Follows AnyNumber f b k (i ∷ insts) block.end held old)
    follows_step k i insts held new end here other hd h rest true keep g =
        follows_kept k i insts held new end hd h keep rest g.0 (op_back f kept b k i.width held new i.op g.0 h (inst_reads_stay f m kept needed b k block i at here keep) g.1) g.2
    follows_step k i insts held new end here other hd h rest false gone g =
        let e : (e : Effect) × OpGives AnyNumber held i.width i.op e = op_gives f b k i.width held i.op (reads_held k i held here other hd) other in
        follows_dropped k i insts held new end hd h gone rest e.0 e.1 g

    ends_back : (k : ℕ) (held new : Registers) (end : Ending) → k + 0 ≡ length block.insts → Held f b before k held → Agree kept held new → EndGives AnyNumber new cleaned End end → Matched b before end (λ old. EndGives AnyNumber held f block.end old)
    ends_back k held new end len hd h g =
        let is : k ≡ length block.insts = omega arith in
        end_back b k before held new block.end end h (λ c k. (block, at, k)) (held_on f b before block held at (subst (λ n. Held f b before n held) is hd)) (subst (λ n. ReadsStay kept (reads_at_end f b n block.end)) (sym is) (end_reads_stay f m kept needed b block at)) g

    follows_back : (k : ℕ) (insts : List Inst) (end : Ending)
        → ((i : ℕ) → slice_get block.insts (k + i) ≡ slice_get insts i) → k + length insts ≡ length block.insts → NoPhis insts → Rest k insts end
    follows_back k [] end is len none held new hd h g = ends_back k held new end len hd h g
    follows_back k (i ∷ insts) end is len none held new hd h g =
        follows_step k i insts held new end (rest_here block.insts k i insts is) (none 0 i refl) hd h
        (follows_back (suc k) insts end (rest_next block.insts k i insts is) (omega arith) (λ j. none (suc j)))
        (kept b k) refl g

    -- behind an instruction that is no phi none is
    none_behind : (k : ℕ) (i : Inst) (insts : List Inst) → ((j : ℕ) → slice_get block.insts (k + j) ≡ slice_get (i ∷ insts) j) → ¬ IsPhi i.op → NoPhis (i ∷ insts)
    none_behind k i insts is other zero inst e = let same : i ≡ inst = cc in subst (λ (x : Inst). ¬ IsPhi x.op) same other
    none_behind k i insts is other (suc j) inst e =
        let first : IsInst f b k i = record { block = block; is_block = at; is_inst = rest_here block.insts k i insts is } in
        let later : IsInst f b (k + suc j) inst = record { block = block; is_block = at; is_inst = is (suc j) ∙ e } in
        λ phi. other (m.formed.phis_first b k (k + suc j) i inst first later (omega arith) phi)

    -- ---- the phis, as the block is entered

    module _ (was now : Registers) (was_held : Held f b before 0 was) (agreed : Agree kept was now) where
      enters_follows : (k c : ℕ) (insts : List Inst) (held : Registers) (end : Ending) → NoPhis insts
          → Enters AnyNumber cleaned (last before) now b c (kept_insts kept b k insts) End held end → Follows AnyNumber cleaned b c (kept_insts kept b k insts) End held end
      enters_follows k c [] held end none g = g
      enters_follows k c (i ∷ insts) held end none g = by (kept b k) (enters_follows (suc k) c insts held end (λ j. none (suc j))) g
        where
          by : (keep : Bool) → (Enters AnyNumber cleaned (last before) now b c (kept_insts kept b (suc k) insts) End held end → Follows AnyNumber cleaned b c (kept_insts kept b (suc k) insts) End held end)
              → Enters AnyNumber cleaned (last before) now b c (kept_first keep (moved_inst kept i) (kept_insts kept b (suc k) insts)) End held end
              → Follows AnyNumber cleaned b c (kept_first keep (moved_inst kept i) (kept_insts kept b (suc k) insts)) End held end
          by true rest g =
              no_phi_from kept
              (λ entries. (v : Value) × PhiGives AnyNumber now (last before) i.width entries v × Enters AnyNumber cleaned (last before) now b (suc c) (kept_insts kept b (suc k) insts) End (holding held b c v) end)
              (Follows AnyNumber cleaned b c (moved_inst kept i ∷ kept_insts kept b (suc k) insts) End held end)
              i.op (none 0 i refl) g
          by false rest g = rest g

      abbrev Entered : ℕ → List Inst → Ending → Type 0
      Entered k insts end = (held new : Registers) → Held f b before k held → Agree kept held new
          → Enters AnyNumber cleaned (last before) now b (kept_before kept b k) (kept_insts kept b k insts) End new end → Matched b before end (λ old. Enters AnyNumber f (last before) was b k insts block.end held old)

      -- a phi that takes a value
      took : (k : ℕ) (i : Inst) (insts : List Inst) (entries : List (Operand × ℕ)) (held : Registers) (old : Ending) → i.op ≡ Phi entries → (v : Value) → PhiGives AnyNumber was (last before) i.width entries v
          → Enters AnyNumber f (last before) was b (suc k) insts block.end (holding held b k v) old → Enters AnyNumber f (last before) was b k (i ∷ insts) block.end held old
      took k i insts entries held old phi v gives rest =
          subst (λ op. IfPhi (λ entries. (v : Value) × PhiGives AnyNumber was (last before) i.width entries v × Enters AnyNumber f (last before) was b (suc k) insts block.end (holding held b k v) old) (Follows AnyNumber f b k (i ∷ insts) block.end held old) op)
          (sym phi) (v, gives, rest)

      enters_phi : (k : ℕ) (i : Inst) (insts : List Inst) (entries : List (Operand × ℕ)) (held new : Registers) (end : Ending)
          → slice_get block.insts k ≡ Some i → i.op ≡ Phi entries → Held f b before k held → Agree kept held new → Entered (suc k) insts end
          → ((v : Value) × PhiGives AnyNumber was (last before) i.width entries v)
          → (keep : Bool) → kept b k ≡ keep → Enters AnyNumber cleaned (last before) now b (kept_before kept b k) (kept_first keep (moved_inst kept i) (kept_insts kept b (suc k) insts)) End new end
          → Matched b before end (λ old. Enters AnyNumber f (last before) was b k (i ∷ insts) block.end held old)
      enters_phi k i insts entries held new end here phi hd h rest given true keep g =
          let c : ℕ = kept_before kept b k in
          let New : List (Operand × ℕ) → Type 0 = λ entries. (v : Value) × PhiGives AnyNumber now (last before) i.width entries v × Enters AnyNumber cleaned (last before) now b (suc c) (kept_insts kept b (suc k) insts) End (holding new b c v) end in
          let taken : New (map (λ (e : Operand × ℕ). (moved_operand kept e.0, e.1)) entries) =
          subst (λ op. IfPhi New (Follows AnyNumber cleaned b c (moved_inst kept i ∷ kept_insts kept b (suc k) insts) End new end) (moved_op kept op)) phi g in
          let stay : ReadsStay kept (reads_of f b k i.width (Phi entries)) = subst (λ op. ReadsStay kept (reads_of f b k i.width op)) phi (inst_reads_stay f m kept needed b k block i at here keep) in
          let v : Value = taken.0 in
          let r : Matched b before end (λ old. Enters AnyNumber f (last before) was b (suc k) insts block.end (holding held b k v) old) =
          rest (holding held b k v) (holding new b c v) (held_next f b before k held v hd) (agree_kept kept b k held new v keep h)
          (subst (λ n. Enters AnyNumber cleaned (last before) now b n (kept_insts kept b (suc k) insts) End (holding new b c v) end) (sym (count-kept kept b k keep)) taken.2) in
          (r.0, took k i insts entries held r.0 phi v (phi_back f kept (last before) b k i.width was now entries v agreed stay taken.1) r.1, r.2)
      enters_phi k i insts entries held new end here phi hd h rest given false gone g =
          let v : Value = given.0 in
          let r : Matched b before end (λ old. Enters AnyNumber f (last before) was b (suc k) insts block.end (holding held b k v) old) =
          rest (holding held b k v) new (held_next f b before k held v hd) (agree_dropped kept b k held new v gone h)
          (subst (λ n. Enters AnyNumber cleaned (last before) now b n (kept_insts kept b (suc k) insts) End new end) (sym (count-dropped kept b k gone)) g) in
          (r.0, took k i insts entries held r.0 phi v given.1 r.1, r.2)

      enters_back : (k : ℕ) (insts : List Inst) (end : Ending)
          → ((i : ℕ) → slice_get block.insts (k + i) ≡ slice_get insts i) → k + length insts ≡ length block.insts → Entered k insts end
      enters_back k [] end is len held new hd h g = ends_back k held new end len hd h g
      enters_back k (i ∷ insts) end is len held new hd h g =
          let here : slice_get block.insts k ≡ Some i = rest_here block.insts k i insts is in
          let rest : Entered (suc k) insts end = enters_back (suc k) insts end (rest_next block.insts k i insts is) (omega arith) in
          elim (phi_or_not i.op) [
            | inl phi ↦ enters_phi k i insts phi.0 held new end here phi.1 hd h rest (phi_gives b before block at walk was was_held k i phi.0 here phi.1) (kept b k) refl g
            | inr other ↦
                let none : NoPhis (i ∷ insts) = none_behind k i insts is other in
                let r : Matched b before end (λ old. Follows AnyNumber f b k (i ∷ insts) block.end held old) = follows_back k (i ∷ insts) end is len none held new hd h (enters_follows k (kept_before kept b k) (i ∷ insts) new end none g) in (
                  r.0,
                  no_phi_to (λ entries. (v : Value) × PhiGives AnyNumber was (last before) i.width entries v × Enters AnyNumber f (last before) was b (suc k) insts block.end (holding held b k v) r.0) (Follows AnyNumber f b k (i ∷ insts) block.end held r.0) i.op other r.1,
                  r.2,
                )
          ]

  -- ---- a run

  -- a pass of the cleaned function through a block is simulated by one of the old function
  passes_back : (b : ℕ) (before : List ℕ) (held new : Registers) (end : Ending) → IsWalk f (b ∷ before) → Held f b before 0 held → Agree kept held new
      → Passes AnyNumber cleaned (last before) b new end → Matched b before end (λ old. Passes AnyNumber f (last before) b held old)
  passes_back b before held new end walk hd h g =
      let was : (block : Block) × IsBlock f b block × (kept_block kept b block ≡ g.0) = block_back kept f b g.0 g.1 in
      let entered : Enters AnyNumber cleaned (last before) new b 0 (kept_insts kept b 0 was.0.insts) (moved_end kept was.0.end) new end = subst (λ (x : Block). Enters AnyNumber cleaned (last before) new b 0 x.insts x.end new end) (sym was.2) g.2 in
      let r : Matched b before end (λ old. Enters AnyNumber f (last before) held b 0 was.0.insts was.0.end held old) =
      enters_back b before was.0 was.1 walk held new hd h 0 was.0.insts end (λ i. let same : 0 + i ≡ i = omega arith in ap (slice_get was.0.insts) same) (omega arith) held new hd h entered in
      (r.0, (was.0, was.1, r.1), r.2)

  abbrev RunMatched : ℕ → List ℕ → ℕ → Registers → Outcome → Type 0
  RunMatched n before b held o = (allowed_by : Outcome) × RunsFrom AnyNumber f n (last before) b held allowed_by × AllowsOutcome allowed_by o

  leads_back : (n : ℕ) (before : List ℕ) (b : ℕ) (held : Registers) (end : Ending) (o : Outcome) → IsWalk f (b ∷ before)
      → ((c : ℕ) (next new : Registers) → IsWalk f (c ∷ b ∷ before) → Held f c (b ∷ before) 0 next → Agree kept next new → RunsFrom AnyNumber cleaned n (Some b) c new o → RunMatched n (b ∷ before) c next o)
      → (old : Ending) → Passes AnyNumber f (last before) b held old → Match b before old end → Leads (RunsFrom AnyNumber cleaned n (Some b)) end o → RunMatched (suc n) before b held o
  leads_back n before b held end o walk rest Undefines pass same g = (outcomes.Undefined, (Undefines, pass, refl), tt)
  leads_back n before b held end o walk rest (Returns v) pass same g =
      let is : o ≡ outcomes.Return v = subst (λ x. Leads (RunsFrom AnyNumber cleaned n (Some b)) x o) same g in
      (outcomes.Return v, (Returns v, pass, refl), subst (AllowsOutcome (outcomes.Return v)) (sym is) (AllowsValue-refl v))
  leads_back n before b held end o walk rest (Goes c next) pass same g =
      let run : RunsFrom AnyNumber cleaned n (Some b) c same.0 o = subst (λ x. Leads (RunsFrom AnyNumber cleaned n (Some b)) x o) same.1 g in
      let r : RunMatched n (b ∷ before) c next o = rest c next same.0 (same.4, walk) same.2 same.3 run in
      (r.0, (Goes c next, pass, r.1), r.2)

  runs_back : (n : ℕ) (before : List ℕ) (b : ℕ) (held new : Registers) (o : Outcome) → IsWalk f (b ∷ before) → Held f b before 0 held → Agree kept held new → RunsFrom AnyNumber cleaned n (last before) b new o → RunMatched n before b held o
  runs_back zero before b held new o walk hd h g = (outcomes.Running b, refl, g)
  runs_back (suc n) before b held new o walk hd h g =
      let r : Matched b before g.0 (λ old. Passes AnyNumber f (last before) b held old) = passes_back b before held new g.0 walk hd h g.1 in
      leads_back n before b held g.0 o walk (λ c next new' walk' hd' h' run. runs_back n (b ∷ before) c next new' o walk' hd' h' run) r.0 r.1 r.2 g.2

  starts_back : (args : List Value) (n : ℕ) (o : Outcome) → AreArguments f.parameters args → (breaks : Bool) → Starts AnyNumber breaks cleaned args n o → (allowed_by : Outcome) × Starts AnyNumber breaks f args n allowed_by × AllowsOutcome allowed_by o
  starts_back args n o a true g = (outcomes.Undefined, refl, tt)
  starts_back args n o a false g = runs_back n [] 0 (arguments args) (arguments args) o refl (held_first f args a) (record { parameters = λ p. refl; results = λ b k keep. refl }) g

  pub refined : Refines f cleaned
  refined = record { name = refl; before = refl; width = refl; parameters = refl; after = refl; blocks = block_names-kept kept 0 f.blocks; outcomes = λ args n o a h. starts_back args n o a (breaks_noundef f.parameters args) h }

pub cleaned_refines : (f g : Function) → MeetsChecks f → IsCleaned f g → Refines f g
cleaned_refines f g m c = subst (Refines f) (sym c.2) (refined f m c.0 c.1)
