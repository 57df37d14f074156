-- What registers hold on a walk through the blocks, in the old function and in the cleaned one.
use Rattle.needed.proofs.Common.{◌≡◌, ℕ, zero, suc, ◌<◌, ◌==◌, ◌&&◌, Bool, true, false, cond, ◌⊎◌, inl, inr, List, [], ◌∷◌, length, Option, Some, refl, sym, ap, subst, ◌∙◌, arith, Contains, map, slice_get, option_map, cases_eq, eq-eqb, ne_eqb, and_from, and_right, pow_pos, slice_get-map, instruction, comparison, selection, conversion, unary, Value, Effect, Function, Parameter, Block, Op, Binary, Compare, Unary, Select, Convert, Freeze, Phi, Operand, Register, IsAssigned, IsBlock, HasInst, IsPhi, Read, read, end_of, reads_of, AreArguments, Registers, arguments, holding, OperandGives, Freezes, OpGives, PhiGives, AnyNumber, IsWalk, KeptMarks, kept_before, moved_register, moved_operand, moved_op}
use Rattle.ops.specs.declared.value.Value.TheVariants as values
use Rattle.ops.specs.declared.value.Effect.TheVariants as effects
use Rattle.ir_core.specs.declared.operand.Operand.TheVariants as operands
use Rattle.ir_core.specs.declared.operand.Register.TheVariants as registers
use Rattle.needed.proofs.Counting.{same_place, mapped, contained_at, contains_at}
use Rattle.needed.proofs.Reading.{Stays, OperandStays, ReadsStay}

-- ---- the register that is written, and the others

pub held_here : (held : Registers) (b k : ℕ) (v : Value) (d j : ℕ) → d ≡ b → j ≡ k → holding held b k v (registers.Result d j) ≡ Some v
held_here held b k v d j same_block same_inst = ap (λ c. cond c (Some v) (held (registers.Result d j))) (and_from (d == b) (j == k) (eq-eqb d b same_block) (eq-eqb j k same_inst))

and_left : (x y : Bool) → x ≡ false → (x && y) ≡ false
and_left true y e = absurd cc
and_left false y e = refl

-- a register is the one that is written, or holds what it held
pub held_cases : (held : Registers) (b k : ℕ) (v : Value) (d j : ℕ) → ((d ≡ b) × (j ≡ k)) ⊎ ((((d ≡ b) × (j ≡ k)) → ⊥) × (holding held b k v (registers.Result d j) ≡ held (registers.Result d j)))
held_cases held b k v d j =
    elim (cases_eq d b) [
      | inr ne ↦ inr (λ h. ne h.0, ap (λ t. cond t (Some v) (held (registers.Result d j))) (and_left (d == b) (j == k) (ne_eqb d b ne)))
      | inl same ↦ elim (cases_eq j k) [
        | inr ne ↦ inr (λ h. ne h.1, ap (λ t. cond t (Some v) (held (registers.Result d j))) (and_right (d == b) (j == k) (ne_eqb j k ne)))
        | inl e ↦ inl (same, e)
      ]
    ]

-- ---- what is held on a walk

abbrev pub IsHeld : Registers → Register → Type 0
IsHeld held r = (v : Value) × (held r ≡ Some v)

-- On a walk through the blocks `before` to place k of block b the parameters are held, and the results of the
-- instructions that were passed.
pub record Held (f : Function) (b : ℕ) (before : List ℕ) (k : ℕ) (held : Registers) : Type 0 where
  pub parameters : (p : ℕ) → p < length f.parameters → IsHeld held (registers.Parameter p)
  pub results : (d j : ℕ) → HasInst f d j → Contains before d ⊎ ((d ≡ b) × (j < k)) → IsHeld held (registers.Result d j)

-- a register that is assigned there is held
pub assigned_held : (f : Function) (b : ℕ) (before : List ℕ) (k : ℕ) (held : Registers) (r : Register) → IsWalk f (b ∷ before) → Held f b before k held → IsAssigned f r b k → IsHeld held r
assigned_held f b before k held (registers.Parameter p) walk h a = h.parameters p a
assigned_held f b before k held (registers.Result d j) walk h a = h.results d j a.0 (a.1 before walk)

pub held_next : (f : Function) (b : ℕ) (before : List ℕ) (k : ℕ) (held : Registers) (v : Value) → Held f b before k held → Held f b before (suc k) (holding held b k v)
held_next f b before k held v h = record { parameters = h.parameters; results = results }
  where
    was : (d j : ℕ) → (((d ≡ b) × (j ≡ k)) → ⊥) → Contains before d ⊎ ((d ≡ b) × (j < suc k)) → Contains before d ⊎ ((d ≡ b) × (j < k))
    was d j other (inl c) = inl c
    was d j other (inr (same, lt)) = elim (cases_eq j k) [ inl e ↦ absurd (other (same, e)) | inr ne ↦ inr (same, omega arith) ]

    results : (d j : ℕ) → HasInst f d j → Contains before d ⊎ ((d ≡ b) × (j < suc k)) → IsHeld (holding held b k v) (registers.Result d j)
    results d j has passed =
        elim (held_cases held b k v d j) [
          | inl here ↦ (v, held_here held b k v d j here.0 here.1)
          | inr other ↦ let x : IsHeld held (registers.Result d j) = h.results d j has (was d j other.0 passed) in (x.0, other.1 ∙ x.1)
        ]

-- the same on the walk that goes on behind the block
pub held_on : (f : Function) (b : ℕ) (before : List ℕ) (block : Block) (held : Registers) → IsBlock f b block → Held f b before (length block.insts) held → (c : ℕ) → Held f c (b ∷ before) 0 held
held_on f b before block held at h c = record { parameters = h.parameters; results = results }
  where
    inside : (d j : ℕ) → HasInst f d j → d ≡ b → j < length block.insts
    inside d j has same =
        let both : Some has.0 ≡ Some block = sym has.1 ∙ ap (slice_get f.blocks) same ∙ at in
        let is : has.0 ≡ block = cc in
        subst (λ (x : Block). j < length x.insts) is has.2

    by : (d j : ℕ) → HasInst f d j → (d ≡ b) ⊎ (d ≡ b → ⊥) → (i : ℕ) → slice_get (b ∷ before) i ≡ Some d → Contains before d ⊎ ((d ≡ b) × (j < length block.insts))
    by d j has (inl same) i e = inr (same, inside d j has same)
    by d j has (inr ne) zero e = absurd (ne (let is : b ≡ d = cc in sym is))
    by d j has (inr ne) (suc i) e = inl (contains_at before d i e)

    results : (d j : ℕ) → HasInst f d j → Contains (b ∷ before) d ⊎ ((d ≡ c) × (j < 0)) → IsHeld held (registers.Result d j)
    results d j has (inl passed) = let at_i : (i : ℕ) × (slice_get (b ∷ before) i ≡ Some d) = contained_at (b ∷ before) d passed in h.results d j has (by d j has (cases_eq d b) at_i.0 at_i.1)
    results d j has (inr (same, lt)) = absurd (omega arith)

argument_held : (ps : List Parameter) (args : List Value) (p : ℕ) → AreArguments ps args → p < length ps → (v : Value) × (slice_get args p ≡ Some v)
argument_held [] args p a lt = absurd (omega arith)
argument_held (q ∷ ps) [] p a lt = absurd a
argument_held (q ∷ ps) (v ∷ args) zero a lt = (v, refl)
argument_held (q ∷ ps) (v ∷ args) (suc p) a lt = argument_held ps args p a.1 (omega arith)

pub held_first : (f : Function) (args : List Value) → AreArguments f.parameters args → Held f 0 [] 0 (arguments args)
held_first f args a = record { parameters = λ p lt. argument_held f.parameters args p a lt; results = none }
  where
    none : (d j : ℕ) → HasInst f d j → Contains [] d ⊎ ((d ≡ 0) × (j < 0)) → IsHeld (arguments args) (registers.Result d j)
    none d j has (inl c) = absurd (let lt : c.0 < 0 = c.1 in omega arith)
    none d j has (inr (same, lt)) = absurd (omega arith)

-- ---- where operands are held they give values, and each instruction has an effect

abbrev pub OperandHeld : Registers → Operand → Type 0
OperandHeld held (operands.Register r) = IsHeld held r
OperandHeld held (operands.Number n) = Unit {0}
OperandHeld held operands.Undef = Unit {0}
OperandHeld held operands.Poison = Unit {0}

pub operand_held : (held : Registers) (a : Operand) → ((r : Register) → a ≡ operands.Register r → IsHeld held r) → OperandHeld held a
operand_held held (operands.Register r) h = h r refl
operand_held held (operands.Number n) h = tt
operand_held held operands.Undef h = tt
operand_held held operands.Poison h = tt

-- each register among the reads is held
abbrev pub ReadsHeld : Registers → List Read → Type 0
ReadsHeld held reads = (i : ℕ) (r : Read) → slice_get reads i ≡ Some r → OperandHeld held r.operand

pub operand_gives : (held : Registers) (w : ℕ) (a : Operand) → OperandHeld held a → (v : Value) × OperandGives AnyNumber held w a v
operand_gives held w (operands.Register r) h = h
operand_gives held w (operands.Number n) h = (values.Bits n, refl)
operand_gives held w operands.Undef h = (values.Bits (record { width = w; number = 0 }), (0, pow_pos w, refl))
operand_gives held w operands.Poison h = (values.Poison, refl)

freezes : (w : ℕ) (x : Value) → (v : Value) × Freezes AnyNumber w x v
freezes w values.Poison = (values.Bits (record { width = w; number = 0 }), (0, pow_pos w, refl))
freezes w (values.Bits n) = (values.Bits n, refl)

pub op_gives : (f : Function) (b k w : ℕ) (held : Registers) (op : Op) → ReadsHeld held (reads_of f b k w op) → ¬ IsPhi op → (e : Effect) × OpGives AnyNumber held w op e
op_gives f b k w held (Binary op flags x y) h n =
    let p : (v : Value) × OperandGives AnyNumber held w x v = operand_gives held w x (h 0 (read b k w x) refl) in
    let q : (v : Value) × OperandGives AnyNumber held w y v = operand_gives held w y (h 1 (read b k w y) refl) in
    (instruction op flags w p.0 q.0, (p.0, q.0, p.1, q.1, refl))
op_gives f b k w held (Compare pred samesign compared x y) h n =
    let p : (v : Value) × OperandGives AnyNumber held compared x v = operand_gives held compared x (h 0 (read b k compared x) refl) in
    let q : (v : Value) × OperandGives AnyNumber held compared y v = operand_gives held compared y (h 1 (read b k compared y) refl) in
    (effects.Gives (comparison pred samesign compared p.0 q.0), (p.0, q.0, p.1, q.1, refl))
op_gives f b k w held (Select c x y) h n =
    let z : (v : Value) × OperandGives AnyNumber held 1 c v = operand_gives held 1 c (h 0 (read b k 1 c) refl) in
    let p : (v : Value) × OperandGives AnyNumber held w x v = operand_gives held w x (h 1 (read b k w x) refl) in
    let q : (v : Value) × OperandGives AnyNumber held w y v = operand_gives held w y (h 2 (read b k w y) refl) in
    (effects.Gives (selection z.0 p.0 q.0), (z.0, p.0, q.0, z.1, p.1, q.1, refl))
op_gives f b k w held (Convert cast flags from x) h n =
    let p : (v : Value) × OperandGives AnyNumber held from x v = operand_gives held from x (h 0 (read b k from x) refl) in
    (effects.Gives (conversion cast flags from w p.0), (p.0, p.1, refl))
op_gives f b k w held (Unary op truth x) h n =
    let p : (v : Value) × OperandGives AnyNumber held w x v = operand_gives held w x (h 0 (read b k w x) refl) in
    (effects.Gives (unary op truth w p.0), (p.0, p.1, refl))
op_gives f b k w held (Freeze x) h n =
    let p : (v : Value) × OperandGives AnyNumber held w x v = operand_gives held w x (h 0 (read b k w x) refl) in
    let q : (v : Value) × Freezes AnyNumber w p.0 v = freezes w p.0 in
    (effects.Gives q.0, (p.0, q.0, p.1, q.1, refl))
op_gives f b k w held (Phi entries) h n = absurd (n tt)

-- ---- the cleaned function's registers hold the same

-- registers that stay hold the same in the old function and, renamed, in the cleaned one
pub record Agree (kept : KeptMarks) (held new : Registers) : Type 0 where
  pub parameters : (p : ℕ) → held (registers.Parameter p) ≡ new (registers.Parameter p)
  pub results : (b k : ℕ) → kept b k ≡ true → held (registers.Result b k) ≡ new (registers.Result b (kept_before kept b k))

agree : (kept : KeptMarks) (held new : Registers) (r : Register) → Agree kept held new → Stays kept r → held r ≡ new (moved_register kept r)
agree kept held new (registers.Parameter p) h s = h.parameters p
agree kept held new (registers.Result b k) h s = h.results b k s

-- after an instruction that is kept, both have it
pub agree_kept : (kept : KeptMarks) (b k : ℕ) (held new : Registers) (v : Value) → kept b k ≡ true → Agree kept held new → Agree kept (holding held b k v) (holding new b (kept_before kept b k) v)
agree_kept kept b k held new v keep h = record { parameters = h.parameters; results = results }
  where
    place : (d j : ℕ) → kept d j ≡ true → d ≡ b → kept_before kept d j ≡ kept_before kept b k → j ≡ k
    place d j at same count = same_place kept b j k (ap (λ x. kept x j) (sym same) ∙ at) keep (ap (λ x. kept_before kept x j) (sym same) ∙ count)

    results : (d j : ℕ) → kept d j ≡ true → holding held b k v (registers.Result d j) ≡ holding new b (kept_before kept b k) v (registers.Result d (kept_before kept d j))
    results d j at =
        elim (held_cases held b k v d j) [
          | inl here ↦
              let count : kept_before kept d j ≡ kept_before kept b k = ap (λ x. kept_before kept x j) here.0 ∙ ap (kept_before kept b) here.1 in
              held_here held b k v d j here.0 here.1 ∙ sym (held_here new b (kept_before kept b k) v d (kept_before kept d j) here.0 count)
          | inr other ↦ elim (held_cases new b (kept_before kept b k) v d (kept_before kept d j)) [
            | inl there ↦ absurd (other.0 (there.0, place d j at there.0 there.1))
            | inr others ↦ other.1 ∙ h.results d j at ∙ sym others.1
          ]
        ]

-- after an instruction that is removed, only the old function has it
pub agree_dropped : (kept : KeptMarks) (b k : ℕ) (held new : Registers) (v : Value) → kept b k ≡ false → Agree kept held new → Agree kept (holding held b k v) new
agree_dropped kept b k held new v gone h = record { parameters = h.parameters; results = results }
  where
    results : (d j : ℕ) → kept d j ≡ true → holding held b k v (registers.Result d j) ≡ new (registers.Result d (kept_before kept d j))
    results d j at =
        elim (held_cases held b k v d j) [
          | inl here ↦ absurd (let e : true ≡ false = sym at ∙ ap (λ x. kept x j) here.0 ∙ ap (kept b) here.1 ∙ gone in cc)
          | inr other ↦ other.1 ∙ h.results d j at
        ]

-- ---- what operands and instructions give in the cleaned function they give in the old one

pub operand_back : (kept : KeptMarks) (held new : Registers) (w : ℕ) (a : Operand) (v : Value) → Agree kept held new → OperandStays kept a → OperandGives AnyNumber new w (moved_operand kept a) v → OperandGives AnyNumber held w a v
operand_back kept held new w (operands.Register r) v h s g = agree kept held new r h s ∙ g
operand_back kept held new w (operands.Number n) v h s g = g
operand_back kept held new w operands.Undef v h s g = g
operand_back kept held new w operands.Poison v h s g = g

pub op_back : (f : Function) (kept : KeptMarks) (b k w : ℕ) (held new : Registers) (op : Op) (e : Effect) → Agree kept held new → ReadsStay kept (reads_of f b k w op) → OpGives AnyNumber new w (moved_op kept op) e → OpGives AnyNumber held w op e
op_back f kept b k w held new (Binary op flags x y) e h s g =
    (g.0, g.1, operand_back kept held new w x g.0 h (s 0 (read b k w x) refl) g.2, operand_back kept held new w y g.1 h (s 1 (read b k w y) refl) g.3, g.4)
op_back f kept b k w held new (Compare pred samesign compared x y) e h s g =
    (g.0, g.1, operand_back kept held new compared x g.0 h (s 0 (read b k compared x) refl) g.2, operand_back kept held new compared y g.1 h (s 1 (read b k compared y) refl) g.3, g.4)
op_back f kept b k w held new (Select c x y) e h s g =
    (g.0, g.1, g.2, operand_back kept held new 1 c g.0 h (s 0 (read b k 1 c) refl) g.3, operand_back kept held new w x g.1 h (s 1 (read b k w x) refl) g.4, operand_back kept held new w y g.2 h (s 2 (read b k w y) refl) g.5, g.6)
op_back f kept b k w held new (Convert cast flags from x) e h s g = (g.0, operand_back kept held new from x g.0 h (s 0 (read b k from x) refl) g.1, g.2)
op_back f kept b k w held new (Unary op truth x) e h s g = (g.0, operand_back kept held new w x g.0 h (s 0 (read b k w x) refl) g.1, g.2)
op_back f kept b k w held new (Freeze x) e h s g = (g.0, g.1, operand_back kept held new w x g.0 h (s 0 (read b k w x) refl) g.2, g.3, g.4)
op_back f kept b k w held new (Phi entries) e h s g = g

pub phi_back : (f : Function) (kept : KeptMarks) (from : Option ℕ) (b k w : ℕ) (held new : Registers) (entries : List (Operand × ℕ)) (v : Value) → Agree kept held new → ReadsStay kept (reads_of f b k w (Phi entries))
    → PhiGives AnyNumber new from w (map (λ e. (moved_operand kept e.0, e.1)) entries) v → PhiGives AnyNumber held from w entries v
phi_back f kept from b k w held new entries v h s g =
    let move : Operand × ℕ → Operand × ℕ = λ e. (moved_operand kept e.0, e.1) in
    let new_at : (i : ℕ) × (slice_get (map move entries) i ≡ Some (g.1, g.0)) = contained_at (map move entries) (g.1, g.0) g.3 in
    let entry : (e : Operand × ℕ) × (slice_get entries new_at.0 ≡ Some e) × (move e ≡ (g.1, g.0)) = mapped move (slice_get entries new_at.0) (g.1, g.0) (sym (slice_get-map move entries new_at.0) ∙ new_at.1) in
    let same_operand : moved_operand kept entry.0.0 ≡ g.1 = ap (λ (e : Operand × ℕ). e.0) entry.2 in
    let same_block : entry.0.1 ≡ g.0 = ap (λ (e : Operand × ℕ). e.1) entry.2 in
    let given : Operand × ℕ → Read = λ e. read e.1 (end_of f e.1) w e.0 in
    let stays : OperandStays kept entry.0.0 = s new_at.0 (given entry.0) (slice_get-map given entries new_at.0 ∙ ap (option_map given) entry.1) in
    (g.0, entry.0.0, g.2, subst (λ c. Contains entries (entry.0.0, c)) same_block (contains_at entries entry.0 new_at.0 entry.1), operand_back kept held new w entry.0.0 v h stays (subst (λ a. OperandGives AnyNumber new w a v) (sym same_operand) g.4))
