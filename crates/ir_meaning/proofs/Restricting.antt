-- A run whose registers hold more than it has assigned is also one whose registers hold just that, since it reads only
-- what is assigned.
use Rattle.ir_meaning.proofs.Common.{◌≡◌, ℕ, zero, suc, ◌+◌, ◌<◌, ◌==◌, eqb, Bool, true, false, ◌&&◌, cond, List, [], ◌∷◌, length, Option, None, Some, option_map, refl, sym, ap, subst, ◌∙◌, inl, inr, ◌⊎◌, arith, Contains, slice_get, cases_lt, none-some, same_Some, slice_get-map, slice_get_past, Value, Effect, IsAssigned, IsBlock, HasInst, Names, targets_of, MeetsChecks, Read, read, end_of, reads_of, reads_at_end, reads_by, reads_in, IsRead, Registers, holding, Ending, Undefines, Returns, Goes, GoesOn, Leads, returning, going_by, branch_target, switch_target, is_indefinite, has_noundef, OperandGives, OpGives, PhiGives, EndGives, Follows, Enters, RunsFrom, IsWalk, Function, Block, Inst, Op, Binary, Compare, Unary, Select, Convert, Freeze, Phi, Operand, Register, Outcome, Terminator}
use Rattle.ops.specs.declared.value.Value.TheVariants as values
use Rattle.ops.specs.declared.value.Effect.TheVariants as effects
use Rattle.ir_core.specs.declared.operand.Operand.TheVariants as operands
use Rattle.ir_core.specs.declared.operand.Register.TheVariants as registers
use Rattle.ir_core.specs.declared.terminator.Terminator.TheVariants as terminators
use Rattle.ir_meaning.proofs.Pieces.{AllAt, all_from_0, first_in, later_in, cases_in, place_in, if_phi_ends, branch_among, switch_among_all}

-- the register holds something
abbrev pub IsHeld : Registers → Register → Type 0
IsHeld held r = (v : Value) × (held r ≡ Some v)

-- what the first registers hold, the second hold too
abbrev pub Within : Registers → Registers → Type 0
Within held full = (r : Register) (v : Value) → held r ≡ Some v → full r ≡ Some v

-- the parameters are held, and the results of all blocks that were passed
pub record PassedAreHeld (f : Function) (before : List ℕ) (held : Registers) : Type 0 where
  pub parameters : (p : ℕ) → p < length f.parameters → IsHeld held (registers.Parameter p)
  pub results : (d j : ℕ) → HasInst f d j → Contains before d → IsHeld held (registers.Result d j)

-- these are held, and the results of block b before place k
pub record AreHeld (f : Function) (before : List ℕ) (b k : ℕ) (held : Registers) : Type 0 where
  pub passed : PassedAreHeld f before held
  pub here : (j : ℕ) → j < k → IsHeld held (registers.Result b j)

-- ---- one more register

choose_held : (t : Bool) (v : Value) (o : Option Value) → ((u : Value) × (o ≡ Some u)) → (u : Value) × (cond t (Some v) o ≡ Some u)
choose_held true v o h = (v, refl)
choose_held false v o h = h

pub holding_held : (held : Registers) (b k : ℕ) (v : Value) (r : Register) → IsHeld held r → IsHeld (holding held b k v) r
holding_held held b k v (registers.Parameter p) h = h
holding_held held b k v (registers.Result c j) h = choose_held ((c == b) && (j == k)) v (held (registers.Result c j)) h

itself : (n : ℕ) → eqb n n ≡ true
itself n = grind arith

holding_here : (held : Registers) (b k : ℕ) (v : Value) → holding held b k v (registers.Result b k) ≡ Some v
holding_here held b k v = rw (itself b, itself k) refl

choose_within : (t : Bool) (v u : Value) (o o' : Option Value) → ((w : Value) → o ≡ Some w → o' ≡ Some w) → cond t (Some v) o ≡ Some u → cond t (Some v) o' ≡ Some u
choose_within true v u o o' f h = h
choose_within false v u o o' f h = f u h

holding_within : (held full : Registers) (b k : ℕ) (v : Value) → Within held full → Within (holding held b k v) (holding full b k v)
holding_within held full b k v within (registers.Parameter p) u h = within (registers.Parameter p) u h
holding_within held full b k v within (registers.Result c j) u h =
    choose_within ((c == b) && (j == k)) v u (held (registers.Result c j)) (full (registers.Result c j)) (within (registers.Result c j)) h

below_or_last : (j k : ℕ) → j < suc k → (j < k) ⊎ (j ≡ k)
below_or_last j k h = elim (cases_lt j k) [ inl below ↦ inl below | inr above ↦ inr (omega arith) ]

holding_more : (f : Function) (before : List ℕ) (b k : ℕ) (held : Registers) (v : Value) → AreHeld f before b k held → AreHeld f before b (suc k) (holding held b k v)
holding_more f before b k held v h = record {
  passed = record {
    parameters = λ p below. h.passed.parameters p below;
    results = λ d j has in_before. holding_held held b k v (registers.Result d j) (h.passed.results d j has in_before);
  };
  here = λ j below. elim (below_or_last j k below) [
    | inl earlier ↦ holding_held held b k v (registers.Result b j) (h.here j earlier)
    | inr last ↦ subst (λ n. IsHeld (holding held b k v) (registers.Result b n)) (sym last) (v, holding_here held b k v)
  ];
}

-- ---- registers that are read are held

restrict_value : (held full : Registers) (r : Register) (v : Value) → Within held full → IsHeld held r → full r ≡ Some v → held r ≡ Some v
restrict_value held full r v within h e = let same = within r h.0 h.1 in h.1 ∙ sym same ∙ e

operand_restricts : (C : ℕ → ℕ → Type 0) (held full : Registers) → Within held full → (w : ℕ) (a : Operand) (v : Value) → ((r : Register) → a ≡ operands.Register r → IsHeld held r) → OperandGives C full w a v → OperandGives C held w a v
operand_restricts C held full within w (operands.Register r) v h gives = restrict_value held full r v within (h r refl) gives
operand_restricts C held full within w (operands.Number n) v h gives = gives
operand_restricts C held full within w operands.Undef v h gives = gives
operand_restricts C held full within w operands.Poison v h gives = gives

-- the registers among these reads that are read at place k of block b are held
abbrev ReadsHeld : Registers → ℕ → ℕ → List Read → Type 0
ReadsHeld held b k reads = (i : ℕ) (r : Read) (register : Register) → slice_get reads i ≡ Some r → r.block ≡ b → r.place ≡ k → r.operand ≡ operands.Register register → IsHeld held register

op_restricts : (C : ℕ → ℕ → Type 0) (held full : Registers) → Within held full → (f : Function) (b k w : ℕ) (op : Op) (e : Effect) → ReadsHeld held b k (reads_of f b k w op) → OpGives C full w op e → OpGives C held w op e
op_restricts C held full within f b k w (Binary op flags x y) e reads h = (
  h.0,
  h.1,
  operand_restricts C held full within w x h.0 (λ r is. reads 0 (read b k w x) r refl refl refl is) h.2,
  operand_restricts C held full within w y h.1 (λ r is. reads 1 (read b k w y) r refl refl refl is) h.3,
  h.4,
)
op_restricts C held full within f b k w (Compare pred samesign compared x y) e reads h = (
  h.0,
  h.1,
  operand_restricts C held full within compared x h.0 (λ r is. reads 0 (read b k compared x) r refl refl refl is) h.2,
  operand_restricts C held full within compared y h.1 (λ r is. reads 1 (read b k compared y) r refl refl refl is) h.3,
  h.4,
)
op_restricts C held full within f b k w (Select c x y) e reads h = (
  h.0,
  h.1,
  h.2,
  operand_restricts C held full within 1 c h.0 (λ r is. reads 0 (read b k 1 c) r refl refl refl is) h.3,
  operand_restricts C held full within w x h.1 (λ r is. reads 1 (read b k w x) r refl refl refl is) h.4,
  operand_restricts C held full within w y h.2 (λ r is. reads 2 (read b k w y) r refl refl refl is) h.5,
  h.6,
)
op_restricts C held full within f b k w (Convert cast flags from x) e reads h =
    (h.0, operand_restricts C held full within from x h.0 (λ r is. reads 0 (read b k from x) r refl refl refl is) h.1, h.2)
op_restricts C held full within f b k w (Unary op truth x) e reads h =
    (h.0, operand_restricts C held full within w x h.0 (λ r is. reads 0 (read b k w x) r refl refl refl is) h.1, h.2)
op_restricts C held full within f b k w (Freeze x) e reads h =
    (h.0, h.1, operand_restricts C held full within w x h.0 (λ r is. reads 0 (read b k w x) r refl refl refl is) h.2, h.3, h.4)
op_restricts C held full within f b k w (Phi entries) e reads h = h

-- ---- endings that differ only in what is held

abbrev Restricts : (ℕ → Registers → Registers → Type 0) → Ending → Ending → Type 0
Restricts Q Undefines end' = end' ≡ Undefines
Restricts Q (Returns v) end' = end' ≡ Returns v
Restricts Q (Goes c full) end' = (held : Registers) × (end' ≡ Goes c held) × Q c held full

returning_restricts : (Q : ℕ → Registers → Registers → Type 0) (t : Bool) (v : Value) → Restricts Q (cond t Undefines (Returns v)) (cond t Undefines (Returns v))
returning_restricts Q true v = refl
returning_restricts Q false v = refl

number_restricts : (Q : ℕ → Registers → Registers → Type 0) (to : ℕ → ℕ) (held full : Registers) (a : Operand) (v : Value) → ((n : ℕ) → Q (to n) held full) → Restricts Q (going_by to full a v) (going_by to held a v)
number_restricts Q to held full operands.Undef v h = refl
number_restricts Q to held full (operands.Register r) values.Poison h = refl
number_restricts Q to held full (operands.Register r) (values.Bits n) h = (held, refl, h n.number)
number_restricts Q to held full (operands.Number m) values.Poison h = refl
number_restricts Q to held full (operands.Number m) (values.Bits n) h = (held, refl, h n.number)
number_restricts Q to held full operands.Poison values.Poison h = refl
number_restricts Q to held full operands.Poison (values.Bits n) h = (held, refl, h n.number)

end_restricts : (C : ℕ → ℕ → Type 0) (Q : ℕ → Registers → Registers → Type 0) (held full : Registers) → Within held full → (f : Function) (b k : ℕ) (t : Terminator) (end : Ending)
    → ReadsHeld held b k (reads_at_end f b k t) → ((c : ℕ) → Contains (targets_of t) c → Q c held full) → EndGives C full f t end
    → (end' : Ending) × EndGives C held f t end' × Restricts Q end end'
end_restricts C Q held full within f b k (terminators.Return a) end reads q h = (
  returning (has_noundef f.before) a h.0,
  (h.0, operand_restricts C held full within f.width a h.0 (λ r is. reads 0 (read b k f.width a) r refl refl refl is) h.1, refl),
  subst (λ e. Restricts Q e (returning (has_noundef f.before) a h.0)) (sym h.2) (returning_restricts Q (has_noundef f.before && is_indefinite a h.0) h.0),
)
end_restricts C Q held full within f b k (terminators.Jump c) end reads q h =
    (Goes c held, refl, subst (λ e. Restricts Q e (Goes c held)) (sym h) (held, refl, q c (first_in c [])))
end_restricts C Q held full within f b k (terminators.Branch a to other) end reads q h = (
  going_by (branch_target to other) held a h.0,
  (h.0, operand_restricts C held full within 1 a h.0 (λ r is. reads 0 (read b k 1 a) r refl refl refl is) h.1, refl),
  subst (λ e. Restricts Q e (going_by (branch_target to other) held a h.0)) (sym h.2) (number_restricts Q (branch_target to other) held full a h.0 (λ n. q (branch_target to other n) (branch_among to other n))),
)
end_restricts C Q held full within f b k (terminators.Switch a w other cases) end reads q h = (
  going_by (switch_target cases other) held a h.0,
  (h.0, operand_restricts C held full within w a h.0 (λ r is. reads 0 (read b k w a) r refl refl refl is) h.1, refl),
  subst (λ e. Restricts Q e (going_by (switch_target cases other) held a h.0)) (sym h.2) (number_restricts Q (switch_target cases other) held full a h.0 (λ n. q (switch_target cases other n) (switch_among_all cases other n))),
)
end_restricts C Q held full within f b k terminators.Unreachable end reads q h = (Undefines, refl, subst (λ e. Restricts Q e Undefines) (sym h) refl)

-- ---- one pass

-- what is known of a block behind a walk: its reads are of held registers, and Q holds of where it goes on
record IsPassed (C : ℕ → ℕ → Type 0) (f : Function) (before : List ℕ) (b : ℕ) (block : Block) (Q : ℕ → Registers → Registers → Type 0) : Type 0 where
  insts : (k : ℕ) (inst : Inst) → slice_get block.insts k ≡ Some inst → (held : Registers) → AreHeld f before b k held → ReadsHeld held b k (reads_of f b k inst.width inst.op)
  end : (held : Registers) → AreHeld f before b (length block.insts) held → ReadsHeld held b (length block.insts) (reads_at_end f b (length block.insts) block.end)
  over : (held full : Registers) (c : ℕ) → Within held full → AreHeld f before b (length block.insts) held → Contains (targets_of block.end) c → Q c held full

abbrev pub InstIs : Block → ℕ → Inst → Type 0
InstIs block k inst = slice_get block.insts k ≡ Some inst

gives_restricts : (C : ℕ → ℕ → Type 0) (Q : ℕ → Registers → Registers → Type 0) (next next' : Value → Ending → Type 0) (e : Effect) (end : Ending)
    → ((v : Value) → next v end → (end' : Ending) × next' v end' × Restricts Q end end')
    → GoesOn (λ v. next v end) e end → (end' : Ending) × GoesOn (λ v. next' v end') e end' × Restricts Q end end'
gives_restricts C Q next next' effects.Undefined end f h = (Undefines, refl, subst (λ x. Restricts Q x Undefines) (sym h) refl)
gives_restricts C Q next next' (effects.Gives v) end f h = f v h

follows_restricts : (C : ℕ → ℕ → Type 0) (f : Function) (before : List ℕ) (b : ℕ) (block : Block) (Q : ℕ → Registers → Registers → Type 0) → IsPassed C f before b block Q
    → (k : ℕ) (insts : List Inst) → AllAt (InstIs block) k insts → k + length insts ≡ length block.insts
    → (held full : Registers) (end : Ending) → Within held full → AreHeld f before b k held
    → Follows C f b k insts block.end full end → (end' : Ending) × Follows C f b k insts block.end held end' × Restricts Q end end'
follows_restricts C f before b block Q is k [] at count held full end within are h =
    let last : k ≡ length block.insts = omega arith in
    let all : AreHeld f before b (length block.insts) held = subst (λ n. AreHeld f before b n held) last are in
    end_restricts C Q held full within f b (length block.insts) block.end end (is.end held all) (λ c has. is.over held full c within all has) h
follows_restricts C f before b block Q is k (i ∷ insts) at count held full end within are h =
    let op = op_restricts C held full within f b k i.width i.op h.0 (is.insts k i at.0 held are) h.1 in
    let rest = gives_restricts C Q (λ v x. Follows C f b (suc k) insts block.end (holding full b k v) x) (λ v x. Follows C f b (suc k) insts block.end (holding held b k v) x) h.0 end
    (λ v g. follows_restricts C f before b block Q is (suc k) insts at.1 (omega arith) (holding held b k v) (holding full b k v) end (holding_within held full b k v within) (holding_more f before b k held v are) g) h.2 in
    (rest.0, (h.0, op, rest.1), rest.2)

-- the registers that the phis read are held in the old registers
abbrev PhisHeld : Option ℕ → Registers → Block → Type 0
PhisHeld from old block = (k : ℕ) (inst : Inst) (entries : List (Operand × ℕ)) (c : ℕ) (a : Operand) (r : Register)
    → InstIs block k inst → inst.op ≡ Phi entries → from ≡ Some c → Contains entries (a, c) → a ≡ operands.Register r → IsHeld old r

enters_restricts : (C : ℕ → ℕ → Type 0) (f : Function) (before : List ℕ) (b : ℕ) (block : Block) (Q : ℕ → Registers → Registers → Type 0) → IsPassed C f before b block Q
    → (from : Option ℕ) (old old_full : Registers) → Within old old_full → PhisHeld from old block
    → (k : ℕ) (insts : List Inst) → AllAt (InstIs block) k insts → k + length insts ≡ length block.insts
    → (held full : Registers) (end : Ending) → Within held full → AreHeld f before b k held
    → Enters C f from old_full b k insts block.end full end → (end' : Ending) × Enters C f from old b k insts block.end held end' × Restricts Q end end'
enters_restricts C f before b block Q is from old old_full old_within phis k [] at count held full end within are h =
    follows_restricts C f before b block Q is k [] at count held full end within are h
enters_restricts C f before b block Q is from old old_full old_within phis k (i ∷ insts) at count held full end within are h =
    if_phi_ends i.op
    (λ entries. (v : Value) × PhiGives C old_full from i.width entries v × Enters C f from old_full b (suc k) insts block.end (holding full b k v) end)
    (λ entries x. (v : Value) × PhiGives C old from i.width entries v × Enters C f from old b (suc k) insts block.end (holding held b k v) x)
    (Follows C f b k (i ∷ insts) block.end full end)
    (λ x. Follows C f b k (i ∷ insts) block.end held x)
    (λ x. Restricts Q end x)
    (λ entries is_phi g.
    let given = g.1 in
    let value = operand_restricts C old old_full old_within i.width given.1 g.0 (λ r same. phis k i entries given.0 given.1 r at.0 is_phi given.2 given.3 same) given.4 in
    let rest = enters_restricts C f before b block Q is from old old_full old_within phis (suc k) insts at.1 (omega arith) (holding held b k g.0) (holding full b k g.0) end (holding_within held full b k g.0 within) (holding_more f before b k held g.0 are) g.2 in
    (rest.0, (g.0, (given.0, given.1, given.2, given.3, value), rest.1), rest.2))
    (λ g. follows_restricts C f before b block Q is k (i ∷ insts) at count held full end within are g)
    h

-- ---- what follows from the checks

pub reads_inst : (f : Function) (b k : ℕ) (block : Block) (inst : Inst) → IsBlock f b block → InstIs block k inst → (i : ℕ) (r : Read) → slice_get (reads_of f b k inst.width inst.op) i ≡ Some r → IsRead f b k i r
reads_inst f b k block inst is_block is_inst i r h =
    subst (λ x. slice_get (reads_in f b k x) i ≡ Some r) (sym is_block)
    (subst (λ x. slice_get (reads_by f b k block x) i ≡ Some r) (sym is_inst) h)

pub reads_end : (f : Function) (b : ℕ) (block : Block) → IsBlock f b block → (i : ℕ) (r : Read) → slice_get (reads_at_end f b (length block.insts) block.end) i ≡ Some r → IsRead f b (length block.insts) i r
reads_end f b block is_block i r h =
    let k = length block.insts in
    let past : slice_get block.insts k ≡ None = slice_get_past block.insts k (omega arith) in
    subst (λ x. slice_get (reads_in f b k x) i ≡ Some r) (sym is_block)
    (subst (λ x. slice_get (reads_by f b k block x) i ≡ Some r) (sym past)
    (subst (λ t. slice_get (cond t (reads_at_end f b k block.end) []) i ≡ Some r) (sym (itself k)) h))

-- on a walk to block b a register is held that is assigned at place k of the block
assigned_held : (f : Function) (before : List ℕ) (b k : ℕ) (held : Registers) (r : Register) → IsWalk f (b ∷ before) → AreHeld f before b k held → IsAssigned f r b k → IsHeld held r
assigned_held f before b k held (registers.Parameter p) walk are h = are.passed.parameters p h
assigned_held f before b k held (registers.Result d j) walk are h =
    elim (h.1 before walk) [
      | inl in_before ↦ are.passed.results d j h.0 in_before
      | inr here ↦ subst (λ n. IsHeld held (registers.Result n j)) (sym here.0) (are.here j here.1)
    ]

read_held : (f : Function) → MeetsChecks f → (before : List ℕ) (b k : ℕ) (held : Registers) → IsWalk f (b ∷ before) → AreHeld f before b k held
    → (c l i : ℕ) (r : Read) (register : Register) → IsRead f c l i r → r.block ≡ b → r.place ≡ k → r.operand ≡ operands.Register register → IsHeld held register
read_held f meets before b k held walk are c l i r register is_read in_block at_place is =
    assigned_held f before b k held register walk are
    (subst (λ n. IsAssigned f register b n) at_place (subst (λ n. IsAssigned f register n r.place) in_block (meets.assigned c l i r is_read register is)))

-- behind the block its results are held, beside what was held before it
passed_more : (f : Function) (before : List ℕ) (b : ℕ) (block : Block) (held : Registers) → IsBlock f b block → AreHeld f before b (length block.insts) held → PassedAreHeld f (b ∷ before) held
passed_more f before b block held is_block are = record {
  parameters = λ p below. are.passed.parameters p below;
  results = λ d j has among. elim (cases_in b before d among) [
    | inl is ↦
        let same : block ≡ has.0 = same_Some block has.0 (sym is_block ∙ (subst (λ n. slice_get f.blocks n ≡ Some has.0) (sym is) has.1)) in
        subst (λ n. IsHeld held (registers.Result n j)) is (are.here j (subst (λ (x : Block). j < length x.insts) (sym same) has.2))
    | inr earlier ↦ are.passed.results d j has earlier
  ];
}

-- a run goes on at a successor, where the results of the blocks passed so far are held
abbrev HandsOver : Function → List ℕ → ℕ → ℕ → Registers → Registers → Type 0
HandsOver f before b c held full = Names f b c × Within held full × PassedAreHeld f (b ∷ before) held

is_passed : (C : ℕ → ℕ → Type 0) (f : Function) → MeetsChecks f → (before : List ℕ) (b : ℕ) (block : Block) → IsWalk f (b ∷ before) → IsBlock f b block → IsPassed C f before b block (HandsOver f before b)
is_passed C f meets before b block walk is_block = record {
  insts = λ k inst is_inst held are i r register h. read_held f meets before b k held walk are b k i r register (reads_inst f b k block inst is_block is_inst i r h);
  end = λ held are i r register h. read_held f meets before b (length block.insts) held walk are b (length block.insts) i r register (reads_end f b block is_block i r h);
  over = λ held full c within are has. ((block, is_block, has), within, passed_more f before b block held is_block are);
}

-- control comes from the block that the walk ends in
abbrev pub ComesFrom : Option ℕ → List ℕ → Type 0
ComesFrom None before = before ≡ []
ComesFrom (Some c) [] = ⊥
ComesFrom (Some c) (d ∷ before) = c ≡ d

pub phi_read : (f : Function) (b k : ℕ) (block : Block) (inst : Inst) (entries : List (Operand × ℕ)) (a : Operand) (c : ℕ) → IsBlock f b block → InstIs block k inst → inst.op ≡ Phi entries → Contains entries (a, c)
    → (i : ℕ) × IsRead f b k i (read c (end_of f c) inst.width a)
phi_read f b k block inst entries a c is_block is_inst is_phi has =
    let place = place_in entries (a, c) has in
    let mapped = slice_get-map (λ (e : Operand × ℕ). read e.1 (end_of f e.1) inst.width e.0) entries place.0 ∙ ap (option_map (λ (e : Operand × ℕ). read e.1 (end_of f e.1) inst.width e.0)) place.1 in (
      place.0,
      reads_inst f b k block inst is_block is_inst place.0 (read c (end_of f c) inst.width a)
          (subst (λ x. slice_get (reads_of f b k inst.width x) place.0 ≡ Some (read c (end_of f c) inst.width a)) (sym is_phi) mapped),
    )

-- a register that is assigned in the last block of a walk is held once that block was passed
assigned_passed : (f : Function) (before : List ℕ) (c : ℕ) (held : Registers) (r : Register) → IsWalk f (c ∷ before) → PassedAreHeld f (c ∷ before) held → (k : ℕ) → IsAssigned f r c k → IsHeld held r
assigned_passed f before c held (registers.Parameter p) walk passed k h = passed.parameters p h
assigned_passed f before c held (registers.Result d j) walk passed k h =
    passed.results d j h.0 (elim (h.1 before walk) [
      | inl in_before ↦ later_in c before d in_before
      | inr here ↦ subst (λ n. Contains (n ∷ before) d) here.0 (first_in d before)
    ])

phis_held : (f : Function) → MeetsChecks f → (before : List ℕ) (b : ℕ) (block : Block) (from : Option ℕ) (held : Registers) → IsWalk f (b ∷ before) → IsBlock f b block → ComesFrom from before → PassedAreHeld f before held → PhisHeld from held block
phis_held f meets before b block None held walk is_block comes passed k inst entries c a r is_inst is_phi is_from has is = absurd (none-some c is_from)
phis_held f meets [] b block (Some d) held walk is_block comes passed k inst entries c a r is_inst is_phi is_from has is = absurd comes
phis_held f meets (e ∷ before) b block (Some d) held walk is_block comes passed k inst entries c a r is_inst is_phi is_from has is =
    let found = phi_read f b k block inst entries a c is_block is_inst is_phi has in
    let same : c ≡ e = sym (same_Some d c is_from) ∙ comes in
    assigned_passed f before e held r walk.1 passed (end_of f c) (subst (λ n. IsAssigned f r n (end_of f c)) same (meets.assigned b k found.0 (read c (end_of f c) inst.width a) found.1 r is))

-- ---- runs

leads_restricts : (Q : ℕ → Registers → Registers → Type 0) (next next' : ℕ → Registers → Outcome → Type 0) (end end' : Ending) (o : Outcome) → Restricts Q end end'
    → ((c : ℕ) (held full : Registers) → Q c held full → next c full o → next' c held o) → Leads next end o → Leads next' end' o
leads_restricts Q next next' Undefines end' o is f h = subst (λ e. Leads next' e o) (sym is) h
leads_restricts Q next next' (Returns v) end' o is f h = subst (λ e. Leads next' e o) (sym is) h
leads_restricts Q next next' (Goes c full) end' o is f h = subst (λ e. Leads next' e o) (sym is.1) (f c is.0 full is.2 h)

pub runs_restrict : (C : ℕ → ℕ → Type 0) (f : Function) → MeetsChecks f → (n : ℕ) (from : Option ℕ) (b : ℕ) (before : List ℕ) (held full : Registers) (o : Outcome)
    → IsWalk f (b ∷ before) → ComesFrom from before → Within held full → PassedAreHeld f before held
    → RunsFrom C f n from b full o → RunsFrom C f n from b held o
runs_restrict C f meets zero from b before held full o walk comes within passed h = h
runs_restrict C f meets (suc n) from b before held full o walk comes within passed h =
    let block = h.1.0 in
    let is_block = h.1.1 in
    let entered = enters_restricts C f before b block (HandsOver f before b) (is_passed C f meets before b block walk is_block) from held full within
    (phis_held f meets before b block from held walk is_block comes passed)
    0 block.insts (all_from_0 (InstIs block) block.insts (λ k inst is. is)) (omega arith) held full h.0 within (record { passed = passed; here = λ j below. absurd (omega arith) }) h.1.2 in (
      entered.0,
      (block, is_block, entered.1),
      leads_restricts (HandsOver f before b) (RunsFrom C f n (Some b)) (RunsFrom C f n (Some b)) h.0 entered.0 o entered.2
          (λ c there there_full over run. runs_restrict C f meets n (Some b) c (b ∷ before) there there_full o (over.0, walk) refl over.1 over.2 run) h.2,
    )
