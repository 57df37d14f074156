-- What one step of a run does to registers; histories as paths.
use Rattle.ir_meaning.proofs.Common.{◌≡◌, ℕ, ◌<◌, ◌==◌, ◌&&◌, Bool, true, false, cond, inl, inr, List, [], ◌∷◌, length, map, Some, refl, sym, ap, subst, ◌∙◌, arith, Contains, cases_eq, ne_eqb, eq-eqb, and_from, and_right, none-some, same_Some, slice_get_within, Value, Function, Block, Inst, Operand, Terminator, targets_of, Names, HasInst, IsInst, end_of, Registers, holding, Ending, Undefines, Returns, Goes, going_by, branch_target, switch_target, is_indefinite, has_noundef, AnyNumber, EndGives, ComesNext, Moment, Runs, Leaves, IsStep, IsHistory, HistoriesArePaths, MomentsAreReached, BlocksAreEnteredFromEnds}
use Rattle.ops.specs.declared.value.Value.TheVariants as values
use Rattle.ir_core.specs.declared.operand.Operand.TheVariants as operands
use Rattle.ir_core.specs.declared.operand.Register.TheVariants as registers
use Rattle.ir_core.specs.declared.terminator.Terminator.TheVariants as terminators
use Rattle.ir_meaning.proofs.Pieces.{first_in, branch_among, switch_among_all}
use Rattle.ir_meaning.specs.Histories.{place_of}
use Rattle.ir_meaning.proofs.PathLemmas.{end_of-is, same_place, path_reaches}

-- ---- where a terminator goes

-- a pass that goes on leaves the registers as they are, and goes to a block that the terminator names
abbrev pub GoesAmong : List ℕ → Registers → Ending → Type 0
GoesAmong targets held Undefines = Unit {0}
GoesAmong targets held (Returns v) = Unit {0}
GoesAmong targets held (Goes c next) = Contains targets c × (next ≡ held)

returning_among : (targets : List ℕ) (held : Registers) (t : Bool) (v : Value) → GoesAmong targets held (cond t Undefines (Returns v))
returning_among targets held true v = tt
returning_among targets held false v = tt

going_among : (targets : List ℕ) (to : ℕ → ℕ) (held : Registers) (a : Operand) (v : Value) → ((n : ℕ) → Contains targets (to n)) → GoesAmong targets held (going_by to held a v)
going_among targets to held operands.Undef v h = tt
going_among targets to held (operands.Register r) values.Poison h = tt
going_among targets to held (operands.Register r) (values.Bits n) h = (h n.number, refl)
going_among targets to held (operands.Number m) values.Poison h = tt
going_among targets to held (operands.Number m) (values.Bits n) h = (h n.number, refl)
going_among targets to held operands.Poison values.Poison h = tt
going_among targets to held operands.Poison (values.Bits n) h = (h n.number, refl)

pub end_among : (held : Registers) (f : Function) (t : Terminator) (end : Ending) → EndGives AnyNumber held f t end → GoesAmong (targets_of t) held end
end_among held f (terminators.Return a) end h = subst (GoesAmong [] held) (sym h.2) (returning_among [] held (has_noundef f.before && is_indefinite a h.0) h.0)
end_among held f (terminators.Jump c) end h = subst (GoesAmong (c ∷ []) held) (sym h) (first_in c [], refl)
end_among held f (terminators.Branch a to other) end h =
    subst (GoesAmong (to ∷ other ∷ []) held) (sym h.2) (going_among (to ∷ other ∷ []) (branch_target to other) held a h.0 (λ n. branch_among to other n))
end_among held f (terminators.Switch a w other cases) end h =
    subst (GoesAmong (targets_of (terminators.Switch a w other cases)) held) (sym h.2)
    (going_among (targets_of (terminators.Switch a w other cases)) (switch_target cases other) held a h.0 (λ n. switch_among_all cases other n))
end_among held f terminators.Unreachable end h = subst (GoesAmong [] held) (sym h) tt

-- ---- the register that a step writes, and the others

pub held_here : (held : Registers) (b k : ℕ) (v : Value) (d j : ℕ) → d ≡ b → j ≡ k → holding held b k v (registers.Result d j) ≡ Some v
held_here held b k v d j same_block same = ap (λ c. cond c (Some v) (held (registers.Result d j))) (and_from (d == b) (j == k) (eq-eqb d b same_block) (eq-eqb j k same))

and_left : (x y : Bool) → x ≡ false → (x && y) ≡ false
and_left true y e = absurd cc
and_left false y e = refl

pub held_elsewhere : (held : Registers) (b k : ℕ) (v : Value) (d j : ℕ) → ((d ≡ b) × (j ≡ k) → ⊥) → holding held b k v (registers.Result d j) ≡ held (registers.Result d j)
held_elsewhere held b k v d j other =
    elim (cases_eq d b) [
      | inr ne ↦ ap (λ t. cond t (Some v) (held (registers.Result d j))) (and_left (d == b) (j == k) (ne_eqb d b ne))
      | inl same ↦ elim (cases_eq j k) [
        | inr ne ↦ ap (λ t. cond t (Some v) (held (registers.Result d j))) (and_right (d == b) (j == k) (ne_eqb j k ne))
        | inl is ↦ absurd (other (same, is))
      ]
    ]

-- ---- a step

pub leaves_held : (f : Function) (m n : Moment) → Leaves f m n → n.held ≡ m.held
leaves_held f m n l =
    ap (λ (x : Moment). x.held) l.next ∙ (end_among m.held f l.gives.block.end (Goes l.to l.held) l.gives.gives).1

pub has_inst : (f : Function) (b k : ℕ) (inst : Inst) → IsInst f b k inst → HasInst f b k
has_inst f b k inst is = (is.block, is.is_block, slice_get_within is.block.insts k inst is.is_inst)

-- a step at another place than a result's instruction leaves the result as it was
pub step_keeps : (f : Function) (m n : Moment) (d j : ℕ) → IsStep f m n → (place_of m ≡ (d, j) → ⊥) → n.held (registers.Result d j) ≡ m.held (registers.Result d j)
step_keeps f m n d j (inl r) other =
    ap (λ (x : Moment). x.held (registers.Result d j)) r.next
    ∙ held_elsewhere m.held m.block m.place r.value d j (λ is. other (same_place (place_of m) d j is.0 is.1))
step_keeps f m n d j (inr l) other = ap (λ (held : Registers). held (registers.Result d j)) (leaves_held f m n l)

-- a step leaves the parameters as they were
pub step_keeps_parameter : (f : Function) (m n : Moment) (p : ℕ) → IsStep f m n → n.held (registers.Parameter p) ≡ m.held (registers.Parameter p)
step_keeps_parameter f m n p (inl r) = ap (λ (x : Moment). x.held (registers.Parameter p)) r.next
step_keeps_parameter f m n p (inr l) = ap (λ (held : Registers). held (registers.Parameter p)) (leaves_held f m n l)

-- a step at the place of an instruction runs that instruction
pub step_gives : (f : Function) (m n : Moment) → HasInst f m.block m.place → IsStep f m n → Runs f m n
step_gives f m n has (inl r) = r
step_gives f m n has (inr l) =
    let both : Some has.0 ≡ Some l.gives.block = sym has.1 ∙ l.gives.is_block in
    let same : has.0 ≡ l.gives.block = same_Some has.0 l.gives.block both in
    let lt : m.place < length l.gives.block.insts = subst (λ (b : Block). m.place < length b.insts) same has.2 in
    let is : m.place ≡ length l.gives.block.insts = l.gives.behind in
    absurd (omega arith)

-- ---- histories as paths

step_next : (f : Function) (m n : Moment) → IsStep f m n → ComesNext f (place_of m) (place_of n)
step_next f m n (inl r) = inl (has_inst f m.block m.place r.inst r.is_inst, ap (λ (x : Moment). x.block) r.next, ap (λ (x : Moment). x.place) r.next)
step_next f m n (inr l) =
    let among : Contains (targets_of l.gives.block.end) l.to = (end_among m.held f l.gives.block.end (Goes l.to l.held) l.gives.gives).0 in
    let is : n.block ≡ l.to = ap (λ (x : Moment). x.block) l.next in
    inr (
      l.gives.behind ∙ sym (end_of-is f m.block l.gives.block l.gives.is_block),
      subst (Names f m.block) (sym is) (l.gives.block, l.gives.is_block, among),
      ap (λ (x : Moment). x.place) l.next,
    )

pub histories_paths : HistoriesArePaths
histories_paths f args [] h = h
histories_paths f args (m ∷ []) h = (ap (λ (x : Moment). x.block) h, ap (λ (x : Moment). x.place) h)
histories_paths f args (n ∷ m ∷ before) h = (step_next f m n h.0, histories_paths f args (m ∷ before) h.1)

pub moments_reached : MomentsAreReached
moments_reached f args m before h = path_reaches f (place_of m) (map place_of before) (histories_paths f args (m ∷ before) h)

-- ---- where a block was entered from

-- the moment at the end of the block that control came from
abbrev Left : Function → List Value → ℕ → Registers → Type 0
Left f args c entered = (n : Moment) × (earlier : List Moment) × IsHistory f args (n ∷ earlier) × (place_of n ≡ (c, end_of f c)) × (n.held ≡ entered)

left_by : (f : Function) (args : List Value) (n m : Moment) (before : List Moment) (c : ℕ) → IsHistory f args (m ∷ before) → IsStep f m n → n.from ≡ Some c → (m.from ≡ Some c → Left f args c m.entered) → Left f args c n.entered
left_by f args n m before c h (inl r) is rest =
    subst (Left f args c) (sym (ap (λ (x : Moment). x.entered) r.next)) (rest (sym (ap (λ (x : Moment). x.from) r.next) ∙ is))
left_by f args n m before c h (inr l) is rest =
    let same : m.block ≡ c = same_Some m.block c (sym (ap (λ (x : Moment). x.from) l.next) ∙ is) in
    let end : m.place ≡ end_of f m.block = l.gives.behind ∙ sym (end_of-is f m.block l.gives.block l.gives.is_block) in
    let held : n.entered ≡ m.held = ap (λ (x : Moment). x.entered) l.next ∙ (end_among m.held f l.gives.block.end (Goes l.to l.held) l.gives.gives).1 in
    (m, before, h, same_place (place_of m) c (end_of f c) (sym same) (sym (end ∙ ap (end_of f) same)), sym held)

pub entered_from : BlocksAreEnteredFromEnds
entered_from f args m [] c h is = absurd (none-some c (sym (ap (λ (x : Moment). x.from) h) ∙ is))
entered_from f args n (m ∷ before) c h is = left_by f args n m before c h.1 h.0 is (λ was. entered_from f args m before c h.1 was)
