-- If every register holds something, a run has an outcome in which each number that is left open is 0.
use Rattle.ir_meaning.proofs.Common.{◌≡◌, ℕ, zero, suc, ◌<◌, Bool, true, false, ◌&&◌, cond, List, [], ◌∷◌, length, Option, None, Some, refl, subst, arith, Contains, slice_get, instruction, comparison, selection, conversion, unary, Value, Effect, IsBlock, Names, targets_of, IsFormed, IsPhi, Registers, holding, Ending, Undefines, Returns, Goes, Leads, IfPhi, OnlyZero, returning, going_by, branch_target, switch_target, is_indefinite, has_noundef, OperandGives, Freezes, OpGives, PhiGives, EndGives, GoesOn, Follows, Enters, RunsFrom, Function, Block, Inst, Op, Binary, Compare, Unary, Select, Convert, Freeze, Phi, Operand, Register, Outcome, Terminator, IsEntered}
use Rattle.ops.specs.declared.value.Value.TheVariants as values
use Rattle.ops.specs.declared.value.Effect.TheVariants as effects
use Rattle.ir_core.specs.declared.operand.Operand.TheVariants as operands
use Rattle.ir_core.specs.declared.outcome.Outcome.TheVariants as outcomes
use Rattle.ir_core.specs.declared.terminator.Terminator.TheVariants as terminators
use Rattle.ir_meaning.proofs.Pieces.{some_at, contains_at, first_in, branch_among, switch_among_all, if_phi_ends}
use Rattle.ir_meaning.proofs.Restricting.{IsHeld, holding_held}

-- each register holds something
abbrev pub AllHeld : Registers → Type 0
AllHeld held = (r : Register) → IsHeld held r

abbrev Gives : Registers → ℕ → Operand → Type 0
Gives held w a = (v : Value) × OperandGives OnlyZero held w a v

operand_gives : (held : Registers) → AllHeld held → (w : ℕ) (a : Operand) → Gives held w a
operand_gives held all w (operands.Register r) = all r
operand_gives held all w (operands.Number n) = (values.Bits n, refl)
operand_gives held all w operands.Undef = (values.Bits (record { width = w; number = 0 }), (0, refl, refl))
operand_gives held all w operands.Poison = (values.Poison, refl)

freezes : (w : ℕ) (x : Value) → (v : Value) × Freezes OnlyZero w x v
freezes w values.Poison = (values.Bits (record { width = w; number = 0 }), (0, refl, refl))
freezes w (values.Bits n) = (values.Bits n, refl)

op_gives : (held : Registers) → AllHeld held → (w : ℕ) (op : Op) → ¬ IsPhi op → (e : Effect) × OpGives OnlyZero held w op e
op_gives held all w (Binary op flags a b) no_phi =
    let x = operand_gives held all w a in
    let y = operand_gives held all w b in
    (instruction op flags w x.0 y.0, (x.0, y.0, x.1, y.1, refl))
op_gives held all w (Compare pred samesign compared a b) no_phi =
    let x = operand_gives held all compared a in
    let y = operand_gives held all compared b in
    (effects.Gives (comparison pred samesign compared x.0 y.0), (x.0, y.0, x.1, y.1, refl))
op_gives held all w (Select c a b) no_phi =
    let z = operand_gives held all 1 c in
    let x = operand_gives held all w a in
    let y = operand_gives held all w b in
    (effects.Gives (selection z.0 x.0 y.0), (z.0, x.0, y.0, z.1, x.1, y.1, refl))
op_gives held all w (Convert cast flags from a) no_phi =
    let x = operand_gives held all from a in
    (effects.Gives (conversion cast flags from w x.0), (x.0, x.1, refl))
op_gives held all w (Unary op truth a) no_phi =
    let x = operand_gives held all w a in
    (effects.Gives (unary op truth w x.0), (x.0, x.1, refl))
op_gives held all w (Freeze a) no_phi =
    let x = operand_gives held all w a in
    let v = freezes w x.0 in
    (effects.Gives v.0, (x.0, v.0, x.1, v.1, refl))
op_gives held all w (Phi entries) no_phi = absurd (no_phi tt)

-- if the run goes on, then at one of these blocks, with something held in every register
abbrev EndsAmong : List ℕ → Ending → Type 0
EndsAmong targets Undefines = Unit {0}
EndsAmong targets (Returns v) = Unit {0}
EndsAmong targets (Goes c held) = Contains targets c × AllHeld held

returning_among : (targets : List ℕ) (t : Bool) (v : Value) → EndsAmong targets (cond t Undefines (Returns v))
returning_among targets true v = tt
returning_among targets false v = tt

going_among : (targets : List ℕ) (to : ℕ → ℕ) (held : Registers) (a : Operand) (v : Value) → AllHeld held → ((n : ℕ) → Contains targets (to n)) → EndsAmong targets (going_by to held a v)
going_among targets to held operands.Undef v all h = tt
going_among targets to held (operands.Register r) values.Poison all h = tt
going_among targets to held (operands.Register r) (values.Bits n) all h = (h n.number, all)
going_among targets to held (operands.Number m) values.Poison all h = tt
going_among targets to held (operands.Number m) (values.Bits n) all h = (h n.number, all)
going_among targets to held operands.Poison values.Poison all h = tt
going_among targets to held operands.Poison (values.Bits n) all h = (h n.number, all)

end_gives : (held : Registers) → AllHeld held → (f : Function) (t : Terminator) → (end : Ending) × EndGives OnlyZero held f t end × EndsAmong (targets_of t) end
end_gives held all f (terminators.Return a) =
    let v = operand_gives held all f.width a in
    (returning (has_noundef f.before) a v.0, (v.0, v.1, refl), returning_among [] (has_noundef f.before && is_indefinite a v.0) v.0)
end_gives held all f (terminators.Jump c) = (Goes c held, refl, (first_in c [], all))
end_gives held all f (terminators.Branch a to other) =
    let v = operand_gives held all 1 a in
    (going_by (branch_target to other) held a v.0, (v.0, v.1, refl), going_among (to ∷ other ∷ []) (branch_target to other) held a v.0 all (λ n. branch_among to other n))
end_gives held all f (terminators.Switch a w other cases) =
    let v = operand_gives held all w a in
    (going_by (switch_target cases other) held a v.0, (v.0, v.1, refl), going_among (targets_of (terminators.Switch a w other cases)) (switch_target cases other) held a v.0 all (λ n. switch_among_all cases other n))
end_gives held all f terminators.Unreachable = (Undefines, refl, tt)

-- none of these is a phi
abbrev pub NoPhis : List Inst → Type 0
NoPhis [] = Unit {0}
NoPhis (i ∷ insts) = ¬ IsPhi i.op × NoPhis insts

holding_all_held : (held : Registers) (b k : ℕ) (v : Value) → AllHeld held → AllHeld (holding held b k v)
holding_all_held held b k v all r = holding_held held b k v r (all r)

after : (targets : List ℕ) (next : Value → Ending → Type 0) (e : Effect) → ((v : Value) → (end : Ending) × next v end × EndsAmong targets end) → (end : Ending) × GoesOn (λ v. next v end) e end × EndsAmong targets end
after targets next effects.Undefined f = (Undefines, refl, tt)
after targets next (effects.Gives v) f = f v

follows : (f : Function) (b k : ℕ) (insts : List Inst) (t : Terminator) (held : Registers) → NoPhis insts → AllHeld held → (end : Ending) × Follows OnlyZero f b k insts t held end × EndsAmong (targets_of t) end
follows f b k [] t held no_phis all = end_gives held all f t
follows f b k (i ∷ insts) t held no_phis all =
    let op = op_gives held all i.width i.op no_phis.0 in
    let rest = after (targets_of t) (λ v x. Follows OnlyZero f b (suc k) insts t (holding held b k v) x) op.0
    (λ v. follows f b (suc k) insts t (holding held b k v) no_phis.1 (holding_all_held held b k v all)) in
    (rest.0, (op.0, op.1, rest.1), rest.2)

-- the phi has an entry for the block that control comes from
abbrev pub HasEntry : Option ℕ → List (Operand × ℕ) → Type 0
HasEntry from entries = (b : ℕ) × (a : Operand) × (from ≡ Some b) × Contains entries (a, b)

-- phis stand first, and each has such an entry
abbrev pub AreEnterable : Option ℕ → List Inst → Type 0
AreEnterable from [] = Unit {0}
AreEnterable from (i ∷ insts) = IfPhi (λ entries. HasEntry from entries × AreEnterable from insts) (NoPhis (i ∷ insts)) i.op

enters : (f : Function) (from : Option ℕ) (old : Registers) → AllHeld old → (b k : ℕ) (insts : List Inst) (t : Terminator) (held : Registers) → AreEnterable from insts → AllHeld held → (end : Ending) × Enters OnlyZero f from old b k insts t held end × EndsAmong (targets_of t) end
enters f from old all_old b k [] t held enterable all = end_gives held all f t
enters f from old all_old b k (i ∷ insts) t held enterable all =
    if_phi_ends i.op
    (λ entries. HasEntry from entries × AreEnterable from insts)
    (λ entries x. (v : Value) × PhiGives OnlyZero old from i.width entries v × Enters OnlyZero f from old b (suc k) insts t (holding held b k v) x)
    (NoPhis (i ∷ insts))
    (λ x. Follows OnlyZero f b k (i ∷ insts) t held x)
    (λ x. EndsAmong (targets_of t) x)
    (λ entries is_phi h.
    let v = operand_gives old all_old i.width h.0.1 in
    let rest = enters f from old all_old b (suc k) insts t (holding held b k v.0) h.1 (holding_all_held held b k v.0 all) in
    (rest.0, (v.0, (h.0.0, h.0.1, h.0.2, h.0.3, v.1), rest.1), rest.2))
    (λ no_phis. follows f b k (i ∷ insts) t held no_phis all)
    enterable

-- ---- what follows from the checks

pub no_phis_by_place : (insts : List Inst) → ((k : ℕ) (i : Inst) → slice_get insts k ≡ Some i → ¬ IsPhi i.op) → NoPhis insts
no_phis_by_place [] h = tt
no_phis_by_place (i ∷ insts) h = (h 0 i refl, no_phis_by_place insts (λ k j is. h (suc k) j is))

pub is_phi_or_not : (op : Op) (P : List (Operand × ℕ) → Type 0) (Q : Type 0) → ((entries : List (Operand × ℕ)) → op ≡ Phi entries → P entries) → (¬ IsPhi op → Q) → IfPhi P Q op
is_phi_or_not (Phi entries) P Q f g = f entries refl
is_phi_or_not (Binary op flags a b) P Q f g = g (λ is. is)
is_phi_or_not (Compare pred samesign width a b) P Q f g = g (λ is. is)
is_phi_or_not (Select c a b) P Q f g = g (λ is. is)
is_phi_or_not (Convert cast flags from a) P Q f g = g (λ is. is)
is_phi_or_not (Unary op truth a) P Q f g = g (λ is. is)
is_phi_or_not (Freeze a) P Q f g = g (λ is. is)

-- an instruction before a phi is a phi
abbrev PhisFirst : List Inst → Type 0
PhisFirst insts = (j k : ℕ) (earlier later : Inst) → slice_get insts j ≡ Some earlier → slice_get insts k ≡ Some later → j < k → IsPhi later.op → IsPhi earlier.op

enterable_by_place : (from : Option ℕ) (insts : List Inst) → PhisFirst insts → ((k : ℕ) (i : Inst) (entries : List (Operand × ℕ)) → slice_get insts k ≡ Some i → i.op ≡ Phi entries → HasEntry from entries) → AreEnterable from insts
enterable_by_place from [] first entry = tt
enterable_by_place from (i ∷ insts) first entry =
    is_phi_or_not i.op (λ entries. HasEntry from entries × AreEnterable from insts) (NoPhis (i ∷ insts))
    (λ entries is. (entry 0 i entries refl is, enterable_by_place from insts (λ j k earlier later is_earlier is_later below. first (suc j) (suc k) earlier later is_earlier is_later (omega arith)) (λ k j es is_inst is_phi. entry (suc k) j es is_inst is_phi)))
    (λ no_phi. (no_phi, no_phis_by_place insts (λ k j is_inst is_phi. no_phi (first 0 (suc k) i j refl is_inst (omega arith) is_phi))))

pub has_entry : (f : Function) → IsFormed f → (from : Option ℕ) (b k : ℕ) (block : Block) (inst : Inst) (entries : List (Operand × ℕ)) → IsEntered f from b → IsBlock f b block → slice_get block.insts k ≡ Some inst → inst.op ≡ Phi entries → HasEntry from entries
has_entry f formed (Some c) b k block inst entries entered is_block is_inst is_phi =
    let fits = formed.phis b k inst entries (record { block = block; is_block = is_block; is_inst = is_inst }) is_phi in
    let found = (fits.from c).1 entered in
    (c, found.0, refl, found.1)
has_entry f formed None b k block inst entries entered is_block is_inst is_phi =
    let fits = formed.phis b k inst entries (record { block = block; is_block = is_block; is_inst = is_inst }) is_phi in
    let first = some_at entries 0 fits.some in
    let named : Names f first.0.1 b = (fits.from first.0.1).0 (first.0.0, contains_at entries 0 first.0 first.1) in
    absurd (formed.entry first.0.1 (subst (λ n. Names f first.0.1 n) entered named))

pub block_enterable : (f : Function) → IsFormed f → (from : Option ℕ) (b : ℕ) (block : Block) → IsEntered f from b → IsBlock f b block → AreEnterable from block.insts
block_enterable f formed from b block entered is_block =
    enterable_by_place from block.insts
    (λ j k earlier later is_earlier is_later below. formed.phis_first b j k earlier later (record { block = block; is_block = is_block; is_inst = is_earlier }) (record { block = block; is_block = is_block; is_inst = is_later }) below)
    (λ k inst entries is_inst is_phi. has_entry f formed from b k block inst entries entered is_block is_inst is_phi)

-- ---- runs

leads_on : (targets : List ℕ) (next : ℕ → Registers → Outcome → Type 0) (end : Ending) → EndsAmong targets end → ((c : ℕ) (held : Registers) → Contains targets c → AllHeld held → (o : Outcome) × next c held o) → (o : Outcome) × Leads next end o
leads_on targets next Undefines among f = (outcomes.Undefined, refl)
leads_on targets next (Returns v) among f = (outcomes.Return v, refl)
leads_on targets next (Goes c held) among f = f c held among.0 among.1

pub runs : (f : Function) → IsFormed f → (n : ℕ) (from : Option ℕ) (b : ℕ) (held : Registers) → IsEntered f from b → b < length f.blocks → AllHeld held → (o : Outcome) × RunsFrom OnlyZero f n from b held o
runs f formed zero from b held entered within all = (outcomes.Running b, refl)
runs f formed (suc n) from b held entered within all =
    let block = some_at f.blocks b within in
    let pass = enters f from held all b 0 block.0.insts block.0.end held (block_enterable f formed from b block.0 entered block.1) all in
    let led = leads_on (targets_of block.0.end) (RunsFrom OnlyZero f n (Some b)) pass.0 pass.2
    (λ c there has all_there.
    let named : Names f b c = (block.0, block.1, has) in
    runs f formed n (Some b) c there named (formed.blocks b c named) all_there) in
    (led.0, (pass.0, (block.0, block.1, pass.1), led.1))
