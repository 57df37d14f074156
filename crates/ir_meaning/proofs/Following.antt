-- Steps of a pass through a block.
use Rattle.ir_meaning.proofs.Common.{◌≡◌, ℕ, zero, suc, ◌+◌, ◌<◌, ◌≤◌, List, [], ◌∷◌, ◌++◌, length, drop, get_or, Option, None, Some, option_and_then, option_map, refl, sym, ap, subst, ◌∙◌, inl, inr, arith, add-zero, add-one, drop-cons, append_assoc, Contains, slice_get, cases_lt, append-nil, drop_all, none-some, same_Some, slice_get_within, slice_get_read, Number, IsValueOf, Value, IsBlock, Names, targets_of, IsFormed, IsInst, IsPhi, IsTyped, OperandHasWidth, width_of, Read, read, end_of, reads_of, reads_at_end, Registers, holding, Ending, Undefines, Returns, Goes, IfPhi, OnlyZero, switch_target, OpGives, PhiGives, EndGives, Follows, Enters, Passes, RunsFrom, Function, Block, Inst, Op, Binary, Compare, Unary, Select, Convert, Freeze, Phi, Operand, Outcome, Terminator, EndFits, GoesFrom, GoesTo, OpFits, Fits, AreTaken, holding_all, Step}
use Rattle.ops.specs.declared.value.Effect.TheVariants as effects
use Rattle.ir_core.specs.declared.operand.Register.TheVariants as registers
use Rattle.ir_core.specs.declared.outcome.Outcome.TheVariants as outcomes
use Rattle.ir_core.specs.declared.terminator.Terminator.TheVariants as terminators
use Rattle.ir_meaning.specs.declared.terminator.Step.TheVariants as steps
use Rattle.ir_meaning.proofs.Pieces.{some_at, cases_in, if_phi_map, switch_among_all}
use Rattle.ir_meaning.proofs.Restricting.{reads_inst, reads_end, phi_read}
use Rattle.ir_meaning.proofs.Totality.{AreEnterable, HasEntry, NoPhis, is_phi_or_not}

-- ---- operands and types fit

op_fits_by : (f : Function) (b k w : ℕ) (op : Op) → ((i : ℕ) (r : Read) → slice_get (reads_of f b k w op) i ≡ Some r → OperandHasWidth f r.width r.operand) → IsTyped w op → ¬ IsPhi op → OpFits f w op
op_fits_by f b k w (Binary op flags x y) reads typed no_phi = (typed, reads 0 (read b k w x) refl, reads 1 (read b k w y) refl)
op_fits_by f b k w (Compare pred samesign compared x y) reads typed no_phi = (typed, reads 0 (read b k compared x) refl, reads 1 (read b k compared y) refl)
op_fits_by f b k w (Select c x y) reads typed no_phi = (reads 0 (read b k 1 c) refl, reads 1 (read b k w x) refl, reads 2 (read b k w y) refl)
op_fits_by f b k w (Convert cast flags from x) reads typed no_phi = (typed.0, typed.1, reads 0 (read b k from x) refl)
op_fits_by f b k w (Unary op truth x) reads typed no_phi = (typed, reads 0 (read b k w x) refl)
op_fits_by f b k w (Freeze x) reads typed no_phi = reads 0 (read b k w x) refl
op_fits_by f b k w (Phi entries) reads typed no_phi = no_phi tt

pub op_fits : (f : Function) → IsFormed f → (b k : ℕ) (block : Block) (inst : Inst) → IsBlock f b block → slice_get block.insts k ≡ Some inst → ¬ IsPhi inst.op → OpFits f inst.width inst.op
op_fits f formed b k block inst is_block is_inst no_phi =
    op_fits_by f b k inst.width inst.op
    (λ i r h. formed.operands b k i r (reads_inst f b k block inst is_block is_inst i r h))
    (formed.insts b k inst (record { block = block; is_block = is_block; is_inst = is_inst })) no_phi

end_fits_by : (f : Function) (b k : ℕ) (t : Terminator) → ((i : ℕ) (r : Read) → slice_get (reads_at_end f b k t) i ≡ Some r → OperandHasWidth f r.width r.operand) → EndFits f t
end_fits_by f b k (terminators.Return a) reads = reads 0 (read b k f.width a) refl
end_fits_by f b k (terminators.Jump to) reads = tt
end_fits_by f b k (terminators.Branch c to other) reads = reads 0 (read b k 1 c) refl
end_fits_by f b k (terminators.Switch a w other cases) reads = reads 0 (read b k w a) refl
end_fits_by f b k terminators.Unreachable reads = tt

pub end_fits : (f : Function) → IsFormed f → (b : ℕ) (block : Block) → IsBlock f b block → EndFits f block.end
end_fits f formed b block is_block =
    end_fits_by f b (length block.insts) block.end (λ i r h. formed.operands b (length block.insts) i r (reads_end f b block is_block i r h))

-- an entry's operand has the width of the phi
pub entry_fits : (f : Function) → IsFormed f → (b k : ℕ) (block : Block) (inst : Inst) (entries : List (Operand × ℕ)) (a : Operand) (c : ℕ) → IsBlock f b block → slice_get block.insts k ≡ Some inst → inst.op ≡ Phi entries → Contains entries (a, c) → OperandHasWidth f inst.width a
entry_fits f formed b k block inst entries a c is_block is_inst is_phi has =
    let found = phi_read f b k block inst entries a c is_block is_inst is_phi has in
    formed.operands b k found.0 (read c (end_of f c) inst.width a) found.1

-- ---- blocks and instructions by place

pub block_read : (f : Function) (b : ℕ) (block : Block) (blocks : List Block) → blocks ≡ f.blocks → b < length f.blocks → block ≡ get_or blocks b block → IsBlock f b block
block_read f b block blocks is below at =
    slice_get_read f.blocks (length f.blocks) b block refl below (subst (λ (xs : List Block). block ≡ get_or xs b block) is at)

pub inst_read : (block : Block) (insts : List Inst) (k : ℕ) (inst : Inst) → insts ≡ block.insts → k < length insts → inst ≡ get_or insts k inst → slice_get block.insts k ≡ Some inst
inst_read block insts k inst is below at = subst (λ (xs : List Inst). slice_get xs k ≡ Some inst) is (slice_get_read insts (length insts) k inst refl below at)

pub width_known : (f : Function) (b k : ℕ) (block : Block) (inst : Inst) → IsBlock f b block → slice_get block.insts k ≡ Some inst → width_of f (registers.Result b k) ≡ Some inst.width
width_known f b k block inst is_block is_inst =
    ap (λ o. option_and_then (λ (x : Block). option_map (λ (i : Inst). i.width) (slice_get x.insts k)) o) is_block ∙ ap (option_map (λ (i : Inst). i.width)) is_inst

-- a predicate that holds of block b holds of whatever block is found at b
pub at_block : (P : Block → Type 0) (f : Function) (b : ℕ) (block : Block) → IsBlock f b block → P block → (other : Block) → IsBlock f b other → P other
at_block P f b block is h other is_other = subst P (same_Some block other (sym is ∙ is_other)) h

-- ---- instructions in order

item_next : {A : Type 0} (xs : List A) (k : ℕ) (x : A) → k < length xs → x ≡ get_or xs k x → drop k xs ≡ x ∷ drop (k + 1) xs
item_next xs k x below at = drop-cons xs k x below ∙ ap (λ (y : _). y ∷ drop (suc k) xs) (sym at) ∙ rw add-one refl

pub follow_gives : (f : Function) (b k : ℕ) (insts : List Inst) (t : Terminator) (held : Registers) (end : Ending) (inst : Inst) (v : Value)
    → k < length insts → inst ≡ get_or insts k inst → OpGives OnlyZero held inst.width inst.op (effects.Gives v)
    → Follows OnlyZero f b (k + 1) (drop (k + 1) insts) t (holding held b k v) end → Follows OnlyZero f b k (drop k insts) t held end
follow_gives f b k insts t held end inst v below at gives rest =
    let next : k + 1 ≡ suc k = omega arith in
    subst (λ (xs : List Inst). Follows OnlyZero f b k xs t held end) (sym (item_next insts k inst below at))
    (effects.Gives v, gives, subst (λ n. Follows OnlyZero f b n (drop (k + 1) insts) t (holding held b k v) end) next rest)

pub follow_undefined : (f : Function) (b k : ℕ) (insts : List Inst) (t : Terminator) (held : Registers) (inst : Inst)
    → k < length insts → inst ≡ get_or insts k inst → OpGives OnlyZero held inst.width inst.op effects.Undefined
    → Follows OnlyZero f b k (drop k insts) t held Undefines
follow_undefined f b k insts t held inst below at gives =
    subst (λ (xs : List Inst). Follows OnlyZero f b k xs t held Undefines) (sym (item_next insts k inst below at)) (effects.Undefined, gives, refl)

pub follow_end : (f : Function) (b k : ℕ) (insts : List Inst) (t : Terminator) (held : Registers) (end : Ending) → length insts ≤ k → EndGives OnlyZero held f t end → Follows OnlyZero f b k (drop k insts) t held end
follow_end f b k insts t held end past gives =
    subst (λ (xs : List Inst). Follows OnlyZero f b k xs t held end) (sym (drop_all k insts past)) gives

pub goes_from : (f : Function) (b : ℕ) (block : Block) (step : Step) → IsBlock f b block → GoesTo (targets_of block.end) step → GoesFrom f b step
goes_from f b block steps.Undefined is h = tt
goes_from f b block (steps.Return v) is h = tt
goes_from f b block (steps.Goes to) is h = (block, is, h)

pub switch_goes : (t : Terminator) (a : Operand) (w other : ℕ) (cases : List (Number × ℕ)) (n to : ℕ) → t ≡ terminators.Switch a w other cases → to ≡ switch_target cases other n → Contains (targets_of t) to
switch_goes t a w other cases n to is goes =
    subst (λ x. Contains (targets_of x) to) (sym is) (subst (λ x. Contains (targets_of (terminators.Switch a w other cases)) x) (sym goes) (switch_among_all cases other n))

-- ---- phis

if_phi_then : (op : Op) (P : List (Operand × ℕ) → Type 0) (R : Type 0) → ((entries : List (Operand × ℕ)) → op ≡ Phi entries → P entries → R) → IfPhi P ⊥ op → R
if_phi_then (Phi entries) P R f h = f entries refl h
if_phi_then (Binary op flags a b) P R f h = absurd h
if_phi_then (Compare pred samesign width a b) P R f h = absurd h
if_phi_then (Select c a b) P R f h = absurd h
if_phi_then (Convert cast flags from a) P R f h = absurd h
if_phi_then (Unary op truth a) P R f h = absurd h
if_phi_then (Freeze a) P R f h = absurd h

if_phi_not : (op : Op) (P : List (Operand × ℕ) → Type 0) (Q : Type 0) → ((entries : List (Operand × ℕ)) → P entries → ⊥) → IfPhi P Q op → ¬ IsPhi op
if_phi_not (Phi entries) P Q f h = λ is. f entries h
if_phi_not (Binary op flags a b) P Q f h = λ is. is
if_phi_not (Compare pred samesign width a b) P Q f h = λ is. is
if_phi_not (Select c a b) P Q f h = λ is. is
if_phi_not (Convert cast flags from a) P Q f h = λ is. is
if_phi_not (Unary op truth a) P Q f h = λ is. is
if_phi_not (Freeze a) P Q f h = λ is. is

-- the value that a phi takes, and those that the phis behind it take
abbrev Takes : Registers → Option ℕ → Inst → List Inst → Value → List Value → List (Operand × ℕ) → Type 0
Takes held from i insts v vs entries = PhiGives OnlyZero held from i.width entries v × IsValueOf i.width v × AreTaken held from insts vs

pub entered_from_nowhere : (held : Registers) (from : Option ℕ) (insts : List Inst) → from ≡ None → AreEnterable from insts → AreTaken held from insts []
entered_from_nowhere held from [] is enterable = tt
entered_from_nowhere held from (i ∷ insts) is enterable =
    if_phi_not i.op (λ entries. HasEntry from entries × AreEnterable from insts) (NoPhis (i ∷ insts)) (λ entries h. none-some h.0.0 (sym is ∙ h.0.2)) enterable

taken_width : (held : Registers) (from : Option ℕ) (insts : List Inst) (vs : List Value) → AreTaken held from insts vs → (k : ℕ) (v : Value) → slice_get vs k ≡ Some v → (inst : Inst) × (slice_get insts k ≡ Some inst) × IsValueOf inst.width v
taken_width held from insts [] h k v is = absurd (none-some v is)
taken_width held from [] (u ∷ vs) h k v is = absurd h
taken_width held from (i ∷ insts) (u ∷ vs) h zero v is =
    (i, refl, if_phi_then i.op (Takes held from i insts u vs) (IsValueOf i.width v) (λ entries is_phi t. subst (λ x. IsValueOf i.width x) (same_Some u v is) t.1) h)
taken_width held from (i ∷ insts) (u ∷ vs) h (suc k) v is =
    taken_width held from insts vs (if_phi_then i.op (Takes held from i insts u vs) (AreTaken held from insts vs) (λ entries is_phi t. t.2) h) k v is

pub taken_fit : (f : Function) (b : ℕ) (block : Block) (held : Registers) (from : Option ℕ) (vs : List Value) → IsBlock f b block → AreTaken held from block.insts vs → (k : ℕ) (v : Value) → slice_get vs k ≡ Some v → Fits f (registers.Result b k) v
taken_fit f b block held from vs is_block taken k v is =
    let found = taken_width held from block.insts vs taken k v is in
    (found.0.width, width_known f b k block found.0 is_block found.1, found.2)

taken_stops : (held : Registers) (from : Option ℕ) (insts : List Inst) (vs : List Value) → AreTaken held from insts vs → (inst : Inst) → slice_get insts (length vs) ≡ Some inst → ¬ IsPhi inst.op
taken_stops held from [] [] h inst is = absurd (none-some inst is)
taken_stops held from [] (v ∷ vs) h inst is = absurd h
taken_stops held from (i ∷ insts) [] h inst is = subst (λ (x : Inst). ¬ IsPhi x.op) (same_Some i inst is) h
taken_stops held from (i ∷ insts) (v ∷ vs) h inst is =
    taken_stops held from insts vs (if_phi_then i.op (Takes held from i insts v vs) (AreTaken held from insts vs) (λ entries is_phi t. t.2) h) inst is

pub none_behind : (f : Function) → IsFormed f → (b : ℕ) (block : Block) (held : Registers) (from : Option ℕ) (vs : List Value) → IsBlock f b block → AreTaken held from block.insts vs
    → (k : ℕ) (inst : Inst) → length vs ≤ k → IsInst f b k inst → ¬ IsPhi inst.op
none_behind f formed b block held from vs is_block taken k inst above is =
    let same : is.block ≡ block = same_Some is.block block (sym is.is_block ∙ is_block) in
    let is_inst : slice_get block.insts k ≡ Some inst = subst (λ (x : Block). slice_get x.insts k ≡ Some inst) same is.is_inst in
    let first = some_at block.insts (length vs) (omega (arith, slice_get_within block.insts k inst is_inst)) in
    elim (cases_lt (length vs) k) [
      | inl below ↦ λ is_phi. taken_stops held from block.insts vs taken first.0 first.1
          (formed.phis_first b (length vs) k first.0 inst (record { block = block; is_block = is_block; is_inst = first.1 }) is below is_phi)
      | inr not_below ↦
          let here : k ≡ length vs = omega arith in
          taken_stops held from block.insts vs taken inst (subst (λ n. slice_get block.insts n ≡ Some inst) here is_inst)
    ]

pub enters_taken : (f : Function) (from : Option ℕ) (old : Registers) (b k : ℕ) (insts : List Inst) (vs : List Value) (t : Terminator) (held : Registers) (end : Ending) → AreTaken old from insts vs
    → Follows OnlyZero f b (k + length vs) (drop (length vs) insts) t (holding_all held b k vs) end → Enters OnlyZero f from old b k insts t held end
enters_taken f from old b k [] [] t held end h rest = rest
enters_taken f from old b k [] (v ∷ vs) t held end h rest = absurd h
enters_taken f from old b k (i ∷ insts) [] t held end h rest =
    is_phi_or_not i.op (λ entries. (v : Value) × PhiGives OnlyZero old from i.width entries v × Enters OnlyZero f from old b (suc k) insts t (holding held b k v) end) (Follows OnlyZero f b k (i ∷ insts) t held end)
    (λ entries is. absurd (h (subst (λ x. IsPhi x) (sym is) tt)))
    (λ no_phi. subst (λ n. Follows OnlyZero f b n (i ∷ insts) t held end) (add-zero k) rest)
enters_taken f from old b k (i ∷ insts) (v ∷ vs) t held end h rest =
    if_phi_map i.op (Takes old from i insts v vs) (λ entries. (u : Value) × PhiGives OnlyZero old from i.width entries u × Enters OnlyZero f from old b (suc k) insts t (holding held b k u) end) ⊥ (Follows OnlyZero f b k (i ∷ insts) t held end)
    (λ entries g. (
      v,
      g.0,
      enters_taken f from old b (suc k) insts vs t (holding held b k v) end g.2
          (subst (λ n. Follows OnlyZero f b n (drop (length vs) insts) t (holding_all (holding held b k v) b (suc k) vs) end) (omega arith) rest),
    ))
    (λ none. absurd none)
    h

-- the whole block, where as many instructions are phis as values were taken
pub enters_all : (f : Function) (from : Option ℕ) (old : Registers) (b n : ℕ) (insts : List Inst) (vs : List Value) (t : Terminator) (end : Ending) → AreTaken old from insts vs → n ≡ length vs
    → Follows OnlyZero f b n (drop n insts) t (holding_all old b 0 vs) end → Enters OnlyZero f from old b 0 insts t old end
enters_all f from old b n insts vs t end taken is rest =
    let count : n ≡ 0 + length vs = omega arith in
    enters_taken f from old b 0 insts vs t old end taken
    (subst (λ m. Follows OnlyZero f b m (drop (length vs) insts) t (holding_all old b 0 vs) end) count (subst (λ m. Follows OnlyZero f b n (drop m insts) t (holding_all old b 0 vs) end) is rest))

pub not_phi : (op : Op) → ((entries : List (Operand × ℕ)) → op ≡ Phi entries → ⊥) → ¬ IsPhi op
not_phi (Phi entries) h = λ is. h entries refl
not_phi (Binary op flags a b) h = λ is. is
not_phi (Compare pred samesign width a b) h = λ is. is
not_phi (Select c a b) h = λ is. is
not_phi (Convert cast flags from a) h = λ is. is
not_phi (Unary op truth a) h = λ is. is
not_phi (Freeze a) h = λ is. is

pub holding_next : (held : Registers) (b k : ℕ) (vs : List Value) (v : Value) → k < length vs → v ≡ get_or vs k v → holding_all (holding held b k v) b (k + 1) (drop (k + 1) vs) ≡ holding_all held b k (drop k vs)
holding_next held b k vs v below at =
    rw add-one (sym (ap (λ (xs : List Value). holding_all held b k xs) (drop-cons vs k v below) ∙ ap (λ x. holding_all (holding held b k x) b (suc k) (drop (suc k) vs)) (sym at)))

pub later_entry : (entries : List (Operand × ℕ)) (i : ℕ) (e : Operand × ℕ) (from : ℕ) → i < length entries → e ≡ get_or entries i e → (e.1 ≡ from → ⊥)
    → ((a : Operand) × Contains (drop i entries) (a, from)) → (a : Operand) × Contains (drop (i + 1) entries) (a, from)
later_entry entries i e from below at other has =
    elim (cases_in e (drop (i + 1) entries) (has.0, from) (subst (λ (xs : List (Operand × ℕ)). Contains xs (has.0, from)) (item_next entries i e below at) has.1)) [
      | inl is ↦ absurd (other (ap (λ (x : Operand × ℕ). x.1) is))
      | inr later ↦ (has.0, later)
    ]

-- the phis before the i-th have taken these values; with any that the others may take, all have taken theirs
abbrev pub TakenUpTo : Registers → Option ℕ → List Inst → ℕ → List Value → Type 0
TakenUpTo held from insts i taken = (vs : List Value) → AreTaken held from (drop i insts) vs → AreTaken held from insts (taken ++ vs)

phi_takes : (op : Op) (P : List (Operand × ℕ) → Type 0) (Q : Type 0) (entries : List (Operand × ℕ)) → op ≡ Phi entries → P entries → IfPhi P Q op
phi_takes op P Q entries is h = subst (λ x. IfPhi P Q x) (sym is) h

pub taken_more : (held : Registers) (from : Option ℕ) (insts : List Inst) (i : ℕ) (taken new : List Value) (inst : Inst) (entries : List (Operand × ℕ)) (v : Value) → i < length insts → inst ≡ get_or insts i inst → inst.op ≡ Phi entries
    → PhiGives OnlyZero held from inst.width entries v → IsValueOf inst.width v → TakenUpTo held from insts i taken → new ≡ taken ++ v ∷ [] → TakenUpTo held from insts (i + 1) new
taken_more held from insts i taken new inst entries v below at is_phi gives fits before pushed = λ vs h.
    let takes = phi_takes inst.op (Takes held from inst (drop (i + 1) insts) v vs) ⊥ entries is_phi (gives, fits, h) in
    let all : AreTaken held from insts (taken ++ (v ∷ vs)) = before (v ∷ vs) (subst (λ (xs : List Inst). AreTaken held from xs (v ∷ vs)) (sym (item_next insts i inst below at)) takes) in
    subst (λ (xs : List Value). AreTaken held from insts xs) (sym (append_assoc taken (v ∷ []) vs) ∙ ap (λ (xs : List Value). xs ++ vs) (sym pushed)) all

pub taken_at_other : (held : Registers) (from : Option ℕ) (insts : List Inst) (i : ℕ) (taken : List Value) (inst : Inst) → i < length insts → inst ≡ get_or insts i inst → ¬ IsPhi inst.op → TakenUpTo held from insts i taken → AreTaken held from insts taken
taken_at_other held from insts i taken inst below at no_phi before =
    subst (λ (xs : List Value). AreTaken held from insts xs) (append-nil taken)
    (before [] (subst (λ (xs : List Inst). AreTaken held from xs []) (sym (item_next insts i inst below at)) no_phi))

pub taken_all : (held : Registers) (from : Option ℕ) (insts : List Inst) (i : ℕ) (taken : List Value) → length insts ≤ i → TakenUpTo held from insts i taken → AreTaken held from insts taken
taken_all held from insts i taken past before =
    subst (λ (xs : List Value). AreTaken held from insts xs) (append-nil taken)
    (before [] (subst (λ (xs : List Inst). AreTaken held from xs []) (sym (drop_all i insts past)) tt))

pub phi_entry : (f : Function) → IsFormed f → (from b k : ℕ) (block : Block) (inst : Inst) (entries : List (Operand × ℕ)) → Names f from b → IsBlock f b block → slice_get block.insts k ≡ Some inst → inst.op ≡ Phi entries → (a : Operand) × Contains entries (a, from)
phi_entry f formed from b k block inst entries named is_block is_inst is_phi =
    ((formed.phis b k inst entries (record { block = block; is_block = is_block; is_inst = is_inst }) is_phi).from from).1 named

-- ---- runs

pub run_goes : (f : Function) (n m : ℕ) (from : Option ℕ) (b c : ℕ) (held there : Registers) (o : Outcome) → n ≡ suc m → Passes OnlyZero f from b held (Goes c there) → RunsFrom OnlyZero f m (Some b) c there o → RunsFrom OnlyZero f n from b held o
run_goes f n m from b c held there o is passes run = subst (λ x. RunsFrom OnlyZero f x from b held o) (sym is) (Goes c there, passes, run)

pub run_undefined : (f : Function) (n m : ℕ) (from : Option ℕ) (b : ℕ) (held : Registers) → n ≡ suc m → Passes OnlyZero f from b held Undefines → RunsFrom OnlyZero f n from b held outcomes.Undefined
run_undefined f n m from b held is passes = subst (λ x. RunsFrom OnlyZero f x from b held outcomes.Undefined) (sym is) (Undefines, passes, refl)

pub run_returns : (f : Function) (n m : ℕ) (from : Option ℕ) (b : ℕ) (held : Registers) (v : Value) → n ≡ suc m → Passes OnlyZero f from b held (Returns v) → RunsFrom OnlyZero f n from b held (outcomes.Return v)
run_returns f n m from b held v is passes = subst (λ x. RunsFrom OnlyZero f x from b held (outcomes.Return v)) (sym is) (Returns v, passes, refl)
