-- Passes through the instructions of a block, and the registers that they write.
use Rattle.substitution.proofs.Common.{◌≡◌, ◌≢◌, ℕ, suc, ◌+◌, ◌<◌, ◌⊎◌, inl, inr, List, [], ◌∷◌, ◌++◌, length, Option, None, Some, refl, ap, subst, ◌∙◌, arith, slice_get, same_Some, Value, Effect, IsPhi, Registers, holding, Ending, Undefines, GoesOn, IfPhi, AnyNumber, OpGives, PhiGives, Follows, Enters, Function, Inst, Op, Binary, Compare, Unary, Select, Convert, Freeze, Phi, Operand, Terminator, substituted_op, value_of, Rewrite, stands_for, RunsOn, RunsThrough, held_elsewhere}
use Rattle.ops.specs.declared.value.Effect.TheVariants as effects
use Rattle.ir_core.specs.declared.operand.Operand.TheVariants as operands
use Rattle.ir_core.specs.declared.operand.Register.TheVariants as registers

-- ---- phis

pub phi_or_not : (op : Op) → ((entries : List (Operand × ℕ)) × (op ≡ Phi entries)) ⊎ ¬ IsPhi op
phi_or_not (Binary op flags x y) = inr (λ h. h)
phi_or_not (Compare pred samesign compared x y) = inr (λ h. h)
phi_or_not (Select c x y) = inr (λ h. h)
phi_or_not (Convert cast flags from x) = inr (λ h. h)
phi_or_not (Unary op truth x) = inr (λ h. h)
phi_or_not (Freeze x) = inr (λ h. h)
phi_or_not (Phi entries) = inl (entries, refl)

pub no_phi_to : (P : List (Operand × ℕ) → Type 0) (Q : Type 0) (op : Op) → ¬ IsPhi op → Q → IfPhi P Q op
no_phi_to P Q (Binary op flags x y) n q = q
no_phi_to P Q (Compare pred samesign compared x y) n q = q
no_phi_to P Q (Select c x y) n q = q
no_phi_to P Q (Convert cast flags from x) n q = q
no_phi_to P Q (Unary op truth x) n q = q
no_phi_to P Q (Freeze x) n q = q
no_phi_to P Q (Phi entries) n q = absurd (n tt)

pub no_phi_from : (P : List (Operand × ℕ) → Type 0) (Q : Type 0) (op : Op) → ¬ IsPhi op → IfPhi P Q op → Q
no_phi_from P Q (Binary op flags x y) n q = q
no_phi_from P Q (Compare pred samesign compared x y) n q = q
no_phi_from P Q (Select c x y) n q = q
no_phi_from P Q (Convert cast flags from x) n q = q
no_phi_from P Q (Unary op truth x) n q = q
no_phi_from P Q (Freeze x) n q = q
no_phi_from P Q (Phi entries) n q = absurd (n tt)

pub no_phi_substituted : (w : Rewrite) (op : Op) → ¬ IsPhi op → ¬ IsPhi (substituted_op (stands_for w) op)
no_phi_substituted w (Binary op flags x y) n h = h
no_phi_substituted w (Compare pred samesign compared x y) n h = h
no_phi_substituted w (Select c x y) n h = h
no_phi_substituted w (Convert cast flags from x) n h = h
no_phi_substituted w (Unary op truth x) n h = h
no_phi_substituted w (Freeze x) n h = h
no_phi_substituted w (Phi entries) n h = n h

-- none of these is a phi
abbrev pub NoPhis : List Inst → Type 0
NoPhis [] = Unit {0}
NoPhis (i ∷ insts) = ¬ IsPhi i.op × NoPhis insts

pub no_phis_at : (insts : List Inst) → ((i : ℕ) (inst : Inst) → slice_get insts i ≡ Some inst → ¬ IsPhi inst.op) → NoPhis insts
no_phis_at [] h = tt
no_phis_at (i ∷ insts) h = (h 0 i refl, no_phis_at insts (λ j. h (suc j)))

pub no_phis_joined : (xs ys : List Inst) → NoPhis xs → NoPhis ys → NoPhis (xs ++ ys)
no_phis_joined [] ys p q = q
no_phis_joined (x ∷ xs) ys p q = (p.0, no_phis_joined xs ys p.1 q)

-- where the next instruction is no phi, a pass that enters the block follows its instructions
pub enters_follows : (g : Function) (from : Option ℕ) (entered : Registers) (b k : ℕ) (insts : List Inst) (t : Terminator) (held : Registers) (end : Ending) → NoPhis insts
    → Enters AnyNumber g from entered b k insts t held end → Follows AnyNumber g b k insts t held end
enters_follows g from entered b k [] t held end none h = h
enters_follows g from entered b k (i ∷ insts) t held end none h =
    no_phi_from (λ entries. (v : Value) × PhiGives AnyNumber entered from i.width entries v × Enters AnyNumber g from entered b (suc k) insts t (holding held b k v) end) (Follows AnyNumber g b k (i ∷ insts) t held end) i.op none.0 h

-- ---- the instructions that are put

-- how the pass ends behind these instructions
abbrev pub GoesAfter : (Registers → Type 0) → Ending → Option Registers → Type 0
GoesAfter next end None = end ≡ Undefines
GoesAfter next end (Some held) = next held

-- a pass through two lists of instructions goes through the first and then through the second
pub through : (g : Function) (b n : ℕ) (insts rest : List Inst) (t : Terminator) (held : Registers) (end : Ending) → Follows AnyNumber g b n (insts ++ rest) t held end
    → (after : Option Registers) × RunsThrough b n insts held after × GoesAfter (λ next. Follows AnyNumber g b (n + length insts) rest t next end) end after
through g b n [] rest t held end h = let same : n ≡ n + 0 = omega arith in (Some held, refl, subst (λ p. Follows AnyNumber g b p rest t held end) same h)
through g b n (i ∷ insts) rest t held end h = by (λ v. through g b (suc n) insts rest t (holding held b n v) end) h.0 h.1 h.2
  where
    by : ((v : Value) → Follows AnyNumber g b (suc n) (insts ++ rest) t (holding held b n v) end → (after : Option Registers) × RunsThrough b (suc n) insts (holding held b n v) after × GoesAfter (λ next. Follows AnyNumber g b (suc n + length insts) rest t next end) end after)
        → (e : Effect) → OpGives AnyNumber held i.width i.op e → GoesOn (λ v. Follows AnyNumber g b (suc n) (insts ++ rest) t (holding held b n v) end) e end
        → (after : Option Registers) × RunsThrough b n (i ∷ insts) held after × GoesAfter (λ next. Follows AnyNumber g b (n + suc (length insts)) rest t next end) end after
    by later effects.Undefined gives on = (None, (effects.Undefined, gives, refl), on)
    by later (effects.Gives v) gives on =
        let r : (after : Option Registers) × RunsThrough b (suc n) insts (holding held b n v) after × GoesAfter (λ next. Follows AnyNumber g b (suc n + length insts) rest t next end) end after =
        later v on in
        let same : suc n + length insts ≡ n + suc (length insts) = omega arith in
        (r.0, (effects.Gives v, gives, r.1), subst (λ p. GoesAfter (λ next. Follows AnyNumber g b p rest t next end) end r.0) same r.2)

-- an operand other than the register that is written has the value that it had
pub unwritten : (held : Registers) (b n : ℕ) (v : Value) (a : Operand) → a ≢ operands.Register (registers.Result b n) → value_of (holding held b n v) a ≡ value_of held a
unwritten held b n v (operands.Register (registers.Parameter p)) ne = refl
unwritten held b n v (operands.Register (registers.Result d j)) ne = held_elsewhere held b n v d j (λ h. ne (let p = h.0 in let q = h.1 in cc))
unwritten held b n v (operands.Number x) ne = refl
unwritten held b n v operands.Undef ne = refl
unwritten held b n v operands.Poison ne = refl

-- so has one that is none of these instructions' registers
pub unwritten_by : (b n : ℕ) (insts : List Inst) (held next : Registers) (a : Operand) → ((l : ℕ) → l < length insts → a ≢ operands.Register (registers.Result b (n + l))) → RunsThrough b n insts held (Some next) → value_of next a ≡ value_of held a
unwritten_by b n [] held next a apart h = ap (λ (x : Registers). value_of x a) (same_Some next held h)
unwritten_by b n (i ∷ insts) held next a apart h =
    let later : (l : ℕ) → l < length insts → a ≢ operands.Register (registers.Result b (suc n + l)) = λ l lt e. apart (suc l) (omega arith) (e ∙ ap (λ (m : ℕ). operands.Register (registers.Result b m)) (omega arith)) in
    by (λ v on. unwritten_by b (suc n) insts (holding held b n v) next a later on) h.0 h.2
  where
    by : ((v : Value) → RunsThrough b (suc n) insts (holding held b n v) (Some next) → value_of next a ≡ value_of (holding held b n v) a)
        → (e : Effect) → RunsOn (λ v. RunsThrough b (suc n) insts (holding held b n v) (Some next)) e (Some next) → value_of next a ≡ value_of held a
    by rest effects.Undefined on = absurd cc
    by rest (effects.Gives v) on =
        let first : a ≢ operands.Register (registers.Result b n) = λ e. apart 0 (omega arith) (e ∙ ap (λ (m : ℕ). operands.Register (registers.Result b m)) (omega arith)) in
        rest v on ∙ unwritten held b n v a first
