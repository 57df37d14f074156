-- Each outcome comes at the end of some history.
use Rattle.ir_meaning.proofs.Common.{◌≡◌, ℕ, zero, suc, ◌+◌, inl, inr, List, [], ◌∷◌, length, Option, None, Some, refl, sym, ap, subst, ◌∙◌, arith, slice_get, Value, Effect, Function, Block, Inst, Op, Binary, Compare, Unary, Select, Convert, Freeze, Phi, Operand, Outcome, IsBlock, Registers, arguments, holding, Ending, Undefines, Returns, Goes, GoesOn, Leads, IfPhi, AnyNumber, OpGives, PhiGives, EndGives, Follows, Enters, RunsFrom, Starts, Moment, entering, InstGives, IsHistory, EndsAt, OutcomesHaveHistories}
use Rattle.ops.specs.declared.value.Effect.TheVariants as effects
use Rattle.ir_core.specs.declared.outcome.Outcome.TheVariants as outcomes

-- ---- the rest of a list

pub rest_here : {A : Type 0} (all : List A) (k : ℕ) (x : A) (rest : List A) → ((i : ℕ) → slice_get all (k + i) ≡ slice_get (x ∷ rest) i) → slice_get all k ≡ Some x
rest_here all k x rest h = ap (slice_get all) (omega arith) ∙ h 0

pub rest_next : {A : Type 0} (all : List A) (k : ℕ) (x : A) (rest : List A) → ((i : ℕ) → slice_get all (k + i) ≡ slice_get (x ∷ rest) i) → (i : ℕ) → slice_get all (suc k + i) ≡ slice_get rest i
rest_next all k x rest h i = ap (slice_get all) (omega arith) ∙ h (suc i)

-- an operation is a phi or is none
pub phi_cases : (op : Op) (P : List (Operand × ℕ) → Type 0) (Q R : Type 0) → ((entries : List (Operand × ℕ)) → op ≡ Phi entries → P entries → R) → (Q → R) → IfPhi P Q op → R
phi_cases (Phi entries) P Q R f g h = f entries refl h
phi_cases (Binary op flags x y) P Q R f g h = g h
phi_cases (Compare pred samesign compared x y) P Q R f g h = g h
phi_cases (Select c x y) P Q R f g h = g h
phi_cases (Convert cast flags from x) P Q R f g h = g h
phi_cases (Unary op truth x) P Q R f g h = g h
phi_cases (Freeze x) P Q R f g h = g h

-- ---- a block

abbrev Histories : Function → List Value → Outcome → Type 0
Histories f args o = (m : Moment) × (before : List Moment) × IsHistory f args (m ∷ before) × EndsAt f m o

-- the histories of a pass through block b that ends so
abbrev PassHistory : Function → List Value → ℕ → Ending → Type 0
PassHistory f args b Undefines = Histories f args outcomes.Undefined
PassHistory f args b (Returns v) = Histories f args (outcomes.Return v)
PassHistory f args b (Goes c held) = (before : List Moment) × IsHistory f args (entering (Some b) c held ∷ before)

module _ (f : Function) (args : List Value) (b : ℕ) (block : Block) (at : IsBlock f b block) (from : Option ℕ) (entered : Registers) where
  abbrev moment : ℕ → Registers → Moment
  moment k held = record { from = from; entered = entered; block = b; place = k; held = held }

  abbrev Rest : ℕ → List Inst → Type 0
  Rest k insts = (i : ℕ) → slice_get block.insts (k + i) ≡ slice_get insts i

  -- behind an instruction that gives a value the history goes on
  goes_on : (k : ℕ) (i : Inst) (held : Registers) (before : List Moment) (v : Value) → slice_get block.insts k ≡ Some i → IsHistory f args (moment k held ∷ before) → InstGives (moment k held) i (effects.Gives v)
      → IsHistory f args (moment (suc k) (holding held b k v) ∷ moment k held ∷ before)
  goes_on k i held before v here h g = (inl (record { inst = i; is_inst = record { block = block; is_block = at; is_inst = here }; value = v; gives = g; next = refl }), h)

  end_history : (end : Ending) (k : ℕ) (held : Registers) (before : List Moment) → k ≡ length block.insts → IsHistory f args (moment k held ∷ before) → EndGives AnyNumber held f block.end end → PassHistory f args b end
  end_history Undefines k held before len h g = (moment k held, before, h, inr (record { block = block; is_block = at; behind = len; gives = g }))
  end_history (Returns v) k held before len h g = (moment k held, before, h, record { block = block; is_block = at; behind = len; gives = g })
  end_history (Goes c next) k held before len h g =
      (moment k held ∷ before, (inr (record { to = c; held = next; gives = record { block = block; is_block = at; behind = len; gives = g }; next = refl }), h))

  -- the effect of an operation that is no phi
  inst_from_op : (k : ℕ) (held : Registers) (w : ℕ) (op : Op) (e : Effect) → OpGives AnyNumber held w op e
      → IfPhi (λ entries. (v : Value) × PhiGives AnyNumber entered from w entries v × (e ≡ effects.Gives v)) (OpGives AnyNumber held w op e) op
  inst_from_op k held w (Binary op flags x y) e g = g
  inst_from_op k held w (Compare pred samesign compared x y) e g = g
  inst_from_op k held w (Select c x y) e g = g
  inst_from_op k held w (Convert cast flags from' x) e g = g
  inst_from_op k held w (Unary op truth x) e g = g
  inst_from_op k held w (Freeze x) e g = g
  inst_from_op k held w (Phi entries) e g = absurd g

  -- an instruction has undefined behaviour, or gives a value and the next one follows
  step : (k : ℕ) (i : Inst) (insts : List Inst) (held : Registers) (before : List Moment) (end : Ending) → slice_get block.insts k ≡ Some i → IsHistory f args (moment k held ∷ before)
      → ((v : Value) → IsHistory f args (moment (suc k) (holding held b k v) ∷ moment k held ∷ before) → Follows AnyNumber f b (suc k) insts block.end (holding held b k v) end → PassHistory f args b end)
      → (e : Effect) → InstGives (moment k held) i e → GoesOn (λ v. Follows AnyNumber f b (suc k) insts block.end (holding held b k v) end) e end → PassHistory f args b end
  step k i insts held before end here h rest effects.Undefined gives g = subst (PassHistory f args b) (sym g) (moment k held, before, h, inl (i, record { block = block; is_block = at; is_inst = here }, gives))
  step k i insts held before end here h rest (effects.Gives v) gives g = rest v (goes_on k i held before v here h gives) g

  follows_history : (k : ℕ) (insts : List Inst) (held : Registers) (before : List Moment) (end : Ending) → Rest k insts → k + length insts ≡ length block.insts → IsHistory f args (moment k held ∷ before)
      → Follows AnyNumber f b k insts block.end held end → PassHistory f args b end
  follows_history k [] held before end is len h g = end_history end k held before (omega arith) h g
  follows_history k (i ∷ insts) held before end is len h g =
      step k i insts held before end (rest_here block.insts k i insts is) h
      (λ v h'. follows_history (suc k) insts (holding held b k v) (moment k held ∷ before) end (rest_next block.insts k i insts is) (omega arith) h')
      g.0 (inst_from_op k held i.width i.op g.0 g.1) g.2

  -- a phi gives the value that it took
  phi_gives : (k : ℕ) (i : Inst) (held : Registers) (entries : List (Operand × ℕ)) (v : Value) → i.op ≡ Phi entries → PhiGives AnyNumber entered from i.width entries v → InstGives (moment k held) i (effects.Gives v)
  phi_gives k i held entries v phi gives =
      subst (λ op. IfPhi (λ entries. (u : Value) × PhiGives AnyNumber entered from i.width entries u × (effects.Gives v ≡ effects.Gives u)) (OpGives AnyNumber held i.width op (effects.Gives v)) op) (sym phi) (v, gives, refl)

  enters_history : (k : ℕ) (insts : List Inst) (held : Registers) (before : List Moment) (end : Ending) → Rest k insts → k + length insts ≡ length block.insts → IsHistory f args (moment k held ∷ before)
      → Enters AnyNumber f from entered b k insts block.end held end → PassHistory f args b end
  enters_history k [] held before end is len h g = follows_history k [] held before end is len h g
  enters_history k (i ∷ insts) held before end is len h g =
      phi_cases i.op
      (λ entries. (v : Value) × PhiGives AnyNumber entered from i.width entries v × Enters AnyNumber f from entered b (suc k) insts block.end (holding held b k v) end)
      (Follows AnyNumber f b k (i ∷ insts) block.end held end) (PassHistory f args b end)
      (λ entries phi taken.
      let gives : InstGives (moment k held) i (effects.Gives taken.0) = phi_gives k i held entries taken.0 phi taken.1 in
      enters_history (suc k) insts (holding held b k taken.0) (moment k held ∷ before) end (rest_next block.insts k i insts is) (omega arith) (goes_on k i held before taken.0 (rest_here block.insts k i insts is) h gives) taken.2)
      (λ follows. follows_history k (i ∷ insts) held before end is len h follows)
      g

-- ---- a run

-- a pass that goes on at a block has the outcome of the run from there
led : (f : Function) (args : List Value) (n b : ℕ) (o : Outcome)
    → ((c : ℕ) (next : Registers) (before : List Moment) → IsHistory f args (entering (Some b) c next ∷ before) → RunsFrom AnyNumber f n (Some b) c next o → Histories f args o)
    → (end : Ending) → PassHistory f args b end → Leads (RunsFrom AnyNumber f n (Some b)) end o → Histories f args o
led f args n b o rest Undefines p g = subst (Histories f args) (sym g) p
led f args n b o rest (Returns v) p g = subst (Histories f args) (sym g) p
led f args n b o rest (Goes c next) p g = rest c next p.0 p.1 g

run_history : (f : Function) (args : List Value) (n : ℕ) (from : Option ℕ) (b : ℕ) (held : Registers) (before : List Moment) (o : Outcome) → IsHistory f args (entering from b held ∷ before) → RunsFrom AnyNumber f n from b held o → Histories f args o
run_history f args zero from b held before o h g = (entering from b held, before, h, subst (EndsAt f (entering from b held)) (sym g) (refl, refl))
run_history f args (suc n) from b held before o h g =
    led f args n b o (λ c next earlier h' run. run_history f args n (Some b) c next earlier o h' run)
    g.0 (enters_history f args b g.1.0 g.1.1 from held 0 g.1.0.insts held before g.0 (λ i. ap (slice_get g.1.0.insts) (omega arith)) (omega arith) h g.1.2) g.2

pub outcomes_histories : OutcomesHaveHistories
outcomes_histories f args n o defined h = run_history f args n None 0 (arguments args) [] o refl (subst (λ t. Starts AnyNumber t f args n o) defined h)
