-- What operations of rules and of functions compute from their inputs: the values of their operands, and for a freeze
-- the number that it gives in the place of poison.
use Rattle.rewriter.proofs.Common.{◌≡◌, ◌⊎◌, inl, inr, ℕ, Bool, zero, suc, List, [], ◌∷◌, None, Some, refl, sym, ap, subst, ◌∙◌, slice_get, slice_index, same_Some, get_or_from_slice_get, pow_pos, bits, Number, AllowsValue, AllowsEffect, instruction, selection, conversion, unary, Opcode, Flags, Pred, Cast, Value, Effect, instruction-monotone, comparison-monotone, conversion-monotone, unary-monotone, selection-monotone, Read, read, reads_of, Registers, AnyNumber, IsChosen, OperandGives, Freezes, OpGives, Function, Phi, operands_of, Held, Given, frozen, IsSameOperation}
use Rattle.ops.specs.Comparison.{comparison}
use Rattle.ops.specs.declared.opcode.Unary.{Unary as Intrinsic}
use Rattle.ops.specs.declared.value.Value.TheVariants as values
use Rattle.ops.specs.declared.value.Effect.TheVariants as effects
use Rattle.ir_core.specs.declared.instruction.Op.{Op}
use Rattle.ir_core.specs.declared.operand.Operand.TheVariants as operands
use Rattle.ir_core.specs.declared.instruction.Op.TheVariants.{Binary, Compare, Unary, Select, Convert, Freeze}
use Rattle.rule_core.specs.Run.{OperandGives as RuleOperandGives, OpGives as RuleOpGives}
use Rattle.rule_core.specs.declared.rule.Argument.TheVariants as arguments
use Rattle.rule_core.specs.declared.rule.Op.{Op as RuleOp}
use Rattle.rule_core.specs.declared.rule.Op.TheVariants as rule_ops
use Rattle.rule_core.specs.declared.rule.Operand.{Operand as RuleOperand}

-- ---- freezes

abbrev pub IsFreeze : RuleOp → Type 0
IsFreeze (rule_ops.Freeze a k) = Unit {0}
IsFreeze op = ⊥

pub freeze_or : (op : RuleOp) → ((a : RuleOperand) × (k : ℕ) × (op ≡ rule_ops.Freeze a k)) ⊎ ¬ IsFreeze op
freeze_or (rule_ops.Freeze a k) = inl (a, k, refl)
freeze_or (rule_ops.Binary op flags a b) = inr (λ is. is)
freeze_or (rule_ops.Compare pred samesign a b) = inr (λ is. is)
freeze_or (rule_ops.Unary op truth a) = inr (λ is. is)
freeze_or (rule_ops.Select c a b) = inr (λ is. is)
freeze_or (rule_ops.Convert cast flags a to) = inr (λ is. is)
freeze_or (rule_ops.Copy a) = inr (λ is. is)

-- The inputs of a rule's operation whose result has the class c: its operands, and for a freeze the choice of the
-- number that it gives in the place of poison.
abbrev pub choice_operand : ℕ → ℕ → RuleOperand
choice_operand c k = record { value = arguments.Undef k; written = None; class = c }

abbrev pub inputs_of : ℕ → RuleOp → List RuleOperand
inputs_of c (rule_ops.Freeze a k) = a ∷ choice_operand c k ∷ []
inputs_of c op = operands_of op

-- And those of a function's operation: its operands, and for a freeze any number of its width, as an `undef` gives one.
abbrev pub taken_by : Function → ℕ → ℕ → ℕ → Op → List Read
taken_by f b k w (Freeze x) = read b k w x ∷ read b k w operands.Undef ∷ []
taken_by f b k w op = reads_of f b k w op

pub plain_inputs : (c : ℕ) (op : RuleOp) → ¬ IsFreeze op → inputs_of c op ≡ operands_of op
plain_inputs c (rule_ops.Freeze a k) none = absurd (none tt)
plain_inputs c op none = refl

pub plain_reads : (f : Function) (b k w : ℕ) (s : RuleOp) (i : Op) → IsSameOperation s i → ¬ IsFreeze s → taken_by f b k w i ≡ reads_of f b k w i
plain_reads f b k w (rule_ops.Freeze a j) (Freeze x) same none = absurd (none tt)
plain_reads f b k w s (Freeze x) same none = absurd same
plain_reads f b k w s i same none = refl

-- the number of a value, and some number for poison
abbrev pub number_of : Value → Number
number_of values.Poison = record { width = 0; number = 0 }
number_of (values.Bits n) = n

-- a freeze of a function gives what the value is frozen to by some number of its width
freezes_by : (w : ℕ) (y v : Value) → Freezes AnyNumber w y v → (c : Value) × IsChosen AnyNumber w c × (v ≡ frozen y (number_of c))
freezes_by w values.Poison v chosen = (v, chosen, chosen.2 ∙ ap (λ x. values.Bits (number_of x)) (sym chosen.2))
freezes_by w (values.Bits m) v is = (bits w 0, (0, pow_pos w, refl), is)

by_choice : (w : ℕ) (y c : Value) → IsChosen AnyNumber w c → Freezes AnyNumber w y (frozen y (number_of c))
by_choice w values.Poison c chosen = (chosen.0, chosen.1, ap (λ x. values.Bits (number_of x)) chosen.2)
by_choice w (values.Bits m) c chosen = refl

-- an operation without its inputs
pub data Computation : Type 0 where
  Calculates : (op : Opcode) (flags : Flags) (N : ℕ) → Computation
  Compares : (pred : Pred) (samesign : Bool) (N : ℕ) → Computation
  Calls : (op : Intrinsic) (truth : Bool) (N : ℕ) → Computation
  Selects : Computation
  Converts : (cast : Cast) (flags : Flags) (from to : ℕ) → Computation
  Freezing : Computation
  Copies : Computation

-- its effect on input values, by index
abbrev pub effect_of : Computation → (ℕ → Value) → Effect
effect_of (Calculates op flags N) v = instruction op flags N (v 0) (v 1)
effect_of (Compares pred samesign N) v = effects.Gives (comparison pred samesign N (v 0) (v 1))
effect_of (Calls op truth N) v = effects.Gives (unary op truth N (v 0))
effect_of Selects v = effects.Gives (selection (v 0) (v 1) (v 2))
effect_of (Converts cast flags from to) v = effects.Gives (conversion cast flags from to (v 0))
effect_of Freezing v = effects.Gives (frozen (v 0) (number_of (v 1)))
effect_of Copies v = effects.Gives (v 0)

-- what an operation of a rule computes at the width N, and one of a function
abbrev pub computed : List ℕ → ℕ → RuleOp → Computation
computed typing N (rule_ops.Binary op flags a b) = Calculates op flags N
computed typing N (rule_ops.Compare pred samesign a b) = Compares pred samesign (slice_index typing a.class)
computed typing N (rule_ops.Unary op truth a) = Calls op truth N
computed typing N (rule_ops.Select c a b) = Selects
computed typing N (rule_ops.Convert cast flags a to) = Converts cast flags (slice_index typing a.class) N
computed typing N (rule_ops.Freeze a k) = Freezing
computed typing N (rule_ops.Copy a) = Copies

abbrev pub computed_by : ℕ → Op → Computation
computed_by w (Binary op flags x y) = Calculates op flags w
computed_by w (Compare pred samesign compared x y) = Compares pred samesign compared
computed_by w (Select c x y) = Selects
computed_by w (Convert cast flags from x) = Converts cast flags from w
computed_by w (Unary op truth x) = Calls op truth w
computed_by w (Freeze x) = Freezing
computed_by w (Phi entries) = Copies

-- the operation computes its result from its inputs alone, so it is no phi
abbrev pub IsComputed : Op → Type 0
IsComputed (Binary op flags x y) = Unit {0}
IsComputed (Compare pred samesign compared x y) = Unit {0}
IsComputed (Select c x y) = Unit {0}
IsComputed (Convert cast flags from x) = Unit {0}
IsComputed (Unary op truth x) = Unit {0}
IsComputed (Freeze x) = Unit {0}
IsComputed (Phi entries) = ⊥

-- ---- values by index

abbrev pub before_all : Value → (ℕ → Value) → ℕ → Value
before_all x v zero = x
before_all x v (suc n) = v n

abbrev pub no_values : ℕ → Value
no_values n = values.Poison

-- each value has the property with the item of its index
abbrev pub AreValues : {X : Type 0} → (X → Value → Type 0) → List X → (ℕ → Value) → Type 0
AreValues {X} P xs v = (i : ℕ) (x : X) → slice_get xs i ≡ Some x → P x (v i)

pub none_values : {X : Type 0} (P : X → Value → Type 0) (v : ℕ → Value) → AreValues P [] v
none_values P v i x at = absurd cc

pub more_values : {X : Type 0} (P : X → Value → Type 0) (x : X) (xs : List X) (u : Value) (v : ℕ → Value) → P x u → AreValues P xs v → AreValues P (x ∷ xs) (before_all u v)
more_values P x xs u v p rest zero y at = subst (λ z. P z u) (same_Some x y at) p
more_values P x xs u v p rest (suc i) y at = rest i y at

-- values for the items, where there is one for each
pub collected : {X : Type 0} (P : ℕ → X → Value → Type 0) (xs : List X) → ((i : ℕ) (x : X) → slice_get xs i ≡ Some x → (v : Value) × P i x v) → (v : ℕ → Value) × ((i : ℕ) (x : X) → slice_get xs i ≡ Some x → P i x (v i))
collected P [] each = (no_values, λ i x at. absurd cc)
collected {X} P (x ∷ xs) each =
    let rest : (v : ℕ → Value) × ((i : ℕ) (x : X) → slice_get xs i ≡ Some x → P (suc i) x (v i)) = collected (λ i. P (suc i)) xs (λ i. each (suc i)) in
    (before_all (each 0 x refl).0 rest.0, both x xs P (each 0 x refl).0 rest.0 (each 0 x refl).1 rest.1)
  where
    both : (x : X) (xs : List X) (P : ℕ → X → Value → Type 0) (u : Value) (v : ℕ → Value) → P 0 x u → ((i : ℕ) (y : X) → slice_get xs i ≡ Some y → P (suc i) y (v i)) → (i : ℕ) (y : X) → slice_get (x ∷ xs) i ≡ Some y → P i y (before_all u v i)
    both x xs P u v p rest zero y at = subst (λ z. P 0 z u) (same_Some x y at) p
    both x xs P u v p rest (suc i) y at = rest i y at

-- ---- operations of rules

module _ (typing : List ℕ) (given : Given) (held : Held) where
  abbrev pub RuleValues : List RuleOperand → (ℕ → Value) → Type 0
  RuleValues operands v = AreValues (λ o x. RuleOperandGives typing given held o x) operands v

  width_of : (a : RuleOperand) (M : ℕ) → slice_get typing a.class ≡ Some M → slice_index typing a.class ≡ M
  width_of a M at = get_or_from_slice_get typing a.class M 0 at

  -- an operation of a rule has the effect that is computed from the values of its inputs
  pub rule_gives : (c N : ℕ) → slice_get typing c ≡ Some N → (op : RuleOp) (v : ℕ → Value) → RuleValues (inputs_of c op) v → RuleOpGives typing given held N op (effect_of (computed typing N op) v)
  rule_gives c N at (rule_ops.Binary op flags a b) v each = (v 0, v 1, each 0 a refl, each 1 b refl, refl)
  rule_gives c N at (rule_ops.Compare pred samesign a b) v each =
      ((each 0 a refl).0, v 0, v 1, (each 0 a refl).1, each 0 a refl, each 1 b refl, ap (λ M. effects.Gives (comparison pred samesign M (v 0) (v 1))) (width_of a (each 0 a refl).0 (each 0 a refl).1))
  rule_gives c N at (rule_ops.Unary op truth a) v each = (v 0, each 0 a refl, refl)
  rule_gives c N at (rule_ops.Select z a b) v each = (v 0, v 1, v 2, each 0 z refl, each 1 a refl, each 2 b refl, refl)
  rule_gives c N at (rule_ops.Convert cast flags a to) v each =
      ((each 0 a refl).0, v 0, (each 0 a refl).1, each 0 a refl, ap (λ M. effects.Gives (conversion cast flags M N (v 0))) (width_of a (each 0 a refl).0 (each 0 a refl).1))
  rule_gives c N at (rule_ops.Freeze a k) v each =
      let choice = (each 1 (choice_operand c k) refl).2 in
      (v 0, choice.0, each 0 a refl, choice.1, ap (λ x. effects.Gives (frozen (v 0) (number_of x))) choice.2)
  rule_gives c N at (rule_ops.Copy a) v each = (v 0, each 0 a refl, refl)

-- ---- operations of functions

module _ (f : Function) (b k : ℕ) (held : Registers) where
  abbrev pub ReadValues : List Read → (ℕ → Value) → Type 0
  ReadValues reads v = AreValues (λ r x. OperandGives AnyNumber held r.width r.operand x) reads v

  first : (r : Read) (x : Value) → OperandGives AnyNumber held r.width r.operand x → (rest : List Read) (v : ℕ → Value) → ReadValues rest v → ReadValues (r ∷ rest) (before_all x v)
  first r x p rest v q = more_values (λ r y. OperandGives AnyNumber held r.width r.operand y) r rest x v p q

  nothing : (v : ℕ → Value) → ReadValues [] v
  nothing v = none_values (λ r y. OperandGives AnyNumber held r.width r.operand y) v

  pub op_computes : (w : ℕ) (op : Op) (e : Effect) → IsComputed op → OpGives AnyNumber held w op e → (v : ℕ → Value) × ReadValues (taken_by f b k w op) v × (e ≡ effect_of (computed_by w op) v)
  op_computes w (Binary op flags x y) e is h =
      (before_all h.0 (before_all h.1 no_values), first (read b k w x) h.0 h.2 (read b k w y ∷ []) (before_all h.1 no_values) (first (read b k w y) h.1 h.3 [] no_values (nothing no_values)), h.4)
  op_computes w (Compare pred samesign compared x y) e is h =
      (before_all h.0 (before_all h.1 no_values), first (read b k compared x) h.0 h.2 (read b k compared y ∷ []) (before_all h.1 no_values) (first (read b k compared y) h.1 h.3 [] no_values (nothing no_values)), h.4)
  op_computes w (Select c x y) e is h =
      (before_all h.0 (before_all h.1 (before_all h.2 no_values)), first (read b k 1 c) h.0 h.3 (read b k w x ∷ read b k w y ∷ []) (before_all h.1 (before_all h.2 no_values)) (first (read b k w x) h.1 h.4 (read b k w y ∷ []) (before_all h.2 no_values) (first (read b k w y) h.2 h.5 [] no_values (nothing no_values))), h.6)
  op_computes w (Convert cast flags from x) e is h = (before_all h.0 no_values, first (read b k from x) h.0 h.1 [] no_values (nothing no_values), h.2)
  op_computes w (Unary op truth x) e is h = (before_all h.0 no_values, first (read b k w x) h.0 h.1 [] no_values (nothing no_values), h.2)
  op_computes w (Freeze x) e is h =
      let by = freezes_by w h.0 h.1 h.3 in
      (before_all h.0 (before_all by.0 no_values), first (read b k w x) h.0 h.2 (read b k w operands.Undef ∷ []) (before_all by.0 no_values) (first (read b k w operands.Undef) by.0 by.1 [] no_values (nothing no_values)), h.4 ∙ ap effects.Gives by.2)
  op_computes w (Phi entries) e is h = absurd is

  pub op_gives : (w : ℕ) (op : Op) (v : ℕ → Value) → IsComputed op → ReadValues (taken_by f b k w op) v → OpGives AnyNumber held w op (effect_of (computed_by w op) v)
  op_gives w (Binary op flags x y) v is each = (v 0, v 1, each 0 (read b k w x) refl, each 1 (read b k w y) refl, refl)
  op_gives w (Compare pred samesign compared x y) v is each = (v 0, v 1, each 0 (read b k compared x) refl, each 1 (read b k compared y) refl, refl)
  op_gives w (Select c x y) v is each = (v 0, v 1, v 2, each 0 (read b k 1 c) refl, each 1 (read b k w x) refl, each 2 (read b k w y) refl, refl)
  op_gives w (Convert cast flags from x) v is each = (v 0, each 0 (read b k from x) refl, refl)
  op_gives w (Unary op truth x) v is each = (v 0, each 0 (read b k w x) refl, refl)
  op_gives w (Freeze x) v is each = (v 0, frozen (v 0) (number_of (v 1)), each 0 (read b k w x) refl, by_choice w (v 0) (v 1) (each 1 (read b k w operands.Undef) refl), refl)
  op_gives w (Phi entries) v is each = absurd is

-- ---- which effects allow which

-- values that allow others have an effect that allows theirs; but a freeze may have to give another number
pub effects_allow : (typing : List ℕ) (N : ℕ) (op : RuleOp) (v v' : ℕ → Value) → ¬ IsFreeze op → ((i : ℕ) (o : RuleOperand) → slice_get (operands_of op) i ≡ Some o → AllowsValue (v i) (v' i))
    → AllowsEffect (effect_of (computed typing N op) v) (effect_of (computed typing N op) v')
effects_allow typing N (rule_ops.Binary op flags a b) v v' none h = instruction-monotone op flags N (v 0) (v 1) (v' 0) (v' 1) (h 0 a refl) (h 1 b refl)
effects_allow typing N (rule_ops.Compare pred samesign a b) v v' none h = comparison-monotone pred samesign (slice_index typing a.class) (v 0) (v 1) (v' 0) (v' 1) (h 0 a refl) (h 1 b refl)
effects_allow typing N (rule_ops.Unary op truth a) v v' none h = unary-monotone op truth N (v 0) (v' 0) (h 0 a refl)
effects_allow typing N (rule_ops.Select c a b) v v' none h = selection-monotone (v 0) (v 1) (v 2) (v' 0) (v' 1) (v' 2) (h 0 c refl) (h 1 a refl) (h 2 b refl)
effects_allow typing N (rule_ops.Convert cast flags a to) v v' none h = conversion-monotone cast flags (slice_index typing a.class) N (v 0) (v' 0) (h 0 a refl)
effects_allow typing N (rule_ops.Freeze a k) v v' none h = absurd (none tt)
effects_allow typing N (rule_ops.Copy a) v v' none h = h 0 a refl

-- and equal values have the same
pub effects_same : (typing : List ℕ) (c N : ℕ) (op : RuleOp) (v v' : ℕ → Value) → ((i : ℕ) (o : RuleOperand) → slice_get (inputs_of c op) i ≡ Some o → v i ≡ v' i)
    → effect_of (computed typing N op) v ≡ effect_of (computed typing N op) v'
effects_same typing c N (rule_ops.Binary op flags a b) v v' h = let p : v 0 ≡ v' 0 = h 0 a refl in let q : v 1 ≡ v' 1 = h 1 b refl in cc
effects_same typing c N (rule_ops.Compare pred samesign a b) v v' h = let p : v 0 ≡ v' 0 = h 0 a refl in let q : v 1 ≡ v' 1 = h 1 b refl in cc
effects_same typing c N (rule_ops.Unary op truth a) v v' h = let p : v 0 ≡ v' 0 = h 0 a refl in cc
effects_same typing c N (rule_ops.Select z a b) v v' h = let o : v 0 ≡ v' 0 = h 0 z refl in let p : v 1 ≡ v' 1 = h 1 a refl in let q : v 2 ≡ v' 2 = h 2 b refl in cc
effects_same typing c N (rule_ops.Convert cast flags a to) v v' h = let p : v 0 ≡ v' 0 = h 0 a refl in cc
effects_same typing c N (rule_ops.Freeze a k) v v' h =
    let p : v 0 ≡ v' 0 = h 0 a refl in
    let q : v 1 ≡ v' 1 = h 1 (choice_operand c k) refl in
    ap (λ x. effects.Gives (frozen x (number_of (v 1)))) p ∙ ap (λ x. effects.Gives (frozen (v' 0) (number_of x))) q
effects_same typing c N (rule_ops.Copy a) v v' h = let p : v 0 ≡ v' 0 = h 0 a refl in cc
