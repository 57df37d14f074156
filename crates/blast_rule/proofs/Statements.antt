-- The effect of a statement, by the values of its operands.
use Rattle.blast_rule.proofs.Common.{◌≡◌, ℕ, Bool, true, false, ◌||◌, if◌then◌else◌, List, [], ◌∷◌, map, length, Some, refl, sym, ap, subst, ◌∙◌, arith, slice_get, All, AllZip, All-nil, All-cons, All-from_recursion, same_Some, get_or_from_slice_get, HasWidth, Cast, bits, Value, Poison, Effect, Ghosts, Keeps, number_of, Statement, Operand, Op, Binary, Compare, Unary, Select, Convert, Freeze, Copy, operands_of, OperandIsReady, OpIsReady, Given, OperandGives, OpGives, StatementGives, Blasted, Instruction, Takes, HasEffect, cast_gates, gates_of, greatest, held_value, effect_of, widths_of, IsOwn, IsOwnEffect, Scope, op_gates, instruction_of, shapes, given_shape, IsGiven, HoldsOperand, seen, held_value-kept}
use Rattle.ops.specs.declared.value.Effect.TheVariants as effects
use Rattle.rule_core.specs.Run.{Held as Registry}
use Rattle.blast_value.specs.declared.held.Held.{Held}
use Rattle.blast_value.specs.declared.instruction.Instruction.TheVariants as instructions

-- a list that is related to another element by element, where that has a first element
uncons : {A B : Type 0} (R : A → B → Type 0) (x : A) (xs : List A) (ys : List B) → AllZip R (x ∷ xs) ys → (y : B) × (rest : List B) × (ys ≡ y ∷ rest) × R x y × AllZip R xs rest
uncons R x xs [] all = absurd all
uncons R x xs (y ∷ rest) all = (y, rest, refl, all.0, all.1)

none : {A B : Type 0} (R : A → B → Type 0) (ys : List B) → AllZip R [] ys → ys ≡ []
none R [] all = refl
none R (y ∷ ys) all = absurd all

one : {A B : Type 0} (R : A → B → Type 0) (a : A) (ys : List B) → AllZip R (a ∷ []) ys → (x : B) × (ys ≡ x ∷ []) × R a x
one R a ys all = let first = uncons R a [] ys all in (first.0, first.2 ∙ ap (λ rest. first.0 ∷ rest) (none R first.1 first.4), first.3)

two : {A B : Type 0} (R : A → B → Type 0) (a b : A) (ys : List B) → AllZip R (a ∷ b ∷ []) ys → (x y : B) × (ys ≡ x ∷ y ∷ []) × R a x × R b y
two R a b ys all =
    let first = uncons R a (b ∷ []) ys all in
    let second = one R b first.1 first.4 in
    (first.0, second.0, first.2 ∙ ap (λ rest. first.0 ∷ rest) second.1, first.3, second.2)

three : {A B : Type 0} (R : A → B → Type 0) (a b c : A) (ys : List B) → AllZip R (a ∷ b ∷ c ∷ []) ys → (x y z : B) × (ys ≡ x ∷ y ∷ z ∷ []) × R a x × R b y × R c z
three R a b c ys all =
    let first = uncons R a (b ∷ c ∷ []) ys all in
    let others = two R b c first.1 first.4 in
    (first.0, others.0, others.1, first.2 ∙ ap (λ rest. first.0 ∷ rest) others.2, first.3, others.3, others.4)

-- the widest operand of a cast is its only one
cast_greatest : (cast : Cast) (M : ℕ) → cast_gates cast (greatest (M ∷ [])) ≡ cast_gates cast M
cast_greatest cast M = let one : greatest (M ∷ []) ≡ M = omega arith in ap (cast_gates cast) one

module _ {L : Type 0} (has_literal : L → Type 0) (admits : List Bool → Type 0) (value : List Bool → L → Bool) (typing : List ℕ) (r : Scope L) where
  abbrev Holds : Operand → Held L → Type 0
  Holds o held = HoldsOperand has_literal admits value typing r o held

  -- the literals of operands are a circuit's own, of the operands' widths
  pub all_own : (operands : List Operand) (held : List (Held L)) → AllZip Holds operands held → All (IsOwn has_literal) held
  all_own [] [] all = All-nil (IsOwn has_literal)
  all_own [] (h ∷ held) all = absurd all
  all_own (o ∷ operands) [] all = absurd all
  all_own (o ∷ operands) (h ∷ held) all = All-cons (IsOwn has_literal) h held all.0.own (all_own operands held all.1)

  width_is : (N : ℕ) (o : Operand) (h : Held L) → slice_get typing o.class ≡ Some N → Holds o h → length h.bits ≡ N
  width_is N o h at holds = same_Some (length h.bits) N (sym holds.width ∙ at)

  -- the value of an operand has the width of its literals
  of_width : (inputs : List Bool) (M : ℕ) (h : Held L) → length h.bits ≡ M → HasWidth (held_value (value inputs) h) M
  of_width inputs M h is = elim (value inputs h.poison) as (λ b. HasWidth (if b then Poison else bits (length h.bits) (number_of (value inputs) h.bits)) M) [ true ↦ tt | false ↦ is ]

  -- the instruction of the operation takes the operands, its circuit has the operation's gates, and its effect is the
  -- operation's
  pub record Blasts (op : Op) (what : Instruction) (N : ℕ) (held : List (Held L)) : Type 0 where
    pub takes : Takes what N (widths_of held)
    pub gates : gates_of what N (greatest (widths_of held)) ≡ op_gates typing N op
    pub gives : (inputs : List Bool) (given : Given) (e : Effect) → admits inputs → IsGiven (value inputs) r given → HasEffect what N (map (held_value (value inputs)) held) e → OpGives typing given (seen (value inputs) r) N op e

  pub blasts : (op : Op) (what : Instruction) (N : ℕ) (held : List (Held L)) → instruction_of op ≡ Some what → OpIsReady typing (given_shape r) (shapes r) N op → AllZip Holds (operands_of op) held → Blasts op what N held
  blasts (Binary op flags a b) what N held is ready all =
      let h = two Holds a b held all in
      let left = width_is N a h.0 ready.1.0 h.3 in
      let right = width_is N b h.1 ready.2.0 h.4 in
      rw (sym (same_Some (instructions.Binary op flags) what is), h.2) record {
        takes = rw (left, right) refl;
        gates = refl;
        gives = λ inputs given e admitted is_given effect. (held_value (value inputs) h.0, held_value (value inputs) h.1, h.3.gives inputs given admitted is_given, h.4.gives inputs given admitted is_given, effect);
      }
  blasts (Compare pred samesign a b) what N held is ready all =
      let h = two Holds a b held all in
      let left = width_is ready.0 a h.0 ready.1.0 h.3 in
      let right = width_is ready.0 b h.1 ready.2.0 h.4 in
      let told = get_or_from_slice_get typing a.class ready.0 0 ready.1.0 in
      rw (sym (same_Some (instructions.Compare pred samesign) what is), h.2) record {
        takes = (ready.0, rw left at h.3.some, rw (left, right) refl, ready.3);
        gates = rw (left, right, told) (omega arith);
        gives = λ inputs given e admitted is_given effect. (
          ready.0,
          held_value (value inputs) h.0,
          held_value (value inputs) h.1,
          ready.1.0,
          h.3.gives inputs given admitted is_given,
          h.4.gives inputs given admitted is_given,
          effect ready.0 (of_width inputs ready.0 h.0 left) (of_width inputs ready.0 h.1 right),
        );
      }
  blasts (Unary op truth a) what N held is ready all =
      let h = one Holds a held all in
      let operand = width_is N a h.0 ready.0 h.2 in
      rw (sym (same_Some (instructions.Unary op truth) what is), h.1) record {
        takes = rw operand refl;
        gates = refl;
        gives = λ inputs given e admitted is_given effect. (held_value (value inputs) h.0, h.2.gives inputs given admitted is_given, effect);
      }
  blasts (Select c a b) what N held is ready all =
      let h = three Holds c a b held all in
      let condition = width_is 1 c h.0 ready.0.0 h.4 in
      let yes = width_is N a h.1 ready.1.0 h.5 in
      let no = width_is N b h.2 ready.2.0 h.6 in
      rw (sym (same_Some instructions.Select what is), h.3) record {
        takes = rw (condition, yes, no) refl;
        gates = refl;
        gives = λ inputs given e admitted is_given effect. (
          held_value (value inputs) h.0,
          held_value (value inputs) h.1,
          held_value (value inputs) h.2,
          h.4.gives inputs given admitted is_given,
          h.5.gives inputs given admitted is_given,
          h.6.gives inputs given admitted is_given,
          effect,
        );
      }
  blasts (Convert cast flags a to) what N held is ready all =
      let h = one Holds a held all in
      let from = width_is ready.0 a h.0 ready.1.0 h.2 in
      let told = get_or_from_slice_get typing a.class ready.0 0 ready.1.0 in
      rw (sym (same_Some (instructions.Convert cast flags) what is), h.1) record {
        takes = (ready.0, rw from at h.2.some, rw from refl, ready.2);
        gates = rw (from, told) (cast_greatest cast ready.0);
        gives = λ inputs given e admitted is_given effect. (ready.0, held_value (value inputs) h.0, ready.1.0, h.2.gives inputs given admitted is_given, effect ready.0 (of_width inputs ready.0 h.0 from));
      }
  blasts (Freeze a k) what N held is ready all = cc
  blasts (Copy a) what N held is ready all = cc

-- the operand may be read
abbrev CanBeRead : List ℕ → Given → Registry → Operand → Type 0
CanBeRead typing given held o = (N : ℕ) × OperandIsReady typing given held N o

pub all_ready : (typing : List ℕ) (given : Given) (held : Registry) (N : ℕ) (op : Op) → OpIsReady typing given held N op → All (CanBeRead typing given held) (operands_of op)
all_ready typing given held N (Binary op flags a b) ready = All-from_recursion (CanBeRead typing given held) (a ∷ b ∷ []) ((N, ready.1), ((N, ready.2), tt))
all_ready typing given held N (Compare pred samesign a b) ready = All-from_recursion (CanBeRead typing given held) (a ∷ b ∷ []) ((ready.0, ready.1), ((ready.0, ready.2), tt))
all_ready typing given held N (Unary op truth a) ready = All-from_recursion (CanBeRead typing given held) (a ∷ []) ((N, ready), tt)
all_ready typing given held N (Select c a b) ready = All-from_recursion (CanBeRead typing given held) (c ∷ a ∷ b ∷ []) ((1, ready.0), ((N, ready.1), ((N, ready.2), tt)))
all_ready typing given held N (Convert cast flags a to) ready = All-from_recursion (CanBeRead typing given held) (a ∷ []) ((ready.0, ready.1), tt)
all_ready typing given held N (Freeze a k) ready = All-from_recursion (CanBeRead typing given held) (a ∷ []) ((N, ready.0), tt)
all_ready typing given held N (Copy a) ready = All-from_recursion (CanBeRead typing given held) (a ∷ []) ((N, ready), tt)

-- a copy gives the value of its operand
pub copy_gives : (typing : List ℕ) (given : Given) (held : Registry) (s : Statement) (N : ℕ) → slice_get typing s.class ≡ Some N → (a : Operand) (x : Value) (e : Effect)
    → s.op ≡ Copy a → OperandGives typing given held a x → e ≡ effects.Gives x → StatementGives typing given held s e
copy_gives typing given held s N at a x e is gives same = (N, at, subst (λ o. OpGives typing given held N o e) (sym is) (x, gives, same))

module _ {C L : Type 0} {state : Ghosts C L} {old new : C} (keeps : Keeps state old new) (inputs : List Bool) (admitted : state.admits old inputs) where
  -- an effect stays the same where its undefined bit becomes the disjunction with a literal that is false
  pub effect-next : (made : Blasted L) (before undefined : L) → IsOwnEffect (state.has_literal old) made → state.value old inputs before ≡ false → state.value new inputs undefined ≡ (state.value old inputs before || state.value old inputs made.undefined)
      → effect_of (state.value new inputs) (record { bits = made.bits; poison = made.poison; undefined = undefined }) ≡ effect_of (state.value old inputs) made
  effect-next made before undefined own none is =
      let same : state.value new inputs undefined ≡ state.value old inputs made.undefined = is ∙ ap (λ b. b || state.value old inputs made.undefined) none in
      let held : Held L = record { bits = made.bits; poison = made.poison } in
      rw (same, held_value-kept keeps inputs admitted held (record { bits = own.bits; poison = own.poison })) refl
