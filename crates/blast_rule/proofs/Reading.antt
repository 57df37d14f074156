-- The values of registers and of other operands, and whether they may be read.
use Rattle.blast_rule.proofs.Common.{◌≡◌, ℕ, ◌<◌, ◌≤◌, Bool, true, false, List, length, map, Option, Some, None, Result, IfOk, refl, sym, ap, subst, ◌∙◌, arith, slice_get, slice_index, IsSome, ℤ, if◌then◌else◌, option_map, slice_get-map, get_or_from_slice_get, same_Some, IfOk-weaker, Number, bits, residue, IsValueOf, Value, Poison, Bits, Operand, Register, value_of, Given, ArgumentGives, OperandGives, OperandIsReady, number_or_zero, value_at, number_of, held_value, Scope, held_at, seen, shape, shapes, word_shape, given_shape, IsGiven, word_value, number_held}
use Rattle.rule_core.specs.declared.rule.Argument.TheVariants as arguments
use Rattle.rule_core.specs.declared.rule.Register.TheVariants as registers
use Rattle.rule_core.specs.Run as run
use Rattle.blast_value.specs.declared.held.Held.{Held}

module _ {L : Type 0} (r : Scope L) where
  value_of-seen : (value : L → Bool) (reg : Register) → value_of (seen value r) reg ≡ option_map (held_value value) (held_at r reg)
  value_of-seen value (registers.Input k) = slice_get-map (held_value value) r.inputs.now k
  value_of-seen value (registers.Source k) = slice_get-map (held_value value) r.source.now k
  value_of-seen value (registers.Target k) = slice_get-map (held_value value) r.target.now k

  value_of-shapes : (reg : Register) → value_of (shapes r) reg ≡ option_map shape (held_at r reg)
  value_of-shapes (registers.Input k) = slice_get-map shape r.inputs.now k
  value_of-shapes (registers.Source k) = slice_get-map shape r.source.now k
  value_of-shapes (registers.Target k) = slice_get-map shape r.target.now k

  option_shape : (o : Option (Held L)) (v : Value) → option_map shape o ≡ Some v → (held : Held L) × (o ≡ Some held) × (shape held ≡ v)
  option_shape None v is = cc
  option_shape (Some held) v is = (held, refl, same_Some (shape held) v is)

  -- a register that may be read at a width has literals of that width
  pub register_ready : (typing : List ℕ) (N : ℕ) (o : Operand) (reg : Register) → OperandIsReady typing (given_shape r) (shapes r) N o → o.value ≡ arguments.Register reg
      → (held : Held L) × (held_at r reg ≡ Some held) × (length held.bits ≡ N)
  register_ready typing N o reg (width, ready) is =
      let read = rw is at ready in
      let h = option_shape (held_at r reg) read.0 (sym (value_of-shapes reg) ∙ read.1) in
      (h.0, h.1, (subst (IsValueOf N) (sym h.2) read.2).0)

  -- the value of the register is the one that these literals stand for
  pub register_gives : (typing : List ℕ) (given : Given) (value : L → Bool) (N : ℕ) (o : Operand) (reg : Register) (held : Held L) → slice_get typing o.class ≡ Some N → o.value ≡ arguments.Register reg
      → held_at r reg ≡ Some held → OperandGives typing given (seen value r) o (held_value value held)
  register_gives typing given value N o reg held width is at =
      (N, width, subst (λ x. ArgumentGives typing given (seen value r) N x (held_value value held)) (sym is) (value_of-seen value reg ∙ ap (option_map (held_value value)) at))

-- a word that may be read at a width has that width
option_word : {X Y : Type 0} (f : X → Y) (o : Option X) (y : Y) → option_map f o ≡ Some y → (x : X) × (o ≡ Some x) × (f x ≡ y)
option_word f None y is = cc
option_word f (Some x) y is = (x, refl, same_Some (f x) y is)

pub word_at : {L : Type 0} (words : List (List L)) (k N : ℕ) → ((n : Number) × (slice_get (map word_shape words) k ≡ Some n) × IsValueOf N (Bits n)) → (w : List L) × (slice_get words k ≡ Some w) × (length w ≡ N)
word_at words k N (n, there, fits) =
    let w = option_word word_shape (slice_get words k) n (sym (slice_get-map word_shape words k) ∙ there) in
    (w.0, w.1, ap (λ (m : Number). m.width) w.2 ∙ fits.0)

-- the number at a place is the one for which the word there stands
pub number_given : {L : Type 0} (value : L → Bool) (words : List (List L)) (numbers : List Number) (k : ℕ) (w : List L) → numbers ≡ map (number_held value) words → slice_get words k ≡ Some w → slice_get numbers k ≡ Some (number_held value w)
number_given value words numbers k w is at = ap (λ ns. slice_get ns k) is ∙ slice_get-map (number_held value) words k ∙ ap (option_map (number_held value)) at

zero_given : {L : Type 0} (value : L → Bool) (words : List (List L)) (values : List Value) (n : ℕ) (w : List L) → map number_or_zero values ≡ map (number_of value) words → slice_get words n ≡ Some w → number_of value w ≡ number_or_zero (value_at values n)
zero_given value words values n w is at =
    let there : option_map number_or_zero (slice_get values n) ≡ Some (number_of value w) =
    sym (slice_get-map number_or_zero values n) ∙ ap (λ ns. slice_get ns n) is ∙ slice_get-map (number_of value) words n ∙ ap (option_map (number_of value)) at in
    let v = option_word number_or_zero (slice_get values n) (number_of value w) there in
    sym v.2 ∙ ap number_or_zero (sym (get_or_from_slice_get values n v.0 Poison v.1))

module _ {L : Type 0} (r : Scope L) (typing : List ℕ) (N : ℕ) (o : Operand) (k : ℕ) (ready : OperandIsReady typing (given_shape r) (shapes r) N o) where
  pub constant_at : o.value ≡ arguments.Constant k → (w : List L) × (slice_get r.constants.now k ≡ Some w) × (length w ≡ N)
  constant_at is = let read = rw is at ready.1 in word_at r.constants.now k N read

  pub choice_at : o.value ≡ arguments.Undef k → (w : List L) × (slice_get r.choices.now k ≡ Some w) × (length w ≡ N)
  choice_at is = let read = rw is at ready.1 in word_at r.choices.now k N read

  pub term_at : o.value ≡ arguments.Term k → (w : List L) × (slice_get r.terms.now k ≡ Some w) × (length w ≡ N)
  term_at is =
      let read = rw is at ready.1 in
      let shaped : List L → Value = λ word. bits (length word) 0 in
      let w = option_word shaped (slice_get r.terms.now k) read.0 (sym (slice_get-map shaped r.terms.now k) ∙ read.1) in
      (w.0, w.1, (subst (IsValueOf N) (sym w.2) read.2).0)

  pub constant_gives : (value : L → Bool) (given : Given) (w : List L) (v : Value) → o.value ≡ arguments.Constant k → slice_get r.constants.now k ≡ Some w → IsGiven value r given → v ≡ word_value value w → OperandGives typing given (seen value r) o v
  constant_gives value given w v is at is_given same =
      (N, ready.0, subst (λ x. ArgumentGives typing given (seen value r) N x v) (sym is) (number_held value w, number_given value r.constants.now given.constants k w is_given.constants at, same))

  pub choice_gives : (value : L → Bool) (given : Given) (w : List L) (v : Value) → o.value ≡ arguments.Undef k → slice_get r.choices.now k ≡ Some w → IsGiven value r given → v ≡ word_value value w → OperandGives typing given (seen value r) o v
  choice_gives value given w v is at is_given same =
      (N, ready.0, subst (λ x. ArgumentGives typing given (seen value r) N x v) (sym is) (number_held value w, number_given value r.choices.now given.choices k w is_given.choices at, same))

  pub term_gives : (value : L → Bool) (given : Given) (w : List L) (v : Value) → o.value ≡ arguments.Term k → slice_get r.terms.now k ≡ Some w → length w ≡ N → IsGiven value r given → v ≡ word_value value w → OperandGives typing given (seen value r) o v
  term_gives value given w v is at width is_given same =
      let number : number_of value w ≡ number_or_zero (value_at given.terms k) = zero_given value r.terms.now given.terms k w is_given.terms at in
      (N, ready.0, subst (λ x. ArgumentGives typing given (seen value r) N x v) (sym is) (same ∙ rw (width, number) refl))

-- the width of a class, if it has one, is the one that is told of it
pub width_told : (typing : List ℕ) (c N W : ℕ) → slice_get typing c ≡ Some N → W ≡ slice_index typing c → W ≡ N
width_told typing c N W at is = is ∙ get_or_from_slice_get typing c N 0 at

-- an operand has at least one bit, as its class has a width
pub some_bits : {L E : Type 0} (typing : List ℕ) (c W : ℕ) (r : Result (Held L) E) → 1 ≤ W → W ≡ slice_index typing c
    → IfOk r (λ held. slice_get typing c ≡ Some (length held.bits)) → IfOk r (λ held. 1 ≤ length held.bits)
some_bits typing c W r some is at =
    IfOk-weaker r (λ held. slice_get typing c ≡ Some (length held.bits)) (λ held. 1 ≤ length held.bits) (λ held width. let same : W ≡ length held.bits = width_told typing c (length held.bits) W width is in omega arith) at

-- the operands that are literals, and `true` and `false`, give their numbers
module _ (typing : List ℕ) (given : Given) (held : run.Held) (N W : ℕ) (o : Operand) (v : Value) (at : slice_get typing o.class ≡ Some N) (width : W ≡ slice_index typing o.class) where
  pub literal_gives : (z : ℤ) → o.value ≡ arguments.Literal z → v ≡ bits W (residue W z) → OperandGives typing given held o v
  literal_gives z is value =
      let same = width_told typing o.class N W at width in
      (N, at, subst (λ x. ArgumentGives typing given held N x v) (sym is) (value ∙ ap (λ n. bits n (residue n z)) same))

  pub truth_gives : (b : Bool) → o.value ≡ arguments.Truth b → v ≡ bits W (if b then 1 else 0) → OperandGives typing given held o v
  truth_gives b is value =
      let same = width_told typing o.class N W at width in
      (N, at, subst (λ x. ArgumentGives typing given held N x v) (sym is) (value ∙ ap (λ n. bits n (if b then 1 else 0)) same))

pub digit-below : (b : Bool) (n : ℕ) → n ≡ (if b then 1 else 0) → n < 2
digit-below true n is = omega arith
digit-below false n is = omega arith

pub is_some : {X : Type 0} (o : Option X) (x : X) → o ≡ Some x → IsSome o
is_some o x is = rw is refl
