-- The value of a freeze, shown from literals.
use Rattle.blast_rule.proofs.Common.{◌≡◌, ℕ, Bool, true, false, if◌then◌else◌, List, map, length, Some, sym, ap, subst, ◌∙◌, slice_get, slice_index, same_Some, get_or_from_slice_get, bits, Number, Value, Poison, Effect, select_gates, number, Statement, Operand, Freeze, ChoiceIsReady, OperandIsReady, OpIsReady, StatementIsReady, Given, OperandGives, OpGives, StatementGives, frozen, held_value, number_held, Scope, op_gates, shapes, given_shape}
use Rattle.ops.specs.declared.value.Effect.TheVariants as effects
use Rattle.rule_core.specs.Run.{Held as Registry}
use Rattle.blast_value.specs.declared.held.Held.{Held}
use Rattle.blast_rule.proofs.Reading.{word_at}

-- a value is frozen to its own number, or to the chosen one where it is poison
frozen_case : (poison : Bool) (N : ℕ) (chosen own word : List Bool) → word ≡ (if poison then chosen else own)
    → bits N (number word) ≡ frozen (if poison then Poison else bits N (number own)) (record { width = N; number = number chosen })
frozen_case true N chosen own word is = ap (λ (w : List Bool). bits N (number w)) is
frozen_case false N chosen own word is = ap (λ (w : List Bool). bits N (number w)) is

pub frozen-word : {L : Type 0} (old new : L → Bool) (held : Held L) (choice word : List L) (zero : L) → length choice ≡ length held.bits → new zero ≡ false → length word ≡ length choice
    → map new word ≡ (if old held.poison then map old choice else map old held.bits) → held_value new (record { bits = word; poison = zero }) ≡ frozen (held_value old held) (number_held old choice)
frozen-word old new held choice word zero same none width is =
    rw (none, width, same) (frozen_case (old held.poison) (length held.bits) (map old choice) (map old held.bits) (map new word) is)

-- a freeze gives the value to which its operand is frozen
pub freeze_gives : (typing : List ℕ) (given : Given) (held : Registry) (s : Statement) (N : ℕ) → slice_get typing s.class ≡ Some N → (a : Operand) (k : ℕ) (x : Value) (n : Number) (e : Effect)
    → s.op ≡ Freeze a k → OperandGives typing given held a x → slice_get given.choices k ≡ Some n → e ≡ effects.Gives (frozen x n) → StatementGives typing given held s e
freeze_gives typing given held s N at a k x n e is gives here same = (N, at, subst (λ o. OpGives typing given held N o e) (sym is) (x, n, gives, here, same))

-- a freeze that is ready, that is, each thing that it reads has a value of the right width
module _ {L : Type 0} (r : Scope L) (typing : List ℕ) (s : Statement) (a : Operand) (k : ℕ) (is : s.op ≡ Freeze a k) (ready : StatementIsReady typing (given_shape r) (shapes r) s) where
  parts : OperandIsReady typing (given_shape r) (shapes r) ready.0 a × ChoiceIsReady (given_shape r) ready.0 k
  parts = subst (OpIsReady typing (given_shape r) (shapes r) ready.0) is ready.2

  -- the operand of the freeze may be read
  pub freeze_reads : (N : ℕ) × OperandIsReady typing (given_shape r) (shapes r) N a
  freeze_reads = (ready.0, parts.0)

  -- there is a word for the choice of the freeze
  pub freeze_chooses : (w : List L) × (slice_get r.choices.now k ≡ Some w) × (length w ≡ ready.0)
  freeze_chooses = word_at r.choices.now k ready.0 parts.1

  -- both words have the width of the result of the freeze
  pub freeze_width : (n : ℕ) → slice_get typing a.class ≡ Some n → n ≡ ready.0
  freeze_width n at = same_Some n ready.0 (sym at ∙ parts.0.0)

  pub freeze_gates : (n : ℕ) → slice_get typing a.class ≡ Some n → select_gates n ≡ op_gates typing (slice_index typing s.class) s.op
  freeze_gates n at =
      let told : slice_index typing s.class ≡ ready.0 = get_or_from_slice_get typing s.class ready.0 0 ready.1 in
      rw (is, told) (freeze_width n at)
