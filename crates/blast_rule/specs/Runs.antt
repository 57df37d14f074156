-- What statements read, as the literals of a scope, and how statements run.
use Rattle.std.specs.Prelude.{◌≡◌, ◌≤◌, ℕ, Bool, if◌then◌else◌, List, [], length, map, Option, Some, None, slice_get}
use Rattle.ops.specs.Number.{Number}
use Rattle.ops.specs.Integer.{bits}
use Rattle.ops.specs.declared.value.Value.{Value}
use Rattle.circuits.specs.Word.{number_of}
use Rattle.rule_core.specs.declared.rule.Rule.{Rule}
use Rattle.rule_core.specs.declared.rule.Op.{Op}
use Rattle.rule_core.specs.declared.rule.Op.TheVariants.{Binary, Compare, Unary, Select, Convert, Freeze, Copy}
use Rattle.rule_core.specs.declared.rule.Operand.{Operand}
use Rattle.rule_core.specs.Terms.{constant_values, number_or_zero}
use Rattle.rule_core.specs.Run.{Ending, Undefines, Holds, Given, OperandGives, Follows, temporaries_of, holding_source, holding_target}
use Rattle.rule_core.specs.Run as run
use Rattle.rule_core.specs.Valid.{Setting}
use Rattle.blast_value.specs.declared.held.Held.{Held}
use Rattle.blast_value.specs.declared.instruction.Instruction.{Instruction}
use Rattle.blast_value.specs.declared.instruction.Instruction.TheVariants as instructions
use Rattle.blast_value.specs.Effect.{held_value, IsOwn}
use Rattle.blast_term.specs.declared.scope.Scope.{Scope}
use Rattle.blast_value.specs.Words.{number_held}
use Rattle.blast_term.specs.Scope.{holds, seen}

-- the constants, choices and terms that statements are given have the values that the literals say; a term without a
-- value counts as 0
pub record IsGiven {L : Type 0} (value : L → Bool) (s : Scope L) (given : Given) : Type 0 where
  pub constants : given.constants ≡ map (number_held value) s.constants.now
  pub choices : given.choices ≡ map (number_held value) s.choices.now
  pub terms : map number_or_zero given.terms ≡ map (number_of value) s.terms.now

-- the setting that the literals stand for, where the choices are those of the target
abbrev pub setting_seen : {L : Type 0} → (L → Bool) → Scope L → Setting
setting_seen value s =
    record {
      inputs = map (held_value value) s.inputs.now;
      constants = map (number_held value) s.constants.now;
      target_choices = map (number_held value) s.choices.now;
    }

-- A number, and below a value, of the width of its literals: what a statement may read depends on widths alone.
abbrev pub word_shape : {L : Type 0} → List L → Number
word_shape word = record { width = length word; number = 0 }

abbrev pub shape : {L : Type 0} → Held L → Value
shape held = bits (length held.bits) 0

abbrev pub shapes : {L : Type 0} → Scope L → run.Held
shapes s = record { inputs = map shape s.inputs.now; source = map shape s.source.now; target = map shape s.target.now }

abbrev pub given_shape : {L : Type 0} → Scope L → Given
given_shape s =
    record { constants = map word_shape s.constants.now; choices = map word_shape s.choices.now; terms = map (λ word. bits (length word) 0) s.terms.now }

-- the instruction of an operation; a freeze and a copy have none
abbrev pub instruction_of : Op → Option Instruction
instruction_of (Binary op flags a b) = Some (instructions.Binary op flags)
instruction_of (Compare pred samesign a b) = Some (instructions.Compare pred samesign)
instruction_of (Unary op truth a) = Some (instructions.Unary op truth)
instruction_of (Select c a b) = Some instructions.Select
instruction_of (Convert cast flags a to) = Some (instructions.Convert cast flags)
instruction_of (Freeze a k) = None
instruction_of (Copy a) = None

-- these literals of a circuit stand for the value of the operand
pub record HoldsOperand {L : Type 0} (has_literal : L → Type 0) (admits : List Bool → Type 0) (value : List Bool → L → Bool) (typing : List ℕ) (s : Scope L) (o : Operand) (held : Held L) : Type 0 where
  pub gives : (inputs : List Bool) (given : Given) → admits inputs → IsGiven (value inputs) s given → OperandGives typing given (seen (value inputs) s) o (held_value (value inputs) held)
  pub width : slice_get typing o.class ≡ Some (length held.bits)
  pub some : 1 ≤ length held.bits
  pub own : IsOwn has_literal held

-- how a run of statements ends: in undefined behaviour, or with these values in the registers
abbrev pub ending : Bool → run.Held → Ending
ending undefined held = if undefined then Undefines else Holds held

module _ {L : Type 0} (value : L → Bool) (rule : Rule) (typing : List ℕ) (given : Given) (inputs : List (Held L)) where
  -- a run of the source's temporaries: what they assign, and whether one has undefined behaviour
  abbrev pub TemporariesRan : List (Held L) → L → Type 0
  TemporariesRan source undefined =
      Follows typing given holding_source (temporaries_of rule) (holds value inputs [] []) (ending (value undefined) (holds value inputs source []))

  -- a run of the target's statements, after the temporaries: what they assign, and whether one has undefined behaviour
  abbrev pub TargetRan : List (Held L) → List (Held L) → L → Type 0
  TargetRan source target undefined =
      Follows typing given holding_target rule.target (holds value inputs source []) (ending (value undefined) (holds value inputs source target))

-- the words have the numbers of the rule's terms at these constants, 0 where a term has no value
abbrev pub AreTerms : {L : Type 0} → (L → Bool) → Rule → List ℕ → List Number → List (List L) → Type 0
AreTerms value rule typing constants words =
    map (number_of value) words ≡ map number_or_zero (constant_values typing constants rule)
