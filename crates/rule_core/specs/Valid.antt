-- When the target of a rule may stand in the place of its source, and what shows that it may not. (Lopes and others,
-- "Provably Correct Peephole Optimizations with Alive", 2015, with the source's choices written in the rule.)
use Rattle.std.specs.Prelude.{◌≡◌, ℕ, List, length, map, Some, slice_get, slice_index}
use Rattle.std.specs.Option.{unwrap_or, option_map_or}
use Rattle.ops.specs.Number.{Number}
use Rattle.ops.specs.Value.{IsValueOf, AllowsEffect}
use Rattle.ops.specs.declared.value.Value.{Value}
use Rattle.ops.specs.declared.value.Value.TheVariants.{Poison, Bits}
use Rattle.ops.specs.declared.value.Effect.{Effect}
use Rattle.rule_core.specs.declared.rule.Rule.{Rule}
use Rattle.rule_core.specs.declared.rule.Register.TheVariants as registers
use Rattle.rule_core.specs.declared.rule.Name.TheVariants as names
use Rattle.rule_core.specs.Positions.{Names, LeavesOpen, choices_among}
use Rattle.rule_core.specs.Facts.{KeepsFacts}
use Rattle.rule_core.specs.Terms.{Meanings, number_or_zero, value_at, values_of, PreconditionHolds}
use Rattle.rule_core.specs.Run.{Held, Holds, value_of, SourceGives, TargetGives, TemporariesEnd}

-- there is a value for each input, poison or a number, of each width at which the rule names it
pub record InputsFit (rule : Rule) (typing : List ℕ) (inputs : List Value) : Type 0 where
  pub count : length inputs ≡ length rule.inputs
  pub widths : (k c N : ℕ) (v : Value) → Names rule (names.Register (registers.Input k)) c → slice_get typing c ≡ Some N → slice_get inputs k ≡ Some v → IsValueOf N v

-- there is a number for each constant, of each width at which the rule names it
pub record ConstantsFit (rule : Rule) (typing : List ℕ) (constants : List Number) : Type 0 where
  pub count : length constants ≡ length rule.constants
  pub widths : (k c N : ℕ) (n : Number) → Names rule (names.Constant k) c → slice_get typing c ≡ Some N → slice_get constants k ≡ Some n → IsValueOf N (Bits n)

-- there is a number for each choice of the source, of its width
pub record SourceChoicesFit (rule : Rule) (typing : List ℕ) (choices : List Number) : Type 0 where
  pub count : length choices ≡ length (choices_among rule.source)
  pub widths : (k c N : ℕ) (n : Number) → LeavesOpen rule.source k c → slice_get typing c ≡ Some N → slice_get choices k ≡ Some n → IsValueOf N (Bits n)

-- there is a number for each choice of the target, of each width at which the rule names it
pub record TargetChoicesFit (rule : Rule) (typing : List ℕ) (choices : List Number) : Type 0 where
  pub count : length choices ≡ length (choices_among rule.target)
  pub widths : (k c N : ℕ) (n : Number) → Names rule (names.Choice k) c → slice_get typing c ≡ Some N → slice_get choices k ≡ Some n → IsValueOf N (Bits n)

-- what a rule's halves are compared on: inputs, constants, and numbers for the target's choices
pub record Setting : Type 0 where
  pub inputs : List Value
  pub constants : List Number
  pub target_choices : List Number

pub record SettingFits (rule : Rule) (typing : List ℕ) (setting : Setting) : Type 0 where
  pub inputs : InputsFit rule typing setting.inputs
  pub constants : ConstantsFit rule typing setting.constants
  pub target_choices : TargetChoicesFit rule typing setting.target_choices

-- what names in an expression of `Wit:` stand for at a setting, where registers hold these values
abbrev pub meanings_at : Setting → Held → Meanings
meanings_at setting held =
    record { constants = setting.constants; choices = setting.target_choices; registers = λ r. unwrap_or (value_of held r) Poison }

-- the values of the nodes of the `Wit:` expressions then
abbrev pub witness_values : Rule → List ℕ → Setting → Held → List Value
witness_values rule typing setting held = values_of typing (meanings_at setting held) rule.witness_terms

-- the width of a node of the `Wit:` expressions
abbrev pub witness_width : Rule → List ℕ → ℕ → ℕ
witness_width rule typing n = option_map_or (λ t. slice_index typing t.class) (slice_get rule.witness_terms n) 0

-- the number that an expression chooses: 0 where it has no value
abbrev pub witness_number : Rule → List ℕ → Setting → Held → ℕ → Number
witness_number rule typing setting held n =
    record { width = witness_width rule typing n; number = number_or_zero (value_at (witness_values rule typing setting held) n) }

-- The numbers are those that `Wit:` gives for the source's choices, from what the source's temporaries hold. Where one
-- of these is undefined behaviour, there is nothing to choose.
abbrev pub Chooses : Rule → List ℕ → Setting → List Number → Type 0
Chooses rule typing setting choices =
    (held : Held) → TemporariesEnd typing setting.constants rule setting.inputs (Holds held) → choices ≡ map (witness_number rule typing setting held) rule.witnesses

-- at a setting `Wit:` chooses these numbers, and the source and the target have these effects
pub record HaveEffects (rule : Rule) (typing : List ℕ) (setting : Setting) (choices : List Number) (source target : Effect) : Type 0 where
  pub chosen : Chooses rule typing setting choices
  pub of_source : SourceGives typing setting.constants choices rule setting.inputs source
  pub of_target : TargetGives typing setting.constants setting.target_choices rule setting.inputs target

-- what a setting has to meet so that the halves are compared there: it fits, and the precondition holds
pub record SettingCounts (rule : Rule) (typing : List ℕ) (setting : Setting) : Type 0 where
  pub fits : SettingFits rule typing setting
  pub precondition : PreconditionHolds rule typing setting.constants
  pub facts : KeepsFacts rule typing setting.constants setting.inputs

-- the rule is valid at the typing: at all settings that count, the source's effect allows the target's
abbrev pub IsValid : Rule → List ℕ → Type 0
IsValid rule typing =
    (setting : Setting) (choices : List Number) (source target : Effect) →
    SettingCounts rule typing setting → HaveEffects rule typing setting choices source target → AllowsEffect source target

-- a setting that counts, where the source's effect does not allow the target's
pub record IsCounterexample (rule : Rule) (typing : List ℕ) (setting : Setting) (choices : List Number) (source target : Effect) : Type 0 where
  pub counts : SettingCounts rule typing setting
  pub effects : HaveEffects rule typing setting choices source target
  pub refused : ¬ AllowsEffect source target
