-- Laws of runs, of valid rules and of counterexamples.
use Rattle.std.specs.Prelude.{◌≡◌, ℕ, List, length, Some, slice_get}
use Rattle.ops.specs.Number.{Number}
use Rattle.ops.specs.declared.value.Value.{Value}
use Rattle.ops.specs.declared.value.Effect.{Effect}
use Rattle.ops.specs.declared.value.Effect.TheVariants.{Undefined}
use Rattle.rule_core.specs.declared.rule.Rule.{Rule}
use Rattle.rule_core.specs.declared.rule.Term.{Term}
use Rattle.rule_core.specs.declared.rule.Formula.{Formula}
use Rattle.rule_core.specs.Terms.{Meanings, ReadsBefore, FormulaReadsBefore, term_value, values_of, formula_holds, truths_of}
use Rattle.rule_core.specs.Checks.{IsRule}
use Rattle.rule_core.specs.Typing.{IsTyping}
use Rattle.rule_core.specs.Valid.{Setting, SettingFits, HaveEffects, IsValid, IsCounterexample}

-- At each setting that fits, the two halves have one pair of effects; and `Wit:` one list of choices, but where the
-- source is undefined behaviour.
abbrev pub RulesHaveOneOutcome : Type 0
RulesHaveOneOutcome =
    (rule : Rule) (typing : List ℕ) (setting : Setting) → IsRule rule → IsTyping rule typing → SettingFits rule typing setting →
    (choices : List Number) × (source : Effect) × (target : Effect) × HaveEffects rule typing setting choices source target
    × ((choices' : List Number) (source' target' : Effect) → HaveEffects rule typing setting choices' source' target' →
    (source' ≡ source) × (target' ≡ target) × (¬ (source ≡ Undefined) → choices' ≡ choices))

-- a rule that is valid has no counterexample
abbrev pub ValidRulesHaveNoCounterexample : Type 0
ValidRulesHaveNoCounterexample =
    (rule : Rule) (typing : List ℕ) → IsValid rule typing →
    (setting : Setting) (choices : List Number) (source target : Effect) → IsCounterexample rule typing setting choices source target → ⊥

-- a rule without a counterexample is valid
abbrev pub RulesWithoutCounterexampleAreValid : Type 0
RulesWithoutCounterexampleAreValid =
    (rule : Rule) (typing : List ℕ) →
    ((setting : Setting) (choices : List Number) (source target : Effect) → IsCounterexample rule typing setting choices source target → ⊥) →
    IsValid rule typing

-- Where the operands of each node stand before it, there is a value for each node, and evaluating the node over all the
-- values, and not only over those before it, gives that value again.
abbrev pub NodesGiveTheirValues : Type 0
NodesGiveTheirValues =
    (typing : List ℕ) (names : Meanings) (terms : List Term) →
    ((n : ℕ) (t : Term) → slice_get terms n ≡ Some t → ReadsBefore n t.node) →
    (length (values_of typing names terms) ≡ length terms)
    × ((n : ℕ) (t : Term) → slice_get terms n ≡ Some t →
    slice_get (values_of typing names terms) n ≡ Some (term_value typing names (values_of typing names terms) t))

-- the same of the nodes of a formula and whether they hold
abbrev pub FormulasHoldAsTheyRead : Type 0
FormulasHoldAsTheyRead =
    (values : List Value) (formulas : List Formula) →
    ((n : ℕ) (f : Formula) → slice_get formulas n ≡ Some f → FormulaReadsBefore n f) →
    (length (truths_of values formulas) ≡ length formulas)
    × ((n : ℕ) (f : Formula) → slice_get formulas n ≡ Some f →
    slice_get (truths_of values formulas) n ≡ Some (formula_holds values (truths_of values formulas) f))
