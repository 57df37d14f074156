-- What slots are filled with.
use Rattle.matcher.proofs.Common.{◌≡◌, inl, inr, ℕ, ◌<◌, List, length, get_or, slice_set, Option, Some, refl, sym, ap, subst, ◌∙◌, arith, slice_get, All, cases_eq, slice_get-get_or, operands_of, Argument, Statement, AreAsMany, HasName, HasOperand, HasStatement, Keeps, Knows, KnowsName, KnowsOperand, KnowsStatement, Binding, Slots, set_here, set_elsewhere}
use Rattle.rule_core.specs.declared.rule.Argument.TheVariants as arguments
use Rattle.rule_core.specs.declared.rule.Operand.{Operand}
use Rattle.rule_core.specs.declared.rule.Register.{Register as Name}
use Rattle.rule_core.specs.declared.rule.Register.TheVariants as names

-- a name whose slot is filled keeps it
pub keeps_name : (m : Binding) (old new : Slots) (a : Argument) → Keeps m old new → KnowsName old m a → KnowsName new m a
keeps_name m old new (arguments.Register (names.Input i)) keeps knows = keeps.inputs i knows
keeps_name m old new (arguments.Register (names.Source j)) keeps knows = keeps.statements j knows
keeps_name m old new (arguments.Register (names.Target j)) keeps knows = tt
keeps_name m old new (arguments.Constant k) keeps knows = keeps.constants k knows
keeps_name m old new (arguments.Literal z) keeps knows = tt
keeps_name m old new (arguments.Truth b) keeps knows = tt
keeps_name m old new (arguments.Undef k) keeps knows = tt
keeps_name m old new (arguments.Term n) keeps knows = tt

pub keeps_operand : (m : Binding) (old new : Slots) (o : Operand) → Keeps m old new → KnowsOperand old m o → KnowsOperand new m o
keeps_operand m old new o keeps knows = (keeps.widths o.class knows.0, keeps_name m old new o.value keeps knows.1)

pub keeps_statement : (m : Binding) (old new : Slots) (s : Statement) → Keeps m old new → KnowsStatement old m s → KnowsStatement new m s
keeps_statement m old new s keeps knows =
    (keeps.widths s.class knows.0, λ i d lt. keeps_operand m old new (get_or (operands_of s.op) i d) keeps (knows.1 i d lt))

pub keeps_itself : (m : Binding) (slots : Slots) → Keeps m slots slots
keeps_itself m slots = record { statements = λ j h. h; inputs = λ i h. h; constants = λ k h. h; widths = λ c h. h }

pub keeps_along : (m : Binding) (a b c : Slots) → Keeps m a b → Keeps m b c → Keeps m a c
keeps_along m a b c first second = record {
  statements = λ j h. second.statements j (first.statements j h);
  inputs = λ i h. second.inputs i (first.inputs i h);
  constants = λ k h. second.constants k (first.constants k h);
  widths = λ k h. second.widths k (first.widths k h);
}

-- where there are as many slots, there are slots for the same names
has_name : (old new : Slots) (a : Argument) → AreAsMany old new → HasName old a → HasName new a
has_name old new (arguments.Register (names.Input i)) same has = omega (arith, same.inputs)
has_name old new (arguments.Register (names.Source j)) same has = omega (arith, same.statements)
has_name old new (arguments.Register (names.Target j)) same has = tt
has_name old new (arguments.Constant k) same has = omega (arith, same.constants)
has_name old new (arguments.Literal z) same has = tt
has_name old new (arguments.Truth b) same has = tt
has_name old new (arguments.Undef k) same has = tt
has_name old new (arguments.Term n) same has = tt

pub has_operand : (old new : Slots) (o : Operand) → AreAsMany old new → HasOperand old o → HasOperand new o
has_operand old new o same has = (omega (arith, same.widths, has.0), has_name old new o.value same has.1)

pub has_operands : (old new : Slots) (os : List Operand) → AreAsMany old new → All (HasOperand old) os → All (HasOperand new) os
has_operands old new os same has i d lt = has_operand old new (get_or os i d) same (has i d lt)

pub has_statement : (old new : Slots) (s : Statement) → AreAsMany old new → HasStatement old s → HasStatement new s
has_statement old new s same has = (omega (arith, same.widths, has.0), has_operands old new (operands_of s.op) same has.1)

pub as_many_along : (a b c : Slots) → AreAsMany a b → AreAsMany b c → AreAsMany a c
as_many_along a b c first second = record {
  statements = second.statements ∙ first.statements;
  inputs = second.inputs ∙ first.inputs;
  constants = second.constants ∙ first.constants;
  widths = second.widths ∙ first.widths;
}

-- a property of each operand by index is one of all of them
pub each_operand : (m : Binding) (slots : Slots) (os : List Operand) → ((i : ℕ) (o : Operand) → slice_get os i ≡ Some o → KnowsOperand slots m o) → All (KnowsOperand slots m) os
each_operand m slots os each i d lt = each i (get_or os i d) (slice_get-get_or os i d lt)

-- a slot is filled with a value
pub knows_here : {T : Type 0} (slots : List (Option T)) (values : List T) (i : ℕ) (x : T) → i < length slots → slice_get values i ≡ Some x → Knows (slice_set slots i (Some x)) values i
knows_here {T} slots values i x within at = set_here slots i (Some x) within ∙ ap (λ (o : Option T). Some o) (sym at)

-- and those that were filled keep theirs
pub keeps_slots : {T : Type 0} (slots : List (Option T)) (values : List T) (i : ℕ) (x : T) → i < length slots → slice_get values i ≡ Some x → (k : ℕ) → Knows slots values k → Knows (slice_set slots i (Some x)) values k
keeps_slots {T} slots values i x within at k knows = elim (cases_eq k i) [
  | inl same ↦ subst (λ (j : ℕ). Knows (slice_set slots i (Some x)) values j) (sym same) (knows_here slots values i x within at)
  | inr other ↦ set_elsewhere slots i k (Some x) (slice_get values k) other knows
]

-- as many slots as before
pub as_many_themselves : (slots : Slots) → AreAsMany slots slots
as_many_themselves slots = record { statements = refl; inputs = refl; constants = refl; widths = refl }

-- an argument that is neither a register nor a constant has no slot
pub knows_nothing : (slots : Slots) (m : Binding) (a : Argument) → ((n : Name) → a ≡ arguments.Register n → ⊥) → ((k : ℕ) → a ≡ arguments.Constant k → ⊥) → KnowsName slots m a
knows_nothing slots m (arguments.Register n) no_register no_constant = absurd (no_register n refl)
knows_nothing slots m (arguments.Constant k) no_register no_constant = absurd (no_constant k refl)
knows_nothing slots m (arguments.Literal z) no_register no_constant = tt
knows_nothing slots m (arguments.Truth b) no_register no_constant = tt
knows_nothing slots m (arguments.Undef k) no_register no_constant = tt
knows_nothing slots m (arguments.Term n) no_register no_constant = tt

pub known_as : (slots : Slots) (m : Binding) (a b : Argument) → b ≡ a → KnowsName slots m a → KnowsName slots m b
known_as slots m a b is knows = subst (λ (x : Argument). KnowsName slots m x) (sym is) knows
