-- The slots of names.
use Rattle.matcher.proofs.Common.{◌≡◌, ℕ, ◌<◌, length, Some, sym, subst, with_item, Register, Binding, HasName, Knows, KnowsName, Slots}
use Rattle.ir_core.specs.declared.operand.Operand.{Operand}
use Rattle.rule_core.specs.declared.rule.Argument.TheVariants as arguments
use Rattle.rule_core.specs.declared.rule.Register.{Register as Name}
use Rattle.rule_core.specs.declared.rule.Register.TheVariants as names

-- the slot of a name
pub has_input : (slots : Slots) (name : Name) (i : ℕ) → name ≡ names.Input i → HasName slots (arguments.Register name) → i < length slots.inputs.items
has_input slots name i is has = subst (λ (n : Name). HasName slots (arguments.Register n)) is has

pub has_source : (slots : Slots) (name : Name) (j : ℕ) → name ≡ names.Source j → HasName slots (arguments.Register name) → j < length slots.statements.items
has_source slots name j is has = subst (λ (n : Name). HasName slots (arguments.Register n)) is has

abbrev pub with_input : Slots → ℕ → Operand → Slots
with_input slots i a = record { statements = slots.statements; inputs = with_item slots.inputs i (Some a); constants = slots.constants; widths = slots.widths }

abbrev pub with_statement : Slots → ℕ → Register → Slots
with_statement slots j r = record { statements = with_item slots.statements j (Some r); inputs = slots.inputs; constants = slots.constants; widths = slots.widths }

pub knows_input : (slots : Slots) (m : Binding) (name : Name) (i : ℕ) (a : Operand) → name ≡ names.Input i → Knows (with_input slots i a).inputs.items m.inputs i → KnowsName (with_input slots i a) m (arguments.Register name)
knows_input slots m name i a is knows = subst (λ (n : Name). KnowsName (with_input slots i a) m (arguments.Register n)) (sym is) knows

pub knows_source : (slots : Slots) (m : Binding) (name : Name) (j : ℕ) (r : Register) → name ≡ names.Source j → Knows (with_statement slots j r).statements.items m.statements j → KnowsName (with_statement slots j r) m (arguments.Register name)
knows_source slots m name j r is knows = subst (λ (n : Name). KnowsName (with_statement slots j r) m (arguments.Register n)) (sym is) knows
