-- Slots for all that a source names.
use Rattle.matcher.proofs.Common.{◌≡◌, ℕ, ◌+◌, ◌-◌, ◌<◌, List, length, get_or, slice_set, Option, Some, sym, ap, subst, ◌∙◌, arith, slice_get, Contains, slice_get-get_or, slice_get_within, IsRule, SourceMayRead, Fixed, operands_of, IsTyping, Argument, Rule, Statement, Contains-from_get, source_statement, class_stands, operand_class_stands, HasClasses, AreAsMany, AreSlotsOf, HasName, KnowsFrom, Binding, Slots, set_here}
use Rattle.ir_core.specs.declared.operand.Register.{Register as Result}
use Rattle.rule_core.specs.declared.rule.Argument.TheVariants as arguments
use Rattle.rule_core.specs.declared.rule.Register.TheVariants as names
use Rattle.matcher.proofs.Knowing.{has_statement}

-- what a source statement may read has a slot
has_name : (rule : Rule) (slots : Slots) (k : ℕ) (a : Argument) → k < length rule.source → length slots.statements.items ≡ length rule.source → length slots.inputs.items ≡ length rule.inputs → length slots.constants.items ≡ length rule.constants
    → SourceMayRead rule k a → HasName slots a
has_name rule slots k (arguments.Register (names.Input i)) within statements inputs constants may = omega arith
has_name rule slots k (arguments.Register (names.Source j)) within statements inputs constants may = omega arith
has_name rule slots k (arguments.Register (names.Target j)) within statements inputs constants may = tt
has_name rule slots k (arguments.Constant j) within statements inputs constants may = omega arith
has_name rule slots k (arguments.Literal z) within statements inputs constants may = tt
has_name rule slots k (arguments.Truth b) within statements inputs constants may = tt
has_name rule slots k (arguments.Undef j) within statements inputs constants may = tt
has_name rule slots k (arguments.Term n) within statements inputs constants may = tt

pub are_slots : (rule : Rule) (slots : Slots) → IsRule rule → length slots.statements.items ≡ length rule.source → length slots.inputs.items ≡ length rule.inputs → length slots.constants.items ≡ length rule.constants
    → HasClasses rule (length slots.widths.items) → AreSlotsOf rule slots
are_slots rule slots is_rule statements inputs constants classes = record {
  statements = statements;
  inputs = inputs;
  constants = constants;
  widths = classes;
  each = λ k d within.
      let at : slice_get rule.source k ≡ Some (get_or rule.source k d) = slice_get-get_or rule.source k d within in
      let s : Statement = get_or rule.source k d in (
        (classes s.class).0 (class_stands rule s (source_statement rule k s at)),
        λ i e less.
            let at_i : slice_get (operands_of s.op) i ≡ Some (get_or (operands_of s.op) i e) = slice_get-get_or (operands_of s.op) i e less in
            let among : Contains (operands_of s.op) (get_or (operands_of s.op) i e) = Contains-from_get (operands_of s.op) i (get_or (operands_of s.op) i e) at_i in (
              (classes (get_or (operands_of s.op) i e).class).0 (operand_class_stands rule s (get_or (operands_of s.op) i e) (source_statement rule k s at) among),
              has_name rule slots k (get_or (operands_of s.op) i e).value within statements inputs constants (is_rule.source_reads k s (get_or (operands_of s.op) i e) at among),
            ),
      );
}

pub still_slots : (rule : Rule) (old new : Slots) → AreAsMany old new → AreSlotsOf rule old → AreSlotsOf rule new
still_slots rule old new same are = record {
  statements = same.statements ∙ are.statements;
  inputs = same.inputs ∙ are.inputs;
  constants = same.constants ∙ are.constants;
  widths = subst (λ (n : ℕ). HasClasses rule n) (sym same.widths) are.widths;
  each = λ k d within. has_statement old new (get_or rule.source k d) same (are.each k d within);
}

-- what slots are filled with before the first statement is taken
pub known_first : (rule : Rule) (slots : Slots) (m : Binding) (unfilled : List (Option Result)) (root : Result) → length unfilled ≡ length rule.source
    → slots.statements.items ≡ slice_set unfilled (length unfilled - 1) (Some root)
    → HasClasses rule (length slots.widths.items)
    → ((c N : ℕ) → c < length slots.widths.items → Fixed rule c N → (M : ℕ) × Fixed rule c M × (slice_get slots.widths.items c ≡ Some (Some M)))
    → IsTyping rule m.typing → ((k : ℕ) → k + 1 ≡ length rule.source → slice_get m.statements k ≡ Some root)
    → KnowsFrom rule (length rule.source) slots m
known_first rule slots m unfilled root count filled classes fixed typing rooted = record {
  root = λ k last.
      let place : k ≡ length unfilled - 1 = omega arith in
      ap (λ (l : List (Option Result)). slice_get l k) filled
      ∙ subst (λ (x : ℕ). slice_get (slice_set unfilled x (Some root)) k ≡ Some (Some root)) place (set_here unfilled k (Some root) (omega arith))
      ∙ ap (λ (o : Option Result). Some o) (sym (rooted k last));
  fixed = λ c N is.
      let at : slice_get m.typing c ≡ Some N = typing.fixed c N is in
      let within : c < length slots.widths.items = (classes c).0 (typing.no_more c (slice_get_within m.typing c N at)) in
      let (M, is_M, there) = fixed c N within is in
      there ∙ ap (λ (o : Option ℕ). Some o) (sym (typing.fixed c M is_M));
  statements = λ k s past at. absurd (omega (arith, slice_get_within rule.source k s at));
}
