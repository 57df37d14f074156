-- A rule has few inputs, constants and choices, bounded by how many statements it has.
use Rattle.blast_setting.proofs.Common.{ℕ, zero, suc, ◌*◌, ◌<◌, ◌≤◌, List, [], ◌∷◌, ◌++◌, length, arith, flat_map, slice_get_within, Rule, Statement, Operand, Op, Binary, Compare, Unary, Select, Convert, Freeze, Copy, Argument, Choice, operands_of, operands_among, undef_in, frozen_in, choices_of, choices_among, IsRule, StandsAt, Kind, Input, Constant, argument_of}
use Rattle.std.proofs.Common.{length-append}
use Rattle.rule_core.specs.declared.rule.Argument.TheVariants as arguments
use Rattle.blast_setting.proofs.Widths.{count_of}

-- an operation has at most three operands
op_operands : (op : Op) → length (operands_of op) ≤ 3
op_operands (Binary op flags a b) = omega arith
op_operands (Compare pred samesign a b) = omega arith
op_operands (Unary op truth a) = omega arith
op_operands (Select c a b) = omega arith
op_operands (Convert cast flags a to) = omega arith
op_operands (Freeze a k) = omega arith
op_operands (Copy a) = omega arith

pub few_operands : (statements : List Statement) → length (operands_among statements) ≤ 3 * length statements
few_operands [] = omega arith
few_operands (s ∷ statements) = omega (arith, op_operands s.op, few_operands statements, length-append (operands_of s.op) (operands_among statements))

-- an operand has at most one choice
undef_one : (c : ℕ) (x : Argument) → length (undef_in c x) ≤ 1
undef_one c (arguments.Undef k) = omega arith
undef_one c x = omega arith

few_undefs : (operands : List Operand) → length (flat_map (λ (o : Operand). undef_in o.class o.value) operands) ≤ length operands
few_undefs [] = omega arith
few_undefs (o ∷ operands) = omega (arith, undef_one o.class o.value, few_undefs operands, length-append (undef_in o.class o.value) (flat_map (λ (p : Operand). undef_in p.class p.value) operands))

op_choices : (c : ℕ) (op : Op) → length (flat_map (λ (o : Operand). undef_in o.class o.value) (operands_of op) ++ frozen_in c op) ≤ 3
op_choices c (Freeze a k) =
    let frozen : List Choice = record { place = k; class = c } ∷ [] in
    omega (arith, few_undefs (a ∷ []), length-append (flat_map (λ (o : Operand). undef_in o.class o.value) (a ∷ [])) frozen)
op_choices c op = omega (arith, op_operands op, few_undefs (operands_of op), length-append (flat_map (λ (o : Operand). undef_in o.class o.value) (operands_of op)) [])

pub few_choices : (statements : List Statement) → length (choices_among statements) ≤ 3 * length statements
few_choices [] = omega arith
few_choices (s ∷ statements) = omega (arith, op_choices s.class s.op, few_choices statements, length-append (choices_of s) (choices_among statements))

-- things that are numbered in the order in which operands first read them are no more than there are operands
module _ (rule : Rule) (name : ℕ → Argument) (in_order : (h i q : ℕ) → h < i → StandsAt rule q (name i) → (p : ℕ) × (p < q) × StandsAt rule p (name h)) where
  late : (i q : ℕ) → StandsAt rule q (name i) → i ≤ q
  late zero q at = omega arith
  late (suc i) q at = let p = in_order i (suc i) q (omega arith) at in omega (arith, p.1, late i p.0 p.2)

  few : (count : ℕ) → ((i : ℕ) → i < count → (q : ℕ) × StandsAt rule q (name i)) → count ≤ length (operands_among rule.source)
  few zero there = omega arith
  few (suc n) there =
      let q = there n (omega arith) in
      let inside : q.0 < length (operands_among rule.source) = slice_get_within (operands_among rule.source) q.0 q.1.0 q.1.1 in
      omega (arith, late n q.0 q.1)

pub few_named : (rule : Rule) (kind : Kind) → IsRule rule → count_of rule kind ≤ 96
few_named rule Input checked = omega (arith, few rule (argument_of Input) checked.inputs_in_order (length rule.inputs) checked.inputs_read, few_operands rule.source, checked.few_in_source)
few_named rule Constant checked = omega (arith, few rule (argument_of Constant) checked.constants_in_order (length rule.constants) checked.constants_read, few_operands rule.source, checked.few_in_source)

pub few_in_target : (rule : Rule) → IsRule rule → length (choices_among rule.target) ≤ 96
few_in_target rule checked = omega (arith, few_choices rule.target, checked.few_in_target)
