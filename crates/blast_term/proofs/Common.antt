-- What the proofs of this crate cite of definitions, of other crates and of the libraries, passed on from one place.
pub use Rattle.std.proofs.Common.{Bool, IsSome, IsTrue, List, None, Some, [], add-one, ap, arith, bit_and, eq-eqb, false, get_or, if◌then◌else◌, inl, inr, length, map, min, nat_lt, not, pos, refl, replicate, slice_get, slice_index, slice_index_or, subst, suc, sum_by, sym, take, true, zero, ℕ, ◌%◌, ◌&&◌, ◌*◌, ◌++◌, ◌+◌, ◌-◌, ◌<◌, ◌==◌, ◌^◌, ◌||◌, ◌↔◌, ◌∙◌, ◌∷◌, ◌≡◌, ◌≤◌, ◌⊎◌}
pub use Rattle.blast_term.specs.Gates.{choices_gates, comparing_gates, fact_gates, facts_gates, formula_gates, formulas_gates, function_gates, node_bound, node_gates, numbers_gates, power_gates, power_test_gates, sign_test_gates, term_bound, term_gates, terms_gates}
pub use Rattle.blast_term.specs.Scope.{ScopeIsOwn, held_at, seen}
pub use Rattle.blast_term.specs.Terms.{FactIsHeld, FormulaIsHeld, HasWord, MeansNames, NodeIsHeld, PreconditionMet, TermIsHeld, number_chosen, term_widths}
pub use Rattle.blast_term.specs.declared.scope.Scope.{Scope}
pub use Rattle.blast_value.proofs.Counts.{shift-few}
pub use Rattle.blast_value.proofs.Kept.{AllAll-kept, AllOwn-kept, IsOwn-kept, held_value-kept, numbers_held-kept, numbers_of-kept, values-kept}
pub use Rattle.blast_value.specs.Effect.{IsOwn, effect_of, held_value, widths_of}
pub use Rattle.blast_value.specs.Gates.{gates_of, greatest, opcode_gates, sharing_gates}
pub use Rattle.blast_value.specs.Meaning.{HasEffect}
pub use Rattle.blast_value.specs.Words.{number_held, word_value}
pub use Rattle.blast_value.specs.declared.held.Held.{Held}
pub use Rattle.circuits.proofs.Kept.{Adds-none, Adds-refl, Adds-trans, Adds-weaken, All-kept, Keeps-trans, map-kept, own_at}
pub use Rattle.circuits.proofs.Words.{any-number, number-all_zero, number-below, number-take_more}
pub use Rattle.circuits.specs.Circuit.{Adds, Keeps}
pub use Rattle.circuits.specs.Gates.{adder_gates, any_gates, comparison_gates, select_gates}
pub use Rattle.circuits.specs.Word.{bit, number, number_of}
pub use Rattle.circuits.specs.declared.state.State.{Ghosts}
unfoldable pub use Rattle.ops.specs.Comparison.{comparison}
pub use Rattle.ops.specs.Comparison.{holds}
pub use Rattle.ops.specs.Flags.{no_flags}
unfoldable pub use Rattle.ops.specs.Instruction.{instruction, on_poison}
pub use Rattle.ops.specs.Integer.{bits, least, minus_one}
pub use Rattle.ops.specs.Number.{Number}
pub use Rattle.ops.specs.Value.{HasWidth}
pub use Rattle.ops.specs.declared.comparison.Pred.{Pred}
pub use Rattle.ops.specs.declared.comparison.Pred.TheVariants.{Eq}
pub use Rattle.ops.specs.declared.opcode.Opcode.{Opcode}
pub use Rattle.ops.specs.declared.opcode.Opcode.TheVariants.{AShr, Add, And, LShr, Mul, Or, SDiv, SMax, SMin, SRem, Shl, Sub, UDiv, UMax, UMin, URem, Xor}
pub use Rattle.ops.specs.declared.value.Effect.TheVariants.{Gives, Undefined}
pub use Rattle.ops.specs.declared.value.Value.{Value}
pub use Rattle.ops.specs.declared.value.Value.TheVariants.{Bits, Poison}
pub use Rattle.rule_core.proofs.Exponents.{found, not_found, shifted}
pub use Rattle.rule_core.proofs.Turns.{in_turn-step}
pub use Rattle.rule_core.specs.Facts.{fact_holds, facts_hold, has_no_bit_of, is_not_zero}
pub use Rattle.rule_core.specs.Run.{value_of}
pub use Rattle.rule_core.specs.Terms.{HasNumber, Meanings, PreconditionHolds, compares, constant_values, exponent, formula_holds, function_value, has_one_bit, is_sign_bit, last_holds, node_gives, number_at, number_or_zero, term_value, truths_of, value_at, value_given, values_of, within}
pub use Rattle.rule_core.specs.declared.rule.Formula.{Formula}
pub use Rattle.rule_core.specs.declared.rule.Function.{Function}
pub use Rattle.rule_core.specs.declared.rule.Function.TheVariants.{Abs, Log2, Negate, Not}
pub use Rattle.rule_core.specs.declared.rule.Node.{Node}
pub use Rattle.rule_core.specs.declared.rule.Register.{Register}
pub use Rattle.rule_core.specs.declared.rule.Rule.{Rule}
pub use Rattle.rule_core.specs.declared.rule.Term.{Term}
pub use Rattle.std.proofs.Math.Nat.{mod-eq_of_lt, mul-le-mul, mul-le-mul_left, pow-le-pow_right, pow-succ'}
pub use Rattle.std.proofs.Math.Pow.{pow-lt}
pub use Rattle.std.proofs.lemmas.Bool.{eqb-true, lt-ltb, ne_eqb}
pub use Rattle.std.proofs.lemmas.List.{length-map, length-replicate, length-take, length_push, map-append, take_all, take_more}
pub use Rattle.std.proofs.lemmas.List.Elements.{All-from_recursion, All-push, All-replicate, All-tail}
pub use Rattle.std.proofs.lemmas.List.Sums.{sum_by-cons, sum_by_push}
pub use Rattle.std.proofs.lemmas.Nat.{pow_pos}
pub use Rattle.std.proofs.lemmas.Option.{get_or_from_slice_get, same_Some, slice_get-get_or, slice_get-map, slice_get_within}
pub use Rattle.std.proofs.lemmas.Result.{IfOk-weaker}
pub use Rattle.std.specs.List.{All, list_all}
pub use Rattle.std.specs.Option.{is_some, option_map, option_map_or, unwrap_or}
