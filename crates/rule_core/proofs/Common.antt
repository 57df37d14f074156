-- What the proofs of this crate cite of definitions, of other crates and of the libraries, passed on from one place.
pub use Rattle.std.proofs.Common.{Bool, Contains, IsTrue, List, None, Option, Some, [], add-one, add-suc, add-zero, add_assoc, ap, append_assoc, arith, below_more, drop, drop-cons, eq-eqb, false, flat_map, get_or, if◌then◌else◌, inl, inr, length, length-append, length-take, map, nat_lt, negsuc, not, pos, refl, slice_get, slice_index, slice_index_or, subst, suc, suc-add, sum_by, sym, take, true, zero, zero-add, ℕ, ℤ, ◌%◌, ◌&&◌, ◌*◌, ◌++◌, ◌+◌, ◌-◌, ◌<◌, ◌==◌, ◌^◌, ◌||◌, ◌↔◌, ◌∙◌, ◌∷◌, ◌≡◌, ◌≢◌, ◌≤◌, ◌⊎◌}
pub use Rattle.ops.proofs.Widths.{IsEffectOf-instruction, IsValueOf-comparison, IsValueOf-conversion, IsValueOf-selection, IsValueOf-unary}
pub use Rattle.ops.specs.Comparison.{selection}
pub use Rattle.ops.specs.Conversion.{CastFits, conversion}
pub use Rattle.ops.specs.Flags.{no_flags}
pub use Rattle.ops.specs.Instruction.{instruction}
unfoldable pub use Rattle.ops.specs.Integer.{residue}
pub use Rattle.ops.specs.Integer.{bits, least, minus_one}
pub use Rattle.ops.specs.Number.{Number}
pub use Rattle.ops.specs.Value.{AllowsEffect, AllowsValue, IsEffectOf, IsValueOf}
pub use Rattle.ops.specs.declared.conversion.Cast.{Cast}
pub use Rattle.ops.specs.declared.conversion.Cast.TheVariants.{SExt, Trunc, ZExt}
pub use Rattle.ops.specs.declared.opcode.Flags.{Flags}
pub use Rattle.ops.specs.declared.opcode.Opcode.TheVariants.{Sub, Xor}
pub use Rattle.ops.specs.declared.value.Effect.{Effect}
pub use Rattle.ops.specs.declared.value.Effect.TheVariants.{Gives, Undefined}
pub use Rattle.ops.specs.declared.value.Value.{Value}
pub use Rattle.ops.specs.declared.value.Value.TheVariants.{Bits, Poison}
pub use Rattle.rule_core.specs.Checks.{ChoicesInOrder, FlagsFitOp, IsBeforeRoot, IsRule, MayBeTerm, MayBeWitness, MayStandInSource, SourceMayRead, TargetMayRead, formula_weight, node_weight, term_weight}
pub use Rattle.rule_core.specs.Facts.{fact_holds, facts_hold}
pub use Rattle.rule_core.specs.Laws.{RulesHaveOneOutcome}
pub use Rattle.rule_core.specs.Positions.{IsOperandAmong, IsStatementOf, IsTermOf, LeavesOpen, Names, binary_left, binary_right, choices_among, choices_of, chooses, classes_of, classes_of_statement, classes_of_term, compared, condition, copy, freeze, frozen_in, left, name, one_operand, operand, operands_among, operands_in, operands_of, reads, reads_constant, right, select_false, select_true, sign_extended, source_assigns, target_assigns, term, term_choice, term_constant, term_register, terms_in, truncated, truth, undef_in, witness, zero_extended}
pub use Rattle.rule_core.specs.Readiness.{ArgumentIsReady, ChoiceIsReady, GivenFits, HeldFits, NodeIsReady, OpIsReady, SourceRan, StatementIsReady, TargetRan, TermIsReady, TermsFit, ValuesFit, seen, shown}
pub use Rattle.rule_core.specs.Run.{ArgumentGives, Ending, Follows, Given, GivesLast, GoesOn, Held, Holds, Leads, OpGives, OperandGives, SourceGives, StatementGives, TargetGives, TargetGoesOn, TemporariesEnd, Undefines, at_start, frozen, given_by, holding_source, holding_target, temporaries_of, value_of}
unfoldable pub use Rattle.rule_core.specs.Terms.{exponent}
pub use Rattle.rule_core.specs.Terms.{FormulaReadsBefore, Meanings, ReadsBefore, constant_values, formula_holds, function_at, function_value, in_turn, node_gives, number_at, number_or_zero, of_constants, term_value, value_at, value_given, values_of, within}
pub use Rattle.rule_core.specs.Typing.{IsTyping, width_at}
pub use Rattle.rule_core.specs.Valid.{ConstantsFit, HaveEffects, InputsFit, Setting, SettingFits, SourceChoicesFit, TargetChoicesFit, meanings_at, witness_number, witness_values}
pub use Rattle.rule_core.specs.declared.rule.Argument.{Argument}
pub use Rattle.rule_core.specs.declared.rule.Choice.{Choice}
pub use Rattle.rule_core.specs.declared.rule.Formula.{Formula}
pub use Rattle.rule_core.specs.declared.rule.Function.{Function}
pub use Rattle.rule_core.specs.declared.rule.Function.TheVariants.{Abs, Log2, Negate, Not}
pub use Rattle.rule_core.specs.declared.rule.Node.{Node}
pub use Rattle.rule_core.specs.declared.rule.Op.{Op}
pub use Rattle.rule_core.specs.declared.rule.Op.TheVariants.{Binary, Compare, Convert, Copy, Freeze, Select, Unary}
pub use Rattle.rule_core.specs.declared.rule.Operand.{Operand}
pub use Rattle.rule_core.specs.declared.rule.Register.{Register}
pub use Rattle.rule_core.specs.declared.rule.Rule.{Rule}
pub use Rattle.rule_core.specs.declared.rule.Statement.{Statement}
pub use Rattle.rule_core.specs.declared.rule.Term.{Term}
pub use Rattle.std.proofs.Math.Nat.{eq-or-lt_of_le, mod-eq_of_lt, mod-lt}
pub use Rattle.std.proofs.Math.Pow.{pow-lt}
pub use Rattle.std.proofs.Math.Seq.{take-suc}
pub use Rattle.std.proofs.lemmas.Bool.{cases_eq, cases_lt, eqb-true, ne_eqb}
pub use Rattle.std.proofs.lemmas.Bool.Decides.{nat_tests}
pub use Rattle.std.proofs.lemmas.Grind.{flat_map-append}
pub use Rattle.std.proofs.lemmas.List.{get_or-take, get_or_default, length-map, take-append-drop, take_all}
pub use Rattle.std.proofs.lemmas.List.Elements.{Contains-append_cases, Contains-append_left, Contains-append_right}
pub use Rattle.std.proofs.lemmas.List.Folds.{find_at}
pub use Rattle.std.proofs.lemmas.List.FromFn.{get_or-range_with_len, length-range_with_len}
pub use Rattle.std.proofs.lemmas.List.Sums.{passes_at_first, position_or_len_is, sum_by-cons}
pub use Rattle.std.proofs.lemmas.Nat.{pow_pos}
pub use Rattle.std.proofs.lemmas.Option.{get_or_from_slice_get, same_Some, slice_get-get_or, slice_get_past, slice_get_read, slice_get_within}
pub use Rattle.std.proofs.lemmas.Result.{IfOk-weaker}
pub use Rattle.std.specs.List.{position_or_len, range_with_len}
pub use Rattle.std.specs.Option.{option_map_or, unwrap_or}
