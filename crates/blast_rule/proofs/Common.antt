-- What the proofs of this crate cite of definitions, of other crates and of the libraries, passed on from one place.
pub use Rattle.std.proofs.Common.{Bool, Contains, Err, IfOk, IsSome, IsTrue, List, None, Ok, OnOk, Option, Result, SFits, Some, [], ap, arith, drop, eq-eqb, false, flat_map, get_or, get_or-take, if◌then◌else◌, length, length-append, map, max, not, pos, refl, rules, slice_get, slice_index, subst, suc, sum_by, sym, take, true, zero, ℕ, ℤ, ◌&&◌, ◌*◌, ◌++◌, ◌+◌, ◌-◌, ◌<◌, ◌==◌, ◌^◌, ◌||◌, ◌↔◌, ◌∙◌, ◌∷◌, ◌≡◌, ◌≤◌}
pub use Rattle.blast_rule.specs.Gates.{given_gates, greatest_width, halves_gates, most_gates, op_bound, op_gates, refusal_gates, root_gates, root_width, rule_bound, run_gates, said_gates, statement_bound, statement_gates, widths_of_terms, widths_of_witness, witness_gates}
pub use Rattle.blast_rule.specs.Laws.{GatesAreBelow, GatesAreFew}
pub use Rattle.blast_rule.specs.Parts.{Refutes}
pub use Rattle.blast_rule.specs.Runs.{AreTerms, HoldsOperand, IsGiven, TemporariesRan, ending, given_shape, instruction_of, setting_seen, shape, shapes, word_shape}
pub use Rattle.blast_setting.proofs.Few.{few_choices}
pub use Rattle.blast_setting.proofs.Made.{setting-kept, setting_own-kept}
pub use Rattle.blast_setting.proofs.Settings.{IsNumberOf, constants_fit, fitting_are_read, inputs_fit, read_fits, target_choices_fit}
pub use Rattle.blast_setting.proofs.Widths.{are_named, length-named_widths, named_width-is, named_widths-at, naming}
pub use Rattle.blast_setting.proofs.Written.{FitAll}
pub use Rattle.blast_setting.specs.Inputs.{choice_widths, constant_widths, input_widths, named_width}
pub use Rattle.blast_setting.specs.SettingBits.{setting_held}
pub use Rattle.blast_setting.specs.Settings.{setting_of}
pub use Rattle.blast_setting.specs.declared.named.Kind.TheVariants.{Constant, Input}
pub use Rattle.blast_term.proofs.Counts.{node-low, terms-few}
pub use Rattle.blast_term.proofs.Kept.{scope_own-kept, seen-kept}
pub use Rattle.blast_term.proofs.Nodes.{register_own}
pub use Rattle.blast_term.proofs.Preconditions.{nothing_held, precondition_holds}
pub use Rattle.blast_term.proofs.Turns.{own_from_get}
pub use Rattle.blast_term.specs.Gates.{choice_bound, choices_gates, fact_gates, formula_bound, formula_gates, formulas_gates, numbers_gates, term_bound, terms_gates}
pub use Rattle.blast_term.specs.Scope.{ScopeIsOwn, held_at, holds, seen}
pub use Rattle.blast_term.specs.Terms.{FactIsHeld, FactsAreHeld, FormulaIsHeld, FormulasAreHeld, HasWord, MeansNames, NodeIsHeld, ReadsTerms, TermsAreHeld, number_chosen, numbers_chosen, term_widths}
pub use Rattle.blast_term.specs.declared.scope.Scope.{Scope}
pub use Rattle.blast_value.proofs.Counts.{count-few, shift-few}
pub use Rattle.blast_value.proofs.Kept.{AllAll-kept, AllOwn-kept, IsOwnEffect-kept, effect_of-kept, held_value-kept, numbers_held-kept, numbers_of-kept, values-kept}
pub use Rattle.blast_value.specs.Effect.{IsOwn, IsOwnEffect, effect_of, held_value, widths_of}
pub use Rattle.blast_value.specs.Gates.{cast_gates, gates_of, greatest}
pub use Rattle.blast_value.specs.Meaning.{HasEffect, Takes}
pub use Rattle.blast_value.specs.Words.{number_held, word_value}
pub use Rattle.blast_value.specs.declared.held.Blasted.{Blasted}
pub use Rattle.blast_value.specs.declared.instruction.Instruction.{Instruction}
pub use Rattle.circuits.proofs.Kept.{Adds-none, Adds-trans, Adds-weaken, All-kept, Keeps-refl, Keeps-trans}
pub use Rattle.circuits.specs.Circuit.{Adds, Keeps}
pub use Rattle.circuits.specs.Gates.{select_gates}
pub use Rattle.circuits.specs.Word.{number, number_of}
pub use Rattle.circuits.specs.declared.state.State.{Ghosts}
pub use Rattle.ops.specs.Integer.{bits, residue}
pub use Rattle.ops.specs.Number.{Number}
pub use Rattle.ops.specs.Value.{AllowsEffect, HasWidth, IsValueOf}
pub use Rattle.ops.specs.declared.conversion.Cast.{Cast}
pub use Rattle.ops.specs.declared.conversion.Cast.TheVariants.{SExt, Trunc, ZExt}
pub use Rattle.ops.specs.declared.opcode.Opcode.TheVariants.{AShr, Add, And, LShr, Mul, Or, SDiv, SMax, SMin, SRem, Shl, Sub, UDiv, UMax, UMin, URem, Xor}
pub use Rattle.ops.specs.declared.opcode.Unary.TheVariants.{Abs, CtLz, CtPop, CtTz}
pub use Rattle.ops.specs.declared.value.Effect.{Effect}
pub use Rattle.ops.specs.declared.value.Effect.TheVariants.{Gives, Undefined}
pub use Rattle.ops.specs.declared.value.Value.{Value}
pub use Rattle.ops.specs.declared.value.Value.TheVariants.{Bits, Poison}
pub use Rattle.rule_core.proofs.Givens.{Contains-take, given_before_root, source_given, target_given}
pub use Rattle.rule_core.proofs.Members.{Contains-flat_map, Contains-from_get, class_stands, constant_term, measured_class_stands, source_statement, target_statement, term_class_stands, witness_term}
pub use Rattle.rule_core.proofs.Once.{follows_once}
pub use Rattle.rule_core.proofs.Ready.{ValuesFit-none, ValuesFit-push, class_width, source_next, target_next}
pub use Rattle.rule_core.proofs.Unchosen.{follows-stops, temporaries_same}
pub use Rattle.rule_core.proofs.Weights.{few_formulas, few_terms}
pub use Rattle.rule_core.proofs.Witnesses.{choices_fit}
pub use Rattle.rule_core.specs.Checks.{IsBeforeRoot, IsRule, MayBeFormula, MayBeTerm, MayBeWitness}
pub use Rattle.rule_core.specs.Facts.{KeepsFacts, facts_hold}
pub use Rattle.rule_core.specs.Laws.{RulesHaveOneOutcome}
pub use Rattle.rule_core.specs.Positions.{IsStatementOf, IsTermOf, Line, Names, TermLine, assigns_root, classes_of_statement, classes_of_term, compared_terms, left, masked, name, operands_of, right, source_assigns, term, term_choice, term_constant, term_register, terms_in, unary}
pub use Rattle.rule_core.specs.Readiness.{ChoiceIsReady, GivenFits, OpIsReady, OperandIsReady, StatementIsReady, TermsFit, ValuesFit}
pub use Rattle.rule_core.specs.Run.{ArgumentGives, Ending, Follows, Given, GivesLast, GoesOn, Holds, Leads, OpGives, OperandGives, SourceGives, StatementGives, TargetGives, TargetGoesOn, TemporariesEnd, Undefines, at_start, frozen, given_by, holding_source, holding_target, temporaries_of, value_of}
pub use Rattle.rule_core.specs.Terms.{Meanings, PreconditionHolds, constant_values, number_or_zero, of_constants, value_at}
pub use Rattle.rule_core.specs.Typing.{IsTyping}
pub use Rattle.rule_core.specs.Valid.{Chooses, ConstantsFit, HaveEffects, InputsFit, Setting, SettingFits, SourceChoicesFit, TargetChoicesFit, meanings_at, witness_number, witness_values, witness_width}
pub use Rattle.rule_core.specs.declared.rule.Formula.{Formula}
pub use Rattle.rule_core.specs.declared.rule.Function.TheVariants.{Not}
pub use Rattle.rule_core.specs.declared.rule.Node.{Node}
pub use Rattle.rule_core.specs.declared.rule.Op.{Op}
pub use Rattle.rule_core.specs.declared.rule.Op.TheVariants.{Binary, Compare, Convert, Copy, Freeze, Select, Unary}
pub use Rattle.rule_core.specs.declared.rule.Operand.{Operand}
pub use Rattle.rule_core.specs.declared.rule.Register.{Register}
pub use Rattle.rule_core.specs.declared.rule.Rule.{Rule}
pub use Rattle.rule_core.specs.declared.rule.Statement.{Statement}
pub use Rattle.rule_core.specs.declared.rule.Term.{Term}
pub use Rattle.std.proofs.Math.Nat.{mul-le-mul, mul-le-mul_left}
pub use Rattle.std.proofs.lemmas.Bool.{eqb-true}
pub use Rattle.std.proofs.lemmas.Int.{to_z-of_z}
pub use Rattle.std.proofs.lemmas.List.{length-map, length-take, length_push, map-append, take_all, take_more}
pub use Rattle.std.proofs.lemmas.List.Elements.{All-cons, All-contains_itself, All-from_recursion, All-head, All-map, All-nil, All-push, All-same, All-tail, All-weaker, Contains-append_left}
pub use Rattle.std.proofs.lemmas.List.Sums.{sum_by-cons, sum_by-le, sum_by_push}
pub use Rattle.std.proofs.lemmas.Nat.{pow_pos}
pub use Rattle.std.proofs.lemmas.Option.{get_or_from_slice_get, same_Some, slice_get-get_or, slice_get-map, slice_get_within}
pub use Rattle.std.proofs.lemmas.Result.{IfOk-weaker}
pub use Rattle.std.proofs.lemmas.Slice.Zip.{all_zipped_more}
pub use Rattle.std.specs.List.{All, AllZip, fold}
pub use Rattle.std.specs.Option.{option_map, option_map_or, unwrap_or}
pub use mir.Syntax.{w128}
