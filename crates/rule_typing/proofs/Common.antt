-- What the proofs of this crate cite of definitions, of other crates and of the libraries, passed on from one place.
pub use Rattle.std.proofs.Common.{AllPairs, Bool, Contains, IfNone, IfSome, IsTrue, List, None, Option, Some, [], add-one, add-zero, add_assoc, ap, arith, below_more, drop, false, flat_map, get_or, get_or-set_other, get_or-set_same, get_or-take, if◌then◌else◌, inl, inr, is_some, length, length-append, length-take, map, max, min, neg_ℤ, not, option_and_then, option_map, pos, refl, replicate, rules, slice_get, slice_index, slice_set, subst, suc, sum_by, sym, take, true, zero, zero-add, ℕ, ℤ, ◌*◌, ◌++◌, ◌+◌, ◌-◌, ◌<◌, ◌==◌, ◌^◌, ◌↔◌, ◌∙◌, ◌∷◌, ◌≡◌, ◌≢◌, ◌≤◌, ◌⊎◌}
pub use Rattle.ops.specs.declared.conversion.Cast.TheVariants.{SExt, Trunc, ZExt}
pub use Rattle.rule_core.proofs.Members.{Contains-flat_map, Contains-from_get, choice_opens, class_stands, constant_term, freezes, get-append_left, get-append_right, measured_class_stands, operand_class_stands, operand_stands, reads_undef, source_statement, target_statement, term_class_stands}
pub use Rattle.rule_core.specs.Checks.{AreDistinct, ChoicesInOrder, FlagsFitOp, FormulaMayMeasure, HasKnownWidth, IsBeforeRoot, IsRule, MayBeFormula, MayBeTerm, MayBeWitness, MayStandInSource, ReadsNoUndefAlone, ReadsOnly, SourceMayRead, StandsAt, TargetMayMeasure, TargetMayRead, argument_weight, formula_weight, names_of, node_weight, term_weight, weight_of}
pub use Rattle.rule_core.specs.FormulaNodes.{OuterIsOutermost, joint_of}
pub use Rattle.rule_core.specs.Positions.{Fixed, IsStatementOf, IsTermOf, Line, Names, Smaller, TermLine, assigns_root, binary_left, binary_right, cast_to, choices_among, choices_of, chooses, classes_of, classes_of_node, classes_of_statement, classes_of_term, compared, compared_terms, comparison, condition, copy, freeze, frozen_in, left, masked, measures, name, one_operand, operands_among, operands_in, operands_of, reads, reads_constant, right, select_false, select_true, sign_extended, source_assigns, target_assigns, term, term_choice, term_constant, term_register, terms_in, truncated, truth, unary, undef_in, witness, witness_term, written, zero_extended}
pub use Rattle.rule_core.specs.TermNodes.{AreLastNodes, IsOperandOf, NamesWidth, OwnsOperands, StandsIn}
pub use Rattle.rule_core.specs.Typing.{FitsLiteral, IsTyping}
pub use Rattle.rule_core.specs.declared.rule.Argument.{Argument}
pub use Rattle.rule_core.specs.declared.rule.Choice.{Choice}
pub use Rattle.rule_core.specs.declared.rule.Formula.{Formula}
pub use Rattle.rule_core.specs.declared.rule.Name.{Name}
pub use Rattle.rule_core.specs.declared.rule.Node.{Node}
pub use Rattle.rule_core.specs.declared.rule.Op.{Op}
pub use Rattle.rule_core.specs.declared.rule.Op.TheVariants.{Binary, Compare, Convert, Copy, Freeze, Select, Unary}
pub use Rattle.rule_core.specs.declared.rule.Operand.{Operand}
pub use Rattle.rule_core.specs.declared.rule.Register.{Register}
pub use Rattle.rule_core.specs.declared.rule.Rule.{Rule}
pub use Rattle.rule_core.specs.declared.rule.Statement.{Statement}
pub use Rattle.rule_core.specs.declared.rule.Term.{Term}
pub use Rattle.rule_typing.specs.AllTypings.{AreAllTypings, ComesBefore, IsFirstOf, IsListed, MayChoose}
pub use Rattle.rule_typing.specs.Classes.{HasClasses, IsClassified, IsInOrder, IsName, IsNameOf, Joined, NamesClass, along, line, turned}
pub use Rattle.rule_typing.specs.Faults.{HasNoFault, HasNoTyping, HasTooManyClasses, IsFault, IsOpen}
pub use Rattle.rule_typing.specs.FittingWidths.{FitsIn, IsPast, LiteralsFit, MayHaveWidth, TermFits, TermsFit}
pub use Rattle.rule_typing.specs.FixedWidths.{FixesWidth, IsBelow, IsBroken, MeetsCastLine, StatementFixes, fixed_line, smaller_line}
pub use Rattle.rule_typing.specs.Laws.{RulesHaveClasses}
pub use Rattle.rule_typing.specs.Relabelled.{IsRenumbered, mapped, mapped_node, mapped_op, mapped_statement, mapped_term, numbered, numbered_from, numbered_node, numbered_op, numbered_statement, numbered_statements, numbered_term, numbered_terms, positions_among, positions_of, renamed}
pub use Rattle.rule_typing.specs.Solutions.{AreLeast, AreOf, AtMost, FindsLeast, GoesOn, Has, HasExactly, IsLeast, MeetsSmaller, Solves, SolvesBehind, SolvesFrom}
pub use Rattle.rule_typing.specs.Splits.{ChoicesLine, FindsOther, FormulasLine, IsMerged, IsPairIn, IsRead, LineOf, NamingOf, OperandsLine, PairOf, RootLine, Splits, StatementLine, StatementsLine, TermsLine, assigned_class, choice_naming, choice_pairs, chosen_class, formula_naming, formula_pairs, last_class, name_of, node_class, node_naming, node_pairs, op_pairs, operand_naming, operand_pairs, paired, root_class, statement_pairs, term_class, term_naming, term_pairs}
pub use Rattle.rule_typing.specs.declared.classes.ClassFault.{ClassFault}
pub use Rattle.rule_typing.specs.declared.half.Half.{Half}
pub use Rattle.rule_typing.specs.declared.relabelling.Renaming.TheVariants.{Merge, Swap}
pub use Rattle.rule_typing.specs.declared.widths.Widths.{Widths}
pub use Rattle.std.proofs.Math.Decide.{dec_le, dec_lt, map_dec}
pub use Rattle.std.proofs.Math.ListN.{get_or-map}
pub use Rattle.std.proofs.lemmas.Bool.{cases_eq, cases_lt, false≢true}
pub use Rattle.std.proofs.lemmas.Bool.Decides.{nat_tests}
pub use Rattle.std.proofs.lemmas.Grind.{flat_map-append}
pub use Rattle.std.proofs.lemmas.Int.{by_lt_z}
pub use Rattle.std.proofs.lemmas.List.{drop_all, get_or-replicate, get_or_append_left, get_or_default, get_or_past, get_or_push, length-map, length-replicate, length-set, length_push, map-append, take-append-le, take-map, take_all, take_more}
pub use Rattle.std.proofs.lemmas.List.Elements.{Contains-append_cases, Contains-append_left, Contains-append_right, Contains-get_or, Contains-push, Contains-push_cases}
pub use Rattle.std.proofs.lemmas.List.Folds.{length-flat_map-take}
pub use Rattle.std.proofs.lemmas.List.Quantifiers.{all_pairs_push}
pub use Rattle.std.proofs.lemmas.List.Sums.{sum_by-cons}
pub use Rattle.std.proofs.lemmas.Option.{IfSome_then, get_or_from_slice_get, same_Some, slice_get-get_or, slice_get-map, slice_get_within, some_pair_parts}
pub use Rattle.std.specs.Bool.{OnFalse, OnTrue}
pub use Rattle.std.specs.Int.Signed.{clash_ℤ}
pub use Rattle.std.specs.List.{range_with_len}
pub use Rattle.std.specs.Ordering.{nat_cmp, ord_max}
