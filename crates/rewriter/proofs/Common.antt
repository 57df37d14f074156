-- What the proofs of this crate cite of definitions, of other crates and of the libraries, passed on from one place.
pub use Rattle.std.proofs.Common.{Bool, Contains, Err, List, None, Ok, OnOk, Option, Result, Some, IsTrue, [], add-one, add-zero, ap, append-nil, append_assoc, arith, bit_and, bit_or, bit_xor, cond, drop, eq-eqb, false, flat_map, get_or, if◌then◌else◌, inl, inr, length, length-append, length-take, map, nat_le, ne_eqb, not, option_to_list, refl, slice_get, slice_index, slice_index_or, subst, suc, sym, take, true, zero, zero-add, ℕ, ℤ, ◌&&◌, ◌++◌, ◌+◌, ◌-◌, ◌<◌, ◌==◌, ◌^◌, ◌||◌, ◌∙◌, ◌∷◌, ◌≡◌, ◌≢◌, ◌≤◌, ◌⊎◌}
pub use Rattle.bindings.proofs.Before.{before_in_block}
pub use Rattle.bindings.proofs.Knowing.{asked_before_root}
pub use Rattle.bindings.proofs.TemporariesBefore.{named_assigned}
pub use Rattle.bindings.specs.Known.{FactFollows, Knowledge, known_in, number_of_term, operand_for}
pub use Rattle.bindings.specs.Match.{MatchesWhere}
pub use Rattle.bindings.specs.Operands.{OperandMatches, StandsFor}
pub use Rattle.bindings.specs.Promises.{AreKept}
pub use Rattle.bindings.specs.Statements.{InstMatches, IsSameOperation, NamesTemporary, StatementMatches, TargetNamesTemporary, promises_of_inst, promises_of_statement}
pub use Rattle.bindings.specs.declared.binding.Binding.{Binding}
pub use Rattle.bindings.specs.declared.promises.Promises.{Promises}
pub use Rattle.ir_core.specs.Assigned.{IsAssigned}
pub use Rattle.ir_core.specs.Blocks.{HasInst, IsBlock}
pub use Rattle.ir_core.specs.Checks.{IsInst, IsPhi, IsTyped, MeetsChecks, OperandHasWidth}
pub use Rattle.ir_core.specs.Names.{Name, width_of}
pub use Rattle.ir_core.specs.Reads.{IsRead, Read, read, reads_of}
pub use Rattle.ir_core.specs.Refines.{Refines}
pub use Rattle.ir_core.specs.Run.{AnyNumber, Freezes, IsChosen, OpGives, OperandGives, Registers, holding}
pub use Rattle.ir_core.specs.Walks.{IsReached, IsWalk}
pub use Rattle.ir_core.specs.declared.function.Block.{Block}
pub use Rattle.ir_core.specs.declared.function.Function.{Function}
pub use Rattle.ir_core.specs.declared.instruction.Inst.{Inst}
pub use Rattle.ir_core.specs.declared.instruction.Op.TheVariants.{Phi}
pub use Rattle.ir_core.specs.declared.operand.Register.{Register}
pub use Rattle.ir_meaning.proofs.Assignments.{assignment_transitive, not_both_assigned}
pub use Rattle.ir_meaning.proofs.Equations.{one_inst}
pub use Rattle.ir_meaning.proofs.Following.{width_known}
pub use Rattle.ir_meaning.proofs.Pieces.{contains_at, place_in, some_at}
pub use Rattle.ir_meaning.proofs.Steps.{has_inst, held_elsewhere, held_here}
pub use Rattle.ir_meaning.specs.HistoryLaws.{EquationHolds, EquationsHoldWhereAssigned, NumbersFit}
pub use Rattle.ir_meaning.specs.Laws.{HoldWidths}
pub use Rattle.circuits.specs.declared.known_bit.KnownBit.{KnownBit}
pub use Rattle.known_bits.proofs.BlockResults.{operand_width}
pub use Rattle.known_bits.proofs.Having.{has_certain}
pub use Rattle.known_bits.proofs.Holding.{held_has}
pub use Rattle.known_bits.proofs.Loops.{any_width}
pub use Rattle.known_bits.proofs.Places.{known_earlier, masked_number, non_zero_number, result_before}
pub use Rattle.known_bits.proofs.Results.{binary_has, cast_has, choice_has}
pub use Rattle.known_bits.proofs.Values.{has_nothing}
pub use Rattle.known_bits.specs.KnownBits.{insts_of, known_at, known_result, known_results}
pub use Rattle.known_bits.specs.Laws.{HasBits}
pub use Rattle.known_bits.specs.Words.{known_of, unknown}
pub use Rattle.known_bits.specs.declared.words.Known.{Known}
pub use Rattle.ops.proofs.Monotone.{comparison-monotone, conversion-monotone, instruction-monotone, selection-monotone, unary-monotone}
pub use Rattle.ops.proofs.Values.{AllowsEffect-refl, AllowsEffect-trans, AllowsValue-refl}
unfoldable pub use Rattle.ops.specs.Arithmetic.{arithmetic}
unfoldable pub use Rattle.ops.specs.Bitwise.{or}
pub use Rattle.ops.specs.Comparison.{holds, selection, signs_differ}
unfoldable pub use Rattle.ops.specs.Conversion.{breaks_flags, conversion}
pub use Rattle.ops.specs.Conversion.{CastFits, converted}
unfoldable pub use Rattle.ops.specs.Division.{sdiv, udiv}
pub use Rattle.ops.specs.Division.{exactly, srem, urem}
pub use Rattle.ops.specs.Flags.{AreWithin, icmp_flags}
unfoldable pub use Rattle.ops.specs.Instruction.{instruction, on_numbers}
pub use Rattle.ops.specs.Instruction.{on_poison}
pub use Rattle.ops.specs.Integer.{bits, fits_signed, fits_unsigned, negative, residue, signed}
pub use Rattle.ops.specs.Number.{Number}
unfoldable pub use Rattle.ops.specs.Shifts.{ashr, lshr, shl}
unfoldable pub use Rattle.ops.specs.Unary.{unary}
pub use Rattle.ops.specs.Unary.{at_number, poison_where_true}
pub use Rattle.ops.specs.Value.{AllowsEffect, AllowsValue, IsValueOf}
pub use Rattle.ops.specs.declared.comparison.Pred.{Pred}
pub use Rattle.ops.specs.declared.conversion.Cast.{Cast}
pub use Rattle.ops.specs.declared.conversion.Cast.TheVariants.{SExt, Trunc, ZExt}
pub use Rattle.ops.specs.declared.opcode.Flags.{Flags}
pub use Rattle.ops.specs.declared.opcode.Opcode.{Opcode}
pub use Rattle.ops.specs.declared.opcode.Opcode.TheVariants.{AShr, Add, And, LShr, Mul, Or, SDiv, SMax, SMin, SRem, Shl, Sub, UDiv, UMax, UMin, URem, Xor}
pub use Rattle.ops.specs.declared.value.Effect.{Effect}
pub use Rattle.ops.specs.declared.value.Effect.TheVariants.{Gives, Undefined}
pub use Rattle.ops.specs.declared.value.Value.{Value}
pub use Rattle.ops.specs.declared.value.Value.TheVariants.{Bits, Poison}
pub use Rattle.rewriter.specs.Laws.{EquationsOfStatementsHold, RewrittenFunctionsMeetChecks, RewrittenFunctionsRefine, RewrittenNumbersFit}
pub use Rattle.rewriter.specs.Put.{argument_put, class_width, count_put, insts_of_op, insts_put, insts_with, is_copy, literal_of, operand_put, result_of_op, result_put, results_put, rewrite_of}
pub use Rattle.rewriter.specs.Ready.{IsBound, OperandIsReady, op_put}
pub use Rattle.rule_core.proofs.Facts.{each_said}
pub use Rattle.rule_core.proofs.Fits.{number_or_zero_fits, residue_lt}
pub use Rattle.rule_core.proofs.Givens.{get_taken, source_given}
pub use Rattle.rule_core.proofs.Members.{Contains-flat_map, Contains-from_get, class_stands, flat_map-from, freeze_chosen, operand_class_stands, operand_open, source_operand, statement_open, target_operand, target_statement}
pub use Rattle.rule_core.proofs.Once.{follows_once}
pub use Rattle.rule_core.proofs.Outcomes.{temporaries_fit}
pub use Rattle.rule_core.proofs.Ready.{constant_values_fit, source_ready}
pub use Rattle.rule_core.proofs.Turns.{at_place, before_place, in_turn-length, in_turn-step}
pub use Rattle.rule_core.proofs.Unchosen.{temporaries_same}
pub use Rattle.rule_core.proofs.Witnesses.{choices_fit}
pub use Rattle.rule_core.specs.Checks.{FlagsFitOp, IsRule, MayStandInSource, ReadsNoUndefAlone, SourceMayRead, TargetMayRead}
pub use Rattle.rule_core.specs.Facts.{KeepsFacts, fact_holds, facts_hold}
pub use Rattle.rule_core.specs.Positions.{IsOperandAmong, IsStatementOf, LeavesOpen, assigns_root, binary_left, binary_right, choices_among, choices_of, chooses, compared, condition, copy, freeze, frozen_in, name, one_operand, operand, operands_among, operands_of, reads, reads_constant, select_false, select_true, sign_extended, source_assigns, target_assigns, truncated, truth, undef_in, zero_extended}
pub use Rattle.rule_core.specs.Readiness.{ArgumentIsReady, ChoiceIsReady, GivenFits, HeldFits}
pub use Rattle.rule_core.specs.Run.{ArgumentGives, Ending, Follows, Given, GivesLast, GoesOn, Held, Holds, SourceGives, StatementGives, TargetGives, TemporariesEnd, Undefines, at_start, frozen, given_by, holding_source, holding_target, temporaries_of}
pub use Rattle.rule_core.specs.Terms.{HasNumber, constant_values, in_turn, number_or_zero, value_at}
pub use Rattle.rule_core.specs.Typing.{IsTyping}
pub use Rattle.rule_core.specs.Valid.{ConstantsFit, HaveEffects, InputsFit, IsValid, Setting, SettingFits, SourceChoicesFit, witness_number}
pub use Rattle.rule_core.specs.declared.rule.Argument.{Argument}
pub use Rattle.rule_core.specs.declared.rule.Choice.{Choice}
pub use Rattle.rule_core.specs.declared.rule.Formula.{Formula}
pub use Rattle.rule_core.specs.declared.rule.Op.TheVariants.{Copy}
pub use Rattle.rule_core.specs.declared.rule.Rule.{Rule}
pub use Rattle.rule_core.specs.declared.rule.Statement.{Statement}
pub use Rattle.rule_core.specs.declared.rule.Term.{Term}
pub use Rattle.std.proofs.Math.Pow.{pow-lt}
pub use Rattle.std.proofs.Math.Seq.{take-suc}
pub use Rattle.std.proofs.lemmas.Bool.{cases_eq, cases_lt}
pub use Rattle.std.proofs.lemmas.Grind.{flat_map-append}
pub use Rattle.std.proofs.lemmas.List.{length-map, map-append, take-append-drop, take_all, take_more}
pub use Rattle.std.proofs.lemmas.List.FromFn.{get_or-range_with_len}
pub use Rattle.std.proofs.lemmas.List.Sums.{count_by_more_no, count_by_more_yes}
pub use Rattle.std.proofs.lemmas.Nat.{pow_pos}
pub use Rattle.std.proofs.lemmas.Option.{get_or_from_slice_get, same_Some, slice_get-get_or, slice_get-map, slice_get_read, slice_get_within}
pub use Rattle.std.specs.List.{range_with_len}
pub use Rattle.std.specs.Option.{option_map, option_map_or, unwrap_or}
pub use Rattle.substitution.proofs.Arriving.{inst_reads}
pub use Rattle.substitution.proofs.Checking.{meets_checks, numbers_fit}
pub use Rattle.substitution.proofs.Pieces.{get_cases, get_left, get_right, mapped}
pub use Rattle.substitution.proofs.Placing.{IsTheRoot, is_moved, moved_unmoved, stands_other, stands_root}
pub use Rattle.substitution.proofs.Refining.{functions_refine_where_allowed}
pub use Rattle.substitution.proofs.Standing.{width_at}
pub use Rattle.substitution.specs.Allows.{AllowsPut}
pub use Rattle.substitution.specs.Fits.{Fits, IsOfItsWidth, IsOld, MayBeRead}
pub use Rattle.substitution.specs.Held.{MayHold}
pub use Rattle.substitution.specs.Laws.{PutIsAllowed}
pub use Rattle.substitution.specs.Rewritten.{RunsOn, RunsThrough, rewritten_function, stands_for}
pub use Rattle.substitution.specs.Substitution.{pulled_back, value_of}
pub use Rattle.substitution.specs.declared.rewrite.Rewrite.{Rewrite}
