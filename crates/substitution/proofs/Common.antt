-- What the proofs of this crate cite of definitions, of other crates and of the libraries, passed on from one place.
pub use Rattle.std.proofs.Common.{All, Bool, Contains, IsOk, IsSome, List, None, Option, Some, [], ap, append_assoc, arith, cond, drop, false, get_or, inl, inr, is_ok, length, map, nat_lt, option_and_then, option_map, refl, slice_get, slice_set, subst, suc, sym, take, true, vec_capacity, vec_len, zero, ℕ, ◌&&◌, ◌++◌, ◌+◌, ◌-◌, ◌<◌, ◌==◌, ◌^◌, ◌∙◌, ◌∷◌, ◌≡◌, ◌≢◌, ◌≤◌, ◌⊎◌}
pub use Rattle.ir_core.specs.Assigned.{IsAssigned, ReadIsAssigned}
pub use Rattle.ir_core.specs.Blocks.{HasInst, IsBlock, Names, targets_of}
pub use Rattle.ir_core.specs.Checks.{CasesFit, EntriesFit, IsFormed, IsInst, IsKnown, IsPhi, IsTyped, MeetsChecks, NamesDiffer, OperandHasWidth}
pub use Rattle.ir_core.specs.Names.{block_names, names_of, width_of}
pub use Rattle.ir_core.specs.Reads.{IsRead, Read, end_of, read, reads_at, reads_at_end, reads_by, reads_in, reads_of}
pub use Rattle.ir_core.specs.Refines.{AllowsOutcome, AreArguments, Refines}
pub use Rattle.ir_core.specs.Run.{AnyNumber, EndGives, Ending, Enters, Follows, Freezes, Goes, GoesOn, IfPhi, Leads, OpGives, OperandGives, Passes, PhiGives, Registers, Returns, RunsFrom, Starts, Undefines, arguments, branch_target, breaks_noundef, going_by, has_noundef, holding, is_indefinite, is_poison, returning, switch_target}
pub use Rattle.ir_core.specs.Walks.{IsReached, IsWalk}
pub use Rattle.ir_core.specs.declared.function.Block.{Block}
pub use Rattle.ir_core.specs.declared.function.Function.{Function}
pub use Rattle.ir_core.specs.declared.function.Parameter.{Parameter}
pub use Rattle.ir_core.specs.declared.instruction.Inst.{Inst}
pub use Rattle.ir_core.specs.declared.instruction.Op.{Op}
pub use Rattle.ir_core.specs.declared.instruction.Op.TheVariants.{Binary, Compare, Convert, Freeze, Phi, Select, Unary}
pub use Rattle.ir_core.specs.declared.operand.Operand.{Operand}
pub use Rattle.ir_core.specs.declared.operand.Register.{Register}
pub use Rattle.ir_core.specs.declared.outcome.Outcome.{Outcome}
pub use Rattle.ir_core.specs.declared.terminator.Terminator.{Terminator}
pub use Rattle.ir_meaning.proofs.Assignments.{assignment_transitive, not_both_assigned}
pub use Rattle.ir_meaning.proofs.Equations.{equations, one_inst}
pub use Rattle.ir_meaning.proofs.HistoryOutcomes.{rest_here, rest_next}
pub use Rattle.ir_meaning.proofs.Holding.{assigned_ran, results_held}
pub use Rattle.ir_meaning.proofs.PathLemmas.{end_of-is}
pub use Rattle.ir_meaning.proofs.Pieces.{cases_in, contains_at, not_in_empty, place_in, some_at}
pub use Rattle.ir_meaning.proofs.Steps.{end_among, has_inst, held_elsewhere, held_here, step_keeps_parameter}
pub use Rattle.ir_meaning.proofs.Widths.{held_widths, inst_widths}
pub use Rattle.ir_meaning.specs.Histories.{InstGives, IsHistory, Moment}
pub use Rattle.ir_meaning.specs.HistoryLaws.{LastRan, NumbersFit}
pub use Rattle.ir_meaning.specs.Laws.{HoldWidths}
pub use Rattle.ops.proofs.Monotone.{comparison-monotone, conversion-monotone, instruction-monotone, selection-monotone, unary-monotone}
pub use Rattle.ops.proofs.Values.{AllowsValue-refl, AllowsValue-trans}
pub use Rattle.ops.specs.Comparison.{comparison, selection}
pub use Rattle.ops.specs.Conversion.{conversion}
pub use Rattle.ops.specs.Instruction.{instruction}
pub use Rattle.ops.specs.Number.{Number}
pub use Rattle.ops.specs.Unary.{unary}
pub use Rattle.ops.specs.Value.{AllowsEffect, AllowsValue, IsValueOf}
pub use Rattle.ops.specs.declared.value.Effect.{Effect}
pub use Rattle.ops.specs.declared.value.Value.{Value}
pub use Rattle.std.proofs.Math.ListN.{length-set, set}
pub use Rattle.std.proofs.Math.Seq.{drop-append-add, drop-append_seam, drop-cons, take-append_seam}
pub use Rattle.std.proofs.lemmas.Bool.{and_from, and_right, cases_eq, cases_lt, cond-true, eq-eqb, eqb-true, le-ltb, lt-ltb, ne_eqb}
pub use Rattle.std.proofs.lemmas.List.{drop-drop, drop-set-lt, drop_all, length-append, length-map, length-take, map-append, take_more, take_more_set}
pub use Rattle.std.proofs.lemmas.List.Elements.{All-get_or}
pub use Rattle.std.proofs.lemmas.Option.{get_or_from_slice_get, same_Some, slice_get-get_or, slice_get-map, slice_get_past, slice_get_within}
pub use Rattle.std.specs.List.{flat_map}
pub use Rattle.std.specs.Prelude.{unwrap_or}
pub use Rattle.substitution.specs.Allows.{AllowsEnding, AllowsPut, AssignedAllow, ReadsAllow}
pub use Rattle.substitution.specs.Fits.{Fits, IsOfItsWidth, IsOld, MayBeRead}
pub use Rattle.substitution.specs.Held.{ComesTo, MayHold}
pub use Rattle.substitution.specs.Laws.{InstructionsAreMonotoneInReads, PutIsAllowed, RewrittenFunctionsMeetChecks, RewrittenFunctionsRefine, RewrittenFunctionsRefineWherePutIsAllowed, RewrittenNumbersFit, RootAllowsPut, RunsHoldWhatIsAssigned, SubstitutedInstructionsGive, SubstitutedPhisGive, SubstitutedTerminatorsEnd, TerminatorsAreMonotoneInReads}
pub use Rattle.substitution.specs.Put.{block_with}
pub use Rattle.substitution.specs.Rewritten.{Rewrite, RunsOn, RunsThrough, is_root, moved_place, rewritten_block, rewritten_blocks, rewritten_function, rewritten_insts, root_of, stands_for}
pub use Rattle.substitution.specs.Room.{BlockHasRoom, EndHasRoom, HasRoom, OpHasRoom}
pub use Rattle.substitution.specs.Substitution.{IsDefinite, Substitution, ending_back, pulled_back, substituted_block, substituted_end, substituted_entries, substituted_inst, substituted_op, substituted_operand, value_of}
