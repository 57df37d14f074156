-- What the proofs of this crate cite of definitions, of other crates and of the libraries, passed on from one place.
pub use Rattle.std.proofs.Common.{All, Bool, Contains, IsSome, List, None, Option, Some, [], ap, append-nil, append_assoc, arith, cond, count_by, drop, ext_get_or, false, get_or, inl, inr, length, map, not, option_and_then, option_map, refl, replicate, set, slice_get, slice_index_or, subst, suc, sym, take, true, zero, ℕ, ◌&&◌, ◌++◌, ◌+◌, ◌<◌, ◌==◌, ◌||◌, ◌∙◌, ◌∷◌, ◌≡◌, ◌≤◌, ◌⊎◌}
pub use Rattle.fold_branch.specs.Choices.{chosen, decided, decided_block, decided_end, jump_or, literal}
pub use Rattle.fold_branch.specs.Folded.{AreReached, IsFolded, choices_of, folded_as, folded_block, folded_blocks, folded_function, folded_inst, folded_op, is_among, staying, stays, stays_by, stays_first}
pub use Rattle.fold_branch.specs.Laws.{CleanedFunctionsStayFolded, FoldedFunctionsMeetChecks, FoldedFunctionsRefine, FoldedNumbersWereThere, FoldedTwiceIsFoldedOnce}
pub use Rattle.fold_branch.specs.Marks.{AllAreBelow, AreBelow, EntriesAreBelow, HasEntry, IsMarked, NoneIsMarked}
pub use Rattle.fold_branch.specs.Walks.{ComesTo, IsWalked, unmarked}
pub use Rattle.fold_branch.specs.declared.walk.Walk.{Walk}
pub use Rattle.ir_core.specs.Assigned.{IsAssigned}
pub use Rattle.ir_core.specs.Blocks.{HasInst, IsBlock, Names, targets_of}
pub use Rattle.ir_core.specs.Checks.{CasesFit, EntriesFit, IsFormed, IsInst, IsKnown, IsPhi, IsTyped, MeetsChecks, NamesDiffer, OperandHasWidth}
pub use Rattle.ir_core.specs.Names.{Name, block_names, names_of, width_of}
pub use Rattle.ir_core.specs.Reads.{IsRead, Read, end_of, read, reads_at_end, reads_by, reads_in, reads_of}
pub use Rattle.ir_core.specs.Refines.{AllowsOutcome, Refines}
pub use Rattle.ir_core.specs.Run.{AnyNumber, EndGives, Ending, Enters, Follows, Goes, GoesOn, IfPhi, Leads, OpGives, Passes, PhiGives, Registers, Returns, RunsFrom, Starts, Undefines, arguments, branch_target, breaks_noundef, going_by, has_noundef, holding, is_indefinite, returning, switch_target}
pub use Rattle.ir_core.specs.Walks.{IsReached, IsWalk}
pub use Rattle.ir_core.specs.declared.function.Block.{Block}
pub use Rattle.ir_core.specs.declared.function.Function.{Function}
pub use Rattle.ir_core.specs.declared.instruction.Inst.{Inst}
pub use Rattle.ir_core.specs.declared.instruction.Op.{Op}
pub use Rattle.ir_core.specs.declared.instruction.Op.TheVariants.{Binary, Compare, Convert, Freeze, Phi, Select, Unary}
pub use Rattle.ir_core.specs.declared.operand.Operand.{Operand}
pub use Rattle.ir_core.specs.declared.operand.Register.{Register}
pub use Rattle.ir_core.specs.declared.outcome.Outcome.{Outcome}
pub use Rattle.ir_core.specs.declared.terminator.Terminator.{Terminator}
pub use Rattle.ir_core.specs.declared.terminator.Terminator.TheVariants.{Switch}
pub use Rattle.ir_meaning.proofs.Pieces.{branch_among, cases_in, contains_at, first_in, later_in, not_in_empty, place_in, some_at, switch_among_all}
pub use Rattle.needed.proofs.Counting.{block_at, mapped}
pub use Rattle.needed.proofs.KeptLemmas.{Written, next_as_before}
pub use Rattle.needed.proofs.MarkLemmas.{only_one}
pub use Rattle.needed.proofs.NumberLemmas.{item_read}
pub use Rattle.needed.proofs.Reading.{own_place, reads_at-end, reads_at-inst}
pub use Rattle.needed.specs.KeptFunction.{KeptMarks, kept_block, kept_blocks, kept_first, kept_function, kept_insts, moved_end, moved_inst, moved_op, moved_operand}
pub use Rattle.ops.proofs.Values.{AllowsValue-refl}
pub use Rattle.ops.specs.Number.{Number}
pub use Rattle.ops.specs.declared.value.Effect.{Effect}
pub use Rattle.ops.specs.declared.value.Value.{Value}
pub use Rattle.std.proofs.lemmas.Bool.{and_from, and_parts, cases_Bool, cases_eq, eq-eqb, eqb-true, ne_eqb, or_cases, or_from}
pub use Rattle.std.proofs.lemmas.List.{drop-set-lt, drop_all, drop_more, get_or-set_other, get_or-set_same, get_or_read, length-append, length-map, length-replicate, length-set, map-append, take_more, take_more_set}
pub use Rattle.std.proofs.lemmas.List.Elements.{All-contains, All-get_or, All-head, All-tail, Contains-append_cases, Contains-append_left, Contains-append_right, Contains-get_or, Contains-push}
pub use Rattle.std.proofs.lemmas.List.Sums.{sum_by-set}
pub use Rattle.std.proofs.lemmas.Option.{get_or_from_slice_get, same_Some, slice_get-get_or, slice_get-map, slice_get_read, slice_get_within}
pub use Rattle.std.proofs.lemmas.Result.{on_ok_weaker}
pub use Rattle.std.specs.List.{flat_map}
pub use Rattle.std.specs.Prelude.{unwrap_or}
