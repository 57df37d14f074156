-- What the proofs of this crate cite of definitions, of other crates and of the libraries, passed on from one place.
pub use Rattle.std.proofs.Common.{All, AllPairs, Bool, Contains, Err, Global, IfNone, IfOk, IfSome, List, None, Ok, Option, Result, Some, Vec, [], ap, append-nil, append_assoc, arith, cond, drop, drop-cons, false, flat_map, get_or, if◌then◌else◌, inl, inr, length, map, not, option_map, option_to_list, refl, slice_get, slice_index_or, slice_set, subst, suc, sum_by, sym, take, true, zero, ℕ, ◌&&◌, ◌++◌, ◌+◌, ◌-◌, ◌<◌, ◌==◌, ◌^◌, ◌↔◌, ◌∙◌, ◌∷◌, ◌≡◌, ◌≢◌, ◌≤◌, ◌⊎◌}
pub use Rattle.bindings.proofs.Reading.{is_read, reads_at_inst, same_inst}
pub use Rattle.bindings.proofs.Roots.{in_any_order}
pub use Rattle.bindings.specs.Laws.{ReadsStandBefore, TemporariesStandBefore}
pub use Rattle.bindings.proofs.Knowing.{asked_before_root, facts_follow}
pub use Rattle.bindings.proofs.Before.{before_in_block, read_assigned}
pub use Rattle.bindings.proofs.Bound.{in_scope, scope_between}
pub use Rattle.bindings.proofs.TemporariesBefore.{given_for, named_assigned, no_phi}
pub use Rattle.bindings.specs.Known.{AskBits, AsksBitsOf, Knowledge, known_in, operand_for}
pub use Rattle.bindings.specs.Match.{IsInScope, IsMatch, MatchesInAnyOrder, MatchesWhere}
pub use Rattle.bindings.specs.Matches.{AreMatchesInAnyOrder, AreMatchesWhere, IsAt, IsMatchAmong, IsMatchInAnyOrder}
pub use Rattle.bindings.specs.Operands.{StandsFor}
pub use Rattle.bindings.specs.Ready.{AreReady}
pub use Rattle.bindings.specs.Statements.{IsSameOperation, StatementMatches}
pub use Rattle.bindings.specs.declared.binding.Binding.{Binding}
pub use Rattle.bindings.specs.declared.rule_match.Match.{Match}
pub use Rattle.draft.proofs.Changed.{whole_taken_out}
pub use Rattle.draft.proofs.Cycles.{no_phi_substituted}
pub use Rattle.draft.proofs.Exchange.{was_counted, was_numbers, with_blocks}
pub use Rattle.draft.proofs.Exchanging.{counted_block, inst_differs}
pub use Rattle.draft.proofs.InstsOf.{AreNumbersOf, both, both_none, get_blocks, inst_from, insts_append, insts_more, length-insts_of, rest_numbers}
pub use Rattle.draft.proofs.Keeping.{heap-stays, keeps-itself, keeps-twice, put-keeps}
pub use Rattle.draft.proofs.NumberedInsts.{inst-numbered, insts-stay, next-keeps, numbered-inst}
pub use Rattle.draft.proofs.Put.{all_below, list_row, number_row, whole_put}
pub use Rattle.draft.proofs.Putting.{few_put, list_there, read_put}
pub use Rattle.draft.proofs.Reached.{reached_along}
pub use Rattle.draft.proofs.ReplacedAt.{IsReplacing, few_after, reads_after, replacing_begins, replacing_ends, replacing_goes, swapped_arena, whole_after}
pub use Rattle.draft.proofs.Replacing.{inst_stays, unread_stays}
pub use Rattle.draft.proofs.Rows.{marked, put_keeps, put_standing, same_order, standing_changed, standing_length, standing_marked, without_standing}
pub use Rattle.draft.proofs.Standing.{numbers_ordered, standing_ordering}
pub use Rattle.draft.proofs.Swapped.{swapped_known, swapped_listed, targets_stay}
pub use Rattle.draft.proofs.Wholeness.{all_known, counted_insts, few_insts, marked_stands, numbers_are, stands_marked, stands_there}
pub use Rattle.draft.specs.Drafts.{AreTouched, HasRoomFor, Reaches, Stands, StandsBefore, arena_of, block_of, blocks_of, function_of, insts_of, numbers_in, numbers_of, orders_of, placed, placed_binding, standing}
pub use Rattle.draft.specs.KeptOrders.{KeepsOrders}
pub use Rattle.draft.specs.Placing.{IsOrdering}
pub use Rattle.draft.specs.Whole.{HasNoCycles, IsSettled, IsWhole}
pub use Rattle.draft.specs.declared.draft.Draft.{Draft}
pub use Rattle.draft_steps.specs.Arranged.{AreArranged, KnowsTheFunction, arranged, row_of}
pub use Rattle.draft_steps.specs.DeadCode.{AreLeft, AreRead, HasNoDeadCode, HaveInsts, IsBlockLeft, IsEliminating, IsLeft, IsNeededWith, KeepsUses, ReadsStand, ends, is_one, registers_read}
pub use Rattle.draft_steps.specs.DraftWorklists.{ComesNext, IsOnWorklist, IsWorklistOf}
pub use Rattle.draft_steps.specs.MatchLaws.{MatchesOfTheArena, MatchesOfTheUntouched}
pub use Rattle.draft_steps.specs.Rewriting.{IsPutFor, MayPut, MayRead, all_before, put_for, put_numbers, rows_put_for, rows_with, with_put}
pub use Rattle.draft_steps.specs.Walks.{Came, CameOnlyTo, IsFurther, IsIdle, IsSameDraft, IsWalk, ReachesOneOf, ReadersCame, ReadsHere, ReadsOneOf, StandsAtOneOf}
pub use Rattle.draft_steps.specs.declared.rewriting.Rewritten.{Rewritten}
pub use Rattle.draft_steps.specs.declared.walk.Walk.{Walk}
pub use Rattle.draft_steps.specs.declared.worklist.DraftWorklist.{DraftWorklist}
pub use Rattle.ir_core.specs.Assigned.{IsAssigned}
pub use Rattle.ir_core.specs.Blocks.{HasInst, IsBlock, Names, targets_of}
pub use Rattle.ir_core.specs.Checks.{IsInst, IsKnown, IsPhi, MeetsChecks}
pub use Rattle.ir_core.specs.Names.{Name}
pub use Rattle.ir_core.specs.Reads.{IsRead, Read, end_of, read, reads_at, reads_at_end, reads_by, reads_in, reads_of}
pub use Rattle.ir_core.specs.Walks.{IsReached}
pub use Rattle.ir_core.specs.declared.function.Block.{Block}
pub use Rattle.ir_core.specs.declared.function.Function.{Function}
pub use Rattle.ir_core.specs.declared.function.Parameter.{Parameter}
pub use Rattle.ir_core.specs.declared.instruction.Inst.{Inst}
pub use Rattle.ir_core.specs.declared.instruction.Op.{Op}
pub use Rattle.ir_core.specs.declared.instruction.Op.TheVariants.{Binary, Compare, Convert, Freeze, Phi, Select, Unary}
pub use Rattle.ir_core.specs.declared.operand.Operand.{Operand}
pub use Rattle.ir_core.specs.declared.operand.Register.{Register}
pub use Rattle.ir_core.specs.declared.terminator.Terminator.{Terminator}
pub use Rattle.ir_meaning.proofs.Assignments.{assignment_transitive, not_both_assigned}
pub use Rattle.ir_meaning.proofs.Equations.{one_inst}
pub use Rattle.ir_meaning.proofs.Pieces.{cases_in, first_in, later_in, not_in_empty}
pub use Rattle.ir_meaning.specs.HistoryLaws.{NumbersFit}
pub use Rattle.matcher.proofs.OneBinding.{matches_have_one_binding}
pub use Rattle.moved_matches.proofs.Staying.{matches_stay}
pub use Rattle.moved_matches.specs.Moved.{moved_binding, register_or}
pub use Rattle.needed.proofs.Counting.{contained_at, get-block}
pub use Rattle.needed.proofs.Reading.{reads_at-end}
pub use Rattle.needed.specs.Cleaned.{IsCleaned, KeepsNeeded}
pub use Rattle.needed.specs.KeptFunction.{KeptMarks, kept_before, kept_block, kept_blocks, kept_first, kept_function, kept_insts, moved_end, moved_inst, moved_op, moved_operand}
pub use Rattle.needed.specs.Needed.{IsNeeded, ReadsRegister, by_end, by_inst}
pub use Rattle.needed.specs.Operands.{operands_at_end}
pub use Rattle.ops.specs.Integer.{residue}
pub use Rattle.ops.specs.Number.{Number}
pub use Rattle.ops.specs.declared.value.Value.{Value}
pub use Rattle.places.proofs.Tallies.{marked-contains}
pub use Rattle.places.specs.Heaps.{IsHeap, IsNumbered, nowhere, place_at}
pub use Rattle.places.specs.Orders.{none, put_before}
pub use Rattle.places.specs.Sets.{Has, IsAdded, IsRemoved, Rows}
pub use Rattle.places.specs.Worklist.{IsFirst, IsWorklist, WorklistView, tally}
pub use Rattle.places.specs.declared.place.Place.{Place}
pub use Rattle.readers.proofs.Changing.{HasAll, block_ended, block_pushed, block_with, changed_cases, changed_length, changed_sum, has_known, inst_there, known_has, known_kept}
pub use Rattle.readers.proofs.Counting.{counted_other, one_if, only_one}
pub use Rattle.readers.proofs.Naming.{is_same_register, names_is, names_self, other_register, same_register_self}
pub use Rattle.readers.proofs.Places.{AreFew, DiffersAt, all_listed, few_counted, numbers_for, one_listed, times_counted}
pub use Rattle.readers.proofs.Reading.{arena_place_end, arena_place_inst, operands_at_inst, read_in_block, read_in_inst, reads_written, same_place}
pub use Rattle.readers.proofs.Tables.{row_within}
pub use Rattle.readers.proofs.Totals.{use_count}
pub use Rattle.readers.specs.Changes.{changed_at, gone, inst_changed, inst_put, instead, put_in, replaced, replaced_at, with_inst_removed, without}
pub use Rattle.readers.specs.Counts.{AreCounted, HasNumbers, names, operands_at, register_of, times, times_in, times_in_function}
pub use Rattle.readers.specs.Readers.{HaveLists, IsPlaceIn, IsReader, arena_place, listed_for}
pub use Rattle.readers.specs.declared.uses.Readers.{Readers}
pub use Rattle.rewriter.proofs.Rooted.{is_bound, most_put}
pub use Rattle.rewriter.specs.Applied.{IsRewritten}
pub use Rattle.rewriter.specs.Laws.{RewrittenFunctionsMeetChecks}
pub use Rattle.rewriter.specs.Put.{argument_put, class_width, count_put, insts_of_op, insts_put, insts_with, is_copy, literal_of, operand_put, result_of_op, result_put, results_put}
pub use Rattle.rewriter.specs.Ready.{IsBound}
pub use Rattle.rule_core.proofs.Members.{flat_map-from}
pub use Rattle.rule_core.specs.Checks.{IsBeforeRoot, IsRule, SourceMayRead, TargetMayRead}
pub use Rattle.rule_core.specs.Terms.{constant_values, in_turn, value_at}
pub use Rattle.rule_core.specs.declared.rule.Argument.{Argument}
pub use Rattle.rule_core.specs.declared.rule.Formula.{Formula}
pub use Rattle.rule_core.specs.declared.rule.Rule.{Rule}
pub use Rattle.rule_core.specs.declared.rule.Statement.{Statement}
pub use Rattle.rule_matches.proofs.Joining.{pairs_first, pairs_later}
pub use Rattle.rule_typing.proofs.Among.{fails, holds}
pub use Rattle.rule_typing.proofs.Images.{Contains-map, from_map, get-map, get_from_map}
pub use Rattle.rule_typing.specs.Faults.{HasNoFault}
pub use Rattle.std.proofs.lemmas.Bool.{and_from, and_right, cases_Bool, cases_eq, cases_lt, cond-false, eq-eqb, iff_false, ne_eqb}
pub use Rattle.std.proofs.lemmas.List.{drop_all, get_or_append_left, get_or_default, get_or_past, get_or_push, length-map, length_push, map-append, nil_from_length, take_all}
pub use Rattle.std.proofs.lemmas.List.Elements.{All-append, All-contains, All-contains_itself, All-get_or, All-map, All-more, All-push, All-weaker, Contains-append_cases, Contains-append_left, Contains-append_right, Contains-get_or, Contains-push, Contains-push_cases, filter_agree}
pub use Rattle.std.proofs.lemmas.List.FromFn.{length-range_with_len}
pub use Rattle.std.proofs.lemmas.List.Kept.{AllPairs-cons}
pub use Rattle.std.proofs.lemmas.List.Sums.{sum_by-append, sum_by-cons}
pub use Rattle.std.proofs.lemmas.Option.{get_or_from_slice_get, none-some, same_Some, slice_get-get_or, slice_get-map, slice_get_cases, slice_get_past, slice_get_within, unwrap_or-slice_get}
pub use Rattle.std.proofs.lemmas.Result.{on_ok_weaker}
pub use Rattle.std.specs.List.{filter, filter_map, range_with_len}
pub use Rattle.std.specs.Option.{option_map_or}
pub use Rattle.std.specs.Prelude.{unwrap_or}
pub use Rattle.std.specs.Vec.Iter.{into_iter_items}
pub use Rattle.substitution.proofs.Assigning.{own_place}
pub use Rattle.substitution.proofs.Pieces.{get_cases, get_left, get_right, in_map, map_in}
pub use Rattle.substitution.proofs.Placing.{IsMoved, IsTheRoot, get_block, insts_other, insts_root, is_moved, stands_other, stands_root}
pub use Rattle.substitution.specs.Rewritten.{moved_place, rewritten_block, rewritten_blocks, rewritten_function, rewritten_insts, stands_for}
pub use Rattle.substitution.specs.Substitution.{Substitution, substituted_block, substituted_end, substituted_entries, substituted_inst, substituted_op, substituted_operand}
pub use Rattle.substitution.specs.declared.rewrite.Rewrite.{Rewrite}
pub use Rattle.use_counts.proofs.OneCount.{count_of_one, use_counts_are_one}
pub use Rattle.use_counts.specs.Tables.{count_of}
pub use Rattle.use_counts.specs.Uses.{IsNamedAt, IsUseCount, IsUsedOnce}
pub use Rattle.use_counts.specs.declared.uses.Uses.{Uses}
