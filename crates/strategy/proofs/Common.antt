-- What the proofs of this crate cite of definitions, of other crates and of the libraries, passed on from one place.
pub use Rattle.std.proofs.Common.{All, Any, Bool, Contains, List, MatchBool, None, OnOk, Option, Some, [], ap, append-nil, append_assoc, arith, false, get_or, if◌then◌else◌, inl, inr, length, map, not, option_and_then, option_map, refl, slice_get, subst, suc, sym, take, true, zero, ℕ, ◌&&◌, ◌*◌, ◌++◌, ◌+◌, ◌-◌, ◌<◌, ◌==◌, ◌^◌, ◌↔◌, ◌∙◌, ◌∷◌, ◌≡◌, ◌≤◌, ◌⊎◌}
pub use Rattle.bindings.proofs.Reading.{reads_at_inst}
pub use Rattle.bindings.specs.Facts.{AreFactsOf}
pub use Rattle.bindings.specs.Match.{MatchesWhere}
pub use Rattle.bindings.specs.Known.{AskBits, AsksBitsOf, Knowledge, known_by}
pub use Rattle.bindings.specs.Matches.{AreMatches, AreMatchesInAnyOrder, AreMatchesWhere, ComesBefore, IsAt, IsMatchAmong, IsMatchInAnyOrder, MatchesAmong}
pub use Rattle.bindings.specs.Ready.{AreReady}
pub use Rattle.bindings.specs.declared.binding.Binding.{Binding}
pub use Rattle.bindings.specs.declared.rule_match.Match.{Match}
pub use Rattle.draft.proofs.Reached.{reached_along}
pub use Rattle.draft.proofs.Wholeness.{counted_insts, stands_there}
pub use Rattle.draft.specs.Drafts.{AreTouched, HasRoomFor, Reaches, Stands, StandsBefore, arena_of, blocks_of, function_of, numbers_in, numbers_of, orders_of, placed, placed_binding}
pub use Rattle.draft.specs.Whole.{IsSettled}
pub use Rattle.draft.specs.declared.draft.Draft.{Draft}
pub use Rattle.draft_bits.proofs.Untouched.{still_known}
pub use Rattle.draft_bits.specs.DraftBits.{AreBitsBefore, AreBitsOf, HasSameBits, facts_at, results_at}
pub use Rattle.draft_bits.specs.Laws.{DraftBitsAreKnownBits}
pub use Rattle.draft_bits.specs.declared.bits.DraftBits.{DraftBits}
pub use Rattle.draft_steps.proofs.Arranged.{is_arranged}
pub use Rattle.draft_steps.proofs.Places.{inst_on, number_at, reached_back, reached_on}
pub use Rattle.draft_steps.proofs.Rows.{number_there}
pub use Rattle.draft_steps.proofs.SameDrafts.{same_numbers, stood}
pub use Rattle.draft_steps.proofs.Unchanged.{still_clean, still_settled}
pub use Rattle.draft_steps.specs.Arranged.{AreArranged, KnowsTheFunction, arranged, row_of}
pub use Rattle.draft_steps.specs.DeadCode.{AllNeeded}
pub use Rattle.draft_steps.specs.DraftWorklists.{ComesNext, IsWorklistOf, members_of, size_of}
pub use Rattle.draft_steps.specs.MatchLaws.{AreSourcesWithin, KnowsTheUntouched, MatchesOfTheArena, MatchesOfTheUntouched, placed_match}
pub use Rattle.draft_steps.specs.Walks.{IsSameDraft}
pub use Rattle.fold_branch.proofs.Again.{all_stay, folded_is_folded, none_chosen}
pub use Rattle.fold_branch.proofs.FoldedBlocks.{length-folded_blocks}
pub use Rattle.fold_branch.proofs.Staying.{staying_reached}
pub use Rattle.fold_branch.specs.Choices.{chosen, decided, decided_block, decided_end, jump_or, literal}
pub use Rattle.fold_branch.specs.Folded.{AreReached, IsFolded, choices_of, folded_as, folded_block, folded_blocks, folded_function, folded_inst, folded_op, staying}
pub use Rattle.fold_branch.specs.Laws.{CleanedFunctionsStayFolded}
pub use Rattle.ir_core.specs.Blocks.{HasInst, IsBlock, Names, targets_of}
pub use Rattle.ir_core.specs.Checks.{IsInst, IsKnown, IsPhi, MeetsChecks, ModuleMeetsChecks}
pub use Rattle.ir_core.specs.Names.{Name}
pub use Rattle.ir_core.specs.Reads.{Read, end_of, reads_of}
pub use Rattle.ir_core.specs.Run.{branch_target, switch_target}
pub use Rattle.ir_core.specs.Walks.{IsReached}
pub use Rattle.ir_core.specs.declared.function.Block.{Block}
pub use Rattle.ir_core.specs.declared.function.Function.{Function}
pub use Rattle.ir_core.specs.declared.instruction.Inst.{Inst}
pub use Rattle.ir_core.specs.declared.instruction.Op.{Op}
pub use Rattle.ir_core.specs.declared.instruction.Op.TheVariants.{Binary, Compare, Convert, Freeze, Phi, Select, Unary}
pub use Rattle.ir_core.specs.declared.module.Entry.{Entry}
pub use Rattle.ir_core.specs.declared.module.Module.{Module}
pub use Rattle.ir_core.specs.declared.operand.Operand.{Operand}
pub use Rattle.ir_core.specs.declared.operand.Register.{Register}
pub use Rattle.ir_core.specs.declared.terminator.Terminator.{Terminator}
pub use Rattle.ir_meaning.proofs.Equations.{one_inst}
pub use Rattle.ir_meaning.proofs.Pieces.{contains_at, first_in, later_in, some_at}
pub use Rattle.ir_meaning.specs.HistoryLaws.{NumbersFit}
pub use Rattle.needed.proofs.Counting.{IsKept, block_at, block_back, kept_at, kept_back}
pub use Rattle.needed.proofs.Reading.{has_inst}
pub use Rattle.needed.proofs.SearchLemmas.{end_reads, inst_reads}
pub use Rattle.needed.specs.Cleaned.{IsCleaned, KeepsNeeded}
pub use Rattle.needed.specs.KeptFunction.{KeptMarks, kept_before, kept_block, kept_blocks, kept_first, kept_function, kept_insts, moved_end, moved_inst, moved_op, moved_operand, moved_register}
pub use Rattle.needed.specs.Needed.{IsNeeded, ReadsRegister, by_end, by_inst}
pub use Rattle.needed.specs.Operands.{operands_at_end, operands_of}
pub use Rattle.places.specs.Orders.{place_in}
pub use Rattle.places.specs.Sets.{Has, IsPlace, IsRemoved, Rows}
pub use Rattle.places.specs.declared.place.Place.{Place}
pub use Rattle.readers.proofs.Changing.{inst_there, known_has}
pub use Rattle.readers.proofs.Reading.{arena_place_end, read_in_block, reads_written, written, written_reads}
pub use Rattle.readers.specs.Readers.{IsPlaceIn, arena_place, listed_for}
pub use Rattle.rewriter.specs.Applied.{IsRewritten}
pub use Rattle.rewriter.specs.Put.{argument_put, class_width, insts_of_op, insts_put, operand_put, result_of_op, result_put, results_put, rewrite_of}
pub use Rattle.rule_core.proofs.Turns.{at_place}
pub use Rattle.rule_core.specs.Checks.{IsRule}
pub use Rattle.rule_core.specs.Terms.{in_turn}
pub use Rattle.rule_core.specs.Valid.{IsValid}
pub use Rattle.rule_core.specs.declared.rule.Register.{Register as RuleRegister}
pub use Rattle.rule_core.specs.declared.rule.Rule.{Rule}
pub use Rattle.rule_core.specs.declared.rule.Statement.{Statement}
pub use Rattle.rule_matches.proofs.Joining.{everywhere, none_where, same_where}
pub use Rattle.rule_matches.proofs.Rooting.{before_end}
pub use Rattle.rule_matches.specs.declared.matches.Rules.{Rules}
pub use Rattle.rule_typing.proofs.Among.{SoFar, fails, holds, one_further}
pub use Rattle.rule_typing.proofs.Images.{Contains-map, from_map, get-map, map-map}
pub use Rattle.rule_typing.specs.Classes.{IsClassified}
pub use Rattle.rule_typing.specs.Faults.{HasNoFault}
pub use Rattle.std.proofs.lemmas.Bool.{and_parts, cases_eq, cases_lt, eqb-true}
pub use Rattle.std.proofs.lemmas.List.{length-append, length-map, map-append, take-map, take_all, take_more}
pub use Rattle.std.proofs.lemmas.List.Elements.{All-cons, All-contains, All-head, All-tail, Contains-get_or}
pub use Rattle.std.proofs.lemmas.Option.{get_or_from_slice_get, none-some, same_Some, slice_get-get_or, slice_get_read, slice_get_within}
pub use Rattle.std.proofs.lemmas.Result.{IfOk-weaker, on_ok_weaker}
pub use Rattle.std.specs.Option.{option_map_or}
pub use Rattle.strategy.specs.Asking.{MayAsk}
pub use Rattle.strategy.specs.Folding.{GivesNoNumber, HasNothingToFold, IsPutAsNoNumber, IsRewrittenAt, KeepsChoices, PutsNoNumber}
pub use Rattle.strategy.specs.Entries.{EntriesAreReady, EntryIsReady, OptimisesEntries, OptimisesEntry}
pub use Rattle.strategy.specs.Frontiers.{AreTurnedDownAt, AreTurnedDownBut, AsksAt, HasBitsFor, IsFrontier, IsSteppedAt, LooksAt, Nowhere, PlaceOf, SearchesTo}
pub use Rattle.strategy.specs.Searches.{OptimisesFunction, OptimisesTidied, StepsOrEnds}
pub use Rattle.strategy.specs.declared.module.Counts.{Counts}
pub use Rattle.strategy_core.proofs.Numbers.{cleaned_numbers_fit, folded_numbers_fit}
pub use Rattle.strategy_core.specs.Asked.{AreFirstAsked, IsAdmitted, IsTurnedDown, Pair, pair_in, pair_of}
pub use Rattle.strategy_core.specs.Countable.{IsCountable, ModuleIsCountable}
pub use Rattle.strategy_core.specs.Laws.{AdmittedAreValid, ModuleNumbersFit}
pub use Rattle.strategy_core.specs.PlainStrategy.{AreOptimised, ComesOf, IsLastSearch, IsOptimised, IsPlainStrategy, IsStep, IsTidied, by_step, function, kept}
pub use Rattle.substitution.proofs.Passing.{names_back, names_on}
pub use Rattle.substitution.proofs.Placing.{IsMoved, is_moved, length-block}
pub use Rattle.substitution.specs.Rewritten.{is_root, moved_place, rewritten_block, rewritten_blocks, rewritten_function, rewritten_insts, stands_for}
pub use Rattle.substitution.specs.Substitution.{Substitution, substituted_end, substituted_entries, substituted_inst, substituted_op, substituted_operand}
pub use Rattle.substitution.specs.declared.rewrite.Rewrite.{Rewrite}
pub use Rattle.asked_verdicts.proofs.Growing.{admitted_stays, all_turned_down_stay, any_admitted_stays}
pub use Rattle.asked_verdicts.proofs.Parts.{IsPast, asks_again, asks_first, asks_these, nothing_past, past_all, past_block, past_first, past_place}
pub use Rattle.asked_verdicts.proofs.Sequence.{asks_both, asks_nothing, row_stays, still_verdicts}
pub use Rattle.asked_verdicts.specs.Asks.{AreVerdictsOn, Asks, AsksAll, AsksUpTo, IsAnywhere}
pub use Rattle.verdict.specs.Honest.{IsHonest}
pub use Rattle.asked_verdicts.specs.Parts.{AsksToPlace}
pub use Rattle.asked_verdicts.specs.Stored.{IsUnrefutedIn}
pub use Rattle.verdict.specs.Table.{IsHonestRow, IsHonestTable}
pub use Rattle.asked_verdicts.specs.declared.stored.StoredLogs.{StoredLogs}
pub use Rattle.asked_verdicts.specs.declared.verdicts.Verdicts.{Verdicts}
pub use Rattle.verdict_core.specs.declared.verdicts.Row.{Row}
pub use Rattle.verdict_core.specs.declared.verdicts.Verdict.{Verdict}
