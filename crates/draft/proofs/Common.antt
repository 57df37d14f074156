-- What the proofs of this crate cite of definitions, of other crates and of the libraries, passed on from one place.
pub use Rattle.std.proofs.Common.{All, Bool, Contains, IsFalse, List, None, Option, Some, [], ap, arith, cond, drop, eqb, false, get_or, get_or-set_other, get_or-set_same, inl, inr, length, map, min, option_map, option_to_list, refl, replicate, set, slice_get, slice_set, subst, suc, sym, take, true, zero, ℕ, ◌++◌, ◌+◌, ◌-◌, ◌<◌, ◌^◌, ◌↔◌, ◌∙◌, ◌∷◌, ◌≡◌, ◌≤◌, ◌⊎◌}
pub use Rattle.assigned_flow.specs.Successors.{successors_of}
pub use Rattle.bindings.specs.Facts.{AreFactsOf}
pub use Rattle.bindings.specs.declared.facts.FunctionFacts.{FunctionFacts}
pub use Rattle.draft.specs.Drafts.{Stands, block_of, blocks_of, function_of, insts_of, numbers_in, numbers_of, orders_of, placed, standing, standing_in}
pub use Rattle.draft.specs.KeptOrders.{KeepsOrders}
pub use Rattle.draft.specs.Placing.{AreOrdered, IsOrdering, at_places}
pub use Rattle.draft.specs.Whole.{AreRowsOf, HasNoCycles, HasNoPhi, IsSettled, IsWhole}
pub use Rattle.draft.specs.declared.draft.Draft.{Draft}
pub use Rattle.draft.specs.declared.draft.Tables.{Tables}
pub use Rattle.ir_core.specs.Blocks.{HasInst, IsBlock, Names, targets_of}
pub use Rattle.ir_core.specs.Checks.{IsKnown, IsPhi, MeetsChecks}
pub use Rattle.ir_core.specs.Reads.{IsRead, Read}
pub use Rattle.ir_core.specs.Walks.{IsReached, IsWalk}
pub use Rattle.ir_core.specs.declared.function.Block.{Block}
pub use Rattle.ir_core.specs.declared.function.Function.{Function}
pub use Rattle.ir_core.specs.declared.instruction.Inst.{Inst}
pub use Rattle.ir_core.specs.declared.instruction.Op.{Op}
pub use Rattle.ir_core.specs.declared.instruction.Op.TheVariants.{Binary, Compare, Convert, Freeze, Phi, Select, Unary}
pub use Rattle.ir_core.specs.declared.operand.Operand.{Operand}
pub use Rattle.ir_core.specs.declared.operand.Register.{Register}
pub use Rattle.ir_core.specs.declared.terminator.Terminator.{Terminator}
pub use Rattle.ir_meaning.proofs.Pieces.{first_in, later_in, some_at}
pub use Rattle.needed.proofs.Counting.{contained_at, contains_at, contains_first, mapped}
pub use Rattle.needed.proofs.NumberLemmas.{item_read}
pub use Rattle.needed.proofs.Reading.{end_of-is}
pub use Rattle.needed.specs.Operands.{operands_at_end, operands_of}
pub use Rattle.places.proofs.Members.{contains_none, contains_tail, place-here, place-later, put-has, put-here, put-later}
pub use Rattle.places.proofs.Ranks.{numbered-block}
pub use Rattle.places.specs.Heaps.{IsHeap, IsNumbered, nowhere, place_at}
pub use Rattle.places.specs.Orders.{none, place_in, put_before}
pub use Rattle.places.specs.declared.place.Place.{Place}
pub use Rattle.readers.proofs.Changing.{HasAll, changed_cases, changed_here, changed_length, changed_other, changed_sum, has_known, inst_there, known_has, known_kept}
pub use Rattle.readers.proofs.Counting.{only_one}
pub use Rattle.readers.proofs.Naming.{is_same_register, other_register, same_register_is, same_register_self}
pub use Rattle.readers.proofs.Places.{AreFew, AreKnown, DiffersAt, IsListedToo, few_counted, is_same_place, known_reads, numbers_for, reads_known, still_facts, still_known, still_readers, times_counted}
pub use Rattle.readers.proofs.Reading.{operands_at_inst, operands_at_terminator, reads_written, same_place, written_reads}
pub use Rattle.readers.proofs.Tables.{row_within}
pub use Rattle.readers.proofs.Totals.{counts_are_times, times_are_counts}
pub use Rattle.readers.specs.Changes.{changed_at, end_changed, gone, inst_changed, inst_put, instead, put_in, replaced, replaced_at, same_register, with_block, with_inst_removed, without}
pub use Rattle.readers.specs.Counts.{AreCounted, HasNumbers, operands_at, times, times_in, times_in_function}
pub use Rattle.readers.specs.Readers.{AreListed, AreReadersOf, HasList, IsListSetTo, IsPlaceIn, IsReader, arena_place, listed_for}
pub use Rattle.readers.specs.declared.uses.Readers.{Readers}
pub use Rattle.std.proofs.lemmas.Bool.{cases_Bool, cases_eq, cases_lt, cond-false, cond-true, eq-eqb, ne_eqb}
pub use Rattle.std.proofs.lemmas.List.{append-nil, append_assoc, drop-set-lt, drop_more, get_or-replicate, get_or_append_left, get_or_default, get_or_past, get_or_push, length-map, length-replicate, length-take, length_push, map_more, take_all, take_more, take_more_set}
pub use Rattle.std.proofs.lemmas.List.Elements.{All-contains, All-weaker}
pub use Rattle.std.proofs.lemmas.List.FromFn.{get_or-range_with_len, length-range_with_len}
pub use Rattle.std.proofs.lemmas.List.Sums.{sum_by_push}
pub use Rattle.std.proofs.lemmas.Option.{get_or_from_slice_get, none-some, same_Some, slice_get-get_or, slice_get-map, slice_get_cases, slice_get_within}
pub use Rattle.std.proofs.lemmas.Result.{on_ok_weaker}
pub use Rattle.std.specs.List.{range_with_len}
pub use Rattle.substitution.specs.Substitution.{Substitution, substituted_block, substituted_end, substituted_entries, substituted_inst, substituted_op, substituted_operand}
pub use Rattle.use_counts.specs.Tables.{HasNumber, count_of}
pub use Rattle.use_counts.specs.declared.uses.Uses.{Uses}
