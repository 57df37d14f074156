-- What the proofs of this crate cite of definitions, of other crates and of the libraries, passed on from one place.
pub use Rattle.std.proofs.Common.{All, AllPairs, Bool, Contains, Global, IsSome, List, None, Option, Some, Vec, [], ap, arith, cond, drop, eqb, false, get_or, get_or-set_other, get_or-set_same, inl, inr, length, length-append, map, option_and_then, option_map, refl, replicate, rules, set, slice_get, slice_set, subst, suc, sum_by, sym, take, true, vec_capacity, vec_len, zero, zero-add, ℕ, ◌++◌, ◌+◌, ◌-◌, ◌<◌, ◌^◌, ◌↔◌, ◌∙◌, ◌∷◌, ◌≡◌, ◌≤◌, ◌⊎◌}
pub use Rattle.assigned_flow.specs.Successors.{successors_of}
pub use Rattle.bindings.specs.Facts.{AreFactsOf}
pub use Rattle.bindings.specs.declared.facts.FunctionFacts.{FunctionFacts}
pub use Rattle.ir_core.specs.Blocks.{HasInst, IsBlock}
pub use Rattle.ir_core.specs.Checks.{IsKnown}
pub use Rattle.ir_core.specs.Names.{width_of}
pub use Rattle.ir_core.specs.Reads.{IsRead, Read, end_of, reads_at, reads_at_end, reads_by, reads_in}
pub use Rattle.ir_core.specs.declared.function.Block.{Block}
pub use Rattle.ir_core.specs.declared.function.Function.{Function}
pub use Rattle.ir_core.specs.declared.function.Parameter.{Parameter}
pub use Rattle.ir_core.specs.declared.instruction.Inst.{Inst}
pub use Rattle.ir_core.specs.declared.operand.Operand.{Operand}
pub use Rattle.ir_core.specs.declared.operand.Register.{Register}
pub use Rattle.ir_core.specs.declared.terminator.Terminator.{Terminator}
pub use Rattle.needed.proofs.Counting.{contained_at, contains_at, contains_first, contains_later, mapped}
pub use Rattle.needed.proofs.Reading.{end_of-is}
pub use Rattle.needed.proofs.SearchLemmas.{end_reads, inst_reads}
pub use Rattle.needed.specs.Needed.{ReadsRegister}
pub use Rattle.needed.specs.Operands.{operands_at_end, operands_of}
pub use Rattle.places.specs.Orders.{none}
pub use Rattle.places.specs.declared.place.Place.{Place}
pub use Rattle.readers.specs.Changes.{changed_at, end_changed, inst_changed, inst_put, same_register}
pub use Rattle.readers.specs.Counts.{AreCounted, HasNumbers, IsSetTo, names, operands_at, register_of, times, times_in, times_in_function}
pub use Rattle.readers.specs.Readers.{AreListed, AreReadersOf, HasList, HaveLists, IsListSetTo, IsListed, IsListedAmong, IsPlaceIn, IsReader, arena_place, listed_for}
pub use Rattle.readers.specs.declared.uses.Readers.{Readers}
pub use Rattle.std.proofs.lemmas.Bool.{and_from, and_parts, both_ways, cases_Bool, cases_eq, cases_lt, cond-false, cond-true, eq-eqb, eqb-true, false_from_ne_true, false≢true, ne_eqb}
pub use Rattle.std.proofs.lemmas.List.{append-nil, append_assoc, drop-set-lt, drop_more, get_or-replicate, get_or_default, get_or_past, length-map, length-replicate, length-set, set-get_or, take_all, take_more, take_more_set}
pub use Rattle.std.proofs.lemmas.List.Elements.{Contains-append_cases, Contains-append_left, Contains-append_right, Contains-get_or, Contains-push, Contains-push_cases, filter_map-append}
pub use Rattle.std.proofs.lemmas.List.Sums.{get_or-le-sum_by, sum_by-cons, sum_by-set, sum_by_more, sum_by_more_le}
pub use Rattle.std.proofs.lemmas.Option.{get_or_from_slice_get, same_Some, slice_get-get_or, slice_get-map, slice_get_cases, slice_get_within, unwrap_or-slice_get}
pub use Rattle.std.proofs.lemmas.Result.{on_err_weaker, on_ok_weaker}
pub use Rattle.std.specs.List.{filter_map}
pub use Rattle.std.specs.Prelude.{unwrap_or}
pub use Rattle.substitution.proofs.Mapping.{Mapped, map_more}
pub use Rattle.substitution.specs.Substitution.{substituted_operand}
pub use Rattle.use_counts.proofs.OneCount.{use_counts_are_one}
pub use Rattle.use_counts.specs.Tables.{AreCounts, HasNumber, count_of}
pub use Rattle.use_counts.specs.Uses.{IsNamedAt, IsUseCount, StandsBefore, UsePlace}
pub use Rattle.use_counts.specs.declared.uses.Uses.{Uses}
