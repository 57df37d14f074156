-- What the proofs of this crate cite of definitions, of other crates and of the libraries, passed on from one place.
pub use Rattle.std.proofs.Common.{All, Bool, Contains, Err, IfOk, List, None, Ok, Option, Result, Some, [], ap, arith, cond, false, get_or, inl, inr, length, map, option_map, refl, slice_get, subst, suc, sym, take, true, zero, ℕ, ◌++◌, ◌+◌, ◌-◌, ◌<◌, ◌^◌, ◌↔◌, ◌∙◌, ◌∷◌, ◌≡◌, ◌≤◌, ◌⊎◌}
pub use Rattle.bindings.specs.Match.{IsMatch}
pub use Rattle.bindings.specs.declared.binding.Binding.{Binding}
pub use Rattle.changes.specs.Calls.{AreChangesOfRule, kept_moves, rewritten_moves, root_is_copy}
pub use Rattle.changes.specs.Changed.{AreChanges, Came, IsChanged, IsUnchanged, Went, register_then}
pub use Rattle.changes.specs.Listing.{IsIn, IsPast, IsPutFor, Listed, ListedTo, ReadsRoot}
pub use Rattle.changes.specs.Places.{AreAscending, StandsBefore}
pub use Rattle.changes.specs.declared.applying.Put.{Put}
pub use Rattle.changes.specs.declared.changed.Changes.{Changes}
pub use Rattle.ir_core.specs.Blocks.{HasInst, IsBlock}
pub use Rattle.ir_core.specs.Checks.{IsInst, MeetsChecks}
pub use Rattle.ir_core.specs.Names.{Name}
pub use Rattle.ir_core.specs.Reads.{end_of}
pub use Rattle.ir_core.specs.declared.function.Block.{Block}
pub use Rattle.ir_core.specs.declared.function.Function.{Function}
pub use Rattle.ir_core.specs.declared.instruction.Inst.{Inst}
pub use Rattle.ir_core.specs.declared.instruction.Op.{Op}
pub use Rattle.ir_core.specs.declared.instruction.Op.TheVariants.{Binary, Compare, Convert, Freeze, Phi, Select, Unary}
pub use Rattle.ir_core.specs.declared.operand.Operand.{Operand}
pub use Rattle.ir_core.specs.declared.operand.Register.{Register}
pub use Rattle.ir_meaning.proofs.Equations.{one_inst}
pub use Rattle.ir_meaning.proofs.Pieces.{some_at}
pub use Rattle.ir_meaning.specs.HistoryLaws.{NumbersFit}
pub use Rattle.needed.proofs.Checking.{cleaned_meets}
pub use Rattle.needed.proofs.Counting.{IsKept, contained_at, contains_at, contains_first, contains_later, kept_at, kept_back}
pub use Rattle.needed.proofs.Reading.{end_of-is}
pub use Rattle.needed.proofs.SearchLemmas.{AllKnown, inst_reads, read_has}
pub use Rattle.needed.specs.Cleaned.{IsCleaned, KeepsNeeded}
pub use Rattle.needed.specs.KeptFunction.{KeptMarks, kept_before, kept_block, kept_blocks, kept_function, kept_insts, moved_inst, moved_op, moved_operand, moved_register}
pub use Rattle.needed.specs.Needed.{IsNeeded, ReadsRegister, by_inst}
pub use Rattle.needed.specs.Operands.{operands_of}
pub use Rattle.places.specs.Orders.{none}
pub use Rattle.places.specs.Sets.{Has, IsAdded, Rows}
pub use Rattle.places.specs.declared.place.Place.{Place}
pub use Rattle.readers.proofs.Naming.{is_same_register}
pub use Rattle.readers.proofs.Reading.{operands_at_inst, written_reads}
pub use Rattle.readers.specs.Counts.{operands_at}
pub use Rattle.rewriter.proofs.Fitting.{rewrite_fits}
pub use Rattle.rewriter.proofs.Placed.{all_aligned, put_length}
pub use Rattle.rewriter.proofs.Putting.{count_more, put_before, result_at, result_is, result_put_at, results}
pub use Rattle.rewriter.proofs.Rooted.{most_put}
pub use Rattle.rewriter.specs.Applied.{IsRewritten}
pub use Rattle.rewriter.specs.Put.{insts_put, is_copy, rewrite_of}
pub use Rattle.rule_core.specs.Checks.{IsRule}
pub use Rattle.rule_core.specs.declared.rule.Rule.{Rule}
pub use Rattle.rule_core.specs.declared.rule.Statement.{Statement}
pub use Rattle.std.proofs.lemmas.Bool.{both_ways, cases_Bool, cases_eq}
pub use Rattle.std.proofs.lemmas.List.{take_all, take_more}
pub use Rattle.std.proofs.lemmas.List.Elements.{All-get_or, Contains-append_left, Contains-get_or, Contains-push, Contains-push_cases}
pub use Rattle.std.proofs.lemmas.List.Quantifiers.{all_pairs_push}
pub use Rattle.std.proofs.lemmas.Option.{get_or_from_slice_get, same_Some, slice_get-get_or, slice_get_within}
pub use Rattle.std.specs.Option.{option_map_or}
pub use Rattle.std.specs.Prelude.{unwrap_or}
pub use Rattle.substitution.proofs.Arriving.{same_or_other}
pub use Rattle.substitution.proofs.Checking.{meets_checks}
pub use Rattle.substitution.proofs.Placing.{IsTheRoot, inst_back, inst_on, is_moved, length-block, moved_below, moved_no_put, other_is, put_on, root_is, stands_other, stands_root}
pub use Rattle.substitution.specs.Rewritten.{moved_place, rewritten_block, rewritten_blocks, rewritten_function, rewritten_insts, root_of, stands_for}
pub use Rattle.substitution.specs.Substitution.{Substitution, substituted_entries, substituted_inst, substituted_op, substituted_operand}
pub use Rattle.substitution.specs.declared.rewrite.Rewrite.{Rewrite}
