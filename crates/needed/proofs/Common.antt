-- What the proofs of this crate cite of definitions, of other crates and of the libraries, passed on from one place.
pub use Rattle.std.proofs.Common.{All, Bool, Contains, Global, IsSome, List, None, Option, Some, Vec, [], ap, append-nil, append_assoc, arith, cond, count_by, drop, false, get_or, inl, inr, length, length-append, map, option_and_then, option_map, refl, slice_get, subst, suc, sym, take, true, zero, ℕ, ◌&&◌, ◌*◌, ◌++◌, ◌+◌, ◌-◌, ◌<◌, ◌==◌, ◌↔◌, ◌∙◌, ◌∷◌, ◌≡◌, ◌≤◌, ◌⊎◌}
pub use Rattle.ir_core.specs.Assigned.{IsAssigned, ReadIsAssigned}
pub use Rattle.ir_core.specs.Blocks.{HasInst, IsBlock, Names, targets_of}
pub use Rattle.ir_core.specs.Checks.{CasesFit, EntriesFit, IsFormed, IsInst, IsKnown, IsPhi, IsTyped, MeetsChecks, NamesDiffer, OperandHasWidth}
pub use Rattle.ir_core.specs.Names.{block_names, names_of, width_of}
pub use Rattle.ir_core.specs.Reads.{IsRead, Read, end_of, read, reads_at, reads_at_end, reads_by, reads_in, reads_of}
pub use Rattle.ir_core.specs.Refines.{AllowsOutcome, AreArguments, EntriesRefine, EntryRefines, Refines}
pub use Rattle.ir_core.specs.Run.{AnyNumber, EndGives, Ending, Enters, Follows, Freezes, Goes, GoesOn, IfPhi, Leads, OpGives, OperandGives, Passes, PhiGives, Registers, Returns, RunsFrom, Starts, Undefines, arguments, branch_target, breaks_noundef, going_by, has_noundef, holding, returning, switch_target}
pub use Rattle.ir_core.specs.Walks.{IsWalk}
pub use Rattle.ir_core.specs.declared.function.Block.{Block}
pub use Rattle.ir_core.specs.declared.function.Function.{Function}
pub use Rattle.ir_core.specs.declared.function.Parameter.{Parameter}
pub use Rattle.ir_core.specs.declared.instruction.Inst.{Inst}
pub use Rattle.ir_core.specs.declared.instruction.Op.{Op}
pub use Rattle.ir_core.specs.declared.instruction.Op.TheVariants.{Binary, Compare, Convert, Freeze, Phi, Select, Unary}
pub use Rattle.ir_core.specs.declared.module.Entry.{Entry}
pub use Rattle.ir_core.specs.declared.operand.Operand.{Operand}
pub use Rattle.ir_core.specs.declared.operand.Register.{Register}
pub use Rattle.ir_core.specs.declared.outcome.Outcome.{Outcome}
pub use Rattle.ir_core.specs.declared.terminator.Terminator.{Terminator}
pub use Rattle.needed.specs.Cleaned.{EntriesCleaned, EntryCleaned, IsCleaned, KeepsNeeded}
pub use Rattle.needed.specs.InstNumbers.{AreNumbers, BlockIsNumbered, IsNumbered, insts_before, marks_by, number_of}
pub use Rattle.needed.specs.KeptFunction.{KeptMarks, kept_before, kept_block, kept_blocks, kept_first, kept_function, kept_insts, moved_end, moved_inst, moved_op, moved_operand, moved_register}
pub use Rattle.needed.specs.Laws.{CleanedModulesMeetChecks, CleanedModulesRefine, CleanedNumbersWereThere}
pub use Rattle.needed.specs.Needed.{IsNeeded, ReadsRegister, by_end, by_inst}
pub use Rattle.needed.specs.NeededMarks.{AreCounts, IsMarked, IsSearched, IsSound, Marked, unmarked}
pub use Rattle.needed.specs.Operands.{operands_at_end, operands_of}
pub use Rattle.needed.specs.declared.search.Search.{Search}
pub use Rattle.ops.proofs.Values.{AllowsValue-refl}
pub use Rattle.ops.specs.Comparison.{comparison, selection}
pub use Rattle.ops.specs.Conversion.{conversion}
pub use Rattle.ops.specs.Instruction.{instruction}
pub use Rattle.ops.specs.Number.{Number}
pub use Rattle.ops.specs.Unary.{unary}
pub use Rattle.ops.specs.declared.value.Effect.{Effect}
pub use Rattle.ops.specs.declared.value.Value.{Value}
pub use Rattle.std.proofs.Math.ListN.{length-set, set}
pub use Rattle.std.proofs.Math.Seq.{drop-cons}
pub use Rattle.std.proofs.lemmas.Bool.{and_from, and_right, cases_Bool, cases_eq, eq-eqb, eqb-true, ne_eqb}
pub use Rattle.std.proofs.lemmas.List.{drop-set-lt, get_or-set_other, get_or-set_same, get_or_default, length_push, map-append, take_more}
pub use Rattle.std.proofs.lemmas.List.Elements.{All-get_or, Contains-append_cases, Contains-append_left, Contains-append_right, Contains-push, Contains-push_cases}
pub use Rattle.std.proofs.lemmas.List.Sums.{count_by_more_no, count_by_more_yes, sum_by-set, sum_by_more}
pub use Rattle.std.proofs.lemmas.Nat.{pow_pos}
pub use Rattle.std.proofs.lemmas.Option.{get_or_from_slice_get, same_Some, slice_get-get_or, slice_get-map, slice_get_past, slice_get_read, slice_get_within}
pub use Rattle.std.specs.List.{flat_map}
pub use Rattle.std.specs.Prelude.{unwrap_or}
