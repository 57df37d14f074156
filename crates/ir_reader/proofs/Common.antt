-- What the proofs of this crate cite of definitions, of other crates and of the libraries, passed on from one place.
pub use Rattle.std.proofs.Common.{All, Bool, Contains, Err, IfOk, IfSome, IsSome, IsTrue, List, None, Ok, OnOk, Option, Result, Some, Vec, [], ap, append-nil, append_assoc, arith, cond, drop, false, get_or, if◌then◌else◌, inl, inr, is_some, length, length-append, map, nat_eq, not, option_map, refl, set, slice_get, subst, suc, sym, take, true, zero, ℕ, ◌&&◌, ◌++◌, ◌+◌, ◌-◌, ◌<◌, ◌==◌, ◌||◌, ◌↔◌, ◌∙◌, ◌∷◌, ◌≡◌, ◌≢◌, ◌≤◌, ◌⊎◌}
pub use Rattle.indexmap.proofs.CallerLemmas.{Contains-list_any}
pub use Rattle.indexmap.specs.IndexMap.{IndexMap, get}
pub use Rattle.indexmap.specs.IndexSet.{IndexSet, Updates, contains, insert_key}
pub use Rattle.ir_core.specs.Assigned.{IsAssigned, IsBefore, IsFirstUnassigned, ReadIsAssigned, ReadsAreAssigned}
pub use Rattle.ir_core.specs.Blocks.{IsBlock, Names, targets_of}
pub use Rattle.ir_core.specs.Checks.{EntriesFit, IsFormed, IsInst, IsPhi, MeetsChecks, ModuleMeetsChecks}
pub use Rattle.ir_core.specs.Reads.{IsRead, Read, end_of, read, reads_at, reads_at_end, reads_by, reads_in, reads_of}
pub use Rattle.ir_core.specs.Walks.{IsWalk}
pub use Rattle.ir_core.specs.declared.function.Block.{Block}
pub use Rattle.ir_core.specs.declared.function.Function.{Function}
pub use Rattle.ir_core.specs.declared.instruction.Inst.{Inst}
pub use Rattle.ir_core.specs.declared.instruction.Op.{Op}
pub use Rattle.ir_core.specs.declared.instruction.Op.TheVariants.{Binary, Compare, Convert, Freeze, Phi, Select}
pub use Rattle.ir_core.specs.declared.module.Entry.{Entry}
pub use Rattle.ir_core.specs.declared.module.Module.{Module}
pub use Rattle.ir_core.specs.declared.operand.Operand.{Operand}
pub use Rattle.ir_core.specs.declared.operand.Register.{Register}
pub use Rattle.ir_core.specs.declared.terminator.Terminator.{Terminator}
pub use Rattle.ir_instructions.proofs.Loops.{each-fault, each-more}
pub use Rattle.ir_instructions.proofs.TakenFlags.{taken_flags}
pub use Rattle.ir_instructions.specs.CallGrammar.{SpellsArguments, SpellsTruthOf}
pub use Rattle.ir_instructions.specs.Grammar.{SpellsIncoming, SpellsInst, SpellsOp}
pub use Rattle.ir_instructions.specs.Parts.{Each, Is, Part, Separated}
pub use Rattle.ir_instructions.specs.Readers.{each_at, fault}
pub use Rattle.ir_parse.proofs.Framing.{entry}
pub use Rattle.ir_parse.proofs.FunctionReadings.{entry_at-is}
pub use Rattle.ir_parse.proofs.FunctionSpellings.{entry_at-of, entry_is_next}
pub use Rattle.ir_parse.proofs.TakingParts.{entry-takes}
pub use Rattle.ir_parse.specs.Grammar.{SpellsBlock, SpellsBlocks, SpellsEntry, SpellsLabelledBlock}
pub use Rattle.ir_parse.specs.Laws.{TextsHaveOneReadingOrFault}
unfoldable pub use Rattle.ir_parse.specs.ModuleReaders.{entries_at}
pub use Rattle.ir_parse.specs.ModuleReaders.{begins_entry, entry_at, is_end, module_from}
pub use Rattle.ir_parse.specs.Text.{IsRaw, IsTextFault, misfit, most_bytes, too_long}
pub use Rattle.ir_reader.specs.EntriesRead.{Continues, HasLeft, HasRead, IsReadingOf}
pub use Rattle.ir_reader.specs.Faults.{AreEntriesOf, IsEntryOf, IsFault, IsFaultOfEntries, IsFaultOfEntry, IsFaultOfFunction, IsFunctionOf, IsModuleText, NoLineHas, ResolvesTo, bad_phi, entry_pred, functions_of, of_entries, of_names, of_text, unassigned}
pub use Rattle.ir_reader.specs.FlowFaults.{BadPhiAt, BadPhiHere, EntryPredAt, EntryPredHere, IsUnassignedFault}
pub use Rattle.ir_reader.specs.Laws.{TextsHaveOneModuleOrFault}
pub use Rattle.ir_reader.specs.Operands.{written_at, written_by}
pub use Rattle.ir_reader.specs.Phis.{OnlyPhisBefore, OpFits, PhiFits}
pub use Rattle.ir_reader.specs.Predecessors.{AddsOf, AddsTo, ArePredecessors, BadPhiIn, EntriesFitIn, FirstArePhis, Holds, OpFitsIn}
pub use Rattle.ir_reader.specs.RepeatedNames.{HasText, IsNameOf, MarksEntry}
pub use Rattle.ir_reader.specs.WellWritten.{IsWellWrittenEntry}
pub use Rattle.ir_reader.specs.declared.reading.Reading.{Reading}
pub use Rattle.ir_resolve.proofs.Checked.{contained_behind}
pub use Rattle.ir_resolve.proofs.Deciding.{FirstOf, dec_at, dec_both, dec_either, dec_not, dec_number, dec_one, first_at, first_by_place, first_moved, first_on, stable}
pub use Rattle.ir_resolve.proofs.Firsts.{Before, first_all_places, first_if, first_more_place, first_same}
pub use Rattle.ir_resolve.proofs.Resolved.{resolved}
pub use Rattle.ir_resolve.specs.FaultKinds.{HasNameOf}
pub use Rattle.ir_resolve.specs.Faults.{HasNoFault, IsFirstNameFault, MarksFunction}
pub use Rattle.ir_resolve.specs.FirstLines.{IsFirst, IsFirstLine}
pub use Rattle.ir_resolve.specs.Formed.{IsWellWritten, IsWellWrittenCall, IsWellWrittenOp}
pub use Rattle.ir_resolve.specs.Laws.{FunctionsHaveOneMeaningOrFault}
pub use Rattle.ir_resolve.specs.Means.{ArgumentsMean, BlockIsOf, BlockMeans, CaseMeans, EndMeans, IncomingMeans, InstMeans, Means, OpMeans, ValueMeans}
pub use Rattle.ir_resolve.specs.TypedReads.{Typed, read_at_end, read_by, read_by_call, typed}
pub use Rattle.ir_resolve.specs.Written.{Calls, Thing}
pub use Rattle.ir_tokens.specs.Order.{AreTokens}
pub use Rattle.ir_tokens.specs.ReaderPlaces.{HasCome, HasPassed, StandsIn}
pub use Rattle.ir_tokens.specs.SeenTokens.{seen, seen_placed}
pub use Rattle.ir_tokens.specs.Tokens.{End, Placed}
pub use Rattle.ir_tokens.specs.declared.called.Identifier.{Identifier}
pub use Rattle.ir_tokens.specs.declared.fault.IrFaultKind.{IrFaultKind}
pub use Rattle.ir_tokens.specs.declared.fault.IrFaultKind.TheVariants.{Duplicate, TypeClash}
pub use Rattle.ir_tokens.specs.declared.raw.RawArguments.{RawArguments}
pub use Rattle.ir_tokens.specs.declared.raw.RawBlock.{RawBlock}
pub use Rattle.ir_tokens.specs.declared.raw.RawCase.{RawCase}
pub use Rattle.ir_tokens.specs.declared.raw.RawEntry.{RawEntry}
pub use Rattle.ir_tokens.specs.declared.raw.RawFunction.{RawFunction}
pub use Rattle.ir_tokens.specs.declared.raw.RawIncoming.{RawIncoming}
pub use Rattle.ir_tokens.specs.declared.raw.RawInst.{RawInst}
pub use Rattle.ir_tokens.specs.declared.raw.RawModule.{RawModule}
pub use Rattle.ir_tokens.specs.declared.raw.RawOp.{RawOp}
pub use Rattle.ir_tokens.specs.declared.raw.RawOperand.{RawOperand}
pub use Rattle.ir_tokens.specs.declared.raw.RawTerminator.{RawTerminator}
pub use Rattle.ir_tokens.specs.declared.raw.RawValue.{RawValue}
pub use Rattle.ir_tokens.specs.declared.raw.TypedOperand.{TypedOperand}
pub use Rattle.ir_tokens.specs.declared.reader.TokenReader.{TokenReader}
pub use Rattle.ops.specs.Flags.{flags_of, flags_of_cast}
pub use Rattle.ops.specs.Number.{Number}
pub use Rattle.ops.specs.Truths.{has_truth}
pub use Rattle.refusal.specs.Refusals.{Fails, IfRefused}
pub use Rattle.refusal.specs.declared.fault.Fault.{Fault}
pub use Rattle.refusal.specs.declared.refusal.Refusal.{Refusal}
pub use Rattle.refusal.specs.declared.refusal.Refusal.TheVariants.{NoMemory, Refused}
pub use Rattle.std.proofs.Math.Decide.{dec_lt, map_dec}
pub use Rattle.std.proofs.Math.Seq.{take-append_seam}
pub use Rattle.std.proofs.lemmas.Bool.{cases_eq, cases_lt, eqb-true, false≢true}
pub use Rattle.std.proofs.lemmas.Bool.Decides.{eqb_tells}
pub use Rattle.std.proofs.lemmas.Cmp.{nat_eq_equiv}
pub use Rattle.std.proofs.lemmas.List.{length-map, length-set, map_more, nil_from_length, take-append-le, take_all, take_more}
pub use Rattle.std.proofs.lemmas.List.Elements.{Contains-append_cases, Contains-append_left, Contains-append_right, Contains-push, Contains-push_cases}
pub use Rattle.std.proofs.lemmas.List.Folds.{list_any-append}
pub use Rattle.std.proofs.lemmas.Map.Views.{list_any-from_Contains}
pub use Rattle.std.proofs.lemmas.Option.{get_or_from_slice_get, same_Some, slice_get-get_or, slice_get_past, slice_get_within}
pub use Rattle.std.proofs.lemmas.Result.{IfErr-weaker, err_from_is_err_and, on_ok_weaker}
pub use Rattle.std.proofs.lemmas.Slice.Eq.{bytes_eq-Decides}
pub use Rattle.std.specs.Bool.{then_some}
pub use Rattle.std.specs.List.{AllZip, list_any}
pub use Rattle.std.specs.Prelude.{unwrap_or}
pub use Rattle.std.specs.Str.{bytes_eq}
