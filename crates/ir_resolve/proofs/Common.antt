-- What the proofs of this crate cite of definitions, of other crates and of the libraries, passed on from one place.
pub use Rattle.std.proofs.Common.{All, Bool, Contains, IsTrue, List, None, Option, Some, [], ap, append-nil, append_assoc, arith, cond, false, get_or, inl, inr, is_some, leb, length, map, nat_eq, not, option_and_then, option_map, refl, rules, slice_get, subst, suc, sym, take, true, zero, ℕ, ◌&&◌, ◌++◌, ◌+◌, ◌<◌, ◌==◌, ◌||◌, ◌↔◌, ◌∙◌, ◌∷◌, ◌≡◌, ◌≢◌, ◌≤◌, ◌⊎◌}
pub use Rattle.indexmap.proofs.CallerLemmas.{insert_entry-new}
pub use Rattle.indexmap.proofs.ReorderLemmas.{zip_push}
pub use Rattle.indexmap.specs.IndexMap.{IndexMap, get, insert_entry}
pub use Rattle.indexmap.specs.IndexSet.{contains}
pub use Rattle.ir_core.specs.Blocks.{IsBlock, Names}
pub use Rattle.ir_core.specs.Checks.{CasesDiffer, CasesFit, IsInst, IsKnown, IsTyped, NamesDiffer, OperandHasWidth}
pub use Rattle.ir_core.specs.Names.{Name, block_names, names_of, width_of}
pub use Rattle.ir_core.specs.Reads.{IsRead, Read, end_of, read, reads_at_end, reads_by, reads_in}
pub use Rattle.ir_core.specs.declared.function.Function.{Function}
pub use Rattle.ir_core.specs.declared.function.Parameter.{Parameter}
pub use Rattle.ir_core.specs.declared.instruction.Inst.{Inst}
pub use Rattle.ir_core.specs.declared.instruction.Op.{Op}
pub use Rattle.ir_core.specs.declared.operand.Operand.{Operand}
pub use Rattle.ir_core.specs.declared.operand.Register.{Register}
pub use Rattle.ir_core.specs.declared.terminator.Terminator.{Terminator}
pub use Rattle.ir_resolve.specs.Definitions.{Defined, block_defined, blocks_defined, definitions_of, parameter_defined, parameters_defined, result_defined, results_defined}
pub use Rattle.ir_resolve.specs.FaultKinds.{ArgumentsFit, BlockClashesAt, CallFits, CallsRegister, CaseClashes, DuplicateAt, EndClashesAt, HasName, HasNameOf, HasNumber, IsCaseOn, IsMisnumbered, IsUnknownBlock, IsUnknownValue, IsWrittenOn, LiteralClashes, MisnumbersHere, NumberingAt, OpClashesAt, ReadClashesIn, RegisterHasWidth, Repeats, RepeatsHere, SomeHas, TruthIsBit, TypeClashAt, UnknownAt, UnknownIn, ValueClashes, literal_of, result_width, truth_of}
pub use Rattle.ir_resolve.specs.Faults.{HasFaultAt, HasNoFault, IsFirstNameFault, MarksFunction, rank}
pub use Rattle.ir_resolve.specs.FirstLines.{IsFirst, IsFirstLine, SomeAt, lesser}
pub use Rattle.ir_resolve.specs.Formed.{IsWellNamed, IsWellWritten, IsWellWrittenCall, IsWellWrittenOp}
pub use Rattle.ir_resolve.specs.Identifiers.{identifiers_from}
pub use Rattle.ir_resolve.specs.KnownNames.{IsReadyBlock, IsReadyEnd, IsReadyInst, ReadsAreKnown, TargetsAreKnown}
pub use Rattle.ir_resolve.specs.Means.{ArgumentsMean, BlockIsOf, BlockMeans, CaseMeans, EndMeans, IncomingMeans, InstMeans, Means, MeansBy, OpMeans, ParameterMeans, ValueMeans}
pub use Rattle.ir_resolve.specs.NameTable.{IsFaultOfUses, Tabulates, clash, unknown}
pub use Rattle.ir_resolve.specs.TypedReads.{Typed, cases_of, named_at_end, named_by, named_in, read_at_end, read_by, read_by_call, read_in, typed}
pub use Rattle.ir_resolve.specs.Uses.{Adds, seen_read, seen_reads, seen_targets}
pub use Rattle.ir_resolve.specs.Views.{AreKeysOf, CallsIn, CallsRegisterIn, Is, Known, block_of, entity_in, known_by, knows, register_of, same, seen, seen_definition, seen_entries, seen_written}
pub use Rattle.ir_resolve.specs.Written.{Block, Calls, HasThing, Thing, Value, called_in, given, identifiers_of, name_in, place_of, written_in, written_names}
pub use Rattle.ir_resolve.specs.declared.names.definition.Definition.{Definition}
pub use Rattle.ir_resolve.specs.declared.names.definition.Entity.{Entity}
pub use Rattle.ir_resolve.specs.declared.names.key.Key.{Key}
pub use Rattle.ir_resolve.specs.declared.uses.Uses.{Uses}
pub use Rattle.ir_tokens.specs.declared.called.Identifier.{Identifier}
pub use Rattle.ir_tokens.specs.declared.called.Identifier.TheVariants.{Named, Numbered}
pub use Rattle.ir_tokens.specs.declared.fault.IrFaultKind.{IrFaultKind}
pub use Rattle.ir_tokens.specs.declared.fault.IrFaultKind.TheVariants.{Duplicate, Numbering, TypeClash, Unknown}
pub use Rattle.ir_tokens.specs.declared.raw.RawArguments.{RawArguments}
pub use Rattle.ir_tokens.specs.declared.raw.RawBlock.{RawBlock}
pub use Rattle.ir_tokens.specs.declared.raw.RawCall.{RawCall}
pub use Rattle.ir_tokens.specs.declared.raw.RawCase.{RawCase}
pub use Rattle.ir_tokens.specs.declared.raw.RawFunction.{RawFunction}
pub use Rattle.ir_tokens.specs.declared.raw.RawIdentifier.{RawIdentifier}
pub use Rattle.ir_tokens.specs.declared.raw.RawIncoming.{RawIncoming}
pub use Rattle.ir_tokens.specs.declared.raw.RawInst.{RawInst}
pub use Rattle.ir_tokens.specs.declared.raw.RawOp.{RawOp}
pub use Rattle.ir_tokens.specs.declared.raw.RawOperand.{RawOperand}
pub use Rattle.ir_tokens.specs.declared.raw.RawParameter.{RawParameter}
pub use Rattle.ir_tokens.specs.declared.raw.RawTerminator.{RawTerminator}
pub use Rattle.ir_tokens.specs.declared.raw.RawValue.{RawValue}
pub use Rattle.ir_tokens.specs.declared.raw.TypedOperand.{TypedOperand}
pub use Rattle.ops.specs.Conversion.{CastFits}
pub use Rattle.ops.specs.Flags.{no_flags}
pub use Rattle.ops.specs.Number.{Number}
pub use Rattle.ops.specs.Truths.{TruthFits, has_truth}
pub use Rattle.ops.specs.declared.comparison.Pred.{Pred}
pub use Rattle.ops.specs.declared.conversion.Cast.{Cast}
pub use Rattle.ops.specs.declared.conversion.Cast.TheVariants.{SExt, Trunc, ZExt}
pub use Rattle.ops.specs.declared.opcode.Flags.{Flags}
pub use Rattle.ops.specs.declared.opcode.Opcode.{Opcode}
pub use Rattle.ops.specs.declared.opcode.Unary.{Unary}
pub use Rattle.refusal.specs.Refusals.{IfRefused}
pub use Rattle.refusal.specs.declared.fault.Fault.{Fault}
pub use Rattle.refusal.specs.declared.refusal.Refusal.{Refusal}
pub use Rattle.refusal.specs.declared.refusal.Refusal.TheVariants.{NoMemory, Refused}
pub use Rattle.std.proofs.Math.Decide.{dec_lt, map_dec}
pub use Rattle.std.proofs.lemmas.Bool.{cases_eq, cases_lt, eq-eqb, eqb-true, false≢true, leb-false, leb-true}
pub use Rattle.std.proofs.lemmas.List.{get_or-map, length-append, length-map, length-take, length-take-le, map-append, map_more, map_push, take_all, take_more}
pub use Rattle.std.proofs.lemmas.List.Elements.{All-from_recursion, Contains-append_left, Contains-append_right, Contains-get_or, Contains-push, Contains-push_cases, recursion_from_All}
pub use Rattle.std.proofs.lemmas.List.FromFn.{length-enumerate_from}
pub use Rattle.std.proofs.lemmas.Map.Entries.{place_from_lookup}
pub use Rattle.std.proofs.lemmas.Option.{get_or_from_slice_get, same_Some, slice_get-get_or, slice_get-map, slice_get_read, slice_get_within}
pub use Rattle.std.proofs.lemmas.Result.{err_from_is_err_and, on_ok_weaker}
pub use Rattle.std.specs.Bool.{then_some}
pub use Rattle.std.specs.Cmp.Lexicographic.{bytes_decides, pointwise}
pub use Rattle.std.specs.List.{AllByRecursion, AllZip, enumerate_from, flat_map, list_any, zip}
pub use Rattle.std.specs.Map.{lookup}
pub use Rattle.std.specs.Option.{option_copied}
