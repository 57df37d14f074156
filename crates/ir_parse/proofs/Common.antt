-- What the proofs of this crate cite of definitions, of other crates and of the libraries, passed on from one place.
pub use Rattle.std.proofs.Common.{Bool, Err, IfErr, IfOk, IsSome, List, None, Ok, OnOk, Option, Result, Some, [], ap, append_assoc, arith, codes, cond, eqb, false, inl, inr, leb, length, refl, subst, sym, true, ℕ, ◌++◌, ◌<◌, ◌∙◌, ◌∷◌, ◌≡◌, ◌≤◌, ◌⊎◌}
pub use Rattle.ir_instructions.proofs.ItemReadings.{items_at-is, last_items_at-is}
pub use Rattle.ir_instructions.proofs.ItemSizes.{item-shorter}
pub use Rattle.ir_instructions.proofs.ItemSpellings.{MayFollowItems, items_at-of, last_items_at-of, type_begins_no_item}
pub use Rattle.ir_instructions.proofs.Loops.{ReadsEach, all_read, each-is, each-of}
pub use Rattle.ir_instructions.proofs.OpReadings.{insts_at-is}
pub use Rattle.ir_instructions.proofs.OpSpellings.{HasNoTail, insts_at-of, terminator_at-of, terminator_begins}
pub use Rattle.ir_instructions.proofs.Readings.{attachments_at-is, mark_at-is, tail_at-is, type_at-is}
pub use Rattle.ir_instructions.proofs.Shorter.{NoLonger, Shorter, a_register, a_token, a_type, attachment-shorter, begins, both, each, insts, maybe, no_part, on_line, repeated, tail, terminator, token, weaker}
pub use Rattle.ir_instructions.proofs.Spellings.{attachments_at-of, mark_at-of, tail_at-of, type_at-of}
pub use Rattle.ir_instructions.proofs.Steps.{Reads, bind_ok, ok_is, read_as}
pub use Rattle.ir_instructions.proofs.TerminatorReadings.{terminator_at-is}
pub use Rattle.ir_instructions.specs.CallGrammar.{Items, ItemsOn, SpellsArgument, SpellsArguments, SpellsCall, SpellsCallee, SpellsClose, SpellsMarker, SpellsTruthOf, StopsOn, intrinsic_of, notail, unmarked}
pub use Rattle.ir_instructions.specs.Grammar.{Attachment, IsOpcode, SpellsCase, SpellsCases, SpellsFlags, SpellsIncoming, SpellsInst, SpellsOp, SpellsOperand, SpellsRegister, SpellsTarget, SpellsTerminator, SpellsType, SpellsTyped, Tail}
pub use Rattle.ir_instructions.specs.InstructionReaders.{attachments_at, identified, insts_at, is_mark, mark_at, tail_at, terminator_at, type_at}
pub use Rattle.ir_instructions.specs.ItemGrammar.{MayFollowItem, SpellsItem, of_group, of_key_and_value, of_number, of_quoted, of_word, of_word_and_group}
pub use Rattle.ir_instructions.specs.ItemReaders.{items_at, last_items_at}
pub use Rattle.ir_instructions.specs.Parts.{Comma, Each, Is, IsOn, Maybe, Nothing, Part, Repeated, Separated, ◌⨾◌}
pub use Rattle.ir_instructions.specs.Readers.{Read, TakesSome, done, fault, ◌>>=◌}
pub use Rattle.ir_instructions.specs.declared.intrinsic.Intrinsic.{Intrinsic}
pub use Rattle.ir_parse.specs.Grammar.{SpellsBlock, SpellsBlocks, SpellsBody, SpellsEntry, SpellsFunction, SpellsLabel, SpellsLabelledBlock, SpellsModule, SpellsName, SpellsParameter, SpellsParameterList, SpellsParameters}
pub use Rattle.ir_parse.specs.Laws.{TextsHaveOneReadingOrFault}
unfoldable pub use Rattle.ir_parse.specs.ModuleReaders.{block_at, blocks_at, body_at, entries_at, entry_at, function_at, function_name_at, further_parameter_at, label_at, parameter_at, parameter_list_at, parameter_name_at, parameters_at, some_parameters_at}
pub use Rattle.ir_parse.specs.ModuleReaders.{begins_entry, is_label, module_from, module_of, named_function}
pub use Rattle.ir_parse.specs.Text.{IsRaw, IsTextFault, misfit, most_bytes, too_long}
pub use Rattle.ir_tokens.specs.Identifiers.{identifier_of}
pub use Rattle.ir_tokens.specs.Laws.{TextsHaveOneListOfTokens}
pub use Rattle.ir_tokens.specs.Order.{AreTokens}
pub use Rattle.ir_tokens.specs.SeenTokens.{seen}
pub use Rattle.ir_tokens.specs.Tokens.{Bad, End, Function, Group, Kept, KeptGroup, Label, Mark, Metadata, Number, Other, Placed, Quoted, Register, Token, Word}
pub use Rattle.ir_tokens.specs.declared.called.Identifier.{Identifier}
pub use Rattle.ir_tokens.specs.declared.called.Identifier.TheVariants.{Named, Numbered}
pub use Rattle.ir_tokens.specs.declared.fault.IrFaultKind.{IrFaultKind}
pub use Rattle.ir_tokens.specs.declared.fault.IrFaultKind.TheVariants.{LeftOut, TooLong}
pub use Rattle.ir_tokens.specs.declared.raw.RawArguments.{RawArguments}
pub use Rattle.ir_tokens.specs.declared.raw.RawBlock.{RawBlock}
pub use Rattle.ir_tokens.specs.declared.raw.RawCall.{RawCall}
pub use Rattle.ir_tokens.specs.declared.raw.RawCase.{RawCase}
pub use Rattle.ir_tokens.specs.declared.raw.RawEntry.{RawEntry}
pub use Rattle.ir_tokens.specs.declared.raw.RawFunction.{RawFunction}
pub use Rattle.ir_tokens.specs.declared.raw.RawIdentifier.{RawIdentifier}
pub use Rattle.ir_tokens.specs.declared.raw.RawIncoming.{RawIncoming}
pub use Rattle.ir_tokens.specs.declared.raw.RawInst.{RawInst}
pub use Rattle.ir_tokens.specs.declared.raw.RawModule.{RawModule}
pub use Rattle.ir_tokens.specs.declared.raw.RawOp.{RawOp}
pub use Rattle.ir_tokens.specs.declared.raw.RawOp.TheVariants.{Binary, Call, Compare, Convert, Freeze, Phi, Select}
pub use Rattle.ir_tokens.specs.declared.raw.RawOperand.{RawOperand}
pub use Rattle.ir_tokens.specs.declared.raw.RawParameter.{RawParameter}
pub use Rattle.ir_tokens.specs.declared.raw.RawTerminator.{RawTerminator}
pub use Rattle.ir_tokens.specs.declared.raw.RawTerminator.TheVariants.{Branch, Jump, Return, Switch, Unreachable}
pub use Rattle.ir_tokens.specs.declared.raw.TypedOperand.{TypedOperand}
pub use Rattle.ops.proofs.KeywordLemmas.{same_word}
pub use Rattle.ops.specs.Flags.{flags_of, flags_of_cast, flags_of_icmp, icmp_flags}
pub use Rattle.ops.specs.declared.opcode.Flags.{Flags}
pub use Rattle.ops.specs.declared.opcode.Opcode.{Opcode}
pub use Rattle.ops.specs.declared.opcode.Unary.{Unary}
pub use Rattle.refusal.specs.Refusals.{Gives, IfRefused}
pub use Rattle.refusal.specs.declared.fault.Fault.{Fault}
pub use Rattle.refusal.specs.declared.refusal.Refusal.{Refusal}
pub use Rattle.refusal.specs.declared.refusal.Refusal.TheVariants.{NoMemory, Refused}
pub use Rattle.std.proofs.lemmas.Bool.{leb-false, leb-true}
pub use Rattle.std.specs.Str.{bytes_eq}
