-- What the proofs of this crate cite of definitions, of other crates and of the libraries, passed on from one place.
pub use Rattle.std.proofs.Common.{All, Bool, Contains, IsSome, IsTrue, List, None, Option, Some, [], ap, arith, codes, cond, drop, eqb, false, get_or, if◌then◌else◌, inl, inr, leb, length, map, not, option_and_then, option_map, refl, slice_get, subst, suc, sym, take, true, zero, ℕ, ◌&&◌, ◌*◌, ◌++◌, ◌+◌, ◌-◌, ◌<◌, ◌==◌, ◌||◌, ◌∙◌, ◌∷◌, ◌≡◌, ◌≤◌, ◌⊎◌}
pub use Rattle.ir_core.specs.Blocks.{IsBlock, Names, targets_of}
pub use Rattle.ir_core.specs.Checks.{CasesFit, IsFormed, IsInst, IsKnown, IsTyped, ModuleMeetsChecks, OperandHasWidth}
pub use Rattle.ir_core.specs.Names.{Name, block_names, block_place, names_of, place_of, width_of}
pub use Rattle.ir_core.specs.Reads.{IsRead, Read, end_of, read, reads_at, reads_at_end, reads_by, reads_in, reads_of}
pub use Rattle.ir_core.specs.declared.function.Parameter.{Parameter}
pub use Rattle.ir_core.specs.declared.instruction.Inst.{Inst}
pub use Rattle.ir_core.specs.declared.instruction.Op.{Op}
pub use Rattle.ir_core.specs.declared.module.Entry.{Entry}
pub use Rattle.ir_core.specs.declared.module.Module.{Module}
pub use Rattle.ir_core.specs.declared.operand.Operand.{Operand}
pub use Rattle.ir_core.specs.declared.terminator.Terminator.{Terminator}
pub use Rattle.ir_instructions.proofs.ItemSizes.{item-shorter}
pub use Rattle.ir_instructions.proofs.Shorter.{NoLonger, Shorter, a_token, a_type, attachment-shorter, further_incoming-shorter, inst-shorter, maybe, no_part, weaker}
pub use Rattle.ir_instructions.specs.CallGrammar.{Items, SpellsArgument, SpellsArguments, SpellsCall, SpellsCallee, SpellsClose, SpellsMarker, SpellsTruthOf, intrinsic_of, notail, unmarked}
pub use Rattle.ir_instructions.specs.Grammar.{Attachment, IsOpcode, IsValueToken, SpellsCase, SpellsCases, SpellsFlags, SpellsIncoming, SpellsInst, SpellsOp, SpellsOperand, SpellsRegister, SpellsTarget, SpellsTerminator, SpellsType, SpellsTyped, Tail}
pub use Rattle.ir_instructions.specs.ItemGrammar.{SpellsItem, of_group, of_key_and_value, of_number, of_quoted, of_word, of_word_and_group}
pub use Rattle.ir_instructions.specs.Items.{is_item_word}
pub use Rattle.ir_instructions.specs.Parts.{Comma, Each, Is, IsOn, Maybe, Part, Repeated, Separated, ◌⨾◌}
pub use Rattle.ir_instructions.specs.declared.intrinsic.Intrinsic.{Intrinsic}
pub use Rattle.ir_parse.proofs.ShorterParts.{block-shorter, entry-shorter, further_parameter-shorter}
pub use Rattle.ir_parse.specs.Grammar.{SpellsBlock, SpellsBlocks, SpellsBody, SpellsEntry, SpellsFunction, SpellsLabel, SpellsLabelledBlock, SpellsName, SpellsParameter, SpellsParameterList, SpellsParameters}
pub use Rattle.ir_reader.proofs.CheckLemmas.{module_meets}
pub use Rattle.ir_reader.proofs.Meaning.{block_written}
pub use Rattle.ir_reader.proofs.Places.{at_append, contained, somewhere, there, zip_right}
pub use Rattle.ir_reader.specs.Faults.{IsEntryOf, IsModuleText, functions_of}
pub use Rattle.ir_resolve.proofs.Forming.{ReadMeans, literal_meant, names_in_blocks, parameter_names, reads_meant, reads_meant_at_end, targets_meant}
pub use Rattle.ir_resolve.proofs.Once.{table}
pub use Rattle.ir_resolve.proofs.Pairs.{made_pairs, pair_of_first, pair_of_second, same_length}
pub use Rattle.ir_resolve.proofs.Places.{contained_at, place_before, place_of_contained}
pub use Rattle.ir_resolve.proofs.Standing.{some_same}
pub use Rattle.ir_resolve.specs.FaultKinds.{BlockClashesAt, CallsRegister, DuplicateAt, EndClashesAt, HasName, HasNameOf, HasNumber, IsCaseOn, IsUnknownValue, IsWrittenOn, LiteralClashes, NumberingAt, OpClashesAt, RegisterHasWidth, Repeats, TypeClashAt, UnknownAt, ValueClashes, literal_of, result_width}
pub use Rattle.ir_resolve.specs.Faults.{HasNoFault}
pub use Rattle.ir_resolve.specs.Identifiers.{identifiers_from, identifiers_of}
pub use Rattle.ir_resolve.specs.Means.{ArgumentsMean, BlockIsOf, BlockMeans, CaseMeans, EndMeans, IncomingMeans, InstMeans, Means, MeansBy, OpMeans, ParameterMeans, ValueMeans}
pub use Rattle.ir_resolve.specs.TypedReads.{Typed, cases_of, named_at_end, named_by, read_at_end, read_by}
pub use Rattle.ir_resolve.specs.Written.{Calls, HasThing, Thing, Value, given, name_in, written_in, written_names}
pub use Rattle.ir_round_trip.specs.Laws.{CanonicalFunctionsMean, CanonicalModulesRead, CleanedFunctionsHaveForms, CleanedModulesHaveForms, HasAtMost, ModuleTextsAreSmall, PrintedTextsRead}
pub use Rattle.ir_text.proofs.Feeds.{kept}
pub use Rattle.ir_text.proofs.Forms.{HasItsForm, token_form}
pub use Rattle.ir_text.proofs.KeptLines.{IsKeptAlone, begun, in_line, is_kept, line_stands, none_kept}
pub use Rattle.ir_text.proofs.Lexing.{none_extends}
pub use Rattle.ir_text.proofs.Standing.{end_is_next}
pub use Rattle.ir_text.specs.CanonicalModule.{BlockTypesFit, EndTypesFit, Identifies, TypesFit, WritesEntry, WritesFunction, WritesModule}
pub use Rattle.ir_text.specs.Forms.{CasesHaveForms, EntryHasForms, FunctionHasForms, IsItem, IsKeptText, IsName, IsWidth, ModuleHasForms, NumberFits, OperandFits, ParameterHasForms, ReadHasForms}
pub use Rattle.ir_text.specs.Laws.{LexemesAreTokens, PrintedTextsSpell}
pub use Rattle.ir_text.specs.Lexemes.{AreLexemes, HasForm, IsGroupText, IsNameText, Lexeme, bytes_of, goes_on, placed_from, spelled}
pub use Rattle.ir_tokens.proofs.Moving.{token_moves, token_within}
unfoldable pub use Rattle.ir_tokens.specs.Identifiers.{identifier_of, name_of}
unfoldable pub use Rattle.ir_tokens.specs.Numbers.{constant_of}
pub use Rattle.ir_tokens.specs.Numbers.{is_in_range, number_of}
pub use Rattle.ir_tokens.specs.Order.{HasExtent, IsTokenAt, TokensFrom, bad_byte, itself, kept_group, kept_line, last, unclosed}
unfoldable pub use Rattle.ir_tokens.specs.Places.{begins_kept, extent_of}
pub use Rattle.ir_tokens.specs.Places.{is_on, kept_words}
pub use Rattle.ir_tokens.specs.Tokens.{Bad, End, Group, Kept, KeptGroup, Label, Mark, Metadata, Other, Placed, Quoted, Token, Word, mark_of, token_of}
pub use Rattle.ir_tokens.specs.declared.called.Identifier.{Identifier}
pub use Rattle.ir_tokens.specs.declared.called.Identifier.TheVariants.{Named, Numbered}
pub use Rattle.ir_tokens.specs.declared.fault.IrFaultKind.TheVariants.{Duplicate, Numbering, TypeClash, Unknown}
pub use Rattle.ir_tokens.specs.declared.place.Section.{Section}
pub use Rattle.ir_tokens.specs.declared.place.Section.TheVariants.{AtEntry, InBody, InHeader}
pub use Rattle.ir_tokens.specs.declared.raw.RawArguments.{RawArguments}
pub use Rattle.ir_tokens.specs.declared.raw.RawBlock.{RawBlock}
pub use Rattle.ir_tokens.specs.declared.raw.RawCall.{RawCall}
pub use Rattle.ir_tokens.specs.declared.raw.RawCase.{RawCase}
pub use Rattle.ir_tokens.specs.declared.raw.RawEntry.{RawEntry}
pub use Rattle.ir_tokens.specs.declared.raw.RawFunction.{RawFunction}
pub use Rattle.ir_tokens.specs.declared.raw.RawIdentifier.{RawIdentifier}
pub use Rattle.ir_tokens.specs.declared.raw.RawIncoming.{RawIncoming}
pub use Rattle.ir_tokens.specs.declared.raw.RawInst.{RawInst}
pub use Rattle.ir_tokens.specs.declared.raw.RawModule.{RawModule}
pub use Rattle.ir_tokens.specs.declared.raw.RawOp.{RawOp}
pub use Rattle.ir_tokens.specs.declared.raw.RawOp.TheVariants.{Call}
pub use Rattle.ir_tokens.specs.declared.raw.RawOperand.{RawOperand}
pub use Rattle.ir_tokens.specs.declared.raw.RawParameter.{RawParameter}
pub use Rattle.ir_tokens.specs.declared.raw.RawTerminator.{RawTerminator}
pub use Rattle.ir_tokens.specs.declared.raw.RawTerminator.TheVariants.{Branch, Jump, Return, Switch, Unreachable}
pub use Rattle.ir_tokens.specs.declared.raw.RawValue.{RawValue}
pub use Rattle.ir_tokens.specs.declared.raw.TypedOperand.{TypedOperand}
pub use Rattle.needed.proofs.Counting.{IsKept, block_back, kept_back, mapped}
pub use Rattle.needed.proofs.Reading.{each_none, reads_at-end, reads_at-inst}
pub use Rattle.needed.specs.Cleaned.{EntriesCleaned, EntryCleaned, IsCleaned, KeepsNeeded}
pub use Rattle.needed.specs.KeptFunction.{KeptMarks, kept_block, kept_blocks, kept_first, kept_function, kept_insts, moved_end, moved_inst, moved_op, moved_operand}
pub use Rattle.ops.proofs.Signed.{residue-lt}
pub use Rattle.ops.specs.Flags.{flags_of, flags_of_cast, flags_of_icmp, icmp_flags}
pub use Rattle.ops.specs.Integer.{residue}
pub use Rattle.ops.specs.declared.opcode.Flags.{Flags}
pub use Rattle.ops.specs.declared.opcode.Opcode.{Opcode}
pub use Rattle.scan.proofs.Fronts.{and_left, and_right, or_true}
pub use Rattle.scan.proofs.ModulePlaces.{longest_some}
pub use Rattle.scan.proofs.NameLemmas.{name_cases, quoted_is}
pub use Rattle.scan.proofs.PlaceLemmas.{feeds_append}
unfoldable pub use Rattle.scan.specs.Bytes.{begins_name, is_digit, is_letter, is_name_byte}
pub use Rattle.scan.specs.Bytes.{are_digits, begins_with, is_blank}
pub use Rattle.scan.specs.Gaps.{nothing}
pub use Rattle.scan.specs.IrTokens.{HoldsZero, IsLongestToken, IsNextToken, is_group, is_word, spells}
pub use Rattle.scan.specs.Kept.{IsKeptLine, rest_to_feed}
pub use Rattle.scan.specs.Lines.{between, feeds, last_line}
pub use Rattle.scan.specs.Names.{blanks_behind}
unfoldable pub use Rattle.scan.specs.Quoted.{hex_value, is_hex, unquoted}
pub use Rattle.scan.specs.Quoted.{in_quotes, is_quoted}
unfoldable pub use Rattle.scan.specs.RuleTokens.{is_negative}
pub use Rattle.scan.specs.declared.ir.token.TokenKind.{TokenKind}
pub use Rattle.scan.specs.declared.span.Span.{Span}
pub use Rattle.std.proofs.Math.Seq.{drop-length, take-append_seam, take-length}
pub use Rattle.std.proofs.lemmas.Bool.{eq-eqb, eqb-true, false≢true, leb-true}
pub use Rattle.std.proofs.lemmas.List.{append-nil, drop-drop, drop-take, get_or-take, length-append, length-drop, length-map, length-take-le, map-append, take-append-drop, take-take, take_all}
pub use Rattle.std.proofs.lemmas.List.Elements.{All-contains, Contains-append_cases, Contains-append_left, Contains-append_right}
pub use Rattle.std.proofs.lemmas.List.Sums.{prefix_len-le-length, prefix_len_is, prefix_len_passes, suffix_len-take_no, suffix_len-take_yes}
pub use Rattle.std.proofs.lemmas.Option.{same_Some, slice_get-get_or, slice_get-map, slice_get_past, slice_get_within}
pub use Rattle.std.proofs.lemmas.Slice.Zip.{AllZip-long}
pub use Rattle.std.specs.List.{AllByRecursion, AllZip, flat_map, list_all, list_any, prefix_len, suffix_len, take_while}
pub use Rattle.std.specs.Str.{bytes_eq}
