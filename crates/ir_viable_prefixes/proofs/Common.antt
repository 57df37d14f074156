-- What the proofs of this crate cite of definitions, of other crates and of the libraries, passed on from one place.
pub use Rattle.std.proofs.Common.{Bool, Err, IsSome, List, None, Ok, Option, Result, Some, [], ap, append_assoc, arith, codes, cond, eq-eqb, eqb, false, inl, inr, is_some, length, length-append, not, pos, refl, subst, suc, sym, true, zero, ℕ, ◌&&◌, ◌++◌, ◌<◌, ◌^◌, ◌||◌, ◌∙◌, ◌∷◌, ◌≡◌, ◌≢◌, ◌≤◌, ◌⊎◌}
pub use Rattle.ir_instructions.proofs.CallReadings.{inner_items_at-is, late_item-is, truth_value_at-is}
pub use Rattle.ir_instructions.proofs.ItemReadings.{items_at-is, last_items_at-is}
pub use Rattle.ir_instructions.proofs.ItemSizes.{item-takes}
pub use Rattle.ir_instructions.proofs.ItemSpellings.{MayFollowItems, item_at-of, item_may_follow, items_at-of, last_items_at-of}
pub use Rattle.ir_instructions.proofs.Loops.{each-done, each-more, repeat-done, repeat-fault, repeat-is, repeat-more, same_behind}
pub use Rattle.ir_instructions.proofs.NameReadings.{intrinsic_in-is, intrinsic_in-of}
pub use Rattle.ir_instructions.proofs.Readings.{attachment_at-is, case_value_at-is, keyword_at-is, mark_at-is, operand_at-is, register_at-is, type_at-is}
pub use Rattle.ir_instructions.proofs.Spellings.{type_at-of}
pub use Rattle.ir_instructions.proofs.Steps.{bind_ok, not_left_out, ok_is, read_as, same_front}
pub use Rattle.ir_instructions.proofs.Takings.{attachment-takes, case-takes, flag-takes, incoming-takes, inner-takes, inst-takes, late-takes, tail-takes}
pub use Rattle.ir_instructions.proofs.WordLemmas.{operation_in-is, type_in-of, type_is_no_flag}
pub use Rattle.ir_instructions.specs.CallGrammar.{Items}
unfoldable pub use Rattle.ir_instructions.specs.CallReaders.{argument_at, call_at, call_word_at, callee_at, close_at, further_truth_at, inner_items_at, late_group_at, late_item_at, late_items_at, late_quoted_at, late_value_at, marked_call_at, one_argument_at, some_token_at, truth_argument_at, truth_at, truth_value_at, two_arguments_at}
pub use Rattle.ir_instructions.specs.CallReaders.{arguments_at, begins_inner_item, begins_late_item, callee_named, each_late_item_at, ends_argument, is_on_line, no_truth_kind, or_no_callee}
pub use Rattle.ir_instructions.specs.Grammar.{IsValueToken, SpellsOperand}
unfoldable pub use Rattle.ir_instructions.specs.InstructionReaders.{attachments_at, case_value_at, insts_at, keyword_at, pred_at, register_at, terminator_at}
pub use Rattle.ir_instructions.specs.InstructionReaders.{identified, inst_at, is_metadata, is_register}
unfoldable pub use Rattle.ir_instructions.specs.Intrinsics.{intrinsic_in, keyword_in, named_in, plain_width_in}
pub use Rattle.ir_instructions.specs.ItemGrammar.{MayFollowItem, SpellsItem, of_group, of_key_and_value, of_number, of_quoted, of_word_and_group}
unfoldable pub use Rattle.ir_instructions.specs.ItemReaders.{item_at, last_items_at, no_word_at, quoted_item_at, quoted_value_at, word_item_at}
pub use Rattle.ir_instructions.specs.ItemReaders.{begins_item, items_at}
unfoldable pub use Rattle.ir_instructions.specs.Items.{is_item_word}
unfoldable pub use Rattle.ir_instructions.specs.Keywords.{ending_in, operation_in, truth_in, type_in, value_in}
pub use Rattle.ir_instructions.specs.Keywords.{IsTypeWord, ending_word, operation_word}
pub use Rattle.ir_instructions.specs.Parts.{Each, Is, Part, ◌⨾◌}
pub use Rattle.ir_instructions.specs.PieceGrammar.{SpellsType}
unfoldable pub use Rattle.ir_instructions.specs.Places.{leaves_out, shown}
pub use Rattle.ir_instructions.specs.Places.{begins_record, begins_type, is_word}
unfoldable pub use Rattle.ir_instructions.specs.Readers.{steps_at, unexpected}
pub use Rattle.ir_instructions.specs.Readers.{Read, Reader, TakesSome, another_at, done, each_at, fault, goes_on, or_left_out, repeat_at, ◌>>=◌}
unfoldable pub use Rattle.ir_instructions.specs.TokenReaders.{tail_attachment_at}
pub use Rattle.ir_instructions.specs.declared.intrinsic.Intrinsic.{Intrinsic}
pub use Rattle.ir_instructions.specs.declared.word.Ending.TheVariants.{Unreachable}
pub use Rattle.ir_instructions.specs.declared.word.Operation.{Operation}
pub use Rattle.ir_instructions.specs.declared.word.TypeWord.{TypeWord}
pub use Rattle.ir_instructions.specs.declared.word.TypeWord.TheVariants.{OutOfRange}
pub use Rattle.ir_parse.proofs.TakingParts.{block-takes, entry-takes, parameter-takes}
pub use Rattle.ir_parse.specs.Grammar.{SpellsModule}
pub use Rattle.ir_parse.specs.Laws.{ModulesAreReadAsSpelled}
pub use Rattle.ir_parse.specs.ModuleReaders.{entries_at, module_from, module_of}
pub use Rattle.ir_parse.specs.Text.{IsTextFault, most_bytes, too_long}
unfoldable pub use Rattle.ir_tokens.specs.Identifiers.{identifier_of, name_of}
pub use Rattle.ir_tokens.specs.Laws.{TextsHaveOneListOfTokens}
unfoldable pub use Rattle.ir_tokens.specs.Numbers.{constant_of, is_in_range, is_number, number_of}
pub use Rattle.ir_tokens.specs.Order.{AreTokens, IsTokenAt, TokensFrom, bad_byte, itself, kept_group, kept_line, unclosed}
pub use Rattle.ir_tokens.specs.Tokens.{End, Function, Group, Kept, KeptGroup, Label, Mark, Metadata, Number, Other, Placed, Quoted, Register, Token, Word, is_last, token_of}
pub use Rattle.ir_tokens.specs.declared.called.Identifier.{Identifier}
pub use Rattle.ir_tokens.specs.declared.called.Identifier.TheVariants.{Named, Numbered}
pub use Rattle.ir_tokens.specs.declared.fault.IrFaultKind.{IrFaultKind}
pub use Rattle.ir_tokens.specs.declared.fault.IrFaultKind.TheVariants.{BadByte, ConstRange, LeftOut, Syntax, Width}
pub use Rattle.ir_tokens.specs.declared.place.Section.{Section}
pub use Rattle.ir_tokens.specs.declared.raw.RawBlock.{RawBlock}
pub use Rattle.ir_tokens.specs.declared.raw.RawEntry.{RawEntry}
pub use Rattle.ir_tokens.specs.declared.raw.RawFunction.{RawFunction}
pub use Rattle.ir_tokens.specs.declared.raw.RawIdentifier.{RawIdentifier}
pub use Rattle.ir_tokens.specs.declared.raw.RawIncoming.{RawIncoming}
pub use Rattle.ir_tokens.specs.declared.raw.RawInst.{RawInst}
pub use Rattle.ir_tokens.specs.declared.raw.RawModule.{RawModule}
pub use Rattle.ir_tokens.specs.declared.raw.RawOp.{RawOp}
pub use Rattle.ir_tokens.specs.declared.raw.RawOp.TheVariants.{Call, Phi}
pub use Rattle.ir_tokens.specs.declared.raw.RawOperand.{RawOperand}
pub use Rattle.ir_tokens.specs.declared.raw.RawParameter.{RawParameter}
pub use Rattle.ir_tokens.specs.declared.raw.RawTerminator.{RawTerminator}
pub use Rattle.ir_tokens.specs.declared.raw.RawTerminator.TheVariants.{Jump}
pub use Rattle.ir_tokens.specs.declared.raw.RawValue.{RawValue}
pub use Rattle.ir_tokens.specs.declared.raw.RawValue.TheVariants.{True}
pub use Rattle.ir_tokens.specs.declared.raw.TypedOperand.{TypedOperand}
pub use Rattle.ir_viable_prefixes.specs.Calls.{BeginsCall, BeginsWithEnd, CallStands, CalleeFits, EndsArgument, IsNoValue, IsToldInCall, NamesIntrinsic, ValueFits, close, comma, no_tail, plain, tail}
pub use Rattle.ir_viable_prefixes.specs.Fits.{AttributesFit, Fits, FitsBehind}
pub use Rattle.ir_viable_prefixes.specs.Laws.{FaultsAreWhereTextsDoNotFit, IsFirstMisfit, IsSaid, IsTold, in_call, of_token}
pub use Rattle.ir_viable_prefixes.specs.Misfits.{AnotherFits, IsLeftOut, IsMisfit, IsNothingElse, IsNoun, IsRepeated, IsWrongNumber, IsWrongWidth, TerminatorFits, TypeFits, entry, mark_of_record, of_function, of_mark, type}
pub use Rattle.ops.proofs.FlagKeywordLemmas.{flag_in-is}
pub use Rattle.ops.proofs.KeywordLemmas.{word_is}
unfoldable pub use Rattle.ops.specs.FlagKeywords.{flag_in}
pub use Rattle.ops.specs.FlagKeywords.{flag_keyword, has_flag, with_flag}
pub use Rattle.ops.specs.Flags.{flags_of, flags_of_cast, flags_of_icmp, no_flags}
unfoldable pub use Rattle.ops.specs.Keywords.{pred_in}
pub use Rattle.ops.specs.Keywords.{predicate_keyword}
pub use Rattle.ops.specs.Truths.{has_truth}
pub use Rattle.ops.specs.declared.comparison.Pred.{Pred}
pub use Rattle.ops.specs.declared.comparison.Pred.TheVariants.{Eq}
pub use Rattle.ops.specs.declared.conversion.Cast.{Cast}
pub use Rattle.ops.specs.declared.conversion.Cast.TheVariants.{SExt, Trunc, ZExt}
pub use Rattle.ops.specs.declared.keywords.flag.Flag.{Flag}
pub use Rattle.ops.specs.declared.keywords.flag.Flag.TheVariants.{Disjoint, Exact, NNeg, Nsw, Nuw, SameSign}
pub use Rattle.ops.specs.declared.opcode.Flags.{Flags}
pub use Rattle.ops.specs.declared.opcode.Opcode.TheVariants.{AShr, Add, LShr, Mul, Or, SDiv, SMax, SMin, SRem, Shl, Sub, UDiv, UMax, UMin, URem, Xor}
pub use Rattle.ops.specs.declared.opcode.Unary.{Unary}
pub use Rattle.refusal.specs.declared.fault.Fault.{Fault}
unfoldable pub use Rattle.scan.specs.IrTokens.{is_plain_name}
pub use Rattle.scan.specs.IrTokens.{line_at}
pub use Rattle.scan.specs.Lines.{between}
pub use Rattle.scan.specs.declared.ir.token.TokenKind.{TokenKind}
pub use Rattle.std.proofs.lemmas.Bool.{eqb-true}
pub use Rattle.std.proofs.lemmas.Int.{ints}
pub use Rattle.std.proofs.lemmas.List.{append-nil, append_cancel_left, append_cancel_right}
pub use Rattle.std.proofs.lemmas.Nat.{pow_pos}
pub use Rattle.std.proofs.lemmas.Slice.Eq.{bytes_eq-Decides}
pub use Rattle.std.specs.List.{AllByRecursion}
pub use Rattle.std.specs.Str.{bytes_eq}
