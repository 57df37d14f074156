-- What the proofs of this crate cite of definitions, of other crates and of the libraries, passed on from one place.
pub use Rattle.std.proofs.Common.{Bool, Err, List, None, Ok, Option, Result, Some, [], ap, append_assoc, arith, codes, cond, drop, eq-eqb, eqb, false, find, leb, length, ltb, ltb-false, min, not, option_and_then, option_map, refl, rules, subst, suc, sym, take, tests, true, zero, ℕ, ◌&&◌, ◌++◌, ◌+◌, ◌-◌, ◌<◌, ◌^◌, ◌∙◌, ◌∷◌, ◌≡◌, ◌≤◌}
pub use Rattle.ir_instructions.specs.CallGrammar.{Items, ItemsOn, SpellsArgument, SpellsArguments, SpellsCall, SpellsCallee, SpellsClose, SpellsMarker, SpellsTruth, SpellsTruthOf, StopsOn, intrinsic_of, notail, tail, unmarked}
unfoldable pub use Rattle.ir_instructions.specs.CallReaders.{argument_at, call_at, call_word_at, callee_at, close_at, further_truth_at, inner_items_at, late_group_at, late_item_at, late_items_at, late_quoted_at, late_value_at, marked_call_at, one_argument_at, some_token_at, truth_argument_at, truth_at, truth_value_at, two_arguments_at}
pub use Rattle.ir_instructions.specs.CallReaders.{arguments_at, begins_inner_item, begins_late_item, callee_named, each_late_item_at, ends_argument, is_on_line, or_no_callee, truth_of_word}
pub use Rattle.ir_instructions.specs.Grammar.{Attachment, IsCaseValue, IsOpcode, IsValueToken, SpellsCase, SpellsCases, SpellsFlags, SpellsIncoming, SpellsInst, SpellsOp, SpellsOperand, SpellsRegister, SpellsTarget, SpellsTerminator, SpellsType, SpellsTyped}
unfoldable pub use Rattle.ir_instructions.specs.InstructionReaders.{attachment_at, attachments_at, binary_at, branch_at, case_at, case_value_at, cases_at, compare_at, conditional_at, convert_at, flag_at, flags_at, freeze_at, further_incoming_at, incoming_at, inst_at, insts_at, jump_at, keyword_at, metadata_at, op_at, phi_at, pred_at, register_at, return_at, select_at, switch_at, tail_at, tail_attachment_at, target_at, terminator_at, typed_at}
pub use Rattle.ir_instructions.specs.InstructionReaders.{add_flag, begins_case, begins_incoming, ending_at, identified, incomings_at, is_flag, is_keyword, is_metadata, is_register, number_value, operation_at, type_word}
unfoldable pub use Rattle.ir_instructions.specs.Intrinsics.{intrinsic_in, keyword_in, named_in, plain_width_in}
pub use Rattle.ir_instructions.specs.Intrinsics.{IsIntrinsicName, IsPlainType, intrinsic_keyword, is_called, width_of}
pub use Rattle.ir_instructions.specs.ItemGrammar.{MayFollowItem, SpellsItem, of_group, of_key_and_value, of_number, of_quoted, of_word, of_word_and_group}
unfoldable pub use Rattle.ir_instructions.specs.ItemReaders.{item_at, items_at, last_items_at, no_word_at, quoted_item_at, quoted_value_at, word_item_at}
pub use Rattle.ir_instructions.specs.ItemReaders.{begins_item}
unfoldable pub use Rattle.ir_instructions.specs.Items.{is_item_word}
unfoldable pub use Rattle.ir_instructions.specs.Keywords.{ending_in, operation_in, truth_in, type_in, value_in}
pub use Rattle.ir_instructions.specs.Keywords.{IsTypeWord, ending_word, operation_word, operations, type_of_bits}
pub use Rattle.ir_instructions.specs.Laws.{SpellsCaseValue}
pub use Rattle.ir_instructions.specs.Parts.{Comma, Each, Is, IsOn, Maybe, Part, Repeated, Separated, ◌⨾◌}
unfoldable pub use Rattle.ir_instructions.specs.Readers.{steps_at}
pub use Rattle.ir_instructions.specs.Readers.{Read, Reader, TakesSome, another_at, done, each_at, fault, given, goes_on, or_left_out, repeat_at, ◌>>=◌}
pub use Rattle.ir_instructions.specs.declared.intrinsic.Intrinsic.{Intrinsic}
pub use Rattle.ir_instructions.specs.declared.word.Ending.{Ending}
pub use Rattle.ir_instructions.specs.declared.word.Operation.{Operation}
pub use Rattle.ir_instructions.specs.declared.word.Operation.TheVariants.{NoTail}
pub use Rattle.ir_instructions.specs.declared.word.TypeWord.{TypeWord}
pub use Rattle.ir_tokens.specs.Identifiers.{identifier_of}
pub use Rattle.ir_tokens.specs.Numbers.{constant_of, decimal_value, is_number}
pub use Rattle.ir_tokens.specs.SeenTokens.{seen}
pub use Rattle.ir_tokens.specs.Tokens.{Function, Group, KeptGroup, Mark, Metadata, Number, Placed, Quoted, Register, Token, Word}
pub use Rattle.ir_tokens.specs.declared.called.Identifier.{Identifier}
pub use Rattle.ir_tokens.specs.declared.called.Identifier.TheVariants.{Named, Numbered}
pub use Rattle.ir_tokens.specs.declared.fault.IrFaultKind.{IrFaultKind}
pub use Rattle.ir_tokens.specs.declared.fault.IrFaultKind.TheVariants.{LeftOut, Syntax}
pub use Rattle.ir_tokens.specs.declared.raw.RawArguments.{RawArguments}
pub use Rattle.ir_tokens.specs.declared.raw.RawCall.{RawCall}
pub use Rattle.ir_tokens.specs.declared.raw.RawCase.{RawCase}
pub use Rattle.ir_tokens.specs.declared.raw.RawIdentifier.{RawIdentifier}
pub use Rattle.ir_tokens.specs.declared.raw.RawIncoming.{RawIncoming}
pub use Rattle.ir_tokens.specs.declared.raw.RawInst.{RawInst}
pub use Rattle.ir_tokens.specs.declared.raw.RawOp.{RawOp}
pub use Rattle.ir_tokens.specs.declared.raw.RawOperand.{RawOperand}
pub use Rattle.ir_tokens.specs.declared.raw.RawTerminator.{RawTerminator}
pub use Rattle.ir_tokens.specs.declared.raw.RawTerminator.TheVariants.{Jump}
pub use Rattle.ir_tokens.specs.declared.raw.RawValue.{RawValue}
pub use Rattle.ir_tokens.specs.declared.raw.TypedOperand.{TypedOperand}
pub use Rattle.ops.proofs.FlagKeywordLemmas.{flag_in-is, flag_in-of, flags_are_icmp, predicate_is_no_flag}
pub use Rattle.ops.proofs.KeywordLemmas.{found-passes, pred_in-is, pred_in-of, same_word, word_is}
unfoldable pub use Rattle.ops.specs.FlagKeywords.{flag_in}
pub use Rattle.ops.specs.FlagKeywords.{AddsFlags, flag_keyword, has_flag, with_flag}
pub use Rattle.ops.specs.Flags.{AreWithin, flags_of, flags_of_cast, flags_of_icmp, icmp_flags, no_flags}
pub use Rattle.ops.specs.Intrinsics.{is_intrinsic}
pub use Rattle.ops.specs.Keywords.{pred_in, predicate_keyword}
pub use Rattle.ops.specs.Truths.{has_truth}
pub use Rattle.ops.specs.declared.comparison.Pred.{Pred}
pub use Rattle.ops.specs.declared.conversion.Cast.{Cast}
pub use Rattle.ops.specs.declared.conversion.Cast.TheVariants.{SExt, Trunc, ZExt}
pub use Rattle.ops.specs.declared.keywords.flag.Flag.{Flag}
pub use Rattle.ops.specs.declared.opcode.Flags.{Flags}
pub use Rattle.ops.specs.declared.opcode.Opcode.{Opcode}
pub use Rattle.ops.specs.declared.opcode.Opcode.TheVariants.{AShr, Add, And, LShr, Mul, Or, SDiv, SMax, SMin, SRem, Shl, Sub, UDiv, UMax, UMin, URem, Xor}
pub use Rattle.ops.specs.declared.opcode.Unary.{Unary}
pub use Rattle.refusal.specs.Refusals.{Fails}
pub use Rattle.refusal.specs.declared.fault.Fault.{Fault}
pub use Rattle.refusal.specs.declared.refusal.Refusal.{Refusal}
pub use Rattle.refusal.specs.declared.refusal.Refusal.TheVariants.{NoMemory, Refused}
pub use Rattle.scan.specs.Bytes.{are_digits}
pub use Rattle.scan.specs.IrTokens.{is_plain_name}
pub use Rattle.std.proofs.lemmas.Bool.{eqb-true, le-leb, leb-true}
pub use Rattle.std.proofs.lemmas.Iterator.{YieldsList-from_slice}
pub use Rattle.std.proofs.lemmas.Iterator.Search.{position_from_yields_List}
pub use Rattle.std.proofs.lemmas.List.{append-nil, drop_all, length-drop, take-append-drop, take_all}
pub use Rattle.std.proofs.lemmas.Result.{err_from_is_err_and}
pub use Rattle.std.specs.List.{AllByRecursion, after_first, before_first, list_all, position_or_len}
pub use Rattle.std.specs.Str.{bytes_eq}
