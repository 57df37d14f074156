-- What the proofs of this crate cite of definitions, of other crates and of the libraries, passed on from one place.
pub use Rattle.std.proofs.Common.{Bool, IsSome, List, None, Option, Some, [], add-one, add-zero, ap, append_assoc, arith, codes, cond, decimal, drop, drop-drop, drop_at, eq-eqb, eqb, eqb-true, false, filter, get_or, inl, inr, le-leb, leb, leb-true, length, length-drop, length-take, length-take-le, ltb, ltb-false, ltb-true, map, mod-eq_of_lt, mod-lt, ne_eqb, neg_ℤ, negsuc, not, one-add, option_and_then, option_map, pos, pow_mono, refl, rules, slice_get, subst, suc, sym, take, take-add, take-append-drop, take_at, take_while, tests, true, zero, zero-add, ℕ, ℤ, ⊎_elim, ◌%◌, ◌&&◌, ◌*◌, ◌++◌, ◌+◌, ◌-◌, ◌/◌, ◌<◌, ◌^◌, ◌||◌, ◌∙◌, ◌∷◌, ◌≡◌, ◌≢◌, ◌≤◌, ◌⊎◌}
pub use Rattle.ir_core.specs.Blocks.{IsBlock, targets_of}
pub use Rattle.ir_core.specs.Checks.{CasesFit, IsFormed, IsInst, IsTyped, ModuleMeetsChecks, OperandHasWidth}
pub use Rattle.ir_core.specs.Names.{Name, block_names, block_place, names_of, place_of, width_of}
pub use Rattle.ir_core.specs.Reads.{IsRead, Read, end_of, read, reads_at, reads_at_end, reads_by, reads_in, reads_of}
pub use Rattle.ir_core.specs.declared.function.Parameter.{Parameter}
pub use Rattle.ir_core.specs.declared.instruction.Inst.{Inst}
pub use Rattle.ir_core.specs.declared.instruction.Op.{Op}
pub use Rattle.ir_core.specs.declared.module.Entry.{Entry}
pub use Rattle.ir_core.specs.declared.module.Module.{Module}
pub use Rattle.ir_core.specs.declared.operand.Operand.{Operand}
pub use Rattle.ir_core.specs.declared.terminator.Terminator.{Terminator}
pub use Rattle.ir_instructions.specs.CallGrammar.{SpellsCallee, SpellsClose, SpellsTruthOf, StopsOn, unmarked}
pub use Rattle.ir_instructions.specs.Grammar.{IsCaseValue, SpellsCase, SpellsFlags, SpellsIncoming, SpellsInst, SpellsOp, SpellsOperand, SpellsRegister, SpellsTarget, SpellsTerminator, SpellsType}
pub use Rattle.ir_instructions.specs.Intrinsics.{intrinsic_keyword}
pub use Rattle.ir_instructions.specs.ItemGrammar.{SpellsItem, of_group, of_key_and_value, of_number, of_quoted, of_word, of_word_and_group}
pub use Rattle.ir_instructions.specs.Keywords.{IsTypeWord}
pub use Rattle.ir_instructions.specs.Parts.{Comma, Each, Is, Maybe, Nothing, Part, Separated, ◌⨾◌}
pub use Rattle.ir_instructions.specs.declared.intrinsic.Intrinsic.{Intrinsic}
pub use Rattle.ir_parse.specs.Grammar.{SpellsBlock, SpellsBlocks, SpellsEntry, SpellsFunction, SpellsLabel, SpellsLabelledBlock, SpellsName, SpellsParameter, SpellsParameterList}
pub use Rattle.ir_resolve.proofs.Places.{contained_at}
pub use Rattle.ir_resolve.proofs.Series.{named_from}
pub use Rattle.ir_resolve.proofs.Standing.{get_cases, get_left, get_numbered, get_right, mapped, some_same}
pub use Rattle.ir_resolve.specs.FaultKinds.{LiteralClashes, TruthIsBit, literal_of, result_width, truth_of}
pub use Rattle.ir_resolve.specs.Identifiers.{identifiers_from, identifiers_of}
pub use Rattle.ir_resolve.specs.Means.{BlockIsOf, CaseMeans, EndMeans, IncomingMeans, InstMeans, OpMeans, ParameterMeans, ValueMeans}
pub use Rattle.ir_resolve.specs.Written.{Thing, Value, given, name_in, written_in, written_names}
pub use Rattle.ir_text.specs.CanonicalModule.{BlockTypesFit, EndTypesFit, Identifies, TypesFit, WritesEntry, WritesFunction}
pub use Rattle.ir_text.specs.Forms.{CasesHaveForms, EntryHasForms, FunctionHasForms, IsItem, IsKeptText, IsName, IsWidth, ModuleHasForms, NumberFits, OperandFits, ParameterHasForms, ReadHasForms}
pub use Rattle.ir_text.specs.Laws.{HasFewThings, LexemesAreTokens, PrintedTextsSpell}
pub use Rattle.ir_text.specs.Lexemes.{AreLexemes, HasForm, IsGroupText, IsNameText, Lexeme, MayStand, bytes_of, goes_on, is_at_line_end, line_behind, placed_from, spelled, takes_group, takes_line}
unfoldable pub use Rattle.ir_text.specs.NameText.{escaped, hex_digit, name_text, quoted_text}
unfoldable pub use Rattle.ir_text.specs.NumberText.{number_text}
unfoldable pub use Rattle.ir_text.specs.PrintedText.{between_text, binary_text, block_name_text, block_text, callee_text, case_text, end_text, entry_text, first_head_text, flags_text, function_name_text, function_text, head_text, header_text, identifier_text, incoming_text, inst_text, item_text, label_text, op_text, operand_text, parameter_text, register_text, target_text, truth_text, type_text, typed_text}
pub use Rattle.ir_text.specs.PrintedText.{block_identifier, entries_text, flag_text, text_of}
unfoldable pub use Rattle.ir_tokens.specs.Identifiers.{identifier_of, name_of}
unfoldable pub use Rattle.ir_tokens.specs.Numbers.{constant_of, is_in_range, number_of}
pub use Rattle.ir_tokens.specs.Numbers.{decimal_value}
pub use Rattle.ir_tokens.specs.Order.{AreTokens, HasExtent, IsTokenAt, TokensFrom, bad_byte, itself, kept_group, kept_line, last, token, unclosed}
unfoldable pub use Rattle.ir_tokens.specs.Places.{begins_kept, extent_of}
pub use Rattle.ir_tokens.specs.Places.{is_on, kept_words, place_behind}
pub use Rattle.ir_tokens.specs.Tokens.{Bad, End, Group, Kept, KeptGroup, Label, Mark, Metadata, Other, Placed, Quoted, Token, Word, is_last, mark_of, token_of}
pub use Rattle.ir_tokens.specs.declared.called.Identifier.{Identifier}
pub use Rattle.ir_tokens.specs.declared.called.Identifier.TheVariants.{Named, Numbered}
pub use Rattle.ir_tokens.specs.declared.place.Section.{Section}
pub use Rattle.ir_tokens.specs.declared.place.Section.TheVariants.{AtEntry, InBody, InHeader}
pub use Rattle.ir_tokens.specs.declared.raw.RawBlock.{RawBlock}
pub use Rattle.ir_tokens.specs.declared.raw.RawCase.{RawCase}
pub use Rattle.ir_tokens.specs.declared.raw.RawFunction.{RawFunction}
pub use Rattle.ir_tokens.specs.declared.raw.RawIdentifier.{RawIdentifier}
pub use Rattle.ir_tokens.specs.declared.raw.RawIncoming.{RawIncoming}
pub use Rattle.ir_tokens.specs.declared.raw.RawInst.{RawInst}
pub use Rattle.ir_tokens.specs.declared.raw.RawOp.{RawOp}
pub use Rattle.ir_tokens.specs.declared.raw.RawOperand.{RawOperand}
pub use Rattle.ir_tokens.specs.declared.raw.RawParameter.{RawParameter}
pub use Rattle.ir_tokens.specs.declared.raw.RawTerminator.{RawTerminator}
pub use Rattle.ir_tokens.specs.declared.raw.RawTerminator.TheVariants.{Branch, Jump, Return, Switch, Unreachable}
pub use Rattle.ir_tokens.specs.declared.raw.RawValue.{RawValue}
pub use Rattle.ir_tokens.specs.declared.raw.TypedOperand.{TypedOperand}
pub use Rattle.ops.proofs.FlagKeywordLemmas.{flags_in_order, icmp_flags-fit}
pub use Rattle.ops.proofs.Signed.{pow_doubled}
pub use Rattle.ops.specs.FlagKeywords.{every_flag, flag_keyword, has_flag}
pub use Rattle.ops.specs.Flags.{AreWithin, flags_of, flags_of_cast, flags_of_icmp, icmp_flags, no_flags}
unfoldable pub use Rattle.ops.specs.Integer.{residue}
pub use Rattle.ops.specs.Intrinsics.{is_intrinsic}
pub use Rattle.ops.specs.Keywords.{cast_keyword, opcode_keyword, predicate_keyword, unary_keyword}
pub use Rattle.ops.specs.Truths.{TruthFits, has_truth}
pub use Rattle.ops.specs.declared.comparison.Pred.{Pred}
pub use Rattle.ops.specs.declared.comparison.Pred.TheVariants.{Eq, Ne, Sge, Sgt, Sle, Slt, Uge, Ugt, Ule, Ult}
pub use Rattle.ops.specs.declared.conversion.Cast.{Cast}
pub use Rattle.ops.specs.declared.conversion.Cast.TheVariants.{SExt, Trunc, ZExt}
pub use Rattle.ops.specs.declared.keywords.flag.Flag.{Flag}
pub use Rattle.ops.specs.declared.keywords.flag.Flag.TheVariants.{Disjoint, Exact, NNeg, Nsw, Nuw, SameSign}
pub use Rattle.ops.specs.declared.opcode.Flags.{Flags}
pub use Rattle.ops.specs.declared.opcode.Opcode.{Opcode}
pub use Rattle.ops.specs.declared.opcode.Opcode.TheVariants.{AShr, Add, And, LShr, Mul, Or, SDiv, SMax, SMin, SRem, Shl, Sub, UDiv, UMax, UMin, URem, Xor}
pub use Rattle.ops.specs.declared.opcode.Unary.{Unary}
pub use Rattle.ops.specs.declared.opcode.Unary.TheVariants.{Abs, CtLz, CtPop, CtTz}
pub use Rattle.scan.proofs.Fronts.{and_both, and_left, and_right, or_true, run_passes, which}
pub use Rattle.scan.proofs.KeptLemmas.{group_at, group_feeds}
pub use Rattle.scan.proofs.LawLemmas.{among_begins}
pub use Rattle.scan.proofs.ModuleFronts.{digit_name, list_all-along, literal_names}
pub use Rattle.scan.proofs.ModulePlaces.{next_token, no_end, seen}
pub use Rattle.scan.proofs.ModuleTokens.{begins_token, short_holds_none, spells-empty}
pub use Rattle.scan.proofs.NameLemmas.{in_quotes-quoted, name_cases, quoted_from, quoted_is}
pub use Rattle.scan.proofs.PlaceLemmas.{Behind, feeds_append, no_feeds, run_within}
pub use Rattle.scan.proofs.QuotedLemmas.{reads_hex, reads_plain, zero_found}
unfoldable pub use Rattle.scan.specs.Bytes.{begins_name, begins_word, is_blank, is_digit, is_letter, is_name_byte, is_printable, is_space}
pub use Rattle.scan.specs.Bytes.{are_digits, begins_with, is_run}
pub use Rattle.scan.specs.Gaps.{IsGap, IsLastGap, nothing, space}
unfoldable pub use Rattle.scan.specs.IrTokens.{is_function, is_group, is_label, is_metadata, is_name, is_plain_name, is_register, is_word}
pub use Rattle.scan.specs.IrTokens.{Begins, BeginsNoToken, HoldsZero, IsLongestToken, IsNextToken, is_behind, line_at, marks, spells}
pub use Rattle.scan.specs.Kept.{IsBalanced, IsGroup, IsKeptLine, rest_to_feed}
pub use Rattle.scan.specs.Lines.{between, feeds, last_line, line_of}
pub use Rattle.scan.specs.Names.{blanks_behind}
unfoldable pub use Rattle.scan.specs.Quoted.{hex_value, is_hex, is_quotable, is_quoted, unquoted}
pub use Rattle.scan.specs.Quoted.{in_quotes}
unfoldable pub use Rattle.scan.specs.RuleTokens.{is_literal, is_negative}
pub use Rattle.scan.specs.RuleTokens.{is_among}
pub use Rattle.scan.specs.declared.ir.token.TokenKind.{TokenKind}
pub use Rattle.scan.specs.declared.span.Span.{Span}
pub use Rattle.std.proofs.Math.Nat.{add_assoc}
pub use Rattle.std.proofs.Math.Seq.{drop-append_seam, drop-length, get_or-append_seam, take-append-add, take-length}
pub use Rattle.std.proofs.lemmas.Bool.{cases_eq, false≢true}
pub use Rattle.std.proofs.lemmas.Fmt.{decimal_by_steps}
pub use Rattle.std.proofs.lemmas.Grind.{flat_map-append, fold-append}
pub use Rattle.std.proofs.lemmas.Int.{ints}
pub use Rattle.std.proofs.lemmas.List.{drop-append-le, length-map, take-append-le, take_all, take_more}
pub use Rattle.std.proofs.lemmas.List.Elements.{All-from_recursion, recursion_from_All}
pub use Rattle.std.proofs.lemmas.List.Folds.{list_all-append}
pub use Rattle.std.proofs.lemmas.List.FromFn.{length-enumerate_from}
pub use Rattle.std.proofs.lemmas.List.Sums.{sum_by-append, take_while-cons}
pub use Rattle.std.proofs.lemmas.Option.{get_or_from_slice_get, slice_get-map, slice_get_within}
pub use Rattle.std.proofs.lemmas.Slice.Eq.{bytes_eq-Decides}
pub use Rattle.std.specs.List.{All, AllByRecursion, AllZip, Contains, before_first, enumerate_from, join_by, list_all, list_any, prefix_len}
pub use Rattle.std.specs.Str.{bytes_eq}
