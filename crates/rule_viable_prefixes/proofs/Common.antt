-- What the proofs of this crate cite of definitions, of other crates and of the libraries, passed on from one place.
pub use Rattle.std.proofs.Common.{Bool, Err, IsTrue, List, None, Ok, Option, Result, Some, [], ap, append_assoc, arith, codes, cond, drop, eqb, false, if◌then◌else◌, inl, inr, length, length-append, length-drop, map, nat_le, not, refl, subst, suc, sym, take, true, zero, ℕ, ⊎_elim, ◌++◌, ◌+◌, ◌-◌, ◌<◌, ◌||◌, ◌∙◌, ◌∷◌, ◌≡◌, ◌≢◌, ◌≤◌, ◌⊎◌}
pub use Rattle.ops.proofs.FlagKeywordLemmas.{flag_in-is, flag_in-of, flags_are_icmp, taken_flags}
pub use Rattle.ops.proofs.KeywordLemmas.{pred_in-is, pred_in-of, same_word, word_is}
pub use Rattle.ops.specs.FlagKeywords.{AddsFlags, flag_in, flag_keyword, has_flag, with_flag}
pub use Rattle.ops.specs.Flags.{flags_of, flags_of_cast, flags_of_icmp, icmp_flags, no_flags}
unfoldable pub use Rattle.ops.specs.Keywords.{pred_in}
pub use Rattle.ops.specs.Keywords.{opcode_keyword, predicate_keyword}
pub use Rattle.ops.specs.declared.comparison.Pred.{Pred}
pub use Rattle.ops.specs.declared.comparison.Pred.TheVariants.{Eq}
pub use Rattle.ops.specs.declared.conversion.Cast.{Cast}
pub use Rattle.ops.specs.declared.keywords.flag.Flag.{Flag}
pub use Rattle.ops.specs.declared.keywords.flag.Flag.TheVariants.{Disjoint, Exact, NNeg, Nsw, Nuw, SameSign}
pub use Rattle.ops.specs.declared.opcode.Flags.{Flags}
pub use Rattle.refusal.specs.declared.refusal.Refusal.TheVariants.{Refused}
pub use Rattle.rule_core.specs.declared.rule.Function.{Function}
pub use Rattle.rule_core.specs.declared.rule.Function.TheVariants.{Abs, Log2, Negate}
pub use Rattle.rule_parse.proofs.Beginnings.{BeginsOperand, argument_begins}
pub use Rattle.rule_parse.proofs.Counts.{kept_up_to_the_limit, passed_by_no_line}
pub use Rattle.rule_parse.proofs.Cuts.{AreOfText, IsOfText, of_back, of_both}
pub use Rattle.rule_parse.proofs.Expressions.{expression_shortens}
pub use Rattle.rule_parse.proofs.Files.{all_rules-is, all_rules-of, version_read}
pub use Rattle.rule_parse.proofs.Loops.{flags-again, flags-more}
pub use Rattle.rule_parse.proofs.OpSpellings.{flags_done}
pub use Rattle.rule_parse.proofs.Pieces.{IsOpcode, operation_in-is, operation_in-of, source_word_in-is, truth_flag-is, truth_flag-of, type_is_no_flag, type_is_no_truth_flag}
pub use Rattle.rule_parse.proofs.Readings.{name_at-is, rule_at-shorter, rules_at-is}
pub use Rattle.rule_parse.proofs.Spellings.{rules_at-of}
pub use Rattle.rule_parse.proofs.Weight.{file_of_text}
unfoldable pub use Rattle.rule_parse.specs.CutTokens.{limited_to}
pub use Rattle.rule_parse.specs.CutTokens.{limited, or_excess, room_behind}
pub use Rattle.rule_parse.specs.Grammar.{SpellsArgument, SpellsExpression, SpellsExpressions, SpellsFile, SpellsHalf, SpellsMoreExpressions, SpellsOp, SpellsOpcode, SpellsOperand, SpellsPair, SpellsPrecondition, SpellsRule, SpellsRules, SpellsStatement, SpellsStatements, SpellsTo, SpellsTruth, SpellsVersion, SpellsWitness}
unfoldable pub use Rattle.rule_parse.specs.Keywords.{argument_of, operation_in, source_word_in}
pub use Rattle.rule_parse.specs.Keywords.{is_apart, is_known, is_of_second, is_truth_flag, opcode_token, operation_word, token_with, truth_flag}
pub use Rattle.rule_parse.specs.Limits.{most_nodes}
pub use Rattle.rule_parse.specs.NodeCounts.{IsCut, IsWithinLimit, counted_at_end}
unfoldable pub use Rattle.rule_parse.specs.RuleReaders.{argument_at, arrow_at, binary_at, compare_at, convert_at, copy_at, expressions_at, flags_at, freeze_at, name_at, op_at, pair_at, precondition_at, pred_at, rule_at, rules_at, select_at, source_at, source_word, statement_at, statements_at, target_at, to_at, truth_at, typed_at, unary_at, version_at, version_number_at, witness_at}
pub use Rattle.rule_parse.specs.RuleReaders.{all_rules, behind_precondition, behind_witness, expression_at, flag_or_end, is_truth_next, known_or_misplaced, more_expressions, name_text, next_flag, next_operation, operation_at, operation_or_other, other_at, rules_of, term_argument_at, unexpected_line}
pub use Rattle.rule_parse.specs.Text.{IsFaultWithin}
pub use Rattle.rule_parse.specs.declared.half.Half.{Half}
pub use Rattle.rule_parse.specs.declared.half.Half.TheVariants.{Source, Target}
pub use Rattle.rule_parse.specs.declared.raw.RawArgument.{RawArgument}
pub use Rattle.rule_parse.specs.declared.raw.RawOp.{RawOp}
pub use Rattle.rule_parse.specs.declared.raw.RawOp.TheVariants.{Binary, Convert, Copy, Freeze, Select, Unary}
pub use Rattle.rule_parse.specs.declared.raw.RawOperand.{RawOperand}
pub use Rattle.rule_parse.specs.declared.raw.RawPrecondition.{RawPrecondition}
pub use Rattle.rule_parse.specs.declared.raw.RawRule.{RawRule}
pub use Rattle.rule_parse.specs.declared.raw.RawStatement.{RawStatement}
pub use Rattle.rule_parse.specs.declared.raw.RawWitness.{RawWitness}
pub use Rattle.rule_parse.specs.declared.word.Operation.{Operation}
pub use Rattle.rule_terms.proofs.ChainLemmas.{next_is-is}
pub use Rattle.rule_terms.proofs.FormulaReadings.{StartsSo, alternatives_of-is, comparison_at-is, joins_shortens, member_at-is, members_of-is, opening_at-is, outer_member_at-is, reads_shorten, stands_outermost, stands_within}
pub use Rattle.rule_terms.proofs.FormulaSpellings.{comparison_says, formula_says, predicate_says, term_compares, term_plain, within_read}
pub use Rattle.rule_terms.proofs.FormulaSteps.{encloses-too_deep, member-compares, member-encloses, member-tests, member-turns, turns-too_deep}
pub use Rattle.rule_terms.proofs.Meanings.{meaning_in-is, meaning_in-of, operator_at-is, operator_at-of}
pub use Rattle.rule_terms.proofs.Readings.{operand_shorter, spells_some}
pub use Rattle.rule_terms.proofs.Spellings.{term_at-is, term_at-of}
pub use Rattle.rule_terms.proofs.Starts.{mark_at-is}
unfoldable pub use Rattle.rule_terms.specs.Chains.{chain_of}
pub use Rattle.rule_terms.specs.Chains.{next_is}
pub use Rattle.rule_terms.specs.FormulaKeywords.{comparison_in, comparison_mark, formula_words, predicate_in, predicate_node, predicate_word}
unfoldable pub use Rattle.rule_terms.specs.FormulaReaders.{compares_at, comparison_at, formula_at, masked_at, member_at, non_zero_at, one_use_at, opens_formula, outer_member_at, tests_at}
pub use Rattle.rule_terms.specs.FormulaReaders.{alternatives_of, comparison_or_fault, deeper, encloses_at, is_outer, joins, members_of, more_alternatives, opens_behind, or_alternatives, sign_of, turns_at}
pub use Rattle.rule_terms.specs.Formulas.{Alternatives, Level, Member, Members, Outermost, SpellsFormula, SpellsWholeFormula, Standing, both, compares, either, encloses, masked, member, members, non_zero, tests, turns}
pub use Rattle.rule_terms.specs.Grammar.{SpellsLeaf, SpellsTerm, SpellsWholeTerm, called, joined, last_place, leaf, parenthesised, prefixed, tighter, width}
unfoldable pub use Rattle.rule_terms.specs.Keywords.{choice_in, meaning_in, name_in}
pub use Rattle.rule_terms.specs.Keywords.{IsCalled, IsChoice, IsPrefix, level_of, loosest, operator_in, operator_mark}
unfoldable pub use Rattle.rule_terms.specs.TermReaders.{behind_at, mark_at, measured_at, opening_in, operator_at, primary_at, start_at, term_at}
pub use Rattle.rule_terms.specs.TermReaders.{add_unary, inside_at, join, joined_or_end, of_level, register_in, shallow_in, whole_chain_at, word_at}
pub use Rattle.rule_terms.specs.declared.formula_word.Opening.{Opening}
pub use Rattle.rule_terms.specs.declared.formula_word.Opening.TheVariants.{Compares, Encloses, Tests, Turns}
pub use Rattle.rule_terms.specs.declared.formula_word.Predicate.{Predicate}
pub use Rattle.rule_terms.specs.declared.formula_word.Predicate.TheVariants.{IsPowerOfTwo, IsSignBit}
pub use Rattle.rule_terms.specs.declared.place.TermPlace.{TermPlace}
pub use Rattle.rule_terms.specs.declared.place.TermPlace.TheVariants.{Witness}
pub use Rattle.rule_terms.specs.declared.raw.RawFormula.{RawFormula}
pub use Rattle.rule_terms.specs.declared.raw.RawFormula.TheVariants.{And, HasOneUse, IsKnownNonZero, MaskedValueIsZero, Or}
pub use Rattle.rule_terms.specs.declared.raw.RawNode.{RawNode}
pub use Rattle.rule_terms.specs.declared.start.Start.{Start}
pub use Rattle.rule_terms.specs.declared.start.Start.TheVariants.{Leaf, Parenthesis, Prefix}
pub use Rattle.rule_terms.specs.declared.word.Meaning.{Meaning}
pub use Rattle.rule_terms.specs.declared.word.Meaning.TheVariants.{Choice}
pub use Rattle.rule_tokens.proofs.Ends.{EndsLine, line_end-of, name_within-of}
pub use Rattle.rule_tokens.proofs.Readers.{one_reading}
pub use Rattle.rule_tokens.proofs.Steps.{bound, ok_is, read_as}
pub use Rattle.rule_tokens.proofs.Types.{type_in-is, type_in-of}
pub use Rattle.rule_tokens.proofs.Versions.{version_in-is}
pub use Rattle.rule_tokens.specs.Contexts.{at_start, behind_name, context_behind, is_opcode}
pub use Rattle.rule_tokens.specs.Facts.{fact_in}
pub use Rattle.rule_tokens.specs.Limits.{AreWithin, Limits, rule_limits}
unfoldable pub use Rattle.rule_tokens.specs.Numbers.{type_in}
pub use Rattle.rule_tokens.specs.Numbers.{IsWrittenType, literal_value}
unfoldable pub use Rattle.rule_tokens.specs.PartReaders.{maybe_type, name_within, type_at}
pub use Rattle.rule_tokens.specs.PartReaders.{Read, fault, left_out, line_end, misplaced_word, or_left_out, type_or_word, unexpected}
pub use Rattle.rule_tokens.specs.Parts.{Comma, Is, Maybe, Nothing, Part, ◌⨾◌}
pub use Rattle.rule_tokens.specs.RuleFaults.{RuleFault}
pub use Rattle.rule_tokens.specs.Steps.{◌>>=◌}
pub use Rattle.rule_tokens.specs.Tokens.{AreTokens, Arrow, AtName, Bad, Excess, Fact, Head, Line, Mark, Name, Number, Place, Register, Token, TokensFrom, Word, bad_name, bad_token, bytes_at, is_called, place_behind, token_at, token_of, token_on, word_of}
pub use Rattle.rule_tokens.specs.TypeTokens.{SpellsType}
pub use Rattle.rule_tokens.specs.Versions.{version_in}
pub use Rattle.rule_tokens.specs.declared.context.Context.{Context}
pub use Rattle.rule_tokens.specs.declared.fact.BitFact.{BitFact}
pub use Rattle.rule_tokens.specs.declared.fault.RuleFaultKind.{RuleFaultKind}
pub use Rattle.rule_tokens.specs.declared.fault.RuleFaultKind.TheVariants.{BadByte, LeftOut, Syntax, TooMany}
pub use Rattle.rule_tokens.specs.declared.version.Version.{Version}
pub use Rattle.rule_tokens.specs.declared.version.Version.TheVariants.{One, Two}
unfoldable pub use Rattle.rule_viable_prefixes.specs.Fits.{line_behind}
pub use Rattle.rule_viable_prefixes.specs.Fits.{Fits, FitsBehind, LineFits, SpellsWithoutLimits}
pub use Rattle.rule_viable_prefixes.specs.Laws.{DoesNotFit, IsAtEnd, IsAtToken, IsOneTooMany, RefusalsAreExact}
pub use Rattle.rule_viable_prefixes.specs.Misfits.{AreFlagWords, Fitting, IsFlagWord, IsKindOf, IsLeftOut, IsNoun, NounFits, RepeatsFlag, of_instruction, of_intrinsic, version, word}
pub use Rattle.rule_viable_prefixes.specs.Passed.{AllStayWithin, Joins, Negates, Role, StaysWithin, closed, ends_operand, mark_role, name_bytes, open_behind, open_with, role_of, statements_behind, used, without_negations, without_signs}
pub use Rattle.rule_viable_prefixes.specs.WiderLimits.{TextsAreRefusedByLimitsAsTooMany, WiderLimitsChangeTooManyAlone}
pub use Rattle.scan.proofs.Fronts.{which}
pub use Rattle.scan.proofs.PlaceLemmas.{ends_or_not, feeds_append, feeds_between, run_feeds}
unfoldable pub use Rattle.scan.specs.Bytes.{is_bad, is_blank, is_digit, is_letter, is_printable, is_space, is_word_byte}
pub use Rattle.scan.specs.Bytes.{begins_with}
pub use Rattle.scan.specs.Gaps.{IsGap, comment, nothing, space}
pub use Rattle.scan.specs.Laws.{OneTokenAtAPlace}
pub use Rattle.scan.specs.Lines.{between, feeds}
unfoldable pub use Rattle.scan.specs.Names.{is_in_rest}
pub use Rattle.scan.specs.Names.{rest_of_line}
unfoldable pub use Rattle.scan.specs.RuleTokens.{ends_primary, is_choice, is_constant, is_literal, is_mark, is_negative, is_placed_operator, is_register, is_remainder, is_rule_word, is_unsigned_operator, kind_of}
pub use Rattle.scan.specs.RuleTokens.{IsBadNext, IsGapBefore, IsLongestToken, IsNextRuleToken, in_operator_place, is_among, line_at}
pub use Rattle.scan.specs.declared.rule_token.RuleKind.{RuleKind}
pub use Rattle.scan.specs.declared.rule_token.RuleToken.{RuleToken}
pub use Rattle.std.proofs.Math.Nat.{le_refl}
pub use Rattle.std.proofs.Math.Numerals.{one-add}
pub use Rattle.std.proofs.lemmas.Bool.{eqb-true, le-leb, leb-false, leb-true}
pub use Rattle.std.proofs.lemmas.List.{append-nil, append_cancel_right, drop-drop, length-take-le, map-append}
pub use Rattle.std.proofs.lemmas.List.Sums.{prefix_len-le-length}
pub use Rattle.std.specs.List.{list_any, prefix_len}
pub use Rattle.std.specs.Str.{bytes_eq}
