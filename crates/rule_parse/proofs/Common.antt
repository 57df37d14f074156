-- What the proofs of this crate cite of definitions, of other crates and of the libraries, passed on from one place.
pub use Rattle.std.proofs.Common.{Bool, Err, IfErr, IfOk, IsTrue, List, None, Ok, Option, Result, Some, [], ap, append_assoc, arith, codes, cond, drop, eqb, false, flat_map, get_or, if◌then◌else◌, inl, inr, length, length-append, map, not, refl, slice_get, subst, suc, sum_by, sym, true, zero, ℕ, ⊎_elim, ◌&&◌, ◌++◌, ◌+◌, ◌-◌, ◌<◌, ◌||◌, ◌∙◌, ◌∷◌, ◌≡◌, ◌≢◌, ◌≤◌, ◌⊎◌}
pub use Rattle.ops.proofs.FlagKeywordLemmas.{flag_in-is, flag_in-of, flags_are_icmp, predicate_is_no_flag, taken_flags}
pub use Rattle.ops.proofs.KeywordLemmas.{found-passes, pred_in-is, pred_in-of, same_word, word_is}
unfoldable pub use Rattle.ops.specs.FlagKeywords.{flag_in}
pub use Rattle.ops.specs.FlagKeywords.{AddsFlags, flag_keyword, has_flag, with_flag}
pub use Rattle.ops.specs.Flags.{flags_of, flags_of_cast, flags_of_icmp, icmp_flags, no_flags}
pub use Rattle.ops.specs.Keywords.{pred_in, predicate_keyword}
pub use Rattle.ops.specs.declared.comparison.Pred.{Pred}
pub use Rattle.ops.specs.declared.conversion.Cast.{Cast}
pub use Rattle.ops.specs.declared.conversion.Cast.TheVariants.{SExt, Trunc, ZExt}
pub use Rattle.ops.specs.declared.keywords.flag.Flag.{Flag}
pub use Rattle.ops.specs.declared.opcode.Flags.{Flags}
pub use Rattle.ops.specs.declared.opcode.Opcode.TheVariants.{AShr, Add, And, LShr, Mul, Or, SDiv, SMax, SMin, SRem, Shl, Sub, UDiv, UMax, UMin, URem, Xor}
pub use Rattle.ops.specs.declared.opcode.Unary.TheVariants.{CtLz, CtPop, CtTz}
pub use Rattle.refusal.specs.Refusals.{Fails, Gives, IfRefused}
pub use Rattle.refusal.specs.declared.refusal.Refusal.TheVariants.{NoMemory, Refused}
pub use Rattle.rule_core.specs.declared.rule.Function.{Function}
pub use Rattle.rule_core.specs.declared.rule.Function.TheVariants.{Log2, Negate, Not}
pub use Rattle.rule_parse.specs.Contents.{arguments_among, arguments_of, expressions_of, formula_of, target_terms, terms_of, terms_of_argument, terms_of_formula}
unfoldable pub use Rattle.rule_parse.specs.CutTokens.{is_node_word, limited_to}
pub use Rattle.rule_parse.specs.CutTokens.{begins_rule, ends_before_line, is_counted, limited, one_less, or_excess, plain_marks, room_behind}
pub use Rattle.rule_parse.specs.Grammar.{SpellsArgument, SpellsExpression, SpellsExpressions, SpellsFile, SpellsFlags, SpellsHalf, SpellsMoreExpressions, SpellsOp, SpellsOpcode, SpellsOperand, SpellsPair, SpellsPrecondition, SpellsRule, SpellsRules, SpellsStatement, SpellsStatements, SpellsTermOperand, SpellsTo, SpellsTruth, SpellsUntyped, SpellsVersion, SpellsWitness}
unfoldable pub use Rattle.rule_parse.specs.Keywords.{argument_of, operation_in, source_word_in}
pub use Rattle.rule_parse.specs.Keywords.{is_apart, is_known, is_told, is_truth_flag, opcode_token, operation_word, operations, token_with, truth_flag, truth_word}
pub use Rattle.rule_parse.specs.Limits.{most_nodes}
pub use Rattle.rule_parse.specs.NodeCounts.{IsCut, IsWithinLimit, counted, counted_at_end, last_rule}
pub use Rattle.rule_parse.specs.OneReading.{TextsHaveOneReadingOrFault, TokensAreKeptUpToTheLimit, WrittenRulesAreSmall}
unfoldable pub use Rattle.rule_parse.specs.RuleReaders.{argument_at, arrow_at, binary_at, compare_at, convert_at, copy_at, expressions_at, flags_at, freeze_at, name_at, op_at, pair_at, precondition_at, pred_at, rule_at, rules_at, select_at, source_at, source_word, statement_at, statements_at, target_at, to_at, truth_at, typed_at, unary_at, version_at, version_number_at, witness_at}
pub use Rattle.rule_parse.specs.RuleReaders.{IsNoStatement, all_rules, behind_precondition, behind_witness, expression_at, flag_or_end, is_truth_next, known_or_misplaced, more_expressions, name_text, next_flag, operand_at, operation_at, operation_or_other, other_at, register_at, rules_of, term_argument_at}
pub use Rattle.rule_parse.specs.Text.{IsTextFault, IsWritten}
pub use Rattle.rule_parse.specs.Weight.{argument_weight, formula_weight, node_weight, raw_weight}
pub use Rattle.rule_parse.specs.declared.half.Half.{Half}
pub use Rattle.rule_parse.specs.declared.half.Half.TheVariants.{Source, Target}
pub use Rattle.rule_parse.specs.declared.raw.RawArgument.{RawArgument}
pub use Rattle.rule_parse.specs.declared.raw.RawOp.{RawOp}
pub use Rattle.rule_parse.specs.declared.raw.RawOp.TheVariants.{Copy}
pub use Rattle.rule_parse.specs.declared.raw.RawOperand.{RawOperand}
pub use Rattle.rule_parse.specs.declared.raw.RawPrecondition.{RawPrecondition}
pub use Rattle.rule_parse.specs.declared.raw.RawRule.{RawRule}
pub use Rattle.rule_parse.specs.declared.raw.RawStatement.{RawStatement}
pub use Rattle.rule_parse.specs.declared.raw.RawWitness.{RawWitness}
pub use Rattle.rule_parse.specs.declared.word.Operation.{Operation}
pub use Rattle.rule_terms.proofs.ChainLemmas.{Shortens, next_is-is, taken-done, taken-fault, taken-more, taken-smaller}
pub use Rattle.rule_terms.proofs.FormulaReadings.{formula_at-is}
pub use Rattle.rule_terms.proofs.FormulaSpellings.{formula_at-of}
pub use Rattle.rule_terms.proofs.Predicates.{predicates}
pub use Rattle.rule_terms.proofs.Spellings.{term_at-is, term_at-of}
pub use Rattle.rule_terms.proofs.Starts.{mark_at-is, mark_at-of}
unfoldable pub use Rattle.rule_terms.specs.Chains.{chain_of}
pub use Rattle.rule_terms.specs.Chains.{next_is}
pub use Rattle.rule_terms.specs.FormulaKeywords.{comparison_mark}
pub use Rattle.rule_terms.specs.FormulaReaders.{formula_at}
pub use Rattle.rule_terms.specs.Formulas.{Level, SpellsFormula, Standing, compares, either, encloses, masked, member, members, non_zero, one_use, tests, turns}
pub use Rattle.rule_terms.specs.Grammar.{EndsTerm, SpellsLeaf, SpellsTerm, SpellsWholeTerm, called, joined, last_place, leaf, parenthesised, prefixed, tighter, width}
unfoldable pub use Rattle.rule_terms.specs.Keywords.{operator_in}
pub use Rattle.rule_terms.specs.Keywords.{IsCalled, IsChoice, IsPrefix, operator_mark}
pub use Rattle.rule_terms.specs.TermReaders.{mark_at, term_at}
pub use Rattle.rule_terms.specs.declared.place.TermPlace.{TermPlace}
pub use Rattle.rule_terms.specs.declared.place.TermPlace.TheVariants.{Constant, Witness}
pub use Rattle.rule_terms.specs.declared.raw.RawFormula.{RawFormula}
pub use Rattle.rule_terms.specs.declared.raw.RawNode.{RawNode}
pub use Rattle.rule_tokens.proofs.Ends.{EndsLine, line_end-of, name_within-of, type_at-of}
pub use Rattle.rule_tokens.proofs.Readers.{has_tokens, one_reading}
pub use Rattle.rule_tokens.proofs.Steps.{bind_ok, bound, chosen, done, not_left_out, ok_is, passed, read_as, refused_not}
pub use Rattle.rule_tokens.proofs.Takes.{Takes, line_end-is, maybe_type-is, name_within-is, one, taken_to, type_at-is, word_as}
pub use Rattle.rule_tokens.proofs.Types.{type_in-of}
pub use Rattle.rule_tokens.proofs.Versions.{version_in-is, version_in-of}
pub use Rattle.rule_tokens.specs.Limits.{Limits, rule_limits}
unfoldable pub use Rattle.rule_tokens.specs.Numbers.{type_in}
pub use Rattle.rule_tokens.specs.Numbers.{IsWrittenType, literal_value}
unfoldable pub use Rattle.rule_tokens.specs.PartReaders.{maybe_type}
pub use Rattle.rule_tokens.specs.PartReaders.{Read, fault, line_end, name_within, or_left_out, type_at}
pub use Rattle.rule_tokens.specs.Parts.{Comma, Is, Maybe, ◌⨾◌}
pub use Rattle.rule_tokens.specs.RuleFaults.{RuleError, RuleFault}
pub use Rattle.rule_tokens.specs.SeenTokens.{seen, seen_token}
pub use Rattle.rule_tokens.specs.Steps.{◌>>=◌}
pub use Rattle.rule_tokens.specs.Tokens.{AreTokens, Arrow, Fact, Head, Line, Mark, Name, Number, Register, Token, Word}
pub use Rattle.rule_tokens.specs.TypeTokens.{SpellsType}
pub use Rattle.rule_tokens.specs.Versions.{version_in}
pub use Rattle.rule_tokens.specs.declared.fact.BitFact.{BitFact}
pub use Rattle.rule_tokens.specs.declared.fault.RuleFaultKind.TheVariants.{Syntax, TooMany}
pub use Rattle.rule_tokens.specs.declared.version.Version.{Version}
pub use Rattle.rule_tokens.specs.declared.version.Version.TheVariants.{One, Two}
pub use Rattle.scan.proofs.Fronts.{and_left, which}
unfoldable pub use Rattle.scan.specs.Bytes.{is_digit}
pub use Rattle.scan.specs.Bytes.{are_digits}
pub use Rattle.scan.specs.Laws.{OneTokenAtAPlace}
unfoldable pub use Rattle.scan.specs.RuleTokens.{ends_primary, is_choice, is_constant}
pub use Rattle.scan.specs.RuleTokens.{is_among}
pub use Rattle.std.proofs.Math.Nat.{le_refl}
pub use Rattle.std.proofs.lemmas.Bool.{and_parts, eqb-false, eqb-true}
pub use Rattle.std.proofs.lemmas.Grind.{flat_map-append}
pub use Rattle.std.proofs.lemmas.List.{append-nil, drop_all, drop_more, length-map, map-append}
pub use Rattle.std.proofs.lemmas.List.Sums.{sum_by-append, sum_by-cons}
pub use Rattle.std.proofs.lemmas.Result.{err_from_is_err_and}
pub use Rattle.std.specs.List.{list_all, list_any}
pub use Rattle.std.specs.Option.{option_map_or}
pub use Rattle.std.specs.Str.{bytes_eq}
