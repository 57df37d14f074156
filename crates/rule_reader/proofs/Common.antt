-- What the proofs of this crate cite of definitions, of other crates and of the libraries, passed on from one place.
pub use Rattle.std.proofs.Common.{All, Bool, Bor, Contains, IsTrue, List, MatchOption, None, Option, Some, [], ap, append_assoc, arith, codes, cond, drop, eqb, false, flat_map, get_or, inl, inr, is_some, length, length-append, map, refl, slice_get, subst, suc, sym, take, true, zero, ℕ, ◌*◌, ◌++◌, ◌+◌, ◌-◌, ◌<◌, ◌^◌, ◌∙◌, ◌∷◌, ◌≡◌, ◌≤◌, ◌⊎◌}
pub use Rattle.ops.proofs.FlagKeywordLemmas.{taken_flags}
pub use Rattle.ops.specs.Flags.{CastFlagsFit, FlagsFit, flags_of, flags_of_cast}
pub use Rattle.ops.specs.Truths.{TruthFits}
pub use Rattle.ops.specs.declared.conversion.Cast.{Cast}
pub use Rattle.ops.specs.declared.opcode.Flags.{Flags}
pub use Rattle.refusal.specs.Refusals.{IfRefused}
pub use Rattle.refusal.specs.declared.refusal.Refusal.TheVariants.{NoMemory, Refused}
pub use Rattle.rule_core.proofs.Members.{Contains-flat_map, Contains-from_get, get-append_left}
pub use Rattle.rule_core.specs.Checks.{AreDistinct, ChoicesInOrder, FormulaMayMeasure, HasKnownWidth, IsBeforeRoot, IsRule, MayBeFormula, MayBeTerm, MayBeWitness, MeasuresBeforeRoot, ReadsNoUndefAlone, SourceMayRead, TargetMayMeasure, TargetMayRead, names_of, term_weight, weight_of}
pub use Rattle.rule_core.specs.FormulaNodes.{Both, Either, HasOuter, IsPartOf, Joint, Outer, OuterIsOutermost, OuterMayStand, Single, Turns, joint_of, part}
pub use Rattle.rule_core.specs.Positions.{choices_among, choices_of, classes_of, classes_of_node, classes_of_statement, classes_of_term, frozen_in, operands_among, operands_in, undef_in}
pub use Rattle.rule_core.specs.TermNodes.{AreLastNodes, IsOperandOf, NamesWidth, OwnsOperands, StandsIn, operand}
pub use Rattle.rule_core.specs.declared.rule.Argument.{Argument}
pub use Rattle.rule_core.specs.declared.rule.Choice.{Choice}
pub use Rattle.rule_core.specs.declared.rule.Formula.{Formula}
pub use Rattle.rule_core.specs.declared.rule.Node.{Node}
pub use Rattle.rule_core.specs.declared.rule.Op.{Op}
pub use Rattle.rule_core.specs.declared.rule.Operand.{Operand}
pub use Rattle.rule_core.specs.declared.rule.Rule.{Rule}
pub use Rattle.rule_core.specs.declared.rule.Statement.{Statement}
pub use Rattle.rule_parse.proofs.Weight.{small_rules}
pub use Rattle.rule_parse.specs.Contents.{arguments_among, arguments_of, expressions_of, formula_of, target_terms, terms_of, terms_of_argument, terms_of_formula}
pub use Rattle.rule_parse.specs.Grammar.{SpellsArgument, SpellsExpressions, SpellsHalf, SpellsMoreExpressions, SpellsOp, SpellsOperand, SpellsPair, SpellsPrecondition, SpellsRule, SpellsRules, SpellsStatement, SpellsStatements, SpellsTermOperand, SpellsTruth, SpellsUntyped, SpellsVersion, SpellsWitness}
unfoldable pub use Rattle.rule_parse.specs.Keywords.{argument_of}
pub use Rattle.rule_parse.specs.OneReading.{TextsHaveOneReadingOrFault}
pub use Rattle.rule_parse.specs.Text.{IsTextFault, IsWritten}
pub use Rattle.rule_parse.specs.Weight.{argument_weight, formula_weight, node_weight, raw_weight}
pub use Rattle.rule_parse.specs.declared.raw.RawArgument.{RawArgument}
pub use Rattle.rule_parse.specs.declared.raw.RawArgument.TheVariants.{Constant, Literal, Truth, Undef}
pub use Rattle.rule_parse.specs.declared.raw.RawOp.{RawOp}
pub use Rattle.rule_parse.specs.declared.raw.RawOp.TheVariants.{Binary, Compare, Convert, Copy, Freeze, Select, Unary}
pub use Rattle.rule_parse.specs.declared.raw.RawOperand.{RawOperand}
pub use Rattle.rule_parse.specs.declared.raw.RawPrecondition.{RawPrecondition}
pub use Rattle.rule_parse.specs.declared.raw.RawRule.{RawRule}
pub use Rattle.rule_parse.specs.declared.raw.RawStatement.{RawStatement}
pub use Rattle.rule_parse.specs.declared.raw.RawWitness.{RawWitness}
pub use Rattle.rule_reader.specs.ClassFaults.{IsClassFault, IsClassifiedAs}
pub use Rattle.rule_reader.specs.FaultKinds.{ArgumentIsBound, AssignsAgain, ClassesAt, DuplicateAt, Each, FormulaIsBound, HasNameOf, HasUndefInside, IsFreeze, IsUnused, LeavesOpen, MayUse, MissesRoot, NodeIsBound, OpIsBound, PreconditionUnbound, ReadsUndefAlone, RedefinesAt, RootMissingAt, StandsAt, StatementUnbound, TermIsBound, UnboundAt, UndefInsideAt, UnusedTempAt, WitnessCountAt, WitnessUnbound, witness_line}
pub use Rattle.rule_reader.specs.Faults.{AreRulesOf, Check, Duplicate, FailsAt, IsFault, IsFirst, IsFirstLine, IsFirstRuleFault, IsRuleFile, IsRuleOf, ManyClasses, NoType, OpenType, Passes, RootMissing, Unbound, UndefInside, UnusedTemp, WitnessCount, class_check, kind_of, of_rule, of_text, rank, too_long}
pub use Rattle.rule_reader.specs.Inputs.{Adds, AddsNames, AddsUses, AreNamesAmong}
pub use Rattle.rule_reader.specs.KnownRules.{AddsTerms, AreFew, AreReady, Finds, HalfIsBound, HasReadyTerm, HasReadyTerms, IsPlaceOf, IsWhole, NamesAreThere, NodeFits, half_of, place_in}
pub use Rattle.rule_reader.specs.Laws.{TextsHaveOneListOrFault}
pub use Rattle.rule_reader.specs.Limits.{most_bytes}
pub use Rattle.rule_reader.specs.Meaning.{AreFirstGiven, AreInputs, AreNames, ArgumentMeans, AssignsAt, FormulaMeans, GivenAt, GivesConstant, GivesInput, HalfMeans, HasName, IsConstant, IsInput, IsRoot, IsTemporary, Means, NodeMeans, OpMeans, OperandMeans, PreconditionMeans, StatementMeans, TermsMean, Uses, UsesAt, counted_among, counted_of, in_half, last_nodes, names_of_rule, no_counts, nodes_in, past, past_all, with_counts, with_nodes, with_terms}
pub use Rattle.rule_reader.specs.RepeatedNames.{MarksRepeated, MarksRule}
pub use Rattle.rule_reader.specs.WellFormed.{AreInLineOrder, IsBehindFormulas, IsHalf, IsTerm, IsWellFormed, MayStandInSource, MayStandInTerm, raw_joint}
pub use Rattle.rule_reader.specs.declared.counts.Counts.{Counts}
pub use Rattle.rule_reader.specs.declared.names.Names.{Names}
pub use Rattle.rule_reader.specs.declared.place.Half.{Half}
pub use Rattle.rule_reader.specs.declared.place.UseSite.{UseSite}
pub use Rattle.rule_terms.proofs.Predicates.{predicates}
pub use Rattle.rule_terms.specs.Formulas.{Level, Member, Outermost, SpellsFormula, Standing, Within, both, compares, either, encloses, masked, member, members, non_zero, tests, turns}
pub use Rattle.rule_terms.specs.Grammar.{SpellsTerm, SpellsWholeTerm, called, joined, last_place, leaf, parenthesised, prefixed, tighter, width}
pub use Rattle.rule_terms.specs.Nodes.{IsBehindOperands}
pub use Rattle.rule_terms.specs.declared.place.TermPlace.{TermPlace}
pub use Rattle.rule_terms.specs.declared.raw.RawFormula.{RawFormula}
pub use Rattle.rule_terms.specs.declared.raw.RawNode.{RawNode}
pub use Rattle.rule_tokens.specs.Contexts.{at_start, is_opcode}
pub use Rattle.rule_tokens.specs.Facts.{fact_in}
pub use Rattle.rule_tokens.specs.Limits.{rule_limits}
pub use Rattle.rule_tokens.specs.Parts.{Maybe, Part}
pub use Rattle.rule_tokens.specs.RuleFaults.{RuleError, RuleFault}
pub use Rattle.rule_tokens.specs.Tokens.{Arrow, AtToken, Bad, Excess, Fact, Head, Line, Mark, Name, Number, Other, Place, Token, TokensFrom, Word, bad_name, bad_token, bytes_at, ends, is_called, token, token_at, token_of, word_of}
pub use Rattle.rule_tokens.specs.declared.context.Context.{Context}
pub use Rattle.rule_tokens.specs.declared.fact.BitFact.{BitFact}
pub use Rattle.rule_tokens.specs.declared.version.Version.{Version}
pub use Rattle.rule_typing.proofs.Deciding.{dec_both, dec_either, dec_not, dec_number, dec_one, dec_place, stable}
pub use Rattle.rule_typing.specs.Classes.{IsClassified, Joined, SameClass}
pub use Rattle.rule_typing.specs.Faults.{HasNoFault, HasNoTyping, HasOpenClass, HasTooManyClasses}
pub use Rattle.rule_typing.specs.Laws.{RulesHaveClasses}
pub use Rattle.rule_typing.specs.Relabelled.{numbered, numbered_node, numbered_op, numbered_statement, numbered_statements, numbered_term, numbered_terms}
pub use Rattle.rule_typing.specs.declared.classes.ClassFault.{ClassFault}
pub use Rattle.scan.specs.Lines.{line_of}
pub use Rattle.scan.specs.Names.{rest_of_line}
pub use Rattle.scan.specs.RuleTokens.{line_at}
pub use Rattle.scan.specs.declared.rule_token.RuleKind.{RuleKind}
pub use Rattle.std.proofs.Math.Decide.{dec_le, dec_lt, map_dec}
pub use Rattle.std.proofs.lemmas.Bool.{cases_lt, false≢true}
pub use Rattle.std.proofs.lemmas.Grind.{flat_map-append, fold-append}
pub use Rattle.std.proofs.lemmas.List.{append-nil, length-map, take-append-drop, take-take, take_all, take_more}
pub use Rattle.std.proofs.lemmas.List.Elements.{Contains-append_left, Contains-append_right, Contains-push, Contains-push_cases}
pub use Rattle.std.proofs.lemmas.List.FromFn.{length-range_with_len}
pub use Rattle.std.proofs.lemmas.List.Sums.{sum_by-append, sum_by-cons, sum_by-take-drop}
pub use Rattle.std.proofs.lemmas.Option.{same_Some, slice_get-get_or, slice_get_within}
pub use Rattle.std.proofs.lemmas.Result.{err_from_is_err_and}
pub use Rattle.std.proofs.lemmas.Slice.Eq.{bytes_eq-Decides}
pub use Rattle.std.specs.HashMap.{get}
pub use Rattle.std.specs.List.{AllZip, range_with_len}
pub use Rattle.std.specs.Map.{lookup}
pub use Rattle.std.specs.Option.{option_map_or}
pub use Rattle.std.specs.Str.{bytes_eq}
