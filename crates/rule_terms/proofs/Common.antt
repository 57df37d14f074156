-- What the proofs of this crate cite of definitions, of other crates and of the libraries, passed on from one place.
pub use Rattle.std.proofs.Common.{Bool, Err, List, None, Ok, Option, Result, Some, [], ap, append_assoc, arith, codes, cond, drop, eqb, false, if◌then◌else◌, inl, inr, length, length-append, min, not, refl, slice_get, subst, suc, sym, true, zero, zero-add, ℕ, ⊎_elim, ◌&&◌, ◌*◌, ◌++◌, ◌+◌, ◌-◌, ◌<◌, ◌==◌, ◌^◌, ◌||◌, ◌∙◌, ◌∷◌, ◌≡◌, ◌≢◌, ◌≤◌, ◌⊎◌}
pub use Rattle.ops.proofs.KeywordLemmas.{found-passes, same_word}
pub use Rattle.ops.specs.Keywords.{predicates}
pub use Rattle.ops.specs.declared.comparison.Pred.{Pred}
pub use Rattle.ops.specs.declared.comparison.Pred.TheVariants.{Eq, Ne, Sge, Sgt, Sle, Slt, Uge, Ugt, Ule, Ult}
pub use Rattle.ops.specs.declared.opcode.Opcode.{Opcode}
pub use Rattle.ops.specs.declared.opcode.Opcode.TheVariants.{AShr, Add, And, LShr, Mul, Or, SDiv, SMax, SMin, SRem, Shl, Sub, UDiv, UMax, UMin, URem, Xor}
pub use Rattle.refusal.specs.Refusals.{Fails, Gives}
pub use Rattle.refusal.specs.declared.refusal.Refusal.TheVariants.{NoMemory, Refused}
pub use Rattle.rule_core.specs.declared.rule.Function.{Function}
pub use Rattle.rule_core.specs.declared.rule.Function.TheVariants.{Abs, Log2, Negate}
unfoldable pub use Rattle.rule_terms.specs.Chains.{chain_of}
pub use Rattle.rule_terms.specs.Chains.{next_is}
unfoldable pub use Rattle.rule_terms.specs.FormulaKeywords.{comparison_in, predicate_in}
pub use Rattle.rule_terms.specs.FormulaKeywords.{comparison_mark, predicate_node, predicate_word}
unfoldable pub use Rattle.rule_terms.specs.FormulaReaders.{compares_at, comparison_at, formula_at, masked_at, member_at, non_zero_at, one_use_at, opens_formula, outer_member_at, tests_at}
pub use Rattle.rule_terms.specs.FormulaReaders.{alternatives_of, comparison_or_fault, deeper, encloses_at, is_outer, joins, mark_opening, members_of, more_alternatives, more_members, opens_behind, or_alternatives, register_at, sign_of, too_deep, turns_at, word_opening, word_sign}
pub use Rattle.rule_terms.specs.Formulas.{Alternatives, Level, Member, Members, Outermost, SpellsFormula, SpellsWholeFormula, Standing, Within, both, compares, either, encloses, masked, member, members, non_zero, one_use, tests, turns}
pub use Rattle.rule_terms.specs.Grammar.{EndsTerm, SpellsLeaf, SpellsTerm, SpellsWholeTerm, called, last_place, leaf, parenthesised, prefixed, tighter, width}
unfoldable pub use Rattle.rule_terms.specs.Keywords.{choice_in, meaning_in, name_in, operator_in}
pub use Rattle.rule_terms.specs.Keywords.{IsCalled, IsChoice, IsPrefix, choice_meaning, level_of, loosest, operator_mark, operators}
pub use Rattle.rule_terms.specs.Laws.{TermsAreReadAsSpelled}
pub use Rattle.rule_terms.specs.Nodes.{IsBehindOperands, NodesStandBehindOperands}
unfoldable pub use Rattle.rule_terms.specs.TermReaders.{behind_at, mark_at, measured_at, opening_in, operator_at, primary_at, start_at, term_at}
pub use Rattle.rule_terms.specs.TermReaders.{add_unary, inside_at, join, joined_or_end, of_level, operand_at, register_in, shallow_in, whole_chain_at, word_at}
pub use Rattle.rule_terms.specs.declared.formula_word.Opening.{Opening}
pub use Rattle.rule_terms.specs.declared.formula_word.Opening.TheVariants.{Compares, Encloses, Tests, Turns}
pub use Rattle.rule_terms.specs.declared.formula_word.Predicate.{Predicate}
pub use Rattle.rule_terms.specs.declared.formula_word.Predicate.TheVariants.{IsPowerOfTwo, IsSignBit}
pub use Rattle.rule_terms.specs.declared.formula_word.Sign.{Sign}
pub use Rattle.rule_terms.specs.declared.place.TermPlace.{TermPlace}
pub use Rattle.rule_terms.specs.declared.place.TermPlace.TheVariants.{Constant}
pub use Rattle.rule_terms.specs.declared.raw.RawFormula.{RawFormula}
pub use Rattle.rule_terms.specs.declared.raw.RawNode.{RawNode}
pub use Rattle.rule_terms.specs.declared.start.Start.{Start}
pub use Rattle.rule_terms.specs.declared.start.Start.TheVariants.{Call, Leaf, Parenthesis, Prefix, Width}
pub use Rattle.rule_terms.specs.declared.word.Meaning.{Meaning}
pub use Rattle.rule_tokens.proofs.Ends.{EndsLine, line_end-of, name_within-of}
pub use Rattle.rule_tokens.proofs.Steps.{bind_ok, bound, chosen, done, guarded, ok_is, read_as, tested}
pub use Rattle.rule_tokens.proofs.Takes.{Takes, line_end-is, mark_is, name_within-is}
pub use Rattle.rule_tokens.specs.Limits.{Limits, rule_limits}
pub use Rattle.rule_tokens.specs.Numbers.{decimal_value, literal_value}
pub use Rattle.rule_tokens.specs.PartReaders.{Read, fault, line_end, name_within}
pub use Rattle.rule_tokens.specs.RuleFaults.{RuleError, RuleFault}
pub use Rattle.rule_tokens.specs.SeenTokens.{seen}
pub use Rattle.rule_tokens.specs.Steps.{◌>>=◌}
pub use Rattle.rule_tokens.specs.Tokens.{Fact, Line, Mark, Number, Register, Token, Word}
pub use Rattle.rule_tokens.specs.declared.fault.RuleFaultKind.TheVariants.{Syntax}
pub use Rattle.scan.proofs.Fronts.{and_left, and_right, which}
pub use Rattle.scan.specs.Bytes.{are_digits, begins_with, is_digit}
unfoldable pub use Rattle.scan.specs.RuleTokens.{is_constant}
pub use Rattle.std.proofs.lemmas.Bool.{eq-eqb, eqb-true, false≢true, ne_eqb}
pub use Rattle.std.proofs.lemmas.List.Folds.{list_any-append}
pub use Rattle.std.proofs.lemmas.Result.{err_from_is_err_and}
pub use Rattle.std.specs.List.{list_all, list_any}
pub use Rattle.std.specs.Str.{bytes_eq}
