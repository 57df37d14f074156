-- What the proofs of this crate cite of definitions, of other crates and of the libraries, passed on from one place.
pub use Rattle.std.proofs.Common.{Bool, Bor, Contains, IfNone, IfSome, IsTrue, List, None, Option, Some, [], ap, arith, below_more, false, flat_map, get_or, get_or-set_other, get_or-set_same, inl, inr, length, map, option_and_then, option_map, pos, refl, rules, slice_get, slice_set, subst, suc, sym, take, true, zero, ℕ, ◌&&◌, ◌++◌, ◌+◌, ◌-◌, ◌<◌, ◌↔◌, ◌∙◌, ◌∷◌, ◌≡◌, ◌≢◌, ◌≤◌, ◌⊎◌}
pub use Rattle.bindings.specs.Checks.{IsBoundInScope, IsMet, IsRootOperation, MatchesAt}
pub use Rattle.bindings.specs.Facts.{AreFactsOf}
pub use Rattle.bindings.specs.Known.{AsksBitsOf, FactFollows, Knowledge, SaysOf, known_by, known_in, number_of_term, operand_for}
pub use Rattle.bindings.specs.Laws.{MatchedInstsAreReached, NamedRegistersAreAssigned, OperandsAreAssigned, ReadsStandBefore, TemporariesStandBefore}
pub use Rattle.bindings.specs.Match.{IsAvailable, IsInScope, IsMatch, MatchesInAnyOrder, MatchesWhere}
pub use Rattle.bindings.specs.Nodes.{Has, HasExactly, HasOperandOf, IsTemporaryWidth, NamesAmong, OneNamesAmong}
pub use Rattle.bindings.specs.Operands.{OperandMatches, StandsFor}
pub use Rattle.bindings.specs.Promises.{AreKept}
pub use Rattle.bindings.specs.Statements.{InstMatches, IsSameOperation, MeasuresTemporary, NamesTemporary, OneNamesTemporary, StatementMatches, TargetNamesTemporary, promises_of_inst, promises_of_statement}
pub use Rattle.bindings.specs.declared.binding.Binding.{Binding}
pub use Rattle.bindings.specs.declared.facts.FunctionFacts.{FunctionFacts}
pub use Rattle.bindings.specs.declared.nodes.Nodes.{Nodes}
pub use Rattle.bindings.specs.declared.promises.Promises.{Promises}
pub use Rattle.ir_core.specs.Assigned.{IsAssigned}
pub use Rattle.ir_core.specs.Blocks.{HasInst, IsBlock}
pub use Rattle.ir_core.specs.Checks.{IsInst, IsPhi, MeetsChecks}
pub use Rattle.ir_core.specs.Names.{width_of}
pub use Rattle.ir_core.specs.Reads.{IsRead, Read, read, reads_at, reads_by, reads_in, reads_of}
pub use Rattle.ir_core.specs.Walks.{IsReached, IsWalk}
pub use Rattle.ir_core.specs.declared.function.Block.{Block}
pub use Rattle.ir_core.specs.declared.function.Function.{Function}
pub use Rattle.ir_core.specs.declared.instruction.Inst.{Inst}
pub use Rattle.ir_core.specs.declared.instruction.Op.{Op}
pub use Rattle.ir_core.specs.declared.operand.Operand.{Operand}
pub use Rattle.ir_core.specs.declared.operand.Register.{Register}
pub use Rattle.ir_meaning.proofs.Pieces.{cases_in, contains_at, not_in_empty, place_in}
pub use Rattle.ir_meaning.specs.Assignments.{AssignmentIsTransitive, NotBothAreAssigned}
pub use Rattle.known_bits.specs.declared.words.Known.{Known}
pub use Rattle.needed.proofs.Reading.{own_place}
pub use Rattle.ops.proofs.FlagSets.{both, flags_equal}
pub use Rattle.ops.specs.Number.{Number}
pub use Rattle.ops.specs.Value.{IsValueOf}
pub use Rattle.ops.specs.declared.value.Value.TheVariants.{Bits}
pub use Rattle.rule_core.proofs.Members.{Contains-flat_map, Contains-from_get, flat_map-from, operand_stands, source_statement}
pub use Rattle.rule_core.proofs.Weights.{few_terms}
pub use Rattle.rule_core.specs.Checks.{IsBeforeRoot, IsRule, MayBeFormula, MayBeTerm, SourceMayRead}
pub use Rattle.rule_core.specs.Positions.{name, operands_among, operands_in, operands_of, reads_constant}
pub use Rattle.rule_core.specs.TermNodes.{IsOperandOf, StandsIn, itself, operand}
pub use Rattle.rule_core.specs.Typing.{IsTyping}
pub use Rattle.rule_core.specs.Valid.{ConstantsFit}
pub use Rattle.rule_core.specs.declared.rule.Argument.{Argument}
pub use Rattle.rule_core.specs.declared.rule.Formula.{Formula}
pub use Rattle.rule_core.specs.declared.rule.Node.{Node}
pub use Rattle.rule_core.specs.declared.rule.Register.{Register as Name}
pub use Rattle.rule_core.specs.declared.rule.Rule.{Rule}
pub use Rattle.rule_core.specs.declared.rule.Statement.{Statement}
pub use Rattle.rule_core.specs.declared.rule.Term.{Term}
pub use Rattle.rule_typing.proofs.Among.{SoFar, fails, holds, one_further, says, stands_here}
pub use Rattle.rule_typing.proofs.Sets.{none_true}
pub use Rattle.std.proofs.lemmas.Bool.{cases_eq, cases_lt}
pub use Rattle.std.proofs.lemmas.List.{length-set, map-append, take_more}
pub use Rattle.std.proofs.lemmas.List.Elements.{Contains-append_cases}
pub use Rattle.std.proofs.lemmas.Option.{get_or_from_slice_get, same_Some, slice_get-get_or, slice_get_cases, slice_get_past, slice_get_within}
pub use Rattle.std.specs.Bool.{beq}
pub use Rattle.std.specs.Slice.{IsItemAt}
pub use Rattle.use_counts.proofs.OneCount.{count_of_one, use_counts_are_one}
pub use Rattle.use_counts.specs.Tables.{count_of}
pub use Rattle.use_counts.specs.Uses.{IsUseCount, IsUsedOnce}
