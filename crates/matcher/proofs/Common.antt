-- What the proofs of this crate cite of definitions, of other crates and of the libraries, passed on from one place.
pub use Rattle.std.proofs.Common.{All, Bool, Contains, Err, IfNone, IfOk, IfSome, List, None, Ok, Option, Result, Some, [], ap, arith, false, get_or, inl, inr, length, length-append, map, refl, slice_get, slice_set, subst, suc, sym, take, true, vec_len, zero, ℕ, ◌++◌, ◌+◌, ◌-◌, ◌<◌, ◌∙◌, ◌∷◌, ◌≡◌, ◌≢◌, ◌≤◌, ◌⊎◌}
pub use Rattle.bindings.proofs.Bound.{read_off, same_block, same_place, statement_at}
pub use Rattle.bindings.proofs.Fitting.{SourceOperand, met_at, source_operand}
pub use Rattle.bindings.proofs.Knowing.{known_too}
pub use Rattle.bindings.proofs.Lists.{all_filled, map_Some_same, no_gap, one_more_value, place_of, same_list, set_elsewhere, set_here, take_all}
pub use Rattle.bindings.proofs.Naming.{constant_at, input_at, source_at, source_register, target_stands}
pub use Rattle.bindings.proofs.Reading.{at_most_three, no_width, same_inst, width_of_inst}
pub use Rattle.bindings.proofs.Roots.{in_any_order, match_here, match_there, matched_operation}
pub use Rattle.bindings.specs.Known.{Knowledge, known_by, known_in}
pub use Rattle.bindings.specs.Laws.{TemporariesStandBefore}
pub use Rattle.bindings.specs.Match.{IsMatch, MatchesInAnyOrder, MatchesWhere}
pub use Rattle.bindings.specs.Operands.{OperandMatches, StandsFor}
pub use Rattle.bindings.specs.Statements.{StatementMatches}
pub use Rattle.bindings.specs.declared.binding.Binding.{Binding}
pub use Rattle.ir_core.specs.Checks.{IsInst, MeetsChecks}
pub use Rattle.ir_core.specs.Names.{width_of}
pub use Rattle.ir_core.specs.Reads.{IsRead}
pub use Rattle.ir_core.specs.declared.function.Function.{Function}
pub use Rattle.ir_core.specs.declared.instruction.Inst.{Inst}
pub use Rattle.ir_core.specs.declared.operand.Operand.{Operand}
pub use Rattle.ir_core.specs.declared.operand.Register.{Register}
pub use Rattle.matcher.specs.Laws.{MatchesHaveOneBinding}
pub use Rattle.matcher.specs.Slots.{AreAsMany, AreSlotsOf, HasName, HasOperand, HasStatement, IsFilledAs, Keeps, Knows, KnowsFrom, KnowsName, KnowsOperand, KnowsStatement, OperandsMatch}
pub use Rattle.matcher.specs.declared.slots.Slots.{Slots}
pub use Rattle.ops.specs.Number.{Number}
pub use Rattle.rule_core.proofs.Members.{Contains-from_get, class_stands, operand_class_stands, source_statement}
pub use Rattle.rule_core.specs.Checks.{IsRule, SourceMayRead}
pub use Rattle.rule_core.specs.Positions.{Fixed, operands_of}
pub use Rattle.rule_core.specs.Typing.{IsTyping}
pub use Rattle.rule_core.specs.declared.rule.Argument.{Argument}
pub use Rattle.rule_core.specs.declared.rule.Rule.{Rule}
pub use Rattle.rule_core.specs.declared.rule.Statement.{Statement}
pub use Rattle.rule_typing.proofs.Among.{fails, holds}
pub use Rattle.rule_typing.specs.Classes.{HasClasses, IsNamedInSource}
pub use Rattle.rule_typing.specs.Faults.{HasNoFault}
pub use Rattle.std.proofs.lemmas.Bool.{cases_eq, cases_lt}
pub use Rattle.std.proofs.lemmas.List.{length-set}
pub use Rattle.std.proofs.lemmas.Option.{get_or_from_slice_get, same_Some, slice_get-get_or, slice_get_cases, slice_get_within}
pub use Rattle.std.specs.Vec.{with_item}
