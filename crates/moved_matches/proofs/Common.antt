-- What the proofs of this crate cite of definitions, of other crates and of the libraries, passed on from one place.
pub use Rattle.std.proofs.Common.{Contains, List, None, Option, Some, [], ap, arith, length, map, option_map, refl, slice_get, subst, suc, sym, zero, ℕ, ◌<◌, ◌∙◌, ◌∷◌, ◌≡◌}
pub use Rattle.bindings.proofs.Knowing.{KnowsAsMuch, facts_follow}
pub use Rattle.bindings.proofs.Reading.{reads_at_inst, same_inst}
pub use Rattle.bindings.specs.Known.{Knowledge, operand_for}
pub use Rattle.bindings.specs.Match.{IsAvailable, IsInScope, MatchesWhere}
pub use Rattle.bindings.specs.Operands.{OperandMatches, StandsFor}
pub use Rattle.bindings.specs.Promises.{AreKept}
pub use Rattle.bindings.specs.Statements.{IsSameOperation, StatementMatches, promises_of_inst, promises_of_statement}
pub use Rattle.bindings.specs.declared.binding.Binding.{Binding}
pub use Rattle.ir_core.specs.Checks.{IsInst}
pub use Rattle.ir_core.specs.Reads.{IsRead, Read, reads_of}
pub use Rattle.ir_core.specs.declared.function.Function.{Function}
pub use Rattle.ir_core.specs.declared.instruction.Inst.{Inst}
pub use Rattle.ir_core.specs.declared.instruction.Op.{Op}
pub use Rattle.ir_core.specs.declared.operand.Operand.{Operand}
pub use Rattle.ir_core.specs.declared.operand.Register.{Register}
pub use Rattle.ir_meaning.proofs.Pieces.{contains_at}
pub use Rattle.moved_matches.specs.Moved.{StandsAt, StandsThere, moved_binding, register_or}
pub use Rattle.rule_core.specs.declared.rule.Argument.{Argument}
pub use Rattle.rule_core.specs.declared.rule.Register.{Register as Name}
pub use Rattle.rule_core.specs.declared.rule.Rule.{Rule}
pub use Rattle.rule_core.specs.declared.rule.Statement.{Statement}
pub use Rattle.rule_typing.proofs.Images.{from_map, get-map, get_from_map}
pub use Rattle.std.proofs.lemmas.List.{length-map}
pub use Rattle.std.proofs.lemmas.Option.{none-some, same_Some, slice_get_within}
pub use Rattle.substitution.specs.Substitution.{IsDefinite, Substitution, substituted_inst, substituted_op, substituted_operand}
pub use Rattle.use_counts.specs.Uses.{IsUsedOnce}
