-- What the proofs of this crate cite of definitions, of other crates and of the libraries, passed on from one place.
pub use Rattle.std.proofs.Common.{All, List, Some, [], arith, false, get_or, length, refl, slice_get, subst, suc, sym, zero, ℕ, ◌-◌, ◌<◌, ◌^◌, ◌∷◌, ◌≡◌, ◌≤◌}
pub use Rattle.bindings.specs.Known.{Knowledge}
pub use Rattle.bindings.specs.Match.{MatchesWhere}
pub use Rattle.bindings.specs.declared.binding.Binding.{Binding}
pub use Rattle.ir_core.specs.Blocks.{IsBlock}
pub use Rattle.ir_core.specs.declared.function.Block.{Block}
pub use Rattle.ir_core.specs.declared.function.Function.{Function}
pub use Rattle.ir_core.specs.declared.module.Entry.{Entry}
pub use Rattle.ir_meaning.specs.HistoryLaws.{NumbersFit}
pub use Rattle.ir_text.specs.Forms.{FunctionHasForms, OperandFits}
pub use Rattle.ops.specs.Number.{Number}
pub use Rattle.ops.specs.Value.{IsValueOf}
pub use Rattle.ops.specs.declared.value.Value.TheVariants.{Bits}
pub use Rattle.rule_core.specs.Checks.{IsRule}
pub use Rattle.rule_core.specs.Positions.{choices_among}
pub use Rattle.rule_core.specs.Valid.{ConstantsFit, SourceChoicesFit}
pub use Rattle.rule_core.specs.declared.rule.Rule.{Rule}
pub use Rattle.rule_typing.specs.Classes.{IsClassified}
pub use Rattle.rule_typing.specs.Faults.{HasNoFault}
pub use Rattle.std.proofs.lemmas.List.Elements.{All-from_get_or}
pub use Rattle.std.proofs.lemmas.Option.{get_or_from_slice_get, slice_get_within}
pub use Rattle.test_texts.specs.Ready.{FunctionIsReady, RuleIsReady}
pub use Rattle.verdict.specs.Findings.{IsReadRule}
pub use Rattle.verdict.specs.Honest.{HasSourceChoice}
