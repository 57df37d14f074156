-- What the proofs of this crate cite of definitions, of other crates and of the libraries, passed on from one place.
pub use Rattle.std.proofs.Common.{Bool, IsTrue, List, Some, [], ap, arith, below_more, false, get_or, if◌then◌else◌, length, lit<, pos, refl, slice_get, subst, sym, take, true, ℕ, ◌++◌, ◌+◌, ◌-◌, ◌<◌, ◌==◌, ◌↔◌, ◌∙◌, ◌∷◌, ◌≡◌, ◌≤◌}
unfoldable pub use Rattle.ops.specs.Comparison.{comparison}
pub use Rattle.ops.specs.Comparison.{holds}
pub use Rattle.ops.specs.Number.{Number}
pub use Rattle.ops.specs.declared.comparison.Pred.{Pred}
pub use Rattle.ops.specs.declared.comparison.Pred.TheVariants.{Eq}
pub use Rattle.ops.specs.declared.value.Value.{Value}
pub use Rattle.ops.specs.declared.value.Value.TheVariants.{Bits, Poison}
pub use Rattle.precond.specs.Numbers.{HaveNumbers}
pub use Rattle.precond.specs.Readiness.{AreReady, CanBeRead}
pub use Rattle.rule_core.proofs.Members.{Contains-from_get, constant_term, term_class_stands}
pub use Rattle.rule_core.proofs.Ready.{class_width, constant_values_fit, term_next}
pub use Rattle.rule_core.proofs.Turns.{in_turn-step}
pub use Rattle.rule_core.proofs.Weights.{few_formulas, few_terms}
pub use Rattle.rule_core.specs.Checks.{IsRule, MayBeFormula}
pub use Rattle.rule_core.specs.Positions.{compared_terms}
pub use Rattle.rule_core.specs.Readiness.{TermIsReady}
pub use Rattle.rule_core.specs.Terms.{HasNumber, compares, constant_values, formula_holds, in_turn, of_constants, term_value, truths_of, values_of}
pub use Rattle.rule_core.specs.Typing.{IsTyping}
pub use Rattle.rule_core.specs.Valid.{ConstantsFit}
pub use Rattle.rule_core.specs.declared.rule.Formula.{Formula}
pub use Rattle.rule_core.specs.declared.rule.Rule.{Rule}
pub use Rattle.rule_core.specs.declared.rule.Term.{Term}
pub use Rattle.std.proofs.Math.ListN.{set}
pub use Rattle.std.proofs.lemmas.List.{length-set, take_more_set}
pub use Rattle.std.proofs.lemmas.Option.{same_Some, slice_get-get_or, slice_get_read, slice_get_within}
