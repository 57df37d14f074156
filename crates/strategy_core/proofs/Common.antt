-- What the proofs of this crate cite of definitions, of other crates and of the libraries, passed on from one place.
pub use Rattle.std.proofs.Common.{All, Bool, Contains, IsTrue, List, MatchBool, Some, ap, false, map, refl, slice_get, subst, suc, sym, true, zero, ℕ, ◌∙◌, ◌∷◌, ◌≡◌}
pub use Rattle.bindings.specs.Matches.{IsMatchAmong}
pub use Rattle.bindings.specs.Ready.{AreReady}
pub use Rattle.bindings.specs.declared.rule_match.Match.{Match}
pub use Rattle.fold_branch.specs.Folded.{IsFolded}
pub use Rattle.fold_branch.specs.Laws.{FoldedFunctionsMeetChecks, FoldedFunctionsRefine, FoldedNumbersWereThere}
pub use Rattle.ir_core.specs.Checks.{MeetsChecks, ModuleMeetsChecks}
pub use Rattle.ir_core.specs.Refines.{EntriesRefine, Refines}
pub use Rattle.ir_core.specs.declared.function.Function.{Function}
pub use Rattle.ir_core.specs.declared.module.Entry.{Entry}
pub use Rattle.ir_core.specs.declared.module.Module.{Module}
pub use Rattle.ir_meaning.proofs.Pieces.{place_in}
pub use Rattle.ir_meaning.specs.HistoryLaws.{NumbersFit}
pub use Rattle.ir_meaning.specs.Orders.{RefinementIsReflexive, RefinementIsTransitive}
pub use Rattle.needed.specs.Cleaned.{IsCleaned}
pub use Rattle.needed.specs.Laws.{CleanedFunctionsMeetChecks, CleanedFunctionsRefine, CleanedNumbersWereThere}
pub use Rattle.rewriter.specs.Applied.{IsRewritten}
pub use Rattle.rewriter.specs.Laws.{RewrittenFunctionsMeetChecks, RewrittenFunctionsRefine, RewrittenNumbersFit}
pub use Rattle.rule_core.specs.Valid.{IsValid}
pub use Rattle.rule_core.specs.declared.rule.Rule.{Rule}
pub use Rattle.rule_typing.proofs.Images.{Contains-map, from_map, get-map}
pub use Rattle.std.proofs.lemmas.List.Elements.{All-contains, Contains-append_left, Contains-append_right}
pub use Rattle.std.proofs.lemmas.Option.{same_Some}
pub use Rattle.std.specs.List.{AllZip, flat_map}
pub use Rattle.strategy_core.specs.Asked.{IsAdmitted, IsTurnedDown, Pair, pair_in, pair_of}
pub use Rattle.strategy_core.specs.Decided.{IsDecided, function_in}
pub use Rattle.strategy_core.specs.Laws.{AdmittedAreValid, CleanedNumbersFit, FoldedNumbersFit, ModuleNumbersFit, StrategyDecides, StrategyMeetsChecks, StrategyNumbersFit, StrategyRefines}
pub use Rattle.strategy_core.specs.PlainStrategy.{AreOptimised, ComesOf, IsOptimised, IsPlainStrategy, IsStep, IsTidied, by_step, function, itself, kept, none}
pub use Rattle.verdict_core.specs.declared.verdicts.Row.{Row}
