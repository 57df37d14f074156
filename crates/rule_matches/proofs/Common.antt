-- What the proofs of this crate cite of definitions, of other crates and of the libraries, passed on from one place.
pub use Rattle.std.proofs.Common.{All, AllPairs, Bool, Contains, Err, HoldsAt, IfNone, IfOk, IfSome, List, MatchOption, None, Ok, Option, Result, Some, [], ap, arith, drop, get_or, inl, inr, length, option_and_then, option_map, option_to_list, refl, rules, slice_get, slice_set, subst, suc, sym, take, tests, zero, ℕ, ◌++◌, ◌+◌, ◌-◌, ◌<◌, ◌∙◌, ◌∷◌, ◌≡◌, ◌≤◌, ◌⊎◌}
pub use Rattle.bindings.proofs.Knowing.{known_too}
pub use Rattle.bindings.proofs.Reading.{same_inst}
pub use Rattle.bindings.specs.Known.{AskBits, Knowledge, known_by, known_in}
pub use Rattle.bindings.specs.Laws.{TemporariesStandBefore}
pub use Rattle.bindings.specs.Match.{MatchesInAnyOrder}
pub use Rattle.bindings.specs.Matches.{AreMatches, AreMatchesAmong, AreMatchesInAnyOrder, AreMatchesWhere, ComesBefore, IsAt, IsMatchAmong, IsMatchInAnyOrder, MatchesAmong}
pub use Rattle.bindings.specs.Ready.{AreReady, IsReady}
pub use Rattle.bindings.specs.Statements.{IsSameOperation, StatementMatches}
pub use Rattle.bindings.specs.declared.binding.Binding.{Binding}
pub use Rattle.bindings.specs.declared.rule_match.Match.{Match}
pub use Rattle.ir_core.specs.Assigned.{IsBefore}
pub use Rattle.ir_core.specs.Checks.{IsInst, MeetsChecks}
pub use Rattle.ir_core.specs.Reads.{end_of}
pub use Rattle.ir_core.specs.declared.function.Block.{Block}
pub use Rattle.ir_core.specs.declared.function.Function.{Function}
pub use Rattle.ir_core.specs.declared.instruction.Inst.{Inst}
pub use Rattle.ir_core.specs.declared.operand.Operand.{Operand}
pub use Rattle.matcher.proofs.OneBinding.{one_in_any_order}
pub use Rattle.rule_core.proofs.Givens.{Contains-take}
pub use Rattle.rule_core.proofs.Members.{get-append_left, get_behind}
pub use Rattle.rule_core.specs.declared.rule.Rule.{Rule}
pub use Rattle.rule_core.specs.declared.rule.Statement.{Statement}
pub use Rattle.rule_matches.specs.Found.{IsOf}
pub use Rattle.rule_matches.specs.Laws.{MatchesBeforeStandFirst}
pub use Rattle.rule_matches.specs.Roots.{AreByRoot, AreCandidates, AreOfKind, HasRootKind, IsGroupOf, kind_of_inst, kind_of_root, kind_of_statement}
pub use Rattle.rule_matches.specs.declared.roots.Group.{Group}
pub use Rattle.rule_matches.specs.declared.roots.RootKind.{RootKind}
pub use Rattle.rule_matches.specs.declared.roots.RootKind.TheVariants.{Binary, Compare, Convert, Freeze, Select, Unary}
pub use Rattle.rule_matches.specs.declared.roots.RulesByRoot.{RulesByRoot}
pub use Rattle.std.proofs.lemmas.Bool.{cases_eq, cases_lt}
pub use Rattle.std.proofs.lemmas.Iterator.{IsFirst-from_position, YieldsList-from_slice}
pub use Rattle.std.proofs.lemmas.List.{get_or-take, length-take-le, take_all, take_more}
pub use Rattle.std.proofs.lemmas.List.Elements.{All-append, All-contains, Contains-append_left, Contains-append_right, Contains-get_or, Contains-push, Contains-push_cases}
pub use Rattle.std.proofs.lemmas.List.Kept.{AllPairs-cons}
pub use Rattle.std.proofs.lemmas.List.Quantifiers.{all_pairs_push}
pub use Rattle.std.proofs.lemmas.Option.{get_or_from_slice_get, none-some, same_Some, slice_get-get_or, slice_get_past, slice_get_within}
pub use Rattle.std.specs.List.{AllWithin}
pub use Rattle.std.specs.Prelude.{unwrap_or}
