-- What the proofs of this crate cite of definitions, of other crates and of the libraries, passed on from one place.
pub use Rattle.std.proofs.Common.{Bool, Contains, IsTrue, List, Some, [], add-one, ap, arith, cond, drop, eqb, false, get_or, inl, inr, length, not, refl, slice_get, subst, suc, sym, take, true, zero, ℕ, ◌&&◌, ◌++◌, ◌+◌, ◌<◌, ◌==◌, ◌||◌, ◌↔◌, ◌∙◌, ◌∷◌, ◌≡◌, ◌≤◌}
pub use Rattle.clauses.proofs.Derivations.{HintsRefute-cons, HintsRefute-move, HintsRefute-one, HintsRefute-only, NamesUnit-same}
pub use Rattle.clauses.proofs.Held.{equal_literals, is_same-self, is_same-true, negation-negation}
pub use Rattle.clauses.proofs.LogSoundness.{Meets-log, clauses_before-suc, refuted_no_model}
pub use Rattle.clauses.proofs.Units.{IsSoFar, so_far_false, so_far_open}
pub use Rattle.clauses.specs.ClauseSet.{EndsEmpty, LogFollows, StepFollows, clauses_before, clauses_with}
pub use Rattle.clauses.specs.Literal.{IsVariable, IsWithin, Lit, VariablesWithin, is_same, negation_of}
pub use Rattle.clauses.specs.Propagation.{HintsRefute, IsFalsified, IsUnit, NamesUnit, is_false, is_held, negations_of}
pub use Rattle.clauses.specs.declared.cnf.Cnf.{Cnf}
pub use Rattle.clauses.specs.declared.step.Step.{Step}
pub use Rattle.rup_checker.specs.Table.{Accounted, Represents, stands_in, table_holds, used_in}
pub use Rattle.rup_checker.specs.declared.table.Entry.{Entry}
pub use Rattle.std.proofs.lemmas.Bool.{and_from, and_left, and_parts, and_right, cases_Bool, cases_lt, eq-eqb, eqb-false, eqb-true, false_from_ne_true, false≢true, ne_eqb, or_cases, or_from, or_left, or_parts, or_right, true≢false}
pub use Rattle.std.proofs.lemmas.List.{at_drop_more, drop_all, drop_more, take_all}
pub use Rattle.std.proofs.lemmas.List.Elements.{All-contains, All-push, Contains-append_cases, Contains-append_left, Contains-get_or}
pub use Rattle.std.proofs.lemmas.List.Folds.{list_any_at}
pub use Rattle.std.proofs.lemmas.Option.{get_or_from_slice_get, same_Some, slice_get_read, slice_get_within, unwrap_or-slice_get}
pub use Rattle.std.specs.Prelude.{unwrap_or}
