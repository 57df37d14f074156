-- What the proofs of this crate cite of definitions, of other crates and of the libraries, passed on from one place.
pub use Rattle.std.proofs.Common.{All, Bool, Contains, IsSomeAnd, List, None, Option, Some, [], ap, append_assoc, arith, cond, eqb, false, get_or, inl, inr, length, length-append, length-take, map, not, option_map, refl, remove, slice_get, subst, suc, sym, take, true, zero, ℕ, ◌*◌, ◌++◌, ◌+◌, ◌-◌, ◌/◌, ◌<◌, ◌||◌, ◌↔◌, ◌∙◌, ◌∷◌, ◌≡◌, ◌≤◌, ◌⊎◌}
pub use Rattle.clauses.specs.ClauseSet.{IsNew, IsRefutation, LogFollows, UnitsDetermine, UnitsRefute, all_clauses, clauses_before, clauses_of_steps}
pub use Rattle.clauses.specs.Literal.{IsVariable, IsWithin, Lit, Meets, VariablesWithin, assignment_of, clause_true, code_of, is_same, literal_at, literal_true, negation_of}
pub use Rattle.clauses.specs.Propagation.{Derives, HintsRefute, IsFalsified, IsUnit, NamesFalse, NamesUnit, SomeFalsified, is_false, is_held, negations_of}
pub use Rattle.clauses.specs.Settings.{AgreeUpTo, StandsFor, input_values}
pub use Rattle.clauses.specs.declared.cnf.Cnf.{Cnf}
pub use Rattle.clauses.specs.declared.step.Step.{Step}
pub use Rattle.std.proofs.lemmas.Bool.{and_from, and_parts, cases_Bool, eq-eqb, eqb-true, false_from_ne_true, not-false, not-true, or_cases, or_parts, true≢false}
pub use Rattle.std.proofs.lemmas.Bool.Decides.{nat_tests}
pub use Rattle.std.proofs.lemmas.List.{append-nil, get_or-take, get_or_append_left, get_or_default, length-map, map-append, same_lists, take_all, take_more}
pub use Rattle.std.proofs.lemmas.List.Elements.{All-append, All-cons, All-contains, All-head, All-push, All-tail, Contains-append_left, Contains-get_or, Contains-push}
pub use Rattle.std.proofs.lemmas.List.Folds.{Any-from_list_any, list_any_at}
pub use Rattle.std.proofs.lemmas.Option.{get_or_from_slice_get, slice_get-map, slice_get_read, slice_get_within}
