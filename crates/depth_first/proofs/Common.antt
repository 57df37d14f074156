-- What the proofs of this crate cite of definitions, of other crates and of the libraries, passed on from one place.
pub use Rattle.std.proofs.Common.{All, Bool, Contains, Err, IfNone, IfOk, IfSome, IsSomeAnd, List, MatchOption, None, Ok, Option, Result, Some, [], ap, append_assoc, arith, cond, drop, eqb, false, filter, get_or, get_or-drop, if◌then◌else◌, inl, inr, is_some, length, length-append, length-drop, length-set, map, not, refl, remove, replicate, set, slice_get, subst, suc, sym, take, true, zero, ℕ, ◌&&◌, ◌*◌, ◌++◌, ◌+◌, ◌-◌, ◌<◌, ◌||◌, ◌∙◌, ◌∷◌, ◌≡◌, ◌≤◌, ◌⊎◌}
pub use Rattle.clauses.proofs.Closed.{Derives-within, HeldWithin, HeldWithin-cons, HeldWithin-nil, IsClosed, IsNew-from_closed, not_SomeFalsified, not_UnitsRefute, not_held}
pub use Rattle.clauses.proofs.Derivations.{Derives-push}
pub use Rattle.clauses.proofs.Held.{equal_literals, is_same-self, is_same-true, made, negation-negation, same_code}
pub use Rattle.clauses.proofs.Units.{IsFalsified-agree, IsSoFar, IsUnit-agree, falsified_each, not_falsified_by, so_far_false, so_far_open, unit_last, unit_only, unit_same, unit_stands}
pub use Rattle.clauses.specs.ClauseSet.{IsNew, IsRefutation, LogFollows, LogIsNew, StepFollows, UnitsDetermine, all_clauses, clauses_before, clauses_of_steps, clauses_with, setting_literals}
pub use Rattle.clauses.specs.Literal.{IsVariable, IsWithin, Lit, assignment_of, clause_true, code_of, is_same, literal_of, literal_true, negation_of}
pub use Rattle.clauses.specs.Propagation.{Derives, HintsRefute, IsFalsified, IsUnit, NamesFalse, NamesUnit, is_false, is_held, negations_of}
pub use Rattle.clauses.specs.declared.cnf.Cnf.{Cnf}
pub use Rattle.clauses.specs.declared.step.Step.{Step}
pub use Rattle.depth_first.specs.DepthFirst.{AllSatisfied, EachCaused, InputsSet, IsAllowed, IsCaused, IsDecided, IsLearned, IsNext, IsState}
pub use Rattle.depth_first.specs.Found.{IsHonestLimit, IsModel, NoneEmpty, distinct_count}
pub use Rattle.depth_first.specs.Learned.{AllMarked, IsInvolved, IsLearnedStep, Learns, Marks, NamesMarked, is_marked, marked_entries}
pub use Rattle.depth_first.specs.OccurrenceLists.{AddsClause, AddsNumber, CoversBelow, FindsBelow, IsIndexOf, numbers_of}
pub use Rattle.depth_first.specs.Propagated.{AllPropagated, IsPropagated, IsPropagatedBut, IsPropagatedUpTo, IsTouched, PropagatesClause, PropagatesClauses, StandsFrom}
pub use Rattle.depth_first.specs.TrailEntries.{EachForced, EachFresh, Grows, IsFlipped, IsForced, IsHeldTable, IsOpen, IsSet, IsTableOf, decisions, is_decision, literals, one_if_open, open_count, reason_of, reasons, value_makes, value_or_false}
pub use Rattle.depth_first.specs.declared.occurrences.Occurrences.{Occurrences}
pub use Rattle.depth_first.specs.declared.trail.Cause.{Cause}
pub use Rattle.depth_first.specs.declared.trail.Cause.TheVariants.{InputDecision, NonInputDecision, Reason}
pub use Rattle.depth_first.specs.declared.trail.Entry.{Entry}
pub use Rattle.std.proofs.lemmas.Bool.{OnTrue_at, cases_Bool, cases_eq, cases_order, eq-eqb, eqb-true, false_from_ne_true, iff_false, ne_eqb, or_cases, or_left, or_right, true≢false}
pub use Rattle.std.proofs.lemmas.List.{append-nil, drop_all, get_or-map, get_or-set_other, get_or-set_same, get_or_read, length-map, length-take-le, length_push, map-append, map_more, take-append-drop, take_all}
pub use Rattle.std.proofs.lemmas.List.Elements.{All-append, All-cons, All-head, All-more, All-nil, All-tail, filter-append, filter_map-append}
pub use Rattle.std.proofs.lemmas.List.Sums.{sum_by-set}
pub use Rattle.std.proofs.lemmas.Option.{get_or_from_slice_get, same_Some, slice_get-get_or, slice_get_read}
pub use Rattle.std.proofs.lemmas.Result.{IfOk-weaker}
pub use Rattle.std.specs.List.{cons_option, filter_map, list_any}
