-- What the proofs of this crate cite of definitions, of other crates and of the libraries, passed on from one place.
pub use Rattle.std.proofs.Common.{All, Bool, Contains, IfSome, List, MatchOption, None, Option, Some, [], ap, arith, cond, drop, eqb, false, filter, get_or, if◌then◌else◌, inl, inr, is_some, length, length-append, length-drop, length-set, map, not, option_map, refl, remove, replicate, rules, set, slice_get, subst, suc, sym, take, true, zero, ℕ, ◌*◌, ◌++◌, ◌+◌, ◌-◌, ◌/◌, ◌<◌, ◌∙◌, ◌∷◌, ◌≡◌, ◌≢◌, ◌≤◌, ◌⊎◌}
pub use Rattle.clauses.proofs.Closed.{HeldWithin, HeldWithin-cons, IsClosed, IsNew-from_closed, not_UnitsRefute, not_held}
pub use Rattle.clauses.proofs.Derivations.{Derives-push}
pub use Rattle.clauses.proofs.Held.{equal_literals, is_same-self, is_same-true, negation-negation, same_code}
pub use Rattle.clauses.proofs.Units.{Contains-from_held, IsFalsified-agree, IsUnit-agree, differ, falsified_each, held-from_Contains, held_at_place, unit_from, unit_only}
pub use Rattle.clauses.specs.ClauseSet.{IsNew, LogFollows, StepFollows, all_clauses, clauses_of_steps, clauses_with}
pub use Rattle.clauses.specs.Literal.{IsVariable, IsWithin, Lit, VariablesWithin, code_of, is_same, literal_of, negation_of}
pub use Rattle.clauses.specs.Propagation.{Derives, HintsRefute, IsFalsified, IsUnit, NamesFalse, NamesUnit, is_false, is_held, negations_of}
pub use Rattle.clauses.specs.declared.cnf.Cnf.{Cnf}
pub use Rattle.clauses.specs.declared.step.Step.{Step}
pub use Rattle.depth_first.proofs.Decisions.{reasons-append}
pub use Rattle.depth_first.proofs.FoundLemmas.{IsModel-from_propagated, kept_literal}
pub use Rattle.depth_first.proofs.HeldLists.{Consistent, Consistent-within, HeldWithin-entries, HeldWithin-take, both_held, held_cases, held_last, held_left, held_one, held_one_same, held_right, literal_at, literals-append, not_held_nil, open_not_false, open_not_held, open_within}
pub use Rattle.depth_first.proofs.HeldTable.{code_within}
pub use Rattle.depth_first.proofs.Involved.{cause_of_reason, with_within}
pub use Rattle.depth_first.proofs.Lists.{element_at, slice_get_below, slice_get_cases, slice_get_in_take, slice_get_last, slice_get_left, slice_get_push_cases, slice_get_take, some_same, take_in_take, take_left, take_next, take_right, take_take_below, take_whole}
pub use Rattle.depth_first.proofs.Open.{IsPropagated-from_different, IsPropagated-from_held, variable_within}
pub use Rattle.depth_first.proofs.Options.{IfNone_at, IfSome_at}
pub use Rattle.depth_first.proofs.PropagationLemmas.{Grows-length, Grows-none, Grows-one, Grows-then, stands_cases}
pub use Rattle.depth_first.proofs.SearchSteps.{EachCaused-start, IfNone_is, IfSome_is, IsLearned-start, no_decisions, none_decided}
pub use Rattle.depth_first.proofs.Sets.{below_from_within}
pub use Rattle.depth_first.proofs.States.{AllPropagated-left, LogFollows-push, LogIsNew-push, NoneEmpty-push, clauses_with-push, closed_from_propagated, length-clauses_with, remove_last}
pub use Rattle.depth_first.proofs.TrailTable.{Consistent-from_table}
pub use Rattle.depth_first.specs.DepthFirst.{EachCaused, IsCaused, IsLearned, IsSatisfied}
pub use Rattle.depth_first.specs.Found.{IsHonestLimit, IsModel, distinct_count}
pub use Rattle.depth_first.specs.Propagated.{AllPropagated, IsPropagated, StandsFrom}
pub use Rattle.depth_first.specs.TrailEntries.{EachForced, EachFresh, Grows, IsOpen, IsSet, IsTableOf, decisions, is_decision, literals, reason_of, reasons, value_or_false}
pub use Rattle.depth_first.specs.declared.trail.Cause.{Cause}
pub use Rattle.depth_first.specs.declared.trail.Cause.TheVariants.{InputDecision, NonInputDecision, Reason}
pub use Rattle.depth_first.specs.declared.trail.Entry.{Entry}
pub use Rattle.first_uip.specs.Clauses.{IsPair, clauses_in, literals_of, numbers_in, watched_in, watched_of}
pub use Rattle.first_uip.specs.Conflict.{AllSeen, DecidedAt, IsAnalysis, IsAsserting, IsJump, IsOther, IsResolution, NamesSeen, NoneDecided, NoneKept, NoneSeen, Resolves, SameKeptFrom, SeenAt, Sees, is_kept, is_resolved, is_seen, kept_entries, part_of, resolved_entries, role_of}
pub use Rattle.first_uip.specs.Looks.{IsLook, MovesWatch, NamesHeld, WatchesBoth}
pub use Rattle.first_uip.specs.Marks.{EachMarked, IsMarked, IsNoted, IsPlaced, is_marked}
pub use Rattle.first_uip.specs.Searching.{IsSearching}
pub use Rattle.first_uip.specs.Shapes.{IsShape}
pub use Rattle.first_uip.specs.Shown.{VariablesBelow, shown_entries}
pub use Rattle.first_uip.specs.Watching.{AddsNumber, AddsNumbers, CoversBelow, EachBlocked, EachGuarded, EachIsWatch, EachLevelGuarded, IsGuarded, IsListed, IsWatch, IsWatching, IsWatchingUpTo, KeepsOnly, numbers_of, watched_literals, watchers_of}
pub use Rattle.first_uip.specs.contracts.roles.Role.{the_type}
pub use Rattle.first_uip.specs.declared.arena.Header.{Header}
pub use Rattle.first_uip.specs.declared.arena.Watched.{Watched}
pub use Rattle.first_uip.specs.declared.arena.Watched.TheVariants.{Alone, Two}
pub use Rattle.first_uip.specs.declared.look.Look.TheVariants.{Falsified, Leaves, Stays}
pub use Rattle.first_uip.specs.declared.roles.Role.{Role}
pub use Rattle.first_uip.specs.declared.roles.Role.TheVariants.{Kept, Resolved, Unseen}
pub use Rattle.first_uip.specs.declared.start.Shape.TheVariants.{One, Several}
pub use Rattle.first_uip.specs.declared.watchers.Watcher.{Watcher}
pub use Rattle.first_uip.specs.declared.watches.Watches.{Watches}
pub use Rattle.std.proofs.lemmas.Bool.{cases_Bool, cases_eq, cases_lt, cases_order, eq-eqb, false_from_ne_true, or_cases, or_left, or_right, true≢false}
pub use Rattle.std.proofs.lemmas.List.{append-nil, drop-append-le, drop_at, get_or-map, get_or-set_other, get_or-set_same, get_or_default, length-map, length-replicate, length-take-le, map-append, map-set, map_push, set-get_or, take-append-drop, take-append-le, take-map, take_all, take_more}
pub use Rattle.std.proofs.lemmas.List.Elements.{All-cons, All-filter, All-head, All-more, All-nil, All-tail, Contains-push, filter-append}
pub use Rattle.std.proofs.lemmas.Option.{get_or_from_slice_get, same_Some, slice_get-get_or, slice_get-map, slice_get_past, slice_get_read}
pub use Rattle.std.specs.List.{filter_map, swap_remove}
pub use Rattle.std.specs.Option.{option_to_list}
pub use denote.Enum.Bare.{sameb}
