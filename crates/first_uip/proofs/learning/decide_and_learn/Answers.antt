use Rattle.first_uip.proofs.Common.{◌≡◌, ◌+◌, [], ◌∷◌, ◌++◌, length, length-append, take, refl, sym, ap, ◌∙◌, subst, arith, clauses_with, NamesFalse, IsClosed, Entry, InputDecision, IsModel, IsHonestLimit, literals, Grows, length-clauses_with, IfNone_is, IfSome_is, clauses_in, CoversBelow, IsWatching, IsWatchingUpTo, IsSearching, IsNoted}
use Rattle.first_uip.proofs.Noted.{IsNoted-append, IsNoted-cut, IsNoted-grows}
use Rattle.first_uip.proofs.Measure.{less_after_conflict, less_after_decision}
use Rattle.first_uip.proofs.SearchLemmas.{no_decisions as none_decided_gives_none, EachCaused-from_forced, EachForced-grown, closed_before, model_found, limit_found, variables_within, IsSearching-decided, IsSearching-start}
use Rattle.first_uip.proofs.learning.decide_and_learn.Goals as goal

pub loop-log-init : goal.loop-log-init
loop-log-init c =
    let set = c.args.cnf.now in
    let r = c.requires in
    let entries = c.args.trail.now.entries.items in
    record {
      variables = r.variables;
      covers = r.covers;
      levels = r.levels;
      places = r.places;
      noted = (omega arith, λ place e below at. absurd (omega (arith, below)));
      sizes = r.sizes;
      within = omega (arith, ap length c.new-log.ensures.items);
      state = IsSearching-start set c.new-log.result.items c.args.watches.now entries c.new-log.ensures.items r.grown r.watching;
    }

pub propagate-requires-clause-covers : goal.propagate-requires-clause-covers
propagate-requires-clause-covers c =
    let inv = c.loop-log.invariant in
    subst (λ n. CoversBelow n c.loop-log.watches) (sym inv.variables) inv.covers

pub propagate-requires-clause-variables : goal.propagate-requires-clause-variables
propagate-requires-clause-variables c =
    let l = c.loop-log in
    variables_within c.args.cnf.now l.log.items l.watches l.trail.entries.items l.head (length l.trail.values.items) l.invariant.variables l.invariant.state

pub propagate-requires-clause-watching : goal.propagate-requires-clause-watching
propagate-requires-clause-watching c =
    let l = c.loop-log in
    let watching = l.invariant.state.watching in
    subst (λ cs. IsWatchingUpTo cs l.watches l.trail.entries.items l.head) (sym watching.watching.same) watching

pub returns-in_default-decision : goal.returns-in_default-decision
returns-in_default-decision c =
    let set = c.args.cnf.now in
    let inv = c.loop-log.invariant in
    let log = c.loop-log.log.items in
    let trail = c.propagate.new.trail in
    let entries = trail.entries.items in
    let watches = c.propagate.new.watches in
    let clauses = clauses_in c.loop-log.watches.arena in
    let seen : IsWatchingUpTo clauses watches entries (length entries) =
    IfNone_is c.in_ok-conflict.field-0 (IsWatchingUpTo clauses watches entries (length entries)) c.in_default.is c.in_ok-conflict.ensures.seen in
    let seen_log : IsWatchingUpTo (clauses_with set log) watches entries (length entries) =
    subst (λ cs. IsWatchingUpTo cs watches entries (length entries)) inv.state.watching.watching.same seen in
    subst (IsModel set) (sym c.in_ok-assignment.ensures)
    (model_found set log watches trail.values.items entries trail.table (c.propagate.ensures.same_variables ∙ inv.variables) seen_log c.in_default-decision.ensures.none)

pub loop-log-preserved-in_default : goal.loop-log-preserved-in_default
loop-log-preserved-in_default c =
    let set = c.args.cnf.now in
    let inv = c.loop-log.invariant in
    let log = c.loop-log.log.items in
    let trail = c.propagate.new.trail in
    let entries = trail.entries.items in
    let watches = c.propagate.new.watches in
    let clauses = clauses_in c.loop-log.watches.arena in
    let seen : IsWatchingUpTo clauses watches entries (length entries) =
    IfNone_is c.in_ok-conflict.field-0 (IsWatchingUpTo clauses watches entries (length entries)) c.in_default.is c.in_ok-conflict.ensures.seen in
    let seen_log : IsWatchingUpTo (clauses_with set log) watches entries (length entries) =
    subst (λ cs. IsWatchingUpTo cs watches entries (length entries)) inv.state.watching.watching.same seen in
    let grows : Grows (clauses_with set log) c.loop-log.trail.entries.items entries =
    subst (λ cs. Grows cs c.loop-log.trail.entries.items entries) c.loop-log.invariant.state.watching.watching.same c.propagate.ensures.grows in
    let e : Entry = record { literal = c.in-Some-decision.literal; cause = InputDecision } in
    let head : c.len-head.result ≡ length entries = c.len-head.ensures ∙ trail.entries.ok.0 in
    record {
      variables = c.in_ok-push.ensures.variables ∙ c.propagate.ensures.same_variables ∙ inv.variables;
      covers = subst (λ n. CoversBelow n watches) inv.variables c.propagate.ensures.covers;
      levels = inv.levels;
      places = inv.places;
      noted =
          subst (λ es. IsNoted c.loop-log.places es c.loop-log.noted) (sym c.in_ok-push.ensures.ok)
          (IsNoted-append c.loop-log.places entries (e ∷ []) c.loop-log.noted
          (IsNoted-grows (clauses_with set log) c.loop-log.places c.loop-log.trail.entries.items entries c.loop-log.noted grows inv.noted));
      sizes = c.decision.ensures.sizes ∙ inv.sizes;
      within = inv.within;
      state =
          subst (λ es. IsSearching set log watches es c.len-head.result) (sym c.in_ok-push.ensures.ok)
          (subst (IsSearching set log watches (entries ++ e ∷ [])) (sym head)
          (IsSearching-decided set log watches c.loop-log.trail.entries.items entries e refl grows inv.state.learned inv.state.forced seen_log));
    }

pub refutation-requires-clause-caused : goal.refutation-requires-clause-caused
refutation-requires-clause-caused c =
    let set = c.args.cnf.now in
    let log = c.loop-log.log.items in
    let entries = c.propagate.new.trail.entries.items in
    let grows : Grows (clauses_with set log) c.loop-log.trail.entries.items entries =
    subst (λ cs. Grows cs c.loop-log.trail.entries.items entries) c.loop-log.invariant.state.watching.watching.same c.propagate.ensures.grows in
    EachCaused-from_forced set log entries (EachForced-grown (clauses_with set log) c.loop-log.trail.entries.items entries grows c.loop-log.invariant.state.forced) c.in_default-last_decision.ensures.none

pub refutation-requires-clause-no_decisions : goal.refutation-requires-clause-no_decisions
refutation-requires-clause-no_decisions c =
    none_decided_gives_none c.propagate.new.trail.entries.items c.in_default-last_decision.ensures.none

pub returns-then-len-limit : goal.returns-then-len-limit
returns-then-len-limit c =
    let set = c.args.cnf.now in
    let inv = c.loop-log.invariant in
    let log = c.loop-log.log.items in
    let trail = c.propagate.new.trail in
    let entries = trail.entries.items in
    let start = c.in-Some-last_decision.start in
    let watching : IsWatching (clauses_with set log) c.propagate.new.watches entries =
    subst (λ cs. IsWatching cs c.propagate.new.watches entries) inv.state.watching.watching.same c.in_ok-conflict.ensures.watching in
    let closed : IsClosed (clauses_with set log) (literals (take start entries)) =
    closed_before (clauses_with set log) c.propagate.new.watches trail.values.items entries start trail.table c.in-Some-last_decision.ensures.last.decided watching in
    let exact : length log ≡ c.args.limit = omega (arith, inv.within, c.if-len-limit.true, c.len.ensures, c.loop-log.log.ok.0) in
    subst (IsHonestLimit set c.args.limit) (sym c.from_vec.ensures)
    (limit_found set log c.args.limit (literals (take start entries)) exact inv.state.learned closed c.requires.many)

pub note_places-requires-clause-placed : goal.note_places-requires-clause-placed
note_places-requires-clause-placed c =
    let set = c.args.cnf.now in
    let log = c.loop-log.log.items in
    let entries = c.propagate.new.trail.entries.items in
    let grows : Grows (clauses_with set log) c.loop-log.trail.entries.items entries =
    subst (λ cs. Grows cs c.loop-log.trail.entries.items entries) c.loop-log.invariant.state.watching.watching.same c.propagate.ensures.grows in
    (IsNoted-grows (clauses_with set log) c.loop-log.places c.loop-log.trail.entries.items entries c.loop-log.noted grows c.loop-log.invariant.noted).1

pub learn_from-requires-clause-forced : goal.learn_from-requires-clause-forced
learn_from-requires-clause-forced c =
    let set = c.args.cnf.now in
    let log = c.loop-log.log.items in
    let entries = c.propagate.new.trail.entries.items in
    let grows : Grows (clauses_with set log) c.loop-log.trail.entries.items entries =
    subst (λ cs. Grows cs c.loop-log.trail.entries.items entries) c.loop-log.invariant.state.watching.watching.same c.propagate.ensures.grows in
    EachForced-grown (clauses_with set log) c.loop-log.trail.entries.items entries grows c.loop-log.invariant.state.forced

pub learn_from-requires-clause-watching : goal.learn_from-requires-clause-watching
learn_from-requires-clause-watching c =
    subst (λ cs. IsWatching cs c.propagate.new.watches c.propagate.new.trail.entries.items) c.loop-log.invariant.state.watching.watching.same c.in_ok-conflict.ensures.watching

pub loop-log-preserved : goal.loop-log-preserved
loop-log-preserved c =
    let inv = c.loop-log.invariant in
    let head = c.in_ok-place.place in
    let decided = c.in_ok-place.ensures.decided in
    record {
      variables = c.learn_from.ensures.same_variables ∙ c.propagate.ensures.same_variables ∙ inv.variables;
      covers = c.learn_from.ensures.covers;
      levels = c.note_places.auto.levels ∙ inv.levels;
      places = c.note_places.auto.places ∙ inv.places;
      noted =
          IsNoted-cut c.note_places.new.places c.propagate.new.trail.entries.items c.learn_from.new.trail.entries.items head decided.0 decided.1
          c.in_ok-place.ensures.kept c.note_places.ensures;
      sizes = c.learn_from.ensures.sizes ∙ inv.sizes;
      within = omega (arith, c.in_ok-place.ensures.longer, c.if-len-limit.false, c.len.ensures, c.loop-log.log.ok.0);
      state = c.in_ok-place.ensures.state;
    }

pub loop-log-smaller : goal.loop-log-smaller
loop-log-smaller c =
    less_after_conflict c.args.limit (length c.loop-log.log.items) (length c.learn_from.new.log.items) (c.args.cnf.now.count + 1) (length c.loop-log.trail.entries.items) (length c.learn_from.new.trail.entries.items)
    c.in_ok-place.ensures.longer (omega (arith, c.if-len-limit.false, c.len.ensures, c.loop-log.log.ok.0))

pub decision-requires : goal.decision-requires
decision-requires c =
    let inv = c.loop-log.invariant in
    record { sizes = inv.sizes; variables = c.propagate.ensures.same_variables ∙ inv.variables }

pub loop-log-smaller-in_default : goal.loop-log-smaller-in_default
loop-log-smaller-in_default c =
    let l = c.loop-log in
    let before = l.trail.entries.items in
    let entries = c.propagate.new.trail.entries.items in
    let after = c.push.new.self in
    let e : Entry = record { literal = c.in-Some-decision.literal; cause = InputDecision } in
    let grows = c.propagate.ensures.grows in
    let added : length after.entries.items ≡ length entries + 1 = ap length c.in_ok-push.ensures.ok ∙ length-append entries (e ∷ []) in
    let grown : length entries ≡ length before + length grows.more = ap length grows.is ∙ length-append before grows.more in
    less_after_decision c.args.limit (length l.log.items) (c.args.cnf.now.count + 1) (length before) (length after.entries.items) (omega (arith, added, grown))
    (omega (arith, after.counted, c.in_ok-push.ensures.variables, c.propagate.ensures.same_variables, l.invariant.variables))

pub refutation-requires-clause-falsified : goal.refutation-requires-clause-falsified
refutation-requires-clause-falsified c =
    let held = literals c.propagate.new.trail.entries.items in
    let clauses = clauses_in c.loop-log.watches.arena in
    subst (λ cs. NamesFalse cs held c.in-Some.conflict) c.loop-log.invariant.state.watching.watching.same
    (IfSome_is c.in_ok-conflict.field-0 c.in-Some.conflict (NamesFalse clauses held) c.in-Some.is c.in_ok-conflict.ensures.falsified)

pub learn_from-requires-clause-falsified : goal.learn_from-requires-clause-falsified
learn_from-requires-clause-falsified c =
    let held = literals c.propagate.new.trail.entries.items in
    let clauses = clauses_in c.loop-log.watches.arena in
    subst (λ cs. NamesFalse cs held c.in-Some.conflict) c.loop-log.invariant.state.watching.watching.same
    (IfSome_is c.in_ok-conflict.field-0 c.in-Some.conflict (NamesFalse clauses held) c.in-Some.is c.in_ok-conflict.ensures.falsified)

pub learn_from-requires-clause-few : goal.learn_from-requires-clause-few
learn_from-requires-clause-few c =
    let set = c.args.cnf.now in
    omega (arith, length-clauses_with set c.loop-log.log.items, length-append set.gates set.roots, set.few_clauses, c.loop-log.invariant.within, c.requires.limit)

pub learn_from-requires-clause-placed : goal.learn_from-requires-clause-placed
learn_from-requires-clause-placed c = c.note_places.ensures

pub learn_from-requires-clause-places : goal.learn_from-requires-clause-places
learn_from-requires-clause-places c = c.note_places.auto.places ∙ c.loop-log.invariant.places

pub learn_from-requires-clause-variables : goal.learn_from-requires-clause-variables
learn_from-requires-clause-variables c = c.propagate.ensures.same_variables ∙ c.loop-log.invariant.variables

pub learn_from-requires-clause-covers : goal.learn_from-requires-clause-covers
learn_from-requires-clause-covers c =
    subst (λ n. CoversBelow n c.propagate.new.watches) c.loop-log.invariant.variables c.propagate.ensures.covers
