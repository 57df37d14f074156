use Rattle.depth_first.proofs.Common.{◌≡◌, ◌+◌, ◌<◌, ◌≤◌, ◌++◌, ◌∷◌, [], Some, length, take, length-append, refl, sym, ap, ◌∙◌, subst, arith, inl, inr, slice_get, ◌⊎◌, slice_get_read, iff_false, IsVariable, negation_of, NamesFalse, all_clauses, clauses_with, Entry, NonInputDecision, Reason, IsModel, IsHonestLimit, literals, AllPropagated, IsPropagatedUpTo, IsState, IsNext, Learns}
use Rattle.depth_first.proofs.Lists.{some_same, slice_get_below}
use Rattle.depth_first.proofs.TrailTable.{Consistent-from_table}
use Rattle.depth_first.proofs.States.{IsState-grown, IsState-decided, EachCaused-grown, length-clauses_with}
use Rattle.depth_first.proofs.PropagationLemmas.{IsPropagatedUpTo-propagated}
use Rattle.depth_first.proofs.Flipped.{IsState-flipped}
use Rattle.depth_first.proofs.FoundLemmas.{IsModel-from_propagated, IsHonestLimit-from_conflict}
use Rattle.depth_first.proofs.SearchSteps.{IsState-start, NamesFalse-with, room_left, decided_smaller, flipped_smaller, IsBounded, bounded_length, bounded_grow, bounded_more, bounded_flip, IfSome_is, IfNone_is}
use Rattle.depth_first.proofs.depth_first.decide_and_flip.Goals as goal
use Rattle.depth_first.proofs.depth_first.decide_and_flip.Goals.{else-len-limit-via-then-len-limit+else-may_give_up, else-len-limit-via-else-len-limit}

pub loop-log-init : goal.loop-log-init
loop-log-init c =
    let set = c.args.cnf.now in
    let r = c.requires in
    let none : c.new-log.result.items ≡ [] = c.new-log.ensures.items in
    record {
      index = r.index;
      variables = r.variables;
      state = IsState-start set c.new-log.result.items [] c.args.trail.now.entries.items none refl r.grown r.up_to_head;
      bounded = inl (omega (arith, ap length none));
    }

pub returns-in_default-next_decision : goal.returns-in_default-next_decision
returns-in_default-next_decision c =
    let set = c.args.cnf.now in
    let trail = c.propagate.new.trail in
    let entries = trail.entries.items in
    let propagated : AllPropagated (all_clauses set) (literals entries) =
    IfNone_is c.in_ok-conflict.field-0 (AllPropagated (all_clauses set) (literals entries)) c.in_default.is c.in_ok-conflict.ensures.propagated in
    subst (IsModel set) (sym c.in_ok-assignment.ensures)
    (IsModel-from_propagated set trail.values.items entries trail.table (c.in_ok-conflict.ensures.same_variables ∙ c.loop-log.invariant.variables) propagated c.in_default-next_decision.ensures.none)

pub loop-log-smaller-in_default : goal.loop-log-smaller-in_default
loop-log-smaller-in_default c =
    let set = c.args.cnf.now in
    let trail = c.propagate.new.trail in
    let e = c.in-Some-next_decision.entry in
    let same = c.in_ok-conflict.ensures.same_variables in
    let next : IsNext set (literals trail.entries.items) e = c.in-Some-next_decision.ensures.found in
    let within : e.literal.variable < length trail.values.items = omega (arith, same, c.loop-log.invariant.variables, next.variable.1) in
    let room = room_left trail.values.items trail.entries.items e.literal.variable trail.table trail.counted within next.unset in
    decided_smaller (all_clauses set) (length c.loop-log.trail.values.items) (length c.push.new.self.values.items) c.loop-log.trail.entries.items trail.entries.items c.push.new.self.entries.items e
    (c.in_ok-push.ensures.variables ∙ same) c.in_ok-conflict.ensures.grows c.in_ok-push.ensures.ok (omega (arith, room, same))

pub loop-log-preserved-in_default : goal.loop-log-preserved-in_default
loop-log-preserved-in_default c =
    let set = c.args.cnf.now in
    let trail = c.propagate.new.trail in
    let entries = trail.entries.items in
    let e = c.in-Some-next_decision.entry in
    let log = c.loop-log.log.items in
    let inv = c.loop-log.invariant in
    let grows = c.in_ok-conflict.ensures.grows in
    let propagated : AllPropagated (all_clauses set) (literals entries) =
    IfNone_is c.in_ok-conflict.field-0 (AllPropagated (all_clauses set) (literals entries)) c.in_default.is c.in_ok-conflict.ensures.propagated in
    let next : IsNext set (literals entries) e = c.in-Some-next_decision.ensures.found in
    let head : c.len-head.result ≡ length entries = c.len-head.ensures ∙ trail.entries.ok.0 in
    let grown : IsState set log entries (length entries) =
    IsState-grown set log c.loop-log.trail.entries.items entries c.loop-log.head (length entries) grows
    (IsPropagatedUpTo-propagated (all_clauses set) entries (length entries) propagated) inv.state in
    let decided : IsState set log (entries ++ e ∷ []) (length entries) =
    IsState-decided set log entries (length entries) e (Consistent-from_table trail.values.items entries trail.table) grown propagated next in
    record {
      index = inv.index;
      variables = c.in_ok-push.ensures.variables ∙ c.in_ok-conflict.ensures.same_variables ∙ inv.variables;
      state = subst (λ es. IsState set log es c.len-head.result) (sym c.in_ok-push.ensures.ok) (subst (IsState set log (entries ++ e ∷ [])) (sym head) decided);
      bounded =
          bounded_more set c.args.limit log entries (e ∷ []) c.push.new.self.entries.items c.in_ok-push.ensures.ok
          (bounded_grow set c.args.limit log c.loop-log.trail.entries.items entries grows inv.bounded);
    }

pub returns-then-may_give_up : goal.returns-then-may_give_up
returns-then-may_give_up c =
    let set = c.args.cnf.now in
    let trail = c.propagate.new.trail in
    let entries = trail.entries.items in
    let log = c.loop-log.log.items in
    let inv = c.loop-log.invariant in
    let place = c.in-Some-last_decision.place in
    let (e, at, decides, last) = c.in-Some-last_decision.ensures.last in
    let here = c.index.result.now in
    let read : slice_get entries place ≡ Some here =
    slice_get_read entries (length entries) place here refl (slice_get_below entries place e at) c.index.ensures in
    let same : here ≡ e = some_same here e (sym read ∙ at) in
    let late : e.cause ≡ NonInputDecision =
    subst (λ (f : Entry). f.cause ≡ NonInputDecision) same (c.may_give_up.ensures.0 c.if-may_give_up.true) in
    let fresh = trail.fresh place e at in
    let within : IsVariable set.count e.literal.variable =
    (fresh.0, omega (arith, fresh.1, c.in_ok-conflict.ensures.same_variables, inv.variables)) in
    let enough : c.args.limit ≤ length log = omega (arith, c.if-len-limit.true, c.len.ensures, c.loop-log.log.ok.0) in
    let caused = EachCaused-grown set log c.loop-log.trail.entries.items entries c.in_ok-conflict.ensures.grows inv.state.caused place e at in
    let first : c.from_vec.result ≡ take c.args.limit log = c.from_vec.ensures ∙ c.truncate.ensures.items in
    subst (IsHonestLimit set c.args.limit) (sym first)
    (IsHonestLimit-from_conflict set log c.args.limit (literals (take place entries)) e.literal e.cause enough inv.state.log_learned decides caused within fresh.2 late)

pub loop-log-smaller : goal.loop-log-smaller
loop-log-smaller c =
    let trail = c.propagate.new.trail in
    let entries = trail.entries.items in
    let place = c.in-Some-last_decision.place in
    let number = length (clauses_with c.args.cnf.now c.loop-log.log.items) in
    let (e, at, decides, last) = c.in-Some-last_decision.ensures.last in
    let same = c.in_ok-conflict.ensures.same_variables in
    let after = c.learn_and_flip.new.trail in
    flipped_smaller (all_clauses c.args.cnf.now) (length c.loop-log.trail.values.items) (length after.values.items) c.loop-log.trail.entries.items entries after.entries.items place number e
    (record { literal = negation_of e.literal; cause = Reason number })
    (c.learn_and_flip.ensures.same_variables ∙ same) c.in_ok-conflict.ensures.grows (c.in_ok-learn_and_flip.ensures.flipped e at)
    (omega (arith, trail.counted, same)) at decides refl

pub loop-log-preserved : goal.loop-log-preserved
loop-log-preserved c =
    let set = c.args.cnf.now in
    let trail = c.propagate.new.trail in
    let values = trail.values.items in
    let entries = trail.entries.items in
    let log = c.loop-log.log.items in
    let inv = c.loop-log.invariant in
    let limit = c.args.limit in
    let place = c.in-Some-last_decision.place in
    let number = length (clauses_with set log) in
    let after = c.learn_and_flip.new.trail.entries.items in
    let learns : Learns set entries log c.learn_and_flip.new.log.items = c.in_ok-learn_and_flip.ensures.learns in
    let step = learns.step in
    let (e, at, decides, last) = c.in-Some-last_decision.ensures.last in
    let grows = c.in_ok-conflict.ensures.grows in
    let room : length values ≡ set.count + 1 = c.in_ok-conflict.ensures.same_variables ∙ inv.variables in
    let caused = EachCaused-grown set log c.loop-log.trail.entries.items entries grows inv.state.caused in
    let flipped : after ≡ take place entries ++ (record { literal = negation_of e.literal; cause = Reason number }) ∷ [] =
    c.in_ok-learn_and_flip.ensures.flipped e at in
    let state =
    IsState-flipped set values log entries step trail.fresh caused inv.state.log_learned learns.clause_is learns.follows
    place e at decides last number refl in
    let goes_on : (length log < limit) ⊎ ((e.cause ≡ NonInputDecision) → ⊥) =
    elim c.else-len-limit.branch [
      | else-len-limit-via-then-len-limit+else-may_give_up w ↦
          let here = w.index.result.now in
          let read : slice_get entries place ≡ Some here =
          slice_get_read entries (length entries) place here refl (slice_get_below entries place e at) w.index.ensures in
          let same : here ≡ e = some_same here e (sym read ∙ at) in
          inr (subst (λ (f : Entry). (f.cause ≡ NonInputDecision) → ⊥) same (iff_false w.may_give_up.ensures w.if-may_give_up.false))
      | else-len-limit-via-else-len-limit w ↦ inl (omega (arith, w.if-len-limit.false, c.len.ensures, c.loop-log.log.ok.0))
    ] in
    record {
      index = inv.index;
      variables = c.learn_and_flip.ensures.same_variables ∙ room;
      state =
          subst (λ es. IsState set c.learn_and_flip.new.log.items es place) (sym flipped)
          (subst (λ steps. IsState set steps (take place entries ++ (record { literal = negation_of e.literal; cause = Reason number }) ∷ []) place) (sym learns.is) state);
      bounded =
          subst (IsBounded set limit c.learn_and_flip.new.log.items) (sym flipped)
          (subst (λ steps. IsBounded set limit steps (take place entries ++ (record { literal = negation_of e.literal; cause = Reason number }) ∷ [])) (sym learns.is)
          (bounded_flip set limit values log entries place number e step trail.fresh caused at decides c.requires.few goes_on
          (bounded_grow set limit log c.loop-log.trail.entries.items entries grows inv.bounded)));
    }

pub refutation-requires-clause-caused : goal.refutation-requires-clause-caused
refutation-requires-clause-caused c =
    EachCaused-grown c.args.cnf.now c.loop-log.log.items c.loop-log.trail.entries.items c.propagate.new.trail.entries.items c.in_ok-conflict.ensures.grows c.loop-log.invariant.state.caused

pub refutation-requires-clause-falsified : goal.refutation-requires-clause-falsified
refutation-requires-clause-falsified c =
    let set = c.args.cnf.now in
    let held = literals c.propagate.new.trail.entries.items in
    NamesFalse-with set c.loop-log.log.items held c.in-Some.conflict
    (IfSome_is c.in_ok-conflict.field-0 c.in-Some.conflict (NamesFalse (all_clauses set) held) c.in-Some.is c.in_ok-conflict.ensures.falsified)

pub push-requires-clause-last : goal.push-requires-clause-last
push-requires-clause-last c =
    let next : IsNext c.args.cnf.now (literals c.propagate.new.trail.entries.items) c.in-Some-next_decision.entry = c.in-Some-next_decision.ensures.found in
    omega (arith, next.variable.1, c.in_ok-conflict.ensures.same_variables, c.loop-log.invariant.variables)

pub push-requires-clause-open : goal.push-requires-clause-open
push-requires-clause-open c =
    let next : IsNext c.args.cnf.now (literals c.propagate.new.trail.entries.items) c.in-Some-next_decision.entry = c.in-Some-next_decision.ensures.found in
    next.unset

pub index-requires : goal.index-requires
index-requires c =
    let entries = c.propagate.new.trail.entries in
    let (e, at, decides, last) = c.in-Some-last_decision.ensures.last in
    omega (arith, slice_get_below entries.items c.in-Some-last_decision.place e at, entries.ok.0)

pub learn_and_flip-requires-clause-few : goal.learn_and_flip-requires-clause-few
learn_and_flip-requires-clause-few c =
    let set = c.args.cnf.now in
    let log = c.loop-log.log.items in
    let bound = bounded_length set c.args.limit log c.loop-log.trail.entries.items c.loop-log.invariant.bounded in
    omega (arith, bound, c.requires.limit, length-append set.gates set.roots, set.few_clauses, length-clauses_with set log)

pub learn_and_flip-requires-clause-follows : goal.learn_and_flip-requires-clause-follows
learn_and_flip-requires-clause-follows c = c.loop-log.invariant.state.log_learned.follows

pub learn_and_flip-requires-clause-caused : goal.learn_and_flip-requires-clause-caused
learn_and_flip-requires-clause-caused c =
    EachCaused-grown c.args.cnf.now c.loop-log.log.items c.loop-log.trail.entries.items c.propagate.new.trail.entries.items c.in_ok-conflict.ensures.grows c.loop-log.invariant.state.caused

pub learn_and_flip-requires-clause-falsified : goal.learn_and_flip-requires-clause-falsified
learn_and_flip-requires-clause-falsified c =
    let set = c.args.cnf.now in
    let held = literals c.propagate.new.trail.entries.items in
    NamesFalse-with set c.loop-log.log.items held c.in-Some.conflict
    (IfSome_is c.in_ok-conflict.field-0 c.in-Some.conflict (NamesFalse (all_clauses set) held) c.in-Some.is c.in_ok-conflict.ensures.falsified)

pub learn_and_flip-requires-clause-within : goal.learn_and_flip-requires-clause-within
learn_and_flip-requires-clause-within c =
    let (e, at, decides, last) = c.in-Some-last_decision.ensures.last in
    slice_get_below c.propagate.new.trail.entries.items c.in-Some-last_decision.place e at
