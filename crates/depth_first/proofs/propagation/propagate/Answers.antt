use Rattle.depth_first.proofs.Common.{◌≡◌, ◌+◌, Some, false, length, get_or, ◌<◌, refl, ap, sym, ◌∙◌, arith, slice_get, is_some, slice_get_read, slice_get-get_or, Lit, negation_of, all_clauses, Entry, numbers_of, literals, AllPropagated, PropagatesClauses}
use Rattle.depth_first.proofs.Options.{IfNone_at, IfNone_absent}
use Rattle.depth_first.proofs.PropagationLemmas.{Grows-then, IsPropagatedUpTo-next, AllPropagated-end}
use Rattle.depth_first.proofs.propagation.propagate.Goals as goal

pub returns-in_err-conflict-clause-grows : goal.returns-in_err-conflict-clause-grows
returns-in_err-conflict-clause-grows c =
    Grows-then _ _ _ _ c.loop-head.invariant.grows c.in_err-conflict.ensures.grows

pub returns-then-is_some-clause-grows : goal.returns-then-is_some-clause-grows
returns-then-is_some-clause-grows c =
    Grows-then _ _ _ _ c.loop-head.invariant.grows c.in_ok-conflict.ensures.grows

pub of-requires : goal.of-requires
of-requires c =
    let trail = c.loop-head.trail in
    let entries = trail.entries.items in
    let e : Entry = c.index.result.now in
    let at : slice_get entries c.loop-head.head ≡ Some e =
    slice_get_read entries (length entries) c.loop-head.head e refl (omega (arith, c.loop-head-test.true, c.len.ensures)) c.index.ensures in
    let known = (trail.fresh c.loop-head.head e at).1 in
    let variable : c.negation-falsified.result.variable ≡ e.literal.variable = ap (λ (l : Lit). l.variable) c.negation-falsified.ensures in
    let covers = c.requires.index.covers in
    record {
      positive = omega (arith, known, variable, covers.positive, c.loop-head.invariant.same_variables, c.requires.variables);
      negative = omega (arith, known, variable, covers.negative, c.loop-head.invariant.same_variables, c.requires.variables);
    }

pub propagate_clauses-requires-clause-known : goal.propagate_clauses-requires-clause-known
propagate_clauses-requires-clause-known c =
    λ k d inside.
    c.requires.index.all.only c.negation-falsified.result k (get_or c.of.result.now k d) (ap (λ ns. slice_get ns k) (sym c.of.ensures) ∙ slice_get-get_or c.of.result.now k d inside)

pub returns-then-is_some-clause-propagated : goal.returns-then-is_some-clause-propagated
returns-then-is_some-clause-propagated c =
    IfNone_absent c.in_ok-conflict.conflict (AllPropagated (all_clauses c.args.cnf.now) (literals c.propagate_clauses.new.trail.entries.items)) (sym c.is_some.ensures ∙ c.if-is_some.true)

pub loop-head-preserved : goal.loop-head-preserved
loop-head-preserved c =
    let cs = all_clauses c.args.cnf.now in
    let entries = c.loop-head.trail.entries.items in
    let lists = c.args.occurrences.now in
    let e : Entry = c.index.result.now in
    let within : c.loop-head.head < length entries = omega (arith, c.loop-head-test.true, c.len.ensures) in
    let here : slice_get entries c.loop-head.head ≡ Some e = slice_get_read entries (length entries) c.loop-head.head e refl within c.index.ensures in
    let numbers : c.of.result.now ≡ numbers_of lists (negation_of e.literal) = c.of.ensures ∙ ap (numbers_of lists) c.negation-falsified.ensures in
    let none : is_some c.in_ok-conflict.conflict ≡ false = sym c.is_some.ensures ∙ c.if-is_some.false in
    record {
      grows = Grows-then _ _ _ _ c.loop-head.invariant.grows c.in_ok-conflict.ensures.grows;
      same_variables = c.in_ok-conflict.ensures.same_variables ∙ c.loop-head.invariant.same_variables;
      up_to_head =
          IfNone_at c.in_ok-conflict.conflict (PropagatesClauses cs c.of.result.now entries c.propagate_clauses.new.trail.entries.items) none c.in_ok-conflict.ensures.propagates
          (c.loop-head.head + 1) (omega (arith, within))
          (IsPropagatedUpTo-next cs lists entries c.loop-head.head e c.of.result.now c.requires.index.all here numbers c.loop-head.invariant.up_to_head);
    }

pub returns-clause-propagated : goal.returns-clause-propagated
returns-clause-propagated c =
    AllPropagated-end (all_clauses c.args.cnf.now) c.loop-head.trail.entries.items c.loop-head.head
    (omega (arith, c.loop-head-test.false, c.len.ensures)) c.loop-head.invariant.up_to_head
