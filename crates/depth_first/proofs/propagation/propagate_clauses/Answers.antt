use Rattle.depth_first.proofs.Common.{◌∙◌, arith, OnTrue_at, slice_get-get_or, all_clauses}
use Rattle.depth_first.proofs.PropagationLemmas.{Grows-then, Grows-length, IsPropagatedUpTo-end}
use Rattle.depth_first.proofs.propagation.propagate_clauses.Goals as goal

pub returns-in_err-propagate_clause-clause-grows : goal.returns-in_err-propagate_clause-clause-grows
returns-in_err-propagate_clause-clause-grows c =
    Grows-then _ _ _ _ c.loop-number.invariant.grows c.in_err-propagate_clause.ensures.grows

pub returns-then-not-branch-clause-grows : goal.returns-then-not-branch-clause-grows
returns-then-not-branch-clause-grows c =
    Grows-then _ _ _ _ c.loop-number.invariant.grows c.in_ok-propagate_clause.ensures.grows

pub loop-number-preserved : goal.loop-number-preserved
loop-number-preserved c =
    record {
      grows = Grows-then _ _ _ _ c.loop-number.invariant.grows c.in_ok-propagate_clause.ensures.grows;
      same_variables = c.in_ok-propagate_clause.ensures.same_variables ∙ c.loop-number.invariant.same_variables;
      up_to_head = λ head within before.
          OnTrue_at c.if-not-branch.false c.in_ok-propagate_clause.ensures.propagates c.args.numbers.now c.loop-number.number-index head
          (slice_get-get_or c.args.numbers.now c.loop-number.number-index _ c.loop-number-test.true)
          (omega (arith, within, Grows-length _ _ _ c.loop-number.invariant.grows))
          (c.loop-number.invariant.up_to_head head within before);
    }

pub returns-clause-propagates : goal.returns-clause-propagates
returns-clause-propagates c =
    λ head within before.
    IsPropagatedUpTo-end (all_clauses c.args.cnf.now) c.args.numbers.now c.loop-number.number-index c.loop-number.trail.entries.items head
    (omega (arith, c.loop-number-test.false)) (c.loop-number.invariant.up_to_head head within before)
