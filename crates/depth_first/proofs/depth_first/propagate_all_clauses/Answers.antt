use Rattle.depth_first.proofs.Common.{◌<◌, length, ap, ◌∙◌, inl, arith, slice_get, IfNone, IfOk-weaker, all_clauses, IsPropagatedUpTo, PropagatesClauses}
use Rattle.depth_first.proofs.Lists.{slice_get_below}
use Rattle.depth_first.proofs.Options.{IfNone_then}
use Rattle.depth_first.proofs.depth_first.propagate_all_clauses.Goals as goal

pub returns-clause-up_to_head : goal.returns-clause-up_to_head
returns-clause-up_to_head c =
    let cs = all_clauses c.args.cnf.now in
    let old = c.args.trail.now.entries.items in
    let new = c.propagate_clauses.new.trail.entries.items in
    let settles : PropagatesClauses cs c.deref.result.now old new → IsPropagatedUpTo cs new 0 = λ attends.
    attends 0 (omega arith) (λ number clause at.
    let below : number < length cs = slice_get_below cs number clause at in
    inl (
      number,
      omega arith,
      ap (λ ns. slice_get ns number) c.deref.ensures.value
          ∙ c.loop-number.invariant.each number (omega (arith, below, c.loop-number-test.false, c.clause_count-number-end.ensures)),
    )) in
    IfOk-weaker c.propagate_clauses.result (λ conflict. IfNone conflict (PropagatesClauses cs c.deref.result.now old new)) (λ conflict. IfNone conflict (IsPropagatedUpTo cs new 0))
    (λ conflict attends. IfNone_then conflict (PropagatesClauses cs c.deref.result.now old new) (IsPropagatedUpTo cs new 0) attends settles)
    c.propagate_clauses.ensures.propagates
