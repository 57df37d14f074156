use Rattle.packed_log.proofs.Common.{◌^◌, ◌<◌, get_or, rules}
use Rattle.packed_log.proofs.Lists.{list_begins, list_more}
use Rattle.packed_log.proofs.Differences.{no_differences, one_more_difference, hints_done}
use Rattle.packed_log.proofs.hints.push_hints.Goals as goal

pub loop-hint-init : goal.loop-hint-init
loop-hint-init c = list_begins _ _ _ _ c.in_ok-push_number.ensures no_differences

pub loop-hint-preserved : goal.loop-hint-preserved
loop-hint-preserved c =
    let small : get_or c.args.hints.now c.loop-hint.hint-index 0 < 2 ^ 32 = search rules in
    list_more _ _ _ _ _ _ _ _ c.loop-hint.invariant
    (λ ns. one_more_difference c.args.hints.now c.loop-hint.hint-index c.loop-hint.before c.difference.result ns c.loop-hint-test.true c.difference.ensures (search rules) small)
    c.in_ok-push_number-2.ensures

pub returns : goal.returns
returns c = hints_done _ _ _ _ _ (search rules) c.loop-hint-test.false c.loop-hint.auto.hint-index-end c.loop-hint.invariant
