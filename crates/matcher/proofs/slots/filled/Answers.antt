use Rattle.matcher.proofs.Common.{◌≡◌, ◌∙◌, ap, List, map, Some, map_Some_same, no_gap, one_more_value, take_all}
use Rattle.matcher.proofs.slots.filled.Goals as goal

pub returns-in_default : goal.returns-in_default
returns-in_default g c values is =
    absurd (no_gap {X = g.row.T.Denot} c.args.slots.now values c.loop-slot.slot-index c.slot-item.result is c.loop-slot-test.true c.slot-item.is c.in_default.is)

pub returns : goal.returns
returns g c values is =
    let all : map Some c.loop-slot.values ≡ map Some values = c.loop-slot.invariant ∙ take_all c.args.slots.now c.loop-slot.slot-index c.loop-slot-test.false ∙ is in
    ap (λ (l : List g.row.T.Denot). Some l) (map_Some_same {X = g.row.T.Denot} c.loop-slot.values values all)

pub loop-slot-init : goal.loop-slot-init
loop-slot-init g c = ap (λ (l : List g.row.T.Denot). map Some l) c.new-values.ensures

pub loop-slot-preserved : goal.loop-slot-preserved
loop-slot-preserved g c =
    one_more_value {X = g.row.T.Denot} c.args.slots.now c.loop-slot.slot-index c.loop-slot.values c.push.new.self c.slot-item.result c.in-Some.value
    c.loop-slot.invariant c.loop-slot-test.true c.slot-item.is c.in-Some.is c.in_ok-push.ensures.ok
