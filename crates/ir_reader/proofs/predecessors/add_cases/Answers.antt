use Rattle.ir_reader.proofs.Common.{◌<◌, ◌∷◌, [], map, take, subst, sym, arith, map_more, AddsTo}
use Rattle.ir_reader.proofs.Sets.{adds_both}
use Rattle.ir_reader.proofs.predecessors.add_cases.Goals as goal

pub add-requires : goal.add-requires
add-requires c =
    let lt = rw (← c.loop-target-item.is) at (c.requires c.loop-target.target-index c.loop-target-item.result (omega arith)) in
    subst (λ n. c.loop-target-item.result.1 < n) (sym c.loop-target.auto.sets) lt

pub loop-target-preserved : goal.loop-target-preserved
loop-target-preserved c =
    let i = c.loop-target.target-index in
    let item = c.loop-target-item.result in
    let more = rw (← c.loop-target-item.is) at (map_more (λ case. case.1) c.args.cases.now i item (omega arith)) in
    subst (AddsTo c.args.sets.now c.add.new.sets c.args.block) (sym more)
    (adds_both c.args.sets.now c.loop-target.sets c.add.new.sets c.args.block (map (λ case. case.1) (take i c.args.cases.now)) (item.1 ∷ []) c.loop-target.invariant c.in_ok-add.ensures)
