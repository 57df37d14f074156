use Rattle.draft.proofs.Common.{◌+◌, List, get_or, set, sym, subst, get_or_default, Inst, at_places}
use Rattle.draft.proofs.Placed.{InstsPlaced, all_placed, inst_placed}
use Rattle.draft.proofs.placing.placed_insts.Goals as goal

pub loop-number-preserved : goal.loop-number-preserved
loop-number-preserved c =
    let l = c.loop-number in
    let to = at_places c.args.places.now.rows.items in
    let numbers = c.args.numbers.now in
    let n = get_or numbers l.number-index 0 in
    subst (λ (placed : List Inst). InstsPlaced to c.args.insts numbers (l.number-index + 1) (set l.insts.items n c.placed_inst.new.inst) placed) (sym c.in_ok-push.ensures.ok)
    (inst_placed to c.args.insts numbers l.number-index l.insts.items l.placed l.invariant c.requires c.loop-number-test.true n (get_or_default numbers l.number-index 0 n c.loop-number-test.true)
    c.index_mut.result.now c.placed_inst.new.inst c.placed_inst.result c.index_mut.ensures.value c.placed_inst.ensures)

pub returns : goal.returns
returns c =
    let l = c.loop-number in
    all_placed (at_places c.args.places.now.rows.items) c.args.insts c.args.numbers.now l.number-index l.insts.items l.placed l.invariant c.loop-number-test.false
