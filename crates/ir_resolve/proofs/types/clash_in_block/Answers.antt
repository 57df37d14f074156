use Rattle.ir_resolve.proofs.Common.{subst, IsFirst, SomeAt, OpClashesAt, EndClashesAt}
use Rattle.ir_resolve.proofs.Firsts.{first_either}
use Rattle.ir_resolve.proofs.types.clash_in_block.Goals as goal

pub returns : goal.returns
returns c =
    let block = c.args.block.now in
    let insts = subst (λ is. IsFirst (SomeAt is (λ i. OpClashesAt i.op)) c.clash_of_insts.result) c.as_slice.ensures c.clash_of_insts.ensures in
    rw c.lesser.ensures (first_either (SomeAt block.insts (λ i. OpClashesAt i.op)) (EndClashesAt c.args.returned block.end) c.clash_of_insts.result c.end_clash.result insts c.end_clash.ensures)
