use Rattle.ir_resolve.proofs.Common.{arith, subst, IsFirst, cases_of, Repeats, HasNumber, IsCaseOn}
use Rattle.ir_resolve.proofs.Firsts.{first_more, first_all}
use Rattle.ir_resolve.proofs.cases.repeated_case.Goals as goal

pub loop-block-preserved : goal.loop-block-preserved
loop-block-preserved c =
    let here = subst (λ cases. IsFirst (Repeats HasNumber IsCaseOn cases) c.in_ok-repeated_in.field-0) c.cases.ensures c.in_ok-repeated_in.ensures in
    first_more (λ block. Repeats HasNumber IsCaseOn (cases_of block.end)) c.args.blocks.now c.loop-block.block-index c.block-item.result _ _ _ (omega arith) c.block-item.is c.loop-block.invariant here c.lesser-found.ensures

pub returns : goal.returns
returns c = first_all (λ block. Repeats HasNumber IsCaseOn (cases_of block.end)) c.args.blocks.now _ _ (omega arith) c.loop-block.invariant
