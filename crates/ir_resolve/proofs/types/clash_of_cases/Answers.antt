use Rattle.ir_resolve.proofs.Common.{◌≡◌, arith, CaseClashes}
use Rattle.ir_resolve.proofs.Firsts.{first_more, first_all, first_if}
use Rattle.ir_resolve.proofs.types.clash_of_cases.Goals as goal

pub loop-case-preserved : goal.loop-case-preserved
loop-case-preserved c =
    first_more (λ x at. CaseClashes c.args.width x × (x.value.line ≡ at)) c.args.cases.now c.loop-case.case-index c.case-item.result _ _ _ (omega arith) c.case-item.is c.loop-case.invariant
    (first_if _ _ _ _ c.case_clashes.ensures c.then_some.ensures) c.lesser-found.ensures

pub returns : goal.returns
returns c = first_all (λ x at. CaseClashes c.args.width x × (x.value.line ≡ at)) c.args.cases.now _ _ (omega arith) c.loop-case.invariant
