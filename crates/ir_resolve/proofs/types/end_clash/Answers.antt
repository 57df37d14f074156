use Rattle.ir_resolve.proofs.Common.{◌≡◌, subst, IsFirst, SomeAt, CaseClashes}
use Rattle.ir_resolve.proofs.types.end_clash.Goals as goal

pub returns-in-Switch : goal.returns-in-Switch
returns-in-Switch c =
    let width = c.in-Switch.width in
    rw c.in-Switch.is (subst (λ cases. IsFirst (SomeAt cases (λ x at. CaseClashes width x × (x.value.line ≡ at))) c.clash_of_cases.result) c.as_slice.ensures c.clash_of_cases.ensures)
