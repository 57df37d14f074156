use Rattle.ir_resolve.proofs.Common.{◌≡◌, take, IsFirst, SomeAt, CaseClashes}
use Rattle.ir_resolve.proofs.types.clash_of_cases.Given as goal

abbrev pub invariant-loop-case : goal.invariant-loop-case
invariant-loop-case l = IsFirst (SomeAt (take l.case-index l.cases) (λ c at. CaseClashes l.width c × (c.value.line ≡ at))) l.found
