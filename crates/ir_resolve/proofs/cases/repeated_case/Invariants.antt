use Rattle.ir_resolve.proofs.Common.{take, IsFirst, SomeAt, cases_of, Repeats, HasNumber, IsCaseOn}
use Rattle.ir_resolve.proofs.cases.repeated_case.Given as goal

abbrev pub invariant-loop-block : goal.invariant-loop-block
invariant-loop-block l = IsFirst (SomeAt (take l.block-index l.blocks) (λ block. Repeats HasNumber IsCaseOn (cases_of block.end))) l.found
