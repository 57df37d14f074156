use Rattle.ir_resolve.proofs.Common.{subst, IsFirst, SomeAt, cases_of, Repeats, HasNumber, IsCaseOn}
use Rattle.ir_resolve.proofs.Refusals.{duplicate_first, name_none}
use Rattle.ir_resolve.proofs.resolution.duplicate.Goals as goal

pub returns-clause-first : goal.returns-clause-first
returns-clause-first c = λ earlier marks.
    let cases = subst (λ blocks. IsFirst (SomeAt blocks (λ block. Repeats HasNumber IsCaseOn (cases_of block.end))) c.in_ok-repeated_case.repeated_case) c.as_slice.ensures c.in_ok-repeated_case.ensures in
    duplicate_first earlier c.args.raw.now c.args.is_repeated c.then_some-repeated_function.result c.args.repeated_name c.in_ok-repeated_case.repeated_case c.lesser.result c.lesser-2.result marks
    c.then_some-repeated_function.ensures c.requires cases c.lesser.ensures c.lesser-2.ensures

pub returns-clause-none : goal.returns-clause-none
returns-clause-none c = λ none. name_none c.then_some-repeated_function.result c.args.repeated_name c.in_ok-repeated_case.repeated_case c.lesser.result c.lesser-2.result c.lesser.ensures c.lesser-2.ensures none
