use Rattle.ir_resolve.proofs.Common.{◌<◌, length, nat_eq, IsTrue, sym, ap, ◌∙◌, arith, slice_get_within, list_any, false≢true, contains, HasNumber, IsCaseOn, RepeatsHere}
use Rattle.ir_resolve.proofs.Firsts.{first_more_place, first_all_places}
use Rattle.ir_resolve.proofs.Repeats.{known_more, some_none, first_repeat}
use Rattle.ir_resolve.proofs.cases.repeated_in.Goals as goal

pub loop-case-init : goal.loop-case-init
loop-case-init c = record {
  numbers = λ k. (λ t. absurd (false≢true (sym (ap (list_any (nat_eq k)) c.new-numbers.ensures.empty) ∙ t)), λ h. absurd (some_none HasNumber k h));
  first = λ line (j, lt, at). omega arith;
}

pub loop-case-preserved : goal.loop-case-preserved
loop-case-preserved c =
    let cases = c.args.cases.now in
    let i = c.loop-case.case-index in
    let x = c.case-item.result in
    let lt : i < length cases = omega arith in
    record {
      numbers = known_more HasNumber (λ k. IsTrue (contains nat_eq c.loop-case.numbers k)) (λ k. IsTrue (contains nat_eq c.repeated.new.numbers k)) cases i x lt c.case-item.is c.loop-case.invariant.numbers c.in_ok-repeated.ensures.numbers;
      first = first_more_place (RepeatsHere HasNumber IsCaseOn cases) i c.loop-case.found _ _ c.loop-case.invariant.first
          (first_repeat HasNumber IsCaseOn (λ k. IsTrue (contains nat_eq c.loop-case.numbers k)) cases i x _ lt c.case-item.is c.loop-case.invariant.numbers c.in_ok-repeated.ensures.line)
          c.lesser-found.ensures;
    }

pub returns : goal.returns
returns c =
    let cases = c.args.cases.now in
    first_all_places (RepeatsHere HasNumber IsCaseOn cases) c.loop-case.case-index c.loop-case.found
    (λ j line (x, k, is, has, before, on). let within : j < length cases = slice_get_within cases j x is in omega arith)
    c.loop-case.invariant.first
