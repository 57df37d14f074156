-- the numbers of the cases so far, and the first line of a case that has an earlier one's
use Rattle.ir_resolve.proofs.Common.{◌↔◌, ℕ, take, nat_eq, IsTrue, contains, IsFirst, SomeHas, RepeatsHere, HasNumber, IsCaseOn}
use Rattle.ir_resolve.proofs.Firsts.{Before}
use Rattle.ir_resolve.proofs.cases.repeated_in.Given as goal

abbrev pub invariant-loop-case : goal.invariant-loop-case
invariant-loop-case l = record {
  numbers : (k : ℕ) → IsTrue (contains nat_eq l.numbers k) ↔ SomeHas HasNumber (take l.case-index l.cases) k;
  first : IsFirst (Before (RepeatsHere HasNumber IsCaseOn l.cases) l.case-index) l.found;
}
