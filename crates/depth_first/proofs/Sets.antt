-- The clauses of a set by their numbers.
use Rattle.depth_first.proofs.Common.{◌≡◌, ℕ, ◌+◌, ◌-◌, ◌<◌, List, Some, subst, arith, slice_get, All, get_or_from_slice_get, All-append, Cnf, Lit, IsWithin, all_clauses}
use Rattle.depth_first.proofs.Lists.{slice_get_below}

-- the variables of a set's clause are the set's
pub clause_within : (set : Cnf) (number : ℕ) (clause : List Lit) → slice_get (all_clauses set) number ≡ Some clause → IsWithin set.count clause
clause_within set number clause at =
    subst (IsWithin set.count) (get_or_from_slice_get (all_clauses set) number clause clause at)
    (All-append (IsWithin set.count) set.gates set.roots set.gate_variables set.root_variables number clause (slice_get_below (all_clauses set) number clause at))

pub below_from_within : (count n : ℕ) (clause : List Lit) → n ≡ count + 1 → IsWithin count clause → All (λ (l : Lit). l.variable < n) clause
below_from_within count n clause is within k d inside =
    let h = within k d inside in omega (arith, is, h.1)
