use Rattle.rup_checker.proofs.Common.{◌≡◌, ℕ, true, drop, Contains, clauses_with, Accounted, used_in}
use Rattle.rup_checker.proofs.hints.release_hinted.Given as goal

-- Each literal that is held is of a variable of the step's clause or of a marked clause, and later hints name the
-- marked clauses.
abbrev pub invariant-loop-number : goal.invariant-loop-number
invariant-loop-number l =
    record {
      accounted : Accounted (clauses_with l.cnf l.earlier) l.step.clause l.table l.used;
      marked : (number : ℕ) → used_in l.used number ≡ true → Contains (drop l.number-index l.step.hints) number;
    }
