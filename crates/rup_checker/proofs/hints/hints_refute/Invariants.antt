use Rattle.rup_checker.proofs.Common.{◌≡◌, ℕ, true, List, [], ◌∷◌, ◌++◌, drop, ◌↔◌, Contains, Lit, HintsRefute, negations_of, Accounted, Represents, used_in, clauses_with}
use Rattle.rup_checker.proofs.UsedLemmas.{UsedAreUnit}
use Rattle.rup_checker.proofs.hints.hints_refute.Given as goal

-- The table represents a state in which each marked clause has a unit literal that is held; all hints refute the state
-- at the start exactly where the later hints refute this one. Each literal that is held is of a variable of the step's
-- clause or of a marked clause, and hints of the step name the marked clauses.
abbrev pub invariant-loop-number : goal.invariant-loop-number
invariant-loop-number l =
    record {
      state : (held : List Lit) × Represents l.table held × UsedAreUnit (clauses_with l.cnf l.earlier) held l.used
          × (HintsRefute (clauses_with l.cnf l.earlier) (negations_of l.step.clause) l.step.hints ↔ HintsRefute (clauses_with l.cnf l.earlier) held (drop l.number-index l.moves ++ l.last ∷ []));
      accounted : Accounted (clauses_with l.cnf l.earlier) l.step.clause l.table l.used;
      marked : (number : ℕ) → used_in l.used number ≡ true → Contains l.step.hints number;
    }
