-- What a clause's open literals, those that aren't false, say of it in unit propagation.
use Rattle.std.specs.Prelude.{List}
use Rattle.clauses.specs.Literal.{Lit}
use Rattle.clauses.specs.Propagation.{IsFalsified, IsUnit}
use Rattle.rup_checker.specs.declared.open_literals.OpenLiterals.{OpenLiterals}
use Rattle.rup_checker.specs.declared.open_literals.OpenLiterals.TheVariants.{NoneOpen, OneOpen, SeveralOpen}

-- With none open the clause is false, and with one open that literal is unit. Otherwise it isn't false, and no literal
-- is unit in it.
abbrev pub Counts : OpenLiterals → List Lit → List Lit → Type 0
Counts NoneOpen held clause = IsFalsified held clause
Counts (OneOpen l) held clause = IsUnit held clause l
Counts SeveralOpen held clause = ¬ (IsFalsified held clause) × ((l : Lit) → ¬ (IsUnit held clause l))
