use Rattle.rup_checker.proofs.Common.{◌≡◌, ◌&&◌, not, drop, Lit, table_holds, stands_in}
use Rattle.rup_checker.proofs.table.release.Given as goal

-- what is held, but for the variables of the later literals, is what was held at the start but for those of the clause
abbrev pub invariant-loop-literal : goal.invariant-loop-literal
invariant-loop-literal l =
    (m : Lit) → (table_holds l.table m && not (stands_in m.variable (drop l.literal-index l.clause))) ≡ (table_holds l.initial.table m && not (stands_in m.variable l.clause))
