use Rattle.rup_checker.proofs.Common.{◌≡◌, ◌||◌, drop, Lit, is_held, negations_of, table_holds}
use Rattle.rup_checker.proofs.table.hold_negations.Given as goal

-- what is held, with the negations of the later literals, is what was held at the start with those of the whole clause
abbrev pub invariant-loop-literal : goal.invariant-loop-literal
invariant-loop-literal l =
    (m : Lit) → (is_held (negations_of (drop l.literal-index l.clause)) m || table_holds l.table m) ≡ (is_held (negations_of l.clause) m || table_holds l.initial.table m)
