use Rattle.first_uip.proofs.Common.{◌≡◌, take, negations_of, literals, kept_entries}
use Rattle.first_uip.proofs.analysis.clause_of.Given as goal

abbrev pub invariant-loop-entry : goal.invariant-loop-entry
invariant-loop-entry l = l.clause ≡ negations_of (literals (kept_entries l.roles (take l.entry-index l.shown)))
