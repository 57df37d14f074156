use Rattle.first_uip.proofs.Common.{◌≡◌, ℕ, ◌<◌, ◌≤◌, length, clauses_with, Resolves, SeenAt, is_kept, role_of, EachMarked}
use Rattle.first_uip.proofs.analysis.resolve_level.Given as goal

abbrev pub invariant-loop-place : goal.invariant-loop-place
invariant-loop-place l =
    record {
      within : l.place ≤ length l.trail.entries.items;
      first : l.start ≤ l.lower;
      last : l.lower < l.place;
      seen : SeenAt l.trail.entries.items l.roles l.lower;
      resolves : Resolves (clauses_with l.cnf l.log) l.trail.entries.items (length l.trail.entries.items) l.initial.roles l.place l.roles;
      marked : EachMarked l.blocks l.places l.roles;
      same_kept : (n : ℕ) → is_kept (role_of l.roles n) ≡ is_kept (role_of l.initial.roles n);
    }

abbrev pub decreases-loop-place : goal.decreases-loop-place
decreases-loop-place l = l.place
