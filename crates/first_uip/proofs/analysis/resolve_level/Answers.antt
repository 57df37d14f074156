use Rattle.first_uip.proofs.Common.{◌≡◌, ◌+◌, ◌-◌, ◌<◌, ◌≤◌, sym, ◌∙◌, subst, arith, clauses_with, IsResolution, SeenAt}
use Rattle.first_uip.proofs.analysis.resolve_level.Goals as goal
use Rattle.first_uip.proofs.analysis.resolve_level.Goals.{then-place-lower+in-Some, else-place-lower}

pub returns-in-None-clause-resolves : goal.returns-in-None-clause-resolves
returns-in-None-clause-resolves c =
    λ conflict so_far.
    let inv = c.loop-place.invariant in
    let back : c.loop-place.place ≡ c.loop-place.place - 1 + 1 = omega (arith, inv.last) in
    subst (λ from. IsResolution (clauses_with c.args.cnf.now c.args.log.now) c.args.trail.now.entries.items conflict from c.loop-place.roles) back (inv.resolves conflict so_far)

pub loop-place-preserved : goal.loop-place-preserved
loop-place-preserved c =
    let cs = clauses_with c.args.cnf.now c.args.log.now in
    let entries = c.args.trail.now.entries.items in
    let inv = c.loop-place.invariant in
    let place = c.loop-place.place in
    let lower = c.if-place-lower.lower in
    let mid = c.loop-place.roles in
    let back : place ≡ place - 1 + 1 = omega (arith, inv.last) in
    let next : (c.args.start ≤ lower) × (lower < place - 1) × SeenAt entries mid lower =
    elim c.if-place-lower.branch [
      | then-place-lower+in-Some w ↦
          subst (λ n. (c.args.start ≤ n) × (n < place - 1) × SeenAt entries mid n) (sym w.lower-is) (w.in-Some.ensures.first, w.in-Some.ensures.last, w.in-Some.ensures.seen)
      | else-place-lower w ↦
          let below : c.loop-place.lower < place - 1 = omega (arith, inv.last, w.if-place-lower.false) in
          subst (λ n. (c.args.start ≤ n) × (n < place - 1) × SeenAt entries mid n) (sym w.lower-is) (inv.first, below, inv.seen)
    ] in
    let (e, at, seen) = next.2 in
    record {
      within = omega (arith, inv.within);
      first = next.0;
      last = next.1;
      seen = (e, at, c.resolve.ensures.still e.literal.variable seen);
      resolves = λ conflict so_far.
          c.resolve.ensures.resolves conflict (subst (λ from. IsResolution cs entries conflict from mid) back (inv.resolves conflict so_far));
      marked = c.resolve.ensures.marked;
      same_kept = λ n. c.resolve.ensures.same_kept n ∙ inv.same_kept n;
    }
