use Rattle.first_uip.proofs.Common.{◌≡◌, ◌+◌, ◌<◌, true, Some, length, set, get_or, refl, sym, ap, ◌∙◌, subst, arith, slice_get, get_or-set_other, slice_get_read, clauses_with, Entry, some_same, Unseen, Kept, IsResolution, role_of, is_kept, is_seen, EachMarked, is_marked}
use Rattle.first_uip.proofs.RoleLemmas.{IsResolution-keep, IsResolution-unseen, other_entry}
use Rattle.first_uip.proofs.Marked.{EachMarked-set}
use Rattle.first_uip.proofs.minimisation.settle_earlier.Goals as goal

pub loop-place-preserved-then-is_redundant : goal.loop-place-preserved-then-is_redundant
loop-place-preserved-then-is_redundant c =
    let cs = clauses_with c.args.cnf.now c.args.log.now in
    let entries = c.args.trail.now.entries.items in
    let inv = c.loop-place.invariant in
    let found = c.in-Some.ensures in
    record {
      within = omega (arith, found.before, inv.within);
      resolves = λ conflict so_far.
          c.resolve.ensures.resolves conflict
          (IsResolution-unseen cs entries conflict (c.in-Some.place + 1) c.loop-place.end c.loop-place.roles found.last (inv.resolves conflict so_far));
      same_later = λ k f from there. c.resolve.ensures.same_kept f.literal.variable ∙ inv.same_later k f from there;
      marked = c.resolve.ensures.marked;
    }

pub bounds-roles-variable : goal.bounds-roles-variable
bounds-roles-variable c =
    let trail = c.args.trail.now in
    let entries = trail.entries.items in
    let place = c.in-Some.place in
    let e : Entry = c.index.result.now in
    let at : slice_get entries place ≡ Some e =
    slice_get_read entries (length entries) place e refl (omega (arith, c.in-Some.ensures.before, c.loop-place.invariant.within, c.requires.within)) c.index.ensures in
    omega (arith, (trail.fresh place e at).1, c.variable.ensures, c.requires.variables, c.requires.size, c.loop-place.auto.roles)

pub loop-place-preserved : goal.loop-place-preserved
loop-place-preserved c =
    let cs = clauses_with c.args.cnf.now c.args.log.now in
    let trail = c.args.trail.now in
    let entries = trail.entries.items in
    let inv = c.loop-place.invariant in
    let found = c.in-Some.ensures in
    let place = c.in-Some.place in
    let mid = c.loop-place.roles in
    let blocks = c.loop-place.blocks in
    let places = c.args.places.now in
    let e : Entry = c.index.result.now in
    let v = e.literal.variable in
    let at : slice_get entries place ≡ Some e =
    slice_get_read entries (length entries) place e refl (omega (arith, found.before, inv.within, c.requires.within)) c.index.ensures in
    let room : v < length mid = omega (arith, (trail.fresh place e at).1, c.requires.variables, c.requires.size, c.loop-place.auto.roles) in
    let (g, at_g, seen) = found.seen in
    let same : g.literal.variable ≡ v = ap (λ (h : Entry). h.literal.variable) (some_same g e (sym at_g ∙ at)) in
    let here : is_marked blocks (get_or places v 0) ≡ true = inv.marked v (subst (λ n. is_seen (role_of mid n) ≡ true) same seen) in
    record {
      within = omega (arith, found.before, inv.within);
      resolves = λ conflict so_far.
          subst (λ n. IsResolution cs entries conflict place (set mid n Kept)) (sym c.variable.ensures)
          (IsResolution-keep cs trail.values.items entries conflict place e mid trail.fresh at room
          (IsResolution-unseen cs entries conflict (place + 1) c.loop-place.end mid found.last (inv.resolves conflict so_far)));
      same_later = λ k f from there.
          let later : place < k = omega (arith, from, inv.within, found.before) in
          let differ : f.literal.variable ≡ v → ⊥ = λ q. other_entry trail.values.items entries place k e f trail.fresh at there later (sym q) in
          ap (λ n. is_kept (role_of (set mid n Kept) f.literal.variable)) c.variable.ensures
          ∙ ap is_kept (get_or-set_other mid v f.literal.variable Kept Unseen differ) ∙ inv.same_later k f from there;
      marked =
          subst (λ n. EachMarked blocks places (set mid n Kept)) (sym c.variable.ensures)
          (EachMarked-set blocks blocks places mid v Kept (λ k h. h) here inv.marked);
    }

pub returns-clause-resolves : goal.returns-clause-resolves
returns-clause-resolves c =
    λ conflict so_far.
    IsResolution-unseen (clauses_with c.args.cnf.now c.args.log.now) c.args.trail.now.entries.items conflict 0 c.loop-place.end c.loop-place.roles c.in_default.ensures.none
    (c.loop-place.invariant.resolves conflict so_far)
