use Rattle.first_uip.proofs.Common.{◌≡◌, ◌-◌, ◌*◌, ◌/◌, false, Some, length, refl, sym, ap, ◌∙◌, arith, slice_get, slice_get_read, Entry, is_seen, part_of, role_of, is_marked}
use Rattle.first_uip.proofs.RoleLemmas.{seen_if_ne, unseen_if_ne}
use Rattle.first_uip.proofs.Marked.{NoneSeen-block, NoneSeen-join, NoneSeen-one}
use Rattle.first_uip.proofs.blocks.seen_before.Goals as goal

pub loop-place-preserved-then-not-is_marked : goal.loop-place-preserved-then-not-is_marked
loop-place-preserved-then-not-is_marked c =
    let entries = c.args.trail.now.entries.items in
    let roles = c.args.roles.now in
    let inv = c.loop-place.invariant in
    let place = c.loop-place.place - 1 in
    let none : is_marked c.args.blocks.now place ≡ false = sym c.is_marked.ensures ∙ c.if-not-is_marked.true in
    record {
      within = omega (arith, inv.within, c.loop-place-test.true);
      none =
          NoneSeen-join entries roles (place / 32 * 32) c.loop-place.place c.args.end
          (λ k e from below there. NoneSeen-block entries roles c.args.blocks.now place c.requires.marked none k e from (omega (arith, below, c.loop-place-test.true)) there) inv.none;
    }

pub bounds-roles-variable : goal.bounds-roles-variable
bounds-roles-variable c =
    let trail = c.args.trail.now in
    let entries = trail.entries.items in
    let roles = c.args.roles.now in
    let inv = c.loop-place.invariant in
    let place = c.loop-place.place - 1 in
    let e : Entry = c.index.result.now in
    let at : slice_get entries place ≡ Some e = slice_get_read entries (length entries) place e refl (omega (arith, inv.within, c.loop-place-test.true, c.requires.within)) c.index.ensures in
    omega (arith, (trail.fresh place e at).1, c.variable.ensures, c.requires.size)

pub returns-then-ne-clause-seen : goal.returns-then-ne-clause-seen
returns-then-ne-clause-seen c =
    let trail = c.args.trail.now in
    let entries = trail.entries.items in
    let roles = c.args.roles.now in
    let inv = c.loop-place.invariant in
    let place = c.loop-place.place - 1 in
    let e : Entry = c.index.result.now in
    let at : slice_get entries place ≡ Some e = slice_get_read entries (length entries) place e refl (omega (arith, inv.within, c.loop-place-test.true, c.requires.within)) c.index.ensures in
    (e, at, sym (ap (λ n. is_seen (role_of roles n)) c.variable.ensures) ∙ seen_if_ne (role_of roles c.variable.result) c.ne.result c.ne.ensures c.if-ne.true)

pub loop-place-preserved : goal.loop-place-preserved
loop-place-preserved c =
    let trail = c.args.trail.now in
    let entries = trail.entries.items in
    let roles = c.args.roles.now in
    let inv = c.loop-place.invariant in
    let place = c.loop-place.place - 1 in
    let e : Entry = c.index.result.now in
    let at : slice_get entries place ≡ Some e = slice_get_read entries (length entries) place e refl (omega (arith, inv.within, c.loop-place-test.true, c.requires.within)) c.index.ensures in
    let unseen : is_seen (part_of roles e) ≡ false =
    sym (ap (λ n. is_seen (role_of roles n)) c.variable.ensures) ∙ unseen_if_ne (role_of roles c.variable.result) c.ne.result c.ne.ensures c.if-ne.false in
    record {
      within = omega (arith, inv.within);
      none =
          NoneSeen-join entries roles place c.loop-place.place c.args.end
          (λ k f from below there. NoneSeen-one entries roles place e at unseen k f from (omega (arith, below, c.loop-place-test.true)) there) inv.none;
    }
