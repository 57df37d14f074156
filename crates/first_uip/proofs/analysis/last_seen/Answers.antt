use Rattle.first_uip.proofs.Common.{◌≡◌, ◌+◌, ◌-◌, Some, false, length, refl, sym, ap, ◌∙◌, arith, slice_get, slice_get_read, Entry, is_seen, part_of, role_of}
use Rattle.first_uip.proofs.RoleLemmas.{seen_if_ne, unseen_if_ne}
use Rattle.first_uip.proofs.Marked.{NoneSeen-join, NoneSeen-one}
use Rattle.first_uip.proofs.analysis.last_seen.Goals as goal

pub bounds-roles-variable : goal.bounds-roles-variable
bounds-roles-variable c =
    let trail = c.args.trail.now in
    let entries = trail.entries.items in
    let place = c.loop-place.place - 1 in
    let e : Entry = c.index.result.now in
    let at : slice_get entries place ≡ Some e =
    slice_get_read entries (length entries) place e refl (omega (arith, c.loop-place-test.true, c.loop-place.invariant.within, c.requires.within)) c.index.ensures in
    omega (arith, (trail.fresh place e at).1, c.variable.ensures, c.requires.size)

pub returns-then-ne-clause-seen : goal.returns-then-ne-clause-seen
returns-then-ne-clause-seen c =
    let entries = c.args.trail.now.entries.items in
    let roles = c.args.roles.now in
    let place = c.loop-place.place - 1 in
    let e : Entry = c.index.result.now in
    let at : slice_get entries place ≡ Some e =
    slice_get_read entries (length entries) place e refl (omega (arith, c.loop-place-test.true, c.loop-place.invariant.within, c.requires.within)) c.index.ensures in
    (e, at, sym (ap (λ n. is_seen (role_of roles n)) c.variable.ensures) ∙ seen_if_ne (role_of roles c.variable.result) c.ne.result c.ne.ensures c.if-ne.true)

pub loop-place-preserved : goal.loop-place-preserved
loop-place-preserved c =
    let entries = c.args.trail.now.entries.items in
    let roles = c.args.roles.now in
    let inv = c.loop-place.invariant in
    let place = c.loop-place.place - 1 in
    let e : Entry = c.index.result.now in
    let at : slice_get entries place ≡ Some e =
    slice_get_read entries (length entries) place e refl (omega (arith, c.loop-place-test.true, inv.within, c.requires.within)) c.index.ensures in
    let unseen : is_seen (part_of roles e) ≡ false =
    sym (ap (λ n. is_seen (role_of roles n)) c.variable.ensures) ∙ unseen_if_ne (role_of roles c.variable.result) c.ne.result c.ne.ensures c.if-ne.false in
    record {
      within = omega (arith, inv.within);
      none =
          NoneSeen-join entries roles place (place + 1) c.args.end (NoneSeen-one entries roles place e at unseen)
          (λ k f from below there. inv.none k f (omega (arith, from, c.loop-place-test.true)) below there);
    }
