use Rattle.first_uip.proofs.Common.{◌≡◌, ◌<◌, true, [], ◌∷◌, ◌++◌, Some, length, refl, sym, ap, ◌∙◌, subst, arith, slice_get, slice_get_read, Entry, some_same, is_seen, part_of, VariablesBelow, shown_entries}
use Rattle.first_uip.proofs.Shown.{shown_all, shown_between, shown_next, shown_within, VariablesBelow-same}
use Rattle.first_uip.proofs.analysis.shown_entries.Goals as goal

pub loop-place-preserved : goal.loop-place-preserved
loop-place-preserved c =
    let trail = c.args.trail.now in
    let entries = trail.entries.items in
    let roles = c.args.roles.now in
    let inv = c.loop-place.invariant in
    let found = c.in-Some.ensures in
    let place = c.in-Some.place in
    let e : Entry = c.index.result.now in
    let below : place < length entries = omega (arith, found.before, c.len.ensures, trail.entries.ok.0) in
    let at : slice_get entries place ≡ Some e = slice_get_read entries (length entries) place e refl below c.index.ensures in
    let (g, at_g, seen) = found.seen in
    let seen_e : is_seen (part_of roles e) ≡ true = sym (ap (λ (h : Entry). is_seen (part_of roles h)) (some_same g e (sym at_g ∙ at))) ∙ seen in
    record {
      within = omega (arith, below);
      shown =
          c.in_ok-push.ensures.items
          ∙ ap (λ es. es ++ e ∷ []) (inv.shown ∙ sym (shown_between roles entries c.loop-place.next place found.from (omega (arith, below)) found.first))
          ∙ sym (shown_next roles entries place e at seen_e);
    }

pub returns-clause-shown : goal.returns-clause-shown
returns-clause-shown c =
    let entries = c.args.trail.now.entries in
    c.loop-place.invariant.shown
    ∙ shown_all c.args.roles.now entries.items c.loop-place.next c.loop-place.invariant.within
    (λ k f past below there. c.in_default.ensures.none k f past (omega (arith, below, c.len.ensures, entries.ok.0)) there)

pub returns-clause-within : goal.returns-clause-within
returns-clause-within c =
    let trail = c.args.trail.now in
    let entries = trail.entries in
    let roles = c.args.roles.now in
    let shown_is : c.loop-place.shown.items ≡ shown_entries roles entries.items =
    c.loop-place.invariant.shown
    ∙ shown_all roles entries.items c.loop-place.next c.loop-place.invariant.within
    (λ k f past below there. c.in_default.ensures.none k f past (omega (arith, below, c.len.ensures, entries.ok.0)) there) in
    subst (VariablesBelow (length roles)) (sym shown_is)
    (VariablesBelow-same (length trail.values.items) (length roles) (shown_entries roles entries.items) (sym c.requires.size) (shown_within trail.values.items entries.items roles trail.fresh))
