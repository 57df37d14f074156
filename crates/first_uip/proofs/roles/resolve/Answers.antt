use Rattle.first_uip.proofs.Common.{◌≡◌, ◌+◌, false, Some, length, refl, sym, ap, ◌∙◌, arith, slice_get, slice_get_read, clauses_with, Entry, Reason, is_decision, slice_get_below, below_from_within, with_within, cause_of_reason, is_seen, part_of, role_of}
use Rattle.first_uip.proofs.RoleLemmas.{IsResolution-see, IsResolution-unseen, reason_if_undecided, unseen_if}
use Rattle.first_uip.proofs.Marked.{NoneSeen-one}
use Rattle.first_uip.proofs.roles.resolve.Goals as goal

pub numbered-requires : goal.numbered-requires
numbered-requires c =
    let cs = clauses_with c.args.cnf.now c.args.log.now in
    let entries = c.args.trail.now.entries.items in
    let e : Entry = c.index-entry.result.now in
    let at : slice_get entries c.args.place ≡ Some e = slice_get_read entries (length entries) c.args.place e refl c.requires.within c.index-entry.ensures in
    let cause : e.cause ≡ Reason c.in-Some.number = cause_of_reason e.cause c.in-Some.number (sym c.reason.ensures ∙ c.in-Some.is) in
    let (clause, named, unit) = c.requires.forced.each c.args.place e c.in-Some.number at cause in
    slice_get_below cs c.in-Some.number clause named

pub see-requires-clause-within : goal.see-requires-clause-within
see-requires-clause-within c =
    let set = c.args.cnf.now in
    below_from_within set.count (length c.args.roles.now) c.numbered.result.now c.requires.size
    (with_within set c.args.log.now c.in-Some.number c.numbered.result.now c.requires.follows c.numbered.ensures)

pub bounds-roles-variable : goal.bounds-roles-variable
bounds-roles-variable c =
    let trail = c.args.trail.now in
    let entries = trail.entries.items in
    let e : Entry = c.index-entry.result.now in
    let at : slice_get entries c.args.place ≡ Some e = slice_get_read entries (length entries) c.args.place e refl c.requires.within c.index-entry.ensures in
    omega (arith, (trail.fresh c.args.place e at).1, c.variable.ensures, c.requires.variables, c.requires.size)

pub returns-then-eq-clause-resolves : goal.returns-then-eq-clause-resolves
returns-then-eq-clause-resolves c =
    λ conflict so_far.
    let entries = c.args.trail.now.entries.items in
    let roles = c.args.roles.now in
    let place = c.args.place in
    let e : Entry = c.index-entry.result.now in
    let at : slice_get entries place ≡ Some e = slice_get_read entries (length entries) place e refl c.requires.within c.index-entry.ensures in
    let unseen : is_seen (part_of roles e) ≡ false =
    sym (ap (λ n. is_seen (role_of roles n)) c.variable.ensures) ∙ ap is_seen (unseen_if (role_of roles c.variable.result) (sym c.eq.ensures ∙ c.if-eq.true)) in
    IsResolution-unseen (clauses_with c.args.cnf.now c.args.log.now) entries conflict place (place + 1) roles (NoneSeen-one entries roles place e at unseen) so_far

pub returns-in-Some-clause-resolves : goal.returns-in-Some-clause-resolves
returns-in-Some-clause-resolves c =
    λ conflict so_far.
    let trail = c.args.trail.now in
    let entries = trail.entries.items in
    let e : Entry = c.index-entry.result.now in
    let at : slice_get entries c.args.place ≡ Some e = slice_get_read entries (length entries) c.args.place e refl c.requires.within c.index-entry.ensures in
    let cause : e.cause ≡ Reason c.in-Some.number = cause_of_reason e.cause c.in-Some.number (sym c.reason.ensures ∙ c.in-Some.is) in
    IsResolution-see (clauses_with c.args.cnf.now c.args.log.now) trail.values.items entries conflict c.args.place c.in-Some.number e c.numbered.result.now c.args.roles.now c.see.new.roles trail.fresh c.requires.forced at cause
    c.numbered.ensures c.see.ensures.sees so_far

pub returns-in_default-clause-resolves : goal.returns-in_default-clause-resolves
returns-in_default-clause-resolves c =
    λ conflict so_far.
    let entries = c.args.trail.now.entries.items in
    let e : Entry = c.index-entry.result.now in
    let at : slice_get entries c.args.place ≡ Some e = slice_get_read entries (length entries) c.args.place e refl c.requires.within c.index-entry.ensures in
    let reason : is_decision e.cause ≡ false = c.requires.reason c.args.place e (omega arith) (omega arith) at in
    absurd (reason_if_undecided e.cause reason (sym c.reason.ensures ∙ c.in_default.is))
