use Rattle.first_uip.proofs.Common.{rules, ◌≡◌, ◌<◌, Some, length, refl, sym, ◌∙◌, slice_get, All, slice_get_read, Lit, clauses_with, Entry, Reason, slice_get_below, below_from_within, with_within, cause_of_reason}
use Rattle.first_uip.proofs.RoleLemmas.{none_decided_here}
use Rattle.first_uip.proofs.minimisation.+redundancy.Goals as goal

pub is_redundant-numbered-clause-requires : goal.is_redundant-numbered-clause-requires
is_redundant-numbered-clause-requires t c =
    let cs = clauses_with c.args.cnf.now c.args.log.now in
    let entries = c.args.trail.now.entries.items in
    let e : Entry = c.index-entry.result.now in
    let at : slice_get entries c.args.place ≡ Some e = slice_get_read entries (length entries) c.args.place e refl c.requires.within c.index-entry.ensures in
    let cause : e.cause ≡ Reason c.in-Some.number = cause_of_reason e.cause c.in-Some.number (sym c.reason.ensures ∙ c.in-Some.is) in
    let (clause, named, unit) = c.requires.forced.each c.args.place e c.in-Some.number at cause in
    slice_get_below cs c.in-Some.number clause named

pub is_redundant-all_implied-requires : goal.is_redundant-all_implied-requires
is_redundant-all_implied-requires t c =
    let set = c.args.cnf.now in
    let within : All (λ (l : Lit). l.variable < length c.args.implied.now) c.numbered-clause.result.now =
    below_from_within set.count (length c.args.implied.now) c.numbered-clause.result.now c.requires.size
    (with_within set c.args.log.now c.in-Some.number c.numbered-clause.result.now c.requires.follows c.numbered-clause.ensures) in
    search rules

pub is_redundant-returns-then-place-root : goal.is_redundant-returns-then-place-root
is_redundant-returns-then-place-root t c =
    λ redundant.
    let entries = c.args.trail.now.entries.items in
    let e : Entry = c.index-entry.result.now in
    let at : slice_get entries c.args.place ≡ Some e = slice_get_read entries (length entries) c.args.place e refl c.requires.within c.index-entry.ensures in
    none_decided_here entries c.args.place c.in-Some.number e at (cause_of_reason e.cause c.in-Some.number (sym c.reason.ensures ∙ c.in-Some.is))

pub is_redundant-returns-then-depth-gt0 : goal.is_redundant-returns-then-depth-gt0
is_redundant-returns-then-depth-gt0 t c =
    λ redundant.
    let entries = c.args.trail.now.entries.items in
    let e : Entry = c.index-entry.result.now in
    let at : slice_get entries c.args.place ≡ Some e = slice_get_read entries (length entries) c.args.place e refl c.requires.within c.index-entry.ensures in
    none_decided_here entries c.args.place c.in-Some.number e at (cause_of_reason e.cause c.in-Some.number (sym c.reason.ensures ∙ c.in-Some.is))
