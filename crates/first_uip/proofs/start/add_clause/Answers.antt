use Rattle.first_uip.proofs.Common.{◌≡◌, suc, ◌+◌, ◌<◌, [], ◌∷◌, ◌++◌, Some, length, take, sym, ap, ◌∙◌, subst, arith, slice_get, true≢false, Lit, code_of, all_clauses, take_next, code_within, variable_within, Several, Two, IsWatchingUpTo, IsShape}
use Rattle.depth_first.proofs.Sets.{clause_within}
use Rattle.first_uip.proofs.Additions.{IsAdded, IsWatchingUpTo-add}
use Rattle.first_uip.proofs.StartLemmas.{undecided, All-two}
use Rattle.first_uip.proofs.start.add_clause.Goals as goal

pub add-requires-clause-within : goal.add-requires-clause-within
add-requires-clause-within c =
    let set = c.args.cnf.now in
    let clause = c.clause.result.now in
    let a = c.in-Several.first in
    let b = c.in-Several.second in
    let shape : IsShape clause (Several a b) = subst (λ ls. IsShape ls (Several a b)) c.as_slice-clause.ensures c.in-Several.ensures in
    let within = clause_within set c.args.number clause c.clause.ensures in
    let n = set.count + 1 in
    let size = length c.args.watches.now.lists.items in
    All-two (λ (l : Lit). code_of l < size) a b
    (code_within a n size (omega (arith, (variable_within set.count clause a within shape.0).1)) c.requires.covers)
    (code_within b n size (omega (arith, (variable_within set.count clause b within shape.1).1)) c.requires.covers)

pub returns-in_ok-add-in-Several-clause-watching : goal.returns-in_ok-add-in-Several-clause-watching
returns-in_ok-add-in-Several-clause-watching c =
    let cs = all_clauses c.args.cnf.now in
    let entries = c.args.trail.now.entries.items in
    let clause = c.as_slice-clause.result.now in
    let a = c.in-Several.first in
    let b = c.in-Several.second in
    let ok = c.in_ok-add-in-Several.ensures in
    let added : IsAdded c.args.watches.now c.add.new.self clause (Two a b) =
    record { clauses = ok.clauses; watched = ok.watched; listed = ok.listed; only = ok.only } in
    let at : slice_get cs c.args.number ≡ Some clause = c.clause.ensures ∙ ap Some (sym c.as_slice-clause.ensures) in
    let first = take c.args.number cs in
    let next : take (c.args.number + 1) cs ≡ first ++ clause ∷ [] =
    let s : c.args.number + 1 ≡ suc c.args.number = omega arith in ap (λ n. take n cs) s ∙ take_next cs c.args.number clause at in
    subst (λ ds. IsWatchingUpTo ds c.add.new.self entries 0) (sym next)
    (IsWatchingUpTo-add first clause c.args.watches.now c.add.new.self (Two a b) entries 0 added c.in-Several.ensures
    (λ place f at decides. absurd (undecided cs entries c.requires.grown place f at decides))
    (λ closed. absurd (true≢false (sym closed)), λ closed. absurd (true≢false (sym closed))) c.requires.watching)
