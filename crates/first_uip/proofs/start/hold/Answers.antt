use Rattle.first_uip.proofs.Common.{◌≡◌, ◌+◌, true, false, [], ◌∷◌, ◌++◌, take, refl, sym, ap, ◌∙◌, subst, arith, Lit, IsUnit, is_held, is_false, all_clauses, Entry, Reason, literals, Grows, IsSatisfied, held_last, literals-append, Grows-one, Grows-then, Alone, some_same, clauses_in, IsWatchingUpTo}
use Rattle.first_uip.proofs.Additions.{IsAdded, IsWatchingUpTo-add, IsWatchingUpTo-push}
use Rattle.first_uip.proofs.StartLemmas.{IsAloneAt-from, alone_falsified, alone_unit, undecided}
use Rattle.first_uip.proofs.start.hold.Goals as goal

pub holds-requires : goal.holds-requires
holds-requires c =
    let one = IsAloneAt-from c.args.cnf.now c.args.number c.args.literal c.requires.known c.requires.alone in
    omega (arith, one.within.1, c.requires.variables, ap (λ (l : Lit). l.variable) c.negation.ensures)

pub returns-then-holds-clause-falsified : goal.returns-then-holds-clause-falsified
returns-then-holds-clause-falsified c =
    let held = literals c.args.trail.now.entries.items in
    let one = IsAloneAt-from c.args.cnf.now c.args.number c.args.literal c.requires.known c.requires.alone in
    let closed : is_false held c.args.literal ≡ true = sym (ap (is_held held) c.negation.ensures) ∙ sym c.holds.ensures ∙ c.if-holds.true in
    (one.clause, one.at, alone_falsified held one.clause c.args.literal one.only closed)

pub holds-requires-2 : goal.holds-requires-2
holds-requires-2 c =
    let one = IsAloneAt-from c.args.cnf.now c.args.number c.args.literal c.requires.known c.requires.alone in
    omega (arith, one.within.1, c.requires.variables)

pub push-requires-clause-first : goal.push-requires-clause-first
push-requires-clause-first c =
    let one = IsAloneAt-from c.args.cnf.now c.args.number c.args.literal c.requires.known c.requires.alone in one.within.0

pub push-requires-clause-last : goal.push-requires-clause-last
push-requires-clause-last c =
    let one = IsAloneAt-from c.args.cnf.now c.args.number c.args.literal c.requires.known c.requires.alone in
    omega (arith, one.within.1, c.requires.variables)

pub returns-in_ok-push-clause-grown : goal.returns-in_ok-push-clause-grown
returns-in_ok-push-clause-grown c =
    let cs = all_clauses c.args.cnf.now in
    let entries = c.args.trail.now.entries.items in
    let held = literals entries in
    let one = IsAloneAt-from c.args.cnf.now c.args.number c.args.literal c.requires.known c.requires.alone in
    let kept : is_false held c.args.literal ≡ false = sym (ap (is_held held) c.negation.ensures) ∙ sym c.holds.ensures ∙ c.if-holds.false in
    let e : Entry = record { literal = c.args.literal; cause = Reason c.args.number } in
    let unit : IsUnit held one.clause c.args.literal = alone_unit held one.clause c.args.literal one.stands one.only kept in
    subst (Grows cs []) (sym c.in_ok-push.ensures.ok)
    (Grows-then cs [] entries (entries ++ e ∷ []) c.requires.grown (Grows-one cs entries e c.args.number refl (one.clause, one.at, unit)))

pub returns-in_ok-push-clause-watching : goal.returns-in_ok-push-clause-watching
returns-in_ok-push-clause-watching c =
    let cs = all_clauses c.args.cnf.now in
    let entries = c.args.trail.now.entries.items in
    let one = IsAloneAt-from c.args.cnf.now c.args.number c.args.literal c.requires.known c.requires.alone in
    let e : Entry = record { literal = c.args.literal; cause = Reason c.args.number } in
    let after = entries ++ e ∷ [] in
    let now_held : is_held (literals after) c.args.literal ≡ true =
    ap (λ ls. is_held ls c.args.literal) (literals-append entries (e ∷ [])) ∙ held_last (literals entries) c.args.literal in
    let satisfied : IsSatisfied (literals after) one.clause = (c.args.literal, one.stands, now_held) in
    let held = literals entries in
    let kept : is_false held c.args.literal ≡ false = sym (ap (is_held held) c.negation.ensures) ∙ sym c.holds.ensures ∙ c.if-holds.false in
    let unit : IsUnit held one.clause c.args.literal = alone_unit held one.clause c.args.literal one.stands one.only kept in
    let grown : Grows cs [] after = Grows-then cs [] entries after c.requires.grown (Grows-one cs entries e c.args.number refl (one.clause, one.at, unit)) in
    let first = take c.args.number cs in
    let ok = c.in_ok-add.ensures in
    let added : IsAdded c.args.watches.now c.add.new.self one.clause Alone =
    record {
      clauses = ok.clauses ∙ ap (λ ls. clauses_in c.args.watches.now.arena ++ ls ∷ []) (c.as_slice.ensures ∙ some_same c.clause.result.now one.clause (sym c.clause.ensures ∙ one.at));
      watched = ok.watched;
      listed = ok.listed;
      only = ok.only;
    } in
    let pushed : IsWatchingUpTo first c.args.watches.now after 0 = IsWatchingUpTo-push first c.args.watches.now entries e 0 (omega arith) refl c.requires.watching in
    subst (λ es. IsWatchingUpTo (take (c.args.number + 1) cs) c.add.new.self es 0) (sym c.in_ok-push.ensures.ok) (subst (λ ds. IsWatchingUpTo ds c.add.new.self after 0) (sym one.next)
    (IsWatchingUpTo-add first one.clause c.args.watches.now c.add.new.self Alone after 0 added tt
    (λ place f at decides. absurd (undecided cs after grown place f at decides)) satisfied pushed))

pub returns-else-not-holds-clause-watching : goal.returns-else-not-holds-clause-watching
returns-else-not-holds-clause-watching c =
    let cs = all_clauses c.args.cnf.now in
    let entries = c.args.trail.now.entries.items in
    let one = IsAloneAt-from c.args.cnf.now c.args.number c.args.literal c.requires.known c.requires.alone in
    let satisfied : IsSatisfied (literals entries) one.clause = (c.args.literal, one.stands, sym c.holds-2.ensures ∙ c.if-not-holds.false) in
    let first = take c.args.number cs in
    let ok = c.in_ok-add.ensures in
    let added : IsAdded c.args.watches.now c.add.new.self one.clause Alone =
    record {
      clauses = ok.clauses ∙ ap (λ ls. clauses_in c.args.watches.now.arena ++ ls ∷ []) (c.as_slice.ensures ∙ some_same c.clause.result.now one.clause (sym c.clause.ensures ∙ one.at));
      watched = ok.watched;
      listed = ok.listed;
      only = ok.only;
    } in
    subst (λ ds. IsWatchingUpTo ds c.add.new.self entries 0) (sym one.next)
    (IsWatchingUpTo-add first one.clause c.args.watches.now c.add.new.self Alone entries 0 added tt
    (λ place f at decides. absurd (undecided cs entries c.requires.grown place f at decides)) satisfied c.requires.watching)
