use Rattle.first_uip.proofs.Common.{◌≡◌, ◌-◌, true, false, [], ◌∷◌, length, refl, sym, ap, ◌∙◌, subst, arith, inr, Lit, IsUnit, is_held, is_false, Entry, Reason, literals, Grows, some_same, code_within, held_last, literals-append, Grows-one, clauses_in, watched_in, MovesWatch}
use Rattle.first_uip.proofs.Listing.{IsListed-rewatch}
use Rattle.first_uip.proofs.LookLemmas.{EachBlocked-one, clause_within, other_stands, literal_within, other_within, unit_if_open}
use Rattle.first_uip.proofs.look.look_at.Goals as goal

pub holds-requires : goal.holds-requires
holds-requires c =
    let arena = c.args.watches.now.arena in
    let within = other_within (length c.args.trail.now.values.items - 1) (clauses_in arena) (watched_in arena) c.args.number c.watched.result c.args.falsified c.in-Some.other c.requires.variables c.requires.each c.requires.count c.watched.ensures c.in-Some.ensures in
    omega (arith, within.0, within.1)

pub returns-then-holds-clause-look : goal.returns-then-holds-clause-look
returns-then-holds-clause-look c = (
  refl,
  λ clause there. (
    (other_stands clause c.watched.result c.args.falsified c.in-Some.other (c.requires.each c.args.number clause c.watched.result there c.watched.ensures) c.in-Some.ensures).0,
    sym c.holds.ensures ∙ c.if-holds.true,
  ),
)

pub other_open-requires : goal.other_open-requires
other_open-requires c =
    clause_within (length c.args.trail.now.values.items - 1) (clauses_in c.args.watches.now.arena) c.args.number c.clause.result.now c.requires.variables c.clause.ensures

pub rewatch-requires-clause-within : goal.rewatch-requires-clause-within
rewatch-requires-clause-within c =
    let n = length c.args.trail.now.values.items in
    let l = c.in-Some-other_open.open in
    let within = literal_within (n - 1) (clauses_in c.args.watches.now.arena) c.args.number c.clause.result.now l c.requires.variables c.clause.ensures c.in-Some-other_open.ensures.stands in
    code_within l n (length c.args.watches.now.lists.items) (omega (arith, within.0, within.1)) c.requires.covers

pub returns-in-Some-other_open-clause-look : goal.returns-in-Some-other_open-clause-look
returns-in-Some-other_open-clause-look c =
    let arena = c.args.watches.now.arena in
    let moves : MovesWatch (clauses_in arena) (literals c.args.trail.now.entries.items) (watched_in arena) (watched_in c.rewatch.new.self.arena) c.args.number c.args.falsified =
    record {
      watch = c.watched.result;
      moved = c.in-Some-other_open.open;
      other = c.in-Some.other;
      before = c.watched.ensures;
      both = c.in-Some.ensures;
      after = c.in_ok-rewatch.ensures.watched;
      stands = λ clause there.
          ap (λ ls. is_held ls c.in-Some-other_open.open) (some_same clause c.clause.result.now (sym there ∙ c.clause.ensures)) ∙ c.in-Some-other_open.ensures.stands;
      differs = c.in-Some-other_open.ensures.differs;
      not_false = c.in-Some-other_open.ensures.not_false;
    } in
    (refl, inr moves)

pub returns-in-Some-other_open-clause-listed : goal.returns-in-Some-other_open-clause-listed
returns-in-Some-other_open-clause-listed c =
    IsListed-rewatch c.args.watches.now c.rewatch.new.self c.args.number c.watched.result c.args.falsified c.in-Some-other_open.open c.in-Some.other c.requires.listed c.watched.ensures c.in-Some.ensures c.in_ok-rewatch.ensures.watched c.in_ok-rewatch.ensures.adds

pub returns-in-Some-other_open-clause-blocked : goal.returns-in-Some-other_open-clause-blocked
returns-in-Some-other_open-clause-blocked c =
    EachBlocked-one (clauses_in c.args.watches.now.arena) c.args.watches.now c.rewatch.new.self c.args.number c.in-Some.other c.requires.blocked c.in_ok-rewatch.ensures.only
    (λ clause there. (other_stands clause c.watched.result c.args.falsified c.in-Some.other (c.requires.each c.args.number clause c.watched.result there c.watched.ensures) c.in-Some.ensures).0)

pub holds-requires-2 : goal.holds-requires-2
holds-requires-2 c =
    let arena = c.args.watches.now.arena in
    let within = other_within (length c.args.trail.now.values.items - 1) (clauses_in arena) (watched_in arena) c.args.number c.watched.result c.args.falsified c.in-Some.other c.requires.variables c.requires.each c.requires.count c.watched.ensures c.in-Some.ensures in
    omega (arith, within.0, within.1, ap (λ (l : Lit). l.variable) c.negation.ensures)

pub push-requires-clause-first : goal.push-requires-clause-first
push-requires-clause-first c =
    let arena = c.args.watches.now.arena in
    (other_within (length c.args.trail.now.values.items - 1) (clauses_in arena) (watched_in arena) c.args.number c.watched.result c.args.falsified c.in-Some.other c.requires.variables c.requires.each c.requires.count c.watched.ensures c.in-Some.ensures).0

pub push-requires-clause-last : goal.push-requires-clause-last
push-requires-clause-last c =
    let arena = c.args.watches.now.arena in
    let within = other_within (length c.args.trail.now.values.items - 1) (clauses_in arena) (watched_in arena) c.args.number c.watched.result c.args.falsified c.in-Some.other c.requires.variables c.requires.each c.requires.count c.watched.ensures c.in-Some.ensures in
    omega (arith, within.0, within.1)

pub returns-clause-grows : goal.returns-clause-grows
returns-clause-grows c =
    let cs = clauses_in c.args.watches.now.arena in
    let entries = c.args.trail.now.entries.items in
    let held = literals entries in
    let clause = c.clause.result.now in
    let other = c.in-Some.other in
    let stands = (other_stands clause c.watched.result c.args.falsified other (c.requires.each c.args.number clause c.watched.result c.clause.ensures c.watched.ensures) c.in-Some.ensures).0 in
    let kept : is_false held other ≡ false = sym (ap (is_held held) c.negation.ensures) ∙ sym c.holds-2.ensures ∙ c.if-holds-2.false in
    let unit : IsUnit held clause other = unit_if_open held clause other stands c.in_default-other_open.ensures.none kept in
    let e : Entry = record { literal = other; cause = Reason c.args.number } in
    subst (Grows cs entries) (sym c.in_ok-push.ensures.ok) (Grows-one cs entries e c.args.number refl (clause, c.clause.ensures, unit))

pub returns-clause-look : goal.returns-clause-look
returns-clause-look c =
    let e : Entry = record { literal = c.in-Some.other; cause = Reason c.args.number } in
    let entries = c.args.trail.now.entries.items in
    let now_held : is_held (literals c.push.new.self.entries.items) c.in-Some.other ≡ true =
    ap (λ es. is_held (literals es) c.in-Some.other) c.in_ok-push.ensures.ok
    ∙ ap (λ ls. is_held ls c.in-Some.other) (literals-append entries (e ∷ []))
    ∙ held_last (literals entries) c.in-Some.other in (
      refl,
      λ clause there. (
        (other_stands clause c.watched.result c.args.falsified c.in-Some.other (c.requires.each c.args.number clause c.watched.result there c.watched.ensures) c.in-Some.ensures).0,
        now_held,
      ),
    )
