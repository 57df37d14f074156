use Rattle.first_uip.proofs.Common.{◌≡◌, ℕ, ◌+◌, ◌<◌, true, false, Some, length, set, get_or, refl, sym, ap, ◌∙◌, subst, arith, slice_get, true≢false, slice_get_read, clauses_with, Entry, below_from_within, with_within, Kept, IsResolution, Resolves, SameKeptFrom, is_kept, is_seen, role_of, EachMarked, is_marked, some_same}
use Rattle.first_uip.proofs.Marked.{EachMarked-set, IsMarked-placed}
use Rattle.first_uip.proofs.RoleLemmas.{IsResolution-start}
use Rattle.first_uip.proofs.Analysed.{last_level_seen, point_kept, IsAnalysis-from}
use Rattle.first_uip.proofs.analysis.give_parts.Goals as goal

pub see-requires-clause-within : goal.see-requires-clause-within
see-requires-clause-within c =
    let set = c.args.cnf.now in
    below_from_within set.count (length c.args.roles.now) c.numbered.result.now c.requires.size
    (with_within set c.args.log.now c.args.conflict c.numbered.result.now c.requires.follows c.numbered.ensures)

pub resolve_level-point-requires-clause-rests : goal.resolve_level-point-requires-clause-rests
resolve_level-point-requires-clause-rests c =
    last_level_seen (clauses_with c.args.cnf.now c.args.log.now) c.args.trail.now.entries.items c.args.start c.args.conflict c.numbered.result.now c.args.roles.now c.see.new.roles c.numbered.ensures
    c.requires.falsified c.requires.closed c.see.ensures.sees

pub bounds-roles-variable : goal.bounds-roles-variable
bounds-roles-variable c =
    let trail = c.args.trail.now in
    let entries = trail.entries.items in
    let point = c.resolve_level-point.result in
    let e : Entry = c.index.result.now in
    let at : slice_get entries point ≡ Some e = slice_get_read entries (length entries) point e refl c.resolve_level-point.ensures.last c.index.ensures in
    omega (arith, (trail.fresh point e at).1, c.variable.ensures, c.requires.variables, c.requires.size, c.see.auto.roles, c.resolve_level-point.auto.roles)

pub see-requires-clause-marked : goal.see-requires-clause-marked
see-requires-clause-marked c = λ n seen. absurd (true≢false (sym seen ∙ ap is_seen (c.requires.unseen n)))

pub settle_earlier-requires-clause-marked : goal.settle_earlier-requires-clause-marked
settle_earlier-requires-clause-marked c =
    let entries = c.args.trail.now.entries.items in
    let places = c.args.places.now in
    let point = c.resolve_level-point.result in
    let blocks = c.resolve_level-point.new.blocks in
    let mid = c.resolve_level-point.new.roles in
    let marked = c.resolve_level-point.ensures.marked in
    let e : Entry = c.index.result.now in
    let at : slice_get entries point ≡ Some e = slice_get_read entries (length entries) point e refl c.resolve_level-point.ensures.last c.index.ensures in
    let (f, there, seen) = c.resolve_level-point.ensures.seen in
    let same : f.literal.variable ≡ e.literal.variable = ap (λ (g : Entry). g.literal.variable) (some_same f e (sym there ∙ at)) in
    let here : is_marked blocks (get_or places e.literal.variable 0) ≡ true = marked e.literal.variable (subst (λ n. is_seen (role_of mid n) ≡ true) same seen) in
    subst (λ n. EachMarked blocks places (set mid n Kept)) (sym c.variable.ensures)
    (EachMarked-set blocks blocks places mid e.literal.variable Kept (λ k h. h) here marked)

pub returns-clause-marked : goal.returns-clause-marked
returns-clause-marked c =
    IsMarked-placed c.args.places.now c.args.trail.now.entries.items c.settle_earlier.new.roles c.settle_earlier.new.blocks c.requires.placed c.settle_earlier.ensures.marked

pub returns-clause-analysis : goal.returns-clause-analysis
returns-clause-analysis c =
    let cs = clauses_with c.args.cnf.now c.args.log.now in
    let trail = c.args.trail.now in
    let entries = trail.entries.items in
    let values = trail.values.items in
    let conflict = c.args.conflict in
    let start = c.args.start in
    let point = c.resolve_level-point.result in
    let mid = c.resolve_level-point.new.roles in
    let e : Entry = c.index.result.now in
    let at : slice_get entries point ≡ Some e = slice_get_read entries (length entries) point e refl c.resolve_level-point.ensures.last c.index.ensures in
    let room : e.literal.variable < length mid =
    omega (arith, (trail.fresh point e at).1, c.requires.variables, c.requires.size, c.see.auto.roles, c.resolve_level-point.auto.roles) in
    let none : (n : ℕ) → is_kept (role_of mid n) ≡ false =
    λ n. c.resolve_level-point.ensures.same_kept n ∙ c.see.ensures.sees.same_kept n ∙ ap is_kept (c.requires.unseen n) in
    let level : IsResolution cs entries conflict (point + 1) mid =
    c.resolve_level-point.ensures.resolves conflict (IsResolution-start cs entries conflict c.numbered.result.now c.args.roles.now c.see.new.roles c.numbered.ensures c.see.ensures.sees) in
    let last = c.settle_earlier.new.roles in
    let same_later : SameKeptFrom entries (set mid e.literal.variable Kept) last start =
    subst (λ n. SameKeptFrom entries (set mid n Kept) last start) c.variable.ensures c.settle_earlier.ensures.same_later in
    let resolves : Resolves cs entries start (set mid e.literal.variable Kept) 0 last =
    subst (λ n. Resolves cs entries start (set mid n Kept) 0 last) c.variable.ensures c.settle_earlier.ensures.resolves in
    IsAnalysis-from cs values entries mid last conflict start point e trail.fresh at room c.resolve_level-point.ensures.first none same_later
    (resolves conflict
    (point_kept cs values entries mid conflict start point e trail.fresh at room c.resolve_level-point.ensures.first c.resolve_level-point.ensures.none_between level))
