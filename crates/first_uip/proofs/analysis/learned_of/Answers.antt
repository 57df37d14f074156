use Rattle.first_uip.proofs.Common.{◌≡◌, ℕ, List, [], ◌∷◌, ◌++◌, Some, None, length, refl, sym, ap, ◌∙◌, subst, arith, slice_get, slice_get_read, Step, Lit, negation_of, IsNew, clauses_with, Entry, reasons, some_same, slice_get_below, Consistent-from_table, IsAsserting, IsOther, IsJump, resolved_entries}
use Rattle.first_uip.proofs.Analysed.{learned_clause, learned_clause-not_empty, learned_follows, learned_is_new, learned_asserts, none_other, some_other}
use Rattle.first_uip.proofs.Shown.{learned_shown, resolved_shown}
use Rattle.first_uip.proofs.analysis.learned_of.Goals as goal
use Rattle.first_uip.proofs.analysis.learned_of.Goals.{in-Some, in-None}

-- the asserting literal is the negation of the entry at the implication point
asserted_is : (entries : List Entry) (point : ℕ) (e f : Entry) (u : Lit) → slice_get entries point ≡ Some e → slice_get entries point ≡ Some f → u ≡ negation_of f.literal → u ≡ negation_of e.literal
asserted_is entries point e f u at there is = is ∙ ap (λ (g : Entry). negation_of g.literal) (some_same f e (sym there ∙ at))

pub index-requires : goal.index-requires
index-requires c =
    let analysis = c.requires.analysis in
    omega (arith, slice_get_below c.args.trail.now.entries.items c.args.point analysis.entry analysis.at, c.args.trail.now.entries.ok.0)

pub index-requires-in-Some : goal.index-requires-in-Some
index-requires-in-Some c =
    let entries = c.args.trail.now.entries.items in
    let found = c.jump_from-jump.result in
    let jump : IsJump entries c.args.roles.now c.args.start found.place (Some c.in-Some.below) =
    subst (IsJump entries c.args.roles.now c.args.start found.place) c.in-Some.is c.jump_from-jump.ensures in
    omega (arith, slice_get_below entries c.in-Some.below jump.kept_below.2.0 jump.kept_below.2.1, c.args.trail.now.entries.ok.0)

pub returns-clause-follows : goal.returns-clause-follows
returns-clause-follows c =
    let set = c.args.cnf.now in
    let log = c.args.log.now in
    let trail = c.args.trail.now in
    let entries = trail.entries.items in
    let roles = c.args.roles.now in
    let point = c.args.point in
    let analysis = c.requires.analysis in
    let clause_is : c.in_ok-clause.clause ≡ learned_clause roles entries c.args.start (negation_of analysis.entry.literal) =
    c.in_ok-clause.ensures ∙ learned_shown (clauses_with c.args.cnf.now c.args.log.now) entries roles c.args.conflict c.args.start point analysis c.args.shown.now c.requires.shown in
    let hints_are : c.in_ok-hints.hints ≡ reasons (resolved_entries roles entries) ++ c.args.conflict ∷ [] =
    c.in_ok-hints.ensures ∙ ap (λ es. reasons es ++ c.args.conflict ∷ []) (resolved_shown roles entries c.args.shown.now c.requires.shown) in
    let step : Step = record { clause = c.in_ok-clause.clause; hints = c.in_ok-hints.hints } in
    learned_follows set log trail.values.items entries roles c.args.conflict c.args.start point trail.fresh (Consistent-from_table trail.values.items entries trail.table) c.requires.variables analysis
    c.in_ok-hints.hints step c.requires.forced c.requires.falsified hints_are clause_is refl

pub returns-clause-new : goal.returns-clause-new
returns-clause-new c =
    let set = c.args.cnf.now in
    let log = c.args.log.now in
    let trail = c.args.trail.now in
    let entries = trail.entries.items in
    let roles = c.args.roles.now in
    let point = c.args.point in
    let analysis = c.requires.analysis in
    let clause_is : c.in_ok-clause.clause ≡ learned_clause roles entries c.args.start (negation_of analysis.entry.literal) =
    c.in_ok-clause.ensures ∙ learned_shown (clauses_with c.args.cnf.now c.args.log.now) entries roles c.args.conflict c.args.start point analysis c.args.shown.now c.requires.shown in
    subst (IsNew (clauses_with set log)) (sym clause_is)
    (learned_is_new set log trail.values.items entries roles c.args.conflict c.args.start point trail.fresh (Consistent-from_table trail.values.items entries trail.table) c.requires.variables analysis c.requires.closed)

pub returns-clause-not_empty : goal.returns-clause-not_empty
returns-clause-not_empty c =
    λ empty.
    let entries = c.args.trail.now.entries.items in
    let roles = c.args.roles.now in
    let analysis = c.requires.analysis in
    let clause_is : c.in_ok-clause.clause ≡ learned_clause roles entries c.args.start (negation_of analysis.entry.literal) =
    c.in_ok-clause.ensures ∙ learned_shown (clauses_with c.args.cnf.now c.args.log.now) entries roles c.args.conflict c.args.start c.args.point analysis c.args.shown.now c.requires.shown in
    learned_clause-not_empty roles entries c.args.start (negation_of analysis.entry.literal) (sym clause_is ∙ empty)

pub returns-clause-asserting : goal.returns-clause-asserting
returns-clause-asserting c =
    let set = c.args.cnf.now in
    let log = c.args.log.now in
    let trail = c.args.trail.now in
    let entries = trail.entries.items in
    let roles = c.args.roles.now in
    let point = c.args.point in
    let analysis = c.requires.analysis in
    let here : slice_get entries point ≡ Some c.index.result.now =
    slice_get_read entries (length entries) point c.index.result.now refl (slice_get_below entries point analysis.entry analysis.at) c.index.ensures in
    let u : c.negation-asserted.result ≡ negation_of analysis.entry.literal = asserted_is entries point analysis.entry c.index.result.now c.negation-asserted.result analysis.at here c.negation-asserted.ensures in
    let clause_is : c.in_ok-clause.clause ≡ learned_clause roles entries c.args.start (negation_of analysis.entry.literal) =
    c.in_ok-clause.ensures ∙ learned_shown (clauses_with c.args.cnf.now c.args.log.now) entries roles c.args.conflict c.args.start point analysis c.args.shown.now c.requires.shown in
    let jump = c.jump_from-jump.result in
    subst (λ ls. IsAsserting entries jump.place ls c.negation-asserted.result) (sym clause_is)
    (subst (IsAsserting entries jump.place (learned_clause roles entries c.args.start (negation_of analysis.entry.literal))) (sym u)
    (learned_asserts set log trail.values.items entries roles c.args.conflict c.args.start point trail.fresh (Consistent-from_table trail.values.items entries trail.table) c.requires.variables analysis jump.place jump.below c.jump_from-jump.ensures))

pub returns-clause-other : goal.returns-clause-other
returns-clause-other c =
    let set = c.args.cnf.now in
    let log = c.args.log.now in
    let trail = c.args.trail.now in
    let entries = trail.entries.items in
    let roles = c.args.roles.now in
    let start = c.args.start in
    let point = c.args.point in
    let analysis = c.requires.analysis in
    let here : slice_get entries point ≡ Some c.index.result.now =
    slice_get_read entries (length entries) point c.index.result.now refl (slice_get_below entries point analysis.entry analysis.at) c.index.ensures in
    let u : c.negation-asserted.result ≡ negation_of analysis.entry.literal = asserted_is entries point analysis.entry c.index.result.now c.negation-asserted.result analysis.at here c.negation-asserted.ensures in
    let clause_is : c.in_ok-clause.clause ≡ learned_clause roles entries c.args.start (negation_of analysis.entry.literal) =
    c.in_ok-clause.ensures ∙ learned_shown (clauses_with c.args.cnf.now c.args.log.now) entries roles c.args.conflict c.args.start point analysis c.args.shown.now c.requires.shown in
    let place = c.jump_from-jump.result.place in
    let ok = Consistent-from_table trail.values.items entries trail.table in
    let l = negation_of analysis.entry.literal in
    subst (λ ls. IsOther entries place ls c.negation-asserted.result c.match-jump.other) (sym clause_is)
    (subst (λ m. IsOther entries place (learned_clause roles entries start l) m c.match-jump.other) (sym u)
    (elim c.match-jump.branch [
      | in-Some w ↦
          let below = w.in-Some.below in
          let f : Entry = w.index-in-Some.result.now in
          let jump : IsJump entries roles start place (Some below) = subst (IsJump entries roles start place) w.in-Some.is c.jump_from-jump.ensures in
          let kept = jump.kept_below.2 in
          let at : slice_get entries below ≡ Some f = slice_get_read entries (length entries) below f refl (slice_get_below entries below kept.0 kept.1) w.index-in-Some.ensures in
          subst (IsOther entries place (learned_clause roles entries start l) l) (sym (w.other-is ∙ ap Some w.negation.ensures))
          (some_other set log trail.values.items entries roles c.args.conflict start point trail.fresh ok c.requires.variables analysis place below f jump at)
      | in-None w ↦
          let jump : IsJump entries roles start place None = subst (IsJump entries roles start place) w.in-None.is c.jump_from-jump.ensures in
          subst (IsOther entries place (learned_clause roles entries start l) l) (sym w.other-is)
          (none_other set log trail.values.items entries roles c.args.conflict start point trail.fresh ok c.requires.variables analysis place jump)
    ]))
