use Rattle.first_uip.proofs.Common.{◌≡◌, [], ◌∷◌, ◌++◌, length, take, refl, sym, ap, ◌∙◌, subst, arith, length-take-le, clauses_with, Entry, Reason, IsLearned, EachForced, slice_get_below, take_take_below, take_whole, variable_within, clauses_with-push, clauses_in, IsWatchingUpTo}
use Rattle.first_uip.proofs.Additions.{IsAdded}
use Rattle.first_uip.proofs.Learnt.{watch_pair, watch_within, IsLearned-push, EachForced-cut, EachForced-asserted, learnt_left, learnt_asserted}
use Rattle.first_uip.proofs.learning.learn.Goals as goal

pub add-requires-clause-within : goal.add-requires-clause-within
add-requires-clause-within c =
    let l = c.args.learned in
    watch_within c.args.cnf.now (length c.args.watches.now.lists.items) c.args.trail.now.entries.items l.jump l.step.clause l.asserted l.other c.watch_of.result c.requires.covers c.requires.follows.0 c.watch_of.ensures c.requires.asserting c.requires.other

pub add-requires-clause-pair : goal.add-requires-clause-pair
add-requires-clause-pair c =
    let l = c.args.learned in
    watch_pair c.args.trail.now.entries.items l.jump l.step.clause l.asserted l.other c.watch_of.result c.watch_of.ensures c.requires.other

pub push-requires-then-place-jump-clause-first : goal.push-requires-then-place-jump-clause-first
push-requires-then-place-jump-clause-first c =
    (variable_within c.args.cnf.now.count c.args.learned.step.clause c.args.learned.asserted c.requires.follows.0 c.requires.asserting.stands).0

pub push-requires-then-place-jump-clause-last : goal.push-requires-then-place-jump-clause-last
push-requires-then-place-jump-clause-last c =
    let within = variable_within c.args.cnf.now.count c.args.learned.step.clause c.args.learned.asserted c.requires.follows.0 c.requires.asserting.stands in
    omega (arith, within.1, c.requires.variables, c.cut.ensures.variables)

pub returns-in_ok-push-2-clause-log_learned : goal.returns-in_ok-push-2-clause-log_learned
returns-in_ok-push-2-clause-log_learned c =
    subst (IsLearned c.args.cnf.now) (sym c.in_ok-push.ensures.items)
    (IsLearned-push c.args.cnf.now c.args.log.now.items c.args.learned.step c.requires.log_learned c.requires.follows c.requires.new c.requires.not_empty)

pub returns-else-place-jump-clause-log_learned : goal.returns-else-place-jump-clause-log_learned
returns-else-place-jump-clause-log_learned c =
    subst (IsLearned c.args.cnf.now) (sym c.in_ok-push.ensures.items)
    (IsLearned-push c.args.cnf.now c.args.log.now.items c.args.learned.step c.requires.log_learned c.requires.follows c.requires.new c.requires.not_empty)

pub returns-in_ok-push-2-clause-kept : goal.returns-in_ok-push-2-clause-kept
returns-in_ok-push-2-clause-kept c =
    let entries = c.args.trail.now.entries.items in
    let place = c.args.place in
    let first = take place entries in
    let e : Entry = record { literal = c.args.learned.asserted; cause = Reason c.len-number.result } in
    let after : c.push-then-place-jump.new.self.entries.items ≡ first ++ e ∷ [] = c.in_ok-push-2.ensures.ok ∙ ap (λ es. es ++ e ∷ []) c.cut.ensures.entries in
    let size : length first ≡ place = length-take-le place entries (omega (arith, slice_get_below entries place c.requires.decided.0 c.requires.decided.1)) in
    ap (take place) after ∙ ap (λ n. take n (first ++ e ∷ [])) (sym size) ∙ take_whole first (e ∷ [])

pub returns-else-place-jump-clause-kept : goal.returns-else-place-jump-clause-kept
returns-else-place-jump-clause-kept c =
    ap (take c.args.place) c.cut.ensures.entries ∙ take_take_below c.args.place c.args.place c.args.trail.now.entries.items (omega arith)

pub returns-in_ok-push-2-clause-forced : goal.returns-in_ok-push-2-clause-forced
returns-in_ok-push-2-clause-forced c =
    let set = c.args.cnf.now in
    let log = c.args.log.now.items in
    let l = c.args.learned in
    let cs = clauses_with set log in
    let entries = c.args.trail.now.entries.items in
    let place = c.args.place in
    let e : Entry = record { literal = l.asserted; cause = Reason c.len-number.result } in
    let number : c.len-number.result ≡ length cs = c.len-number.ensures.watched ∙ c.requires.watching.count in
    let clauses : clauses_with set c.push.new.self.items ≡ cs ++ l.step.clause ∷ [] = ap (clauses_with set) c.in_ok-push.ensures.items ∙ clauses_with-push set log l.step in
    let after : c.push-then-place-jump.new.self.entries.items ≡ take place entries ++ e ∷ [] = c.in_ok-push-2.ensures.ok ∙ ap (λ es. es ++ e ∷ []) c.cut.ensures.entries in
    subst (λ ds. EachForced ds c.push-then-place-jump.new.self.entries.items) (sym clauses)
    (subst (EachForced (cs ++ l.step.clause ∷ [])) (sym after)
    (EachForced-asserted cs l.step.clause entries place l.jump c.len-number.result l.asserted e c.if-place-jump.true number c.requires.asserting refl refl c.requires.forced))

pub returns-else-place-jump-clause-forced : goal.returns-else-place-jump-clause-forced
returns-else-place-jump-clause-forced c =
    let set = c.args.cnf.now in
    let log = c.args.log.now.items in
    let l = c.args.learned in
    let cs = clauses_with set log in
    let clauses : clauses_with set c.push.new.self.items ≡ cs ++ l.step.clause ∷ [] = ap (clauses_with set) c.in_ok-push.ensures.items ∙ clauses_with-push set log l.step in
    subst (λ ds. EachForced ds c.cut.new.self.entries.items) (sym clauses)
    (subst (EachForced (cs ++ l.step.clause ∷ [])) (sym c.cut.ensures.entries)
    (EachForced-cut cs l.step.clause c.args.trail.now.entries.items c.args.place c.requires.forced))

pub returns-in_ok-push-2-clause-watching : goal.returns-in_ok-push-2-clause-watching
returns-in_ok-push-2-clause-watching c =
    let set = c.args.cnf.now in
    let log = c.args.log.now.items in
    let l = c.args.learned in
    let cs = clauses_with set log in
    let entries = c.args.trail.now.entries.items in
    let place = c.args.place in
    let e : Entry = record { literal = l.asserted; cause = Reason c.len-number.result } in
    let clauses : clauses_with set c.push.new.self.items ≡ cs ++ l.step.clause ∷ [] = ap (clauses_with set) c.in_ok-push.ensures.items ∙ clauses_with-push set log l.step in
    let after : c.push-then-place-jump.new.self.entries.items ≡ take place entries ++ e ∷ [] = c.in_ok-push-2.ensures.ok ∙ ap (λ es. es ++ e ∷ []) c.cut.ensures.entries in
    let ok = c.in_ok-add.ensures in
    let added : IsAdded c.args.watches.now c.add.new.self l.step.clause c.watch_of.result =
    record {
      clauses = ok.clauses ∙ ap (λ ls. clauses_in c.args.watches.now.arena ++ ls ∷ []) c.as_slice.ensures;
      watched = ok.watched;
      listed = ok.listed;
      only = ok.only;
    } in
    subst (λ ds. IsWatchingUpTo ds c.add.new.self c.push-then-place-jump.new.self.entries.items place) (sym clauses)
    (subst (λ es. IsWatchingUpTo (cs ++ l.step.clause ∷ []) c.add.new.self es place) (sym after)
    (learnt_asserted cs l.step.clause c.args.watches.now c.add.new.self c.watch_of.result entries place l.jump l.asserted l.other added c.watch_of.ensures c.requires.asserting c.requires.other c.requires.decided c.requires.watching
    e c.if-place-jump.true refl refl))

pub returns-else-place-jump-clause-watching : goal.returns-else-place-jump-clause-watching
returns-else-place-jump-clause-watching c =
    let set = c.args.cnf.now in
    let log = c.args.log.now.items in
    let l = c.args.learned in
    let cs = clauses_with set log in
    let entries = c.args.trail.now.entries.items in
    let place = c.args.place in
    let clauses : clauses_with set c.push.new.self.items ≡ cs ++ l.step.clause ∷ [] = ap (clauses_with set) c.in_ok-push.ensures.items ∙ clauses_with-push set log l.step in
    let ok = c.in_ok-add.ensures in
    let added : IsAdded c.args.watches.now c.add.new.self l.step.clause c.watch_of.result =
    record {
      clauses = ok.clauses ∙ ap (λ ls. clauses_in c.args.watches.now.arena ++ ls ∷ []) c.as_slice.ensures;
      watched = ok.watched;
      listed = ok.listed;
      only = ok.only;
    } in
    subst (λ ds. IsWatchingUpTo ds c.add.new.self c.cut.new.self.entries.items place) (sym clauses)
    (subst (λ es. IsWatchingUpTo (cs ++ l.step.clause ∷ []) c.add.new.self es place) (sym c.cut.ensures.entries)
    (learnt_left cs l.step.clause c.args.watches.now c.add.new.self c.watch_of.result entries place l.jump l.asserted l.other added c.watch_of.ensures c.requires.asserting c.requires.other c.requires.decided c.requires.watching
    (omega (arith, c.requires.within, c.if-place-jump.false))))
