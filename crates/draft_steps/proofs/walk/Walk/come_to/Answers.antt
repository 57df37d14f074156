use Rattle.draft_steps.proofs.Common.{◌≡◌, inl, inr, true, List, [], ◌∷◌, Contains, sym, subst, arith, iff_false, Contains-push, HasInst, few_insts, stands_there, Stands, Place}
use Rattle.draft_steps.proofs.WalkSteps.{further-same, only-pushed, walk-more}
use Rattle.draft_steps.proofs.walk.Walk.come_to.Goals as goal
use Rattle.draft_steps.proofs.walk.Walk.come_to.Goals.{else-place-ne-END-via-then-place-ne-END+then-stands+else-not-has, else-place-ne-END-via-then-place-ne-END+else-stands, else-place-ne-END-via-else-place-ne-END}

pub returns-in_ok-push-clause-walk : goal.returns-in_ok-push-clause-walk
returns-in_ok-push-clause-walk c =
    let p = c.args.place in
    let stands = c.stands.ensures.0 c.if-stands.true in
    walk-more c.args.draft.now c.args.self.now (record { reached = c.insert.new.self; found = c.push.new.self }) p c.requires.walk
    (stands_there c.args.draft.now c.requires.whole p.block p.number stands) c.in_ok-insert.ensures.blocks c.in_ok-insert.ensures.added c.in_ok-push.ensures.items

pub returns-else-place-ne-END-clause-came : goal.returns-else-place-ne-END-clause-came
returns-else-place-ne-END-clause-came c = λ stands.
    let p = c.args.place in
    let inst : HasInst c.args.draft.now.arena p.block p.number = stands_there c.args.draft.now c.requires.whole p.block p.number stands in
    let few = few_insts c.args.draft.now c.requires.whole p.block inst.0 inst.1 in
    let within = inst.2 in
    elim c.else-place-ne-END.branch [
      | else-place-ne-END-via-then-place-ne-END+then-stands+else-not-has w ↦
          let has : w.has.result ≡ true = w.if-not-has.false in
          c.requires.walk.marked p.block p.number (w.has.ensures.0 has)
      | else-place-ne-END-via-then-place-ne-END+else-stands w ↦ absurd (iff_false w.stands.ensures w.if-stands.false stands)
      | else-place-ne-END-via-else-place-ne-END w ↦ absurd (let end = w.if-place-ne-END.false in omega arith)
    ]

pub returns-in_ok-push-clause-only : goal.returns-in_ok-push-clause-only
returns-in_ok-push-clause-only c = λ b n came.
    let stands = c.stands.ensures.0 c.if-stands.true in
    elim (only-pushed c.args.self.now (record { reached = c.insert.new.self; found = c.push.new.self }) c.args.place b n c.in_ok-push.ensures.items came) [
      | inl before ↦ inl before
      | inr is ↦ inr (subst (λ (p : Place). Stands c.args.draft.now p.block p.number) is stands, is)
    ]

pub returns-else-place-ne-END-clause-only : goal.returns-else-place-ne-END-clause-only
returns-else-place-ne-END-clause-only c = λ b n came. inl came

pub returns-in_ok-push-clause-further : goal.returns-in_ok-push-clause-further
returns-in_ok-push-clause-further c = record { more = c.args.place ∷ []; is = c.in_ok-push.ensures.items }

pub returns-in_ok-push-clause-came : goal.returns-in_ok-push-clause-came
returns-in_ok-push-clause-came c = λ stands. subst (λ (l : List Place). Contains l c.args.place) (sym c.in_ok-push.ensures.items) (Contains-push c.args.self.now.found.items c.args.place)

pub returns-else-place-ne-END-clause-walk : goal.returns-else-place-ne-END-clause-walk
returns-else-place-ne-END-clause-walk c = c.requires.walk

pub returns-else-place-ne-END-clause-further : goal.returns-else-place-ne-END-clause-further
returns-else-place-ne-END-clause-further c = further-same c.args.self.now
