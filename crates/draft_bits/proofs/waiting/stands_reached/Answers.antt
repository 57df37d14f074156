use Rattle.draft_bits.proofs.Common.{inl, inr, sym, arith, false≢true, fails, holds, few_insts, stands_there}
use Rattle.draft_bits.proofs.waiting.stands_reached.Goals as goal

pub returns-then-place-eq-END : goal.returns-then-place-eq-END
returns-then-place-eq-END c = (
  λ yes. absurd (false≢true yes),
  λ stands.
      let d = c.args.draft.now in
      let p = c.args.place in
      let (block, at, within) = stands_there d c.requires.whole p.block p.number stands.1 in
      let few = few_insts d c.requires.whole p.block block at in
      let end = c.if-place-eq-END.true in
      absurd (omega arith),
)

pub returns-then-not-reached : goal.returns-then-not-reached
returns-then-not-reached c = (
  λ yes. absurd (false≢true yes),
  λ stands. absurd (fails c.reached.result (c.reached.ensures c.args.draft.now.arena (sym c.requires.whole.facts.flow)) c.if-not-reached.true stands.0),
)

pub stands-requires-clause-inst : goal.stands-requires-clause-inst
stands-requires-clause-inst c =
    let (block, at, place) = c.requires.place in
    elim place [
      | inl within ↦ (block, at, within)
      | inr end ↦ absurd (c.if-place-eq-END.false end)
    ]

pub returns : goal.returns
returns c =
    let reached = holds c.reached.result (c.reached.ensures c.args.draft.now.arena (sym c.requires.whole.facts.flow)) c.if-not-reached.false in
    (λ yes. (reached, c.stands.ensures.0 yes), λ stands. c.stands.ensures.1 stands.1)
