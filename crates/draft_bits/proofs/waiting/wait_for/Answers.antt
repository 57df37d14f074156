use Rattle.draft_bits.proofs.Common.{◌≡◌, inl, inr, refl, sym, subst, fails, holds, inst-numbered, same_place, stands_there, Place, StandsReached}
use Rattle.places.specs.Heaps.{IsNumbered}
use Rattle.places.specs.Worklist.{IsWorklist}
use Rattle.draft_bits.proofs.waiting.wait_for.Goals as goal

pub returns-then-not-stands_reached-clause-stay : goal.returns-then-not-stands_reached-clause-stay
returns-then-not-stands_reached-clause-stay c b n had = had

pub returns-then-not-stands_reached-clause-added : goal.returns-then-not-stands_reached-clause-added
returns-then-not-stands_reached-clause-added c stands = absurd (fails c.stands_reached.result c.stands_reached.ensures c.if-not-stands_reached.true stands)

pub returns-then-not-stands_reached-clause-only : goal.returns-then-not-stands_reached-clause-only
returns-then-not-stands_reached-clause-only c b n has = inl has

pub insert-requires-clause-arranged : goal.insert-requires-clause-arranged
insert-requires-clause-arranged c = subst (λ o. IsWorklist o c.args.waiting.now) (sym c.as_slice.ensures.value) c.requires.worklist

pub insert-requires-clause-place : goal.insert-requires-clause-place
insert-requires-clause-place c =
    let d = c.args.draft.now in
    let p = c.args.place in
    let stands = holds c.stands_reached.result c.stands_reached.ensures c.if-not-stands_reached.false in
    subst (λ o. IsNumbered o p) (sym c.as_slice.ensures.value) (inst-numbered d p c.requires.whole (stands_there d c.requires.whole p.block p.number stands.1))

pub returns-clause-worklist : goal.returns-clause-worklist
returns-clause-worklist c = subst (λ o. IsWorklist o c.insert.new.self) c.as_slice.ensures.value c.in_ok-insert.ensures.arranged

pub returns-clause-stay : goal.returns-clause-stay
returns-clause-stay c b n had = (c.in_ok-insert.ensures.added b n).1 (inr had)

pub returns-clause-added : goal.returns-clause-added
returns-clause-added c stands = (c.in_ok-insert.ensures.added c.args.place.block c.args.place.number).1 (inl (refl, refl))

pub returns-clause-only : goal.returns-clause-only
returns-clause-only c b n has = elim ((c.in_ok-insert.ensures.added b n).0 has) [
  | inr had ↦ inl had
  | inl (block, number) ↦
      let is : c.args.place ≡ record { block = b; number = n } = same_place c.args.place (record { block = b; number = n }) block number in
      inr (subst (λ (q : Place). StandsReached c.args.draft.now q.block q.number) is (holds c.stands_reached.result c.stands_reached.ensures c.if-not-stands_reached.false), is)
]
