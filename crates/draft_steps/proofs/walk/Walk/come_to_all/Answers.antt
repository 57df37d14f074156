use Rattle.draft_steps.proofs.Common.{◌≡◌, inl, inr, Contains, subst, ◌∙◌, arith, cases_eq, get_or_default, All-get_or, Place, Stands, nowhere, place_at, IsPlaceIn, Came, StandsAtOneOf}
use Rattle.draft_steps.specs.Walks.{StandsAt}
use Rattle.draft_steps.proofs.WalkDrafts.{place-among}
use Rattle.draft_steps.proofs.WalkSteps.{came-further, further-same, further-twice, only-more, only-twice}
use Rattle.draft_steps.proofs.walk.Walk.come_to_all.Goals as goal

pub come_to-requires-clause-place : goal.come_to-requires-clause-place
come_to-requires-clause-place c = All-get_or (IsPlaceIn c.args.draft.now.arena) c.args.places.now c.loop-place.place-index nowhere c.loop-place-test.true c.requires.places

pub loop-place-init : goal.loop-place-init
loop-place-init c = record {
  walk = c.requires.walk;
  further = further-same c.args.self.now;
  came = λ k below. absurd (omega arith);
  only = λ b n came. inl came;
}

pub loop-place-preserved : goal.loop-place-preserved
loop-place-preserved c =
    let h = c.loop-place.invariant in
    let d = c.args.draft.now in
    let old = c.loop-place.self in
    let new = c.come_to.new.self in
    let places = c.args.places.now in
    let index = c.loop-place.place-index in
    let on = c.in_ok-come_to.ensures.further in
    let among = place-among places index c.loop-place-test.true in
    record {
      walk = c.in_ok-come_to.ensures.walk;
      further = further-twice c.args.self.now old new h.further on;
      came = λ k below. elim (cases_eq index k) [
        | inl e ↦ subst (λ i. Stands d (place_at places i).block (place_at places i).number → Came new (place_at places i).block (place_at places i).number) e c.in_ok-come_to.ensures.came
        | inr ne ↦ λ stands. came-further old new (place_at places k).block (place_at places k).number on (h.came k (omega arith) stands)
      ];
      only = only-twice (StandsAtOneOf d places) c.args.self.now old new h.only
          (only-more (StandsAt d (place_at places index)) (StandsAtOneOf d places) old new (λ b n at. (at.0, subst (Contains places) at.1 among)) c.in_ok-come_to.ensures.only);
    }

pub returns-clause-came : goal.returns-clause-came
returns-clause-came c = λ p there stands.
    let h = c.loop-place.invariant in
    let places = c.args.places.now in
    let is : place_at places there.0 ≡ p = get_or_default places there.0 nowhere p there.1 ∙ there.2 in
    subst (λ (q : Place). Stands c.args.draft.now q.block q.number → Came c.loop-place.self q.block q.number) is (h.came there.0 (omega arith)) stands
