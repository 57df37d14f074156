use Rattle.draft_steps.proofs.Common.{ℕ, inl, inr, All, Contains, take, refl, subst, arith, take_all, All-get_or, All-more, All-weaker, Place, IsNumbered, nowhere, place_at, Has}
use Rattle.draft_steps.proofs.WalkDrafts.{place-among}
use Rattle.draft_steps.proofs.worklist.insert_all.Goals as goal

pub insert-requires-clause-place : goal.insert-requires-clause-place
insert-requires-clause-place c = All-get_or (IsNumbered c.args.orders.now) c.args.places.now c.loop-place.place-index nowhere c.loop-place-test.true c.requires.places

pub loop-place-preserved : goal.loop-place-preserved
loop-place-preserved c =
    let h = c.loop-place.invariant in
    let places = c.args.places.now in
    let index = c.loop-place.place-index in
    let old = c.loop-place.waiting.marks in
    let new = c.insert.new.self.marks in
    let p = place_at places index in
    let added = c.in_ok-insert.ensures.added in
    record {
      arranged = c.in_ok-insert.ensures.arranged;
      stay = λ b n had. (added b n).1 (inr (h.stay b n had));
      places = All-more (λ (q : Place). Has new q.block q.number) places index nowhere c.loop-place-test.true
          (All-weaker (λ (q : Place). Has old q.block q.number) (λ (q : Place). Has new q.block q.number) (λ q had. (added q.block q.number).1 (inr had)) (take index places) h.places)
          ((added p.block p.number).1 (inl (refl, refl)));
      only = λ b n has. elim ((added b n).0 has) [
        | inl (here, this) ↦ inr (subst (λ (k : ℕ). Contains places (record { block = k; number = n })) here
            (subst (λ (m : ℕ). Contains places (record { block = p.block; number = m })) this (place-among places index c.loop-place-test.true)))
        | inr had ↦ h.only b n had
      ];
    }

pub returns-clause-places : goal.returns-clause-places
returns-clause-places c =
    let h = c.loop-place.invariant in
    let places = c.args.places.now in
    let index = c.loop-place.place-index in
    subst (All (λ (q : Place). Has c.loop-place.waiting.marks q.block q.number)) (take_all index places (omega arith)) h.places
