use Rattle.draft_steps.proofs.Common.{◌≡◌, ℕ, ◌<◌, ◌≤◌, inl, inr, Contains, length, sym, ap, subst, ◌∙◌, arith, cases_eq, get_or_default, HasInst, nowhere, place_at, IsFurther, ReadersCame, ReadsHere, ReadsOneOf, Place, Walk}
use Rattle.std.proofs.Common.{length-append}
use Rattle.draft_steps.proofs.WalkDrafts.{place-among, place-further, readers-by, reads-by, same-twice}
use Rattle.draft_steps.proofs.WalkSteps.{came-further, further-twice, only-more, only-twice}
use Rattle.draft_steps.proofs.walk.Walk.follow.Goals as goal

longer : (u v : Walk) → IsFurther u v → length u.found.items ≤ length v.found.items
longer u v further = let size = ap length further.is ∙ length-append u.found.items further.more in omega arith

pub come_to_readers-requires-clause-inst : goal.come_to_readers-requires-clause-inst
come_to_readers-requires-clause-inst c =
    let l = c.loop-index in
    let long = longer c.args.self.now l.self l.invariant.further in
    let within : l.index < length l.self.found.items = omega arith in
    subst (λ (p : Place). HasInst l.draft.arena p.block p.number) (sym c.index-place.ensures) (l.invariant.walk.insts l.index c.index-place.result.now within)

pub loop-index-preserved : goal.loop-index-preserved
loop-index-preserved c =
    let old = c.args.draft.now in
    let first = c.args.self.now in
    let l = c.loop-index in
    let new = c.come_to_readers.new.self in
    let on = c.in_ok-come_to_readers.ensures in
    let within : l.index < length first.found.items = omega arith in
    let long = longer first l.self l.invariant.further in
    let place_is : c.index-place.result.now ≡ place_at first.found.items l.index =
    c.index-place.ensures ∙ get_or_default l.self.found.items l.index c.index-place.result.now nowhere (omega arith) ∙ place-further first l.self l.index l.invariant.further within in
    let among : Contains first.found.items c.index-place.result.now = subst (Contains first.found.items) (sym place_is) (place-among first.found.items l.index within) in
    record {
      draft = same-twice old l.draft c.come_to_readers.new.draft l.invariant.draft on.draft;
      walk = on.walk;
      further = further-twice first l.self new l.invariant.further on.further;
      came = λ k low below. elim (cases_eq l.index k) [
        | inl e ↦ subst (λ (i : ℕ). ReadersCame c.args.across old new (place_at first.found.items i)) e
            (subst (ReadersCame c.args.across old new) place_is (readers-by c.args.across old l.draft l.invariant.draft new c.index-place.result.now on.came))
        | inr ne ↦ λ b n scope stands reads. came-further l.self new b n on.further (l.invariant.came k low (omega arith) b n scope stands reads)
      ];
      only = only-twice (ReadsOneOf c.args.across old first.found.items) first l.self new l.invariant.only (only-more (ReadsHere c.args.across l.draft c.index-place.result.now) (ReadsOneOf c.args.across old first.found.items) l.self new
          (λ b n reads. (c.index-place.result.now, among, reads-by c.args.across old l.draft l.invariant.draft c.index-place.result.now b n reads)) on.only);
    }
