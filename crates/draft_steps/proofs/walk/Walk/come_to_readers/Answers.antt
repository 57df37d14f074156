use Rattle.draft_steps.proofs.Common.{◌≡◌, ℕ, ◌+◌, ◌<◌, inl, inr, Bool, List, Contains, length, sym, subst, ◌∙◌, arith, cases_eq, get_or_default, Function, IsInScope, holds, fails, Stands, nowhere, place_at, IsPlaceIn, IsReader, Came, CameOnlyTo, IsFurther, IsSameDraft, IsWalk, ReadsHere, Draft, Place, Walk, stands_there}
use Rattle.ir_core.specs.declared.operand.Register.TheVariants as registers
use Rattle.draft_steps.specs.Walks.{StandsAt}
use Rattle.draft_steps.proofs.SameDrafts.{stays, stood}
use Rattle.draft_steps.proofs.WalkDrafts.{place-among, walk-by}
use Rattle.draft_steps.proofs.WalkSteps.{came-further, further-same, further-twice, only-more, only-twice}
use Rattle.draft_steps.proofs.walk.Walk.come_to_readers.Goals as goal
use Rattle.draft_steps.proofs.walk.Walk.come_to_readers.Goals.{then-is_in_scope+in_ok-come_to, else-is_in_scope}

-- this place is found, if an instruction stands there in whose scope the other is
abbrev CameIn : Bool → Draft → Place → Walk → Place → Type 0
CameIn across d q w p = IsInScope across q.block q.number p.block p.number → Stands d p.block p.number → Came w p.block p.number

one_more : (across : Bool) (d : Draft) (q : Place) (places : List Place) (was now : Walk) (index : ℕ) → IsFurther was now → ((k : ℕ) → k < index → CameIn across d q was (place_at places k)) → CameIn across d q now (place_at places index)
    → (k : ℕ) → k < index + 1 → CameIn across d q now (place_at places k)
one_more across d q places was now index further so_far this k below = elim (cases_eq index k) [
  | inl e ↦ subst (λ (i : ℕ). CameIn across d q now (place_at places i)) e this
  | inr ne ↦ λ scope stands. came-further was now (place_at places k).block (place_at places k).number further (so_far k (omega arith) scope stands)
]

-- a place that reads a register in the draft with trimmed use lists reads it in the draft as it was
reads_here : (across : Bool) (old new : Draft) (same : IsSameDraft old new) (place p : Place) → IsInScope across place.block place.number p.block p.number → IsReader new.arena (registers.Result place.block place.number) p
    → (b n : ℕ) → StandsAt new p b n → ReadsHere across old place b n
reads_here across old new same place p scope reads b n (stands, is) = (
  subst (λ (q : Place). IsInScope across place.block place.number q.block q.number) is scope,
  stood old new same b n stands,
  subst (λ (q : Place). IsReader old.arena (registers.Result place.block place.number) q) is (subst (λ (f : Function). IsReader f (registers.Result place.block place.number) p) same.arena reads),
)

pub loop-reader-init : goal.loop-reader-init
loop-reader-init c = record {
  walk = c.requires.walk;
  further = further-same c.args.self.now;
  came = λ k below. absurd (omega arith);
  only = λ b n came. inl came;
}

pub come_to-requires-clause-whole : goal.come_to-requires-clause-whole
come_to-requires-clause-whole c = c.trim_readers.ensures.whole

pub come_to-requires-clause-walk : goal.come_to-requires-clause-walk
come_to-requires-clause-walk c = walk-by c.args.draft.now c.trim_readers.new.self c.loop-reader.self c.trim_readers.ensures.arena c.loop-reader.invariant.walk

pub come_to-requires-clause-place : goal.come_to-requires-clause-place
come_to-requires-clause-place c =
    let places : List Place = c.readers_of-reader-items.result.now in
    let within : c.loop-reader.reader-index < length places = omega arith in
    c.readers_of-reader-items.ensures.places (place_at places c.loop-reader.reader-index) (place-among places c.loop-reader.reader-index within)

pub loop-reader-preserved : goal.loop-reader-preserved
loop-reader-preserved c =
    let old = c.args.draft.now in
    let new = c.trim_readers.new.self in
    let trimmed = c.trim_readers.ensures in
    let same : IsSameDraft old new = record { whole = trimmed.whole; arena = trimmed.arena; orders = trimmed.orders; stand = trimmed.stand; dead_candidates = trimmed.dead_candidates } in
    let l = c.loop-reader in
    let places : List Place = c.readers_of-reader-items.result.now in
    let p : Place = place_at places l.reader-index in
    let within : l.reader-index < length places = omega arith in
    let reads = ((trimmed.exact p).0 (subst (λ (ps : List Place). Contains ps p) c.readers_of-reader-items.ensures.listed (place-among places l.reader-index within))).1 in
    elim c.if-is_in_scope.branch [
      | then-is_in_scope+in_ok-come_to w ↦
          let on = w.in_ok-come_to.ensures in
          let further : IsFurther l.self c.if-is_in_scope.self = subst (IsFurther l.self) (sym w.self-is) on.further in
          record {
            walk = subst (IsWalk old) (sym w.self-is) (walk-by new old w.come_to.new.self (sym trimmed.arena) on.walk);
            further = further-twice c.args.self.now l.self c.if-is_in_scope.self l.invariant.further further;
            came = one_more c.args.across old c.args.place places l.self c.if-is_in_scope.self l.reader-index further l.invariant.came
                (λ scope stands. subst (λ (s : Walk). Came s p.block p.number) (sym w.self-is) (on.came (stays old new same p.block p.number stands)));
            only = only-twice (ReadsHere c.args.across old c.args.place) c.args.self.now l.self c.if-is_in_scope.self l.invariant.only (subst (CameOnlyTo (ReadsHere c.args.across old c.args.place) l.self) (sym w.self-is)
                (only-more (StandsAt new p) (ReadsHere c.args.across old c.args.place) l.self w.come_to.new.self (reads_here c.args.across old new same c.args.place p (holds c.is_in_scope.result c.is_in_scope.ensures w.if-is_in_scope.true) reads) on.only));
          }
      | else-is_in_scope w ↦
          let further : IsFurther l.self c.if-is_in_scope.self = subst (IsFurther l.self) (sym w.self-is) (further-same l.self) in
          record {
            walk = subst (IsWalk old) (sym w.self-is) l.invariant.walk;
            further = further-twice c.args.self.now l.self c.if-is_in_scope.self l.invariant.further further;
            came = one_more c.args.across old c.args.place places l.self c.if-is_in_scope.self l.reader-index further l.invariant.came
                (λ scope stands. absurd (fails c.is_in_scope.result c.is_in_scope.ensures w.if-is_in_scope.false scope));
            only = subst (CameOnlyTo (ReadsHere c.args.across old c.args.place) c.args.self.now) (sym w.self-is) l.invariant.only;
          }
    ]

pub returns-clause-draft : goal.returns-clause-draft
returns-clause-draft c =
    let trimmed = c.trim_readers.ensures in
    record { whole = trimmed.whole; arena = trimmed.arena; orders = trimmed.orders; stand = trimmed.stand; dead_candidates = trimmed.dead_candidates }

pub returns-clause-further : goal.returns-clause-further
returns-clause-further c = c.loop-reader.invariant.further

pub returns-clause-only : goal.returns-clause-only
returns-clause-only c = c.loop-reader.invariant.only

pub returns-clause-walk : goal.returns-clause-walk
returns-clause-walk c = walk-by c.args.draft.now c.trim_readers.new.self c.loop-reader.self c.trim_readers.ensures.arena c.loop-reader.invariant.walk

pub returns-clause-came : goal.returns-clause-came
returns-clause-came c = λ b n scope stands reads.
    let old = c.args.draft.now in
    let p : Place = record { block = b; number = n } in
    let places : List Place = c.readers_of-reader-items.result.now in
    let (block, at, within) = stands_there old c.requires.whole b n stands in
    let there : Contains places p = c.readers_of-reader-items.ensures.readers p
    (subst (λ (f : Function). IsPlaceIn f p) (sym c.trim_readers.ensures.arena) (block, at, inl within))
    (subst (λ (f : Function). IsReader f (registers.Result c.args.place.block c.args.place.number) p) (sym c.trim_readers.ensures.arena) reads) in
    let is : place_at places there.0 ≡ p = get_or_default places there.0 nowhere p there.1 ∙ there.2 in
    let inside = there.1 in
    subst (λ (q : Place). CameIn c.args.across old c.args.place c.loop-reader.self q) is (c.loop-reader.invariant.came there.0 (omega arith)) scope stands
