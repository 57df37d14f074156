use Rattle.draft_steps.proofs.Common.{ℕ, ◌<◌, ◌≤◌, place_at, CameOnlyTo, IsFurther, IsSameDraft, IsWalk, ReadersCame, ReadsOneOf}
use Rattle.draft_steps.proofs.walk.Walk.follow.Given as goal

-- the users of the places before this one are found
abbrev pub invariant-loop-index : goal.invariant-loop-index
invariant-loop-index l =
    record {
      draft : IsSameDraft l.initial.draft l.draft;
      walk : IsWalk l.draft l.self;
      further : IsFurther l.initial.self l.self;
      came : (k : ℕ) → l.fn.from ≤ k → k < l.index → ReadersCame l.across l.initial.draft l.self (place_at l.initial.self.found.items k);
      only : CameOnlyTo (ReadsOneOf l.across l.initial.draft l.initial.self.found.items) l.initial.self l.self;
    }
