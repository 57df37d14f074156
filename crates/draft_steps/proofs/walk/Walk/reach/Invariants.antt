use Rattle.draft_steps.proofs.Common.{ℕ, ◌<◌, ◌≤◌, length, Contains, Place, Reaches, Stands, place_at, Came, IsSameDraft, IsWalk, ReachesOneOf, ReadersCame}
use Rattle.draft_steps.proofs.walk.Walk.reach.Given as goal

-- what reads from the places through chains of so many operands is found, and so are the users of all that was found
-- before the last level
abbrev pub invariant-loop-level : goal.invariant-loop-level
invariant-loop-level l =
    record {
      draft : IsSameDraft l.initial.draft l.draft;
      walk : IsWalk l.draft l.self;
      next : l.next ≤ length l.self.found.items;
      read : (k : ℕ) → k < l.next → ReadersCame l.across l.initial.draft l.self (place_at l.self.found.items k);
      reached : (p : Place) (b n : ℕ) → Contains l.places p → Stands l.initial.draft b n → Reaches l.across l.initial.draft l._level b n p.block p.number → Came l.self b n;
      only : (b n : ℕ) → Came l.self b n → ReachesOneOf l.across l.initial.draft l._level l.places b n;
    }
