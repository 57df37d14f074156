use Rattle.draft_steps.proofs.Common.{ℕ, ◌<◌, Stands, place_at, Came, CameOnlyTo, IsFurther, IsWalk, StandsAtOneOf}
use Rattle.draft_steps.proofs.walk.Walk.come_to_all.Given as goal

-- the places before this one are found
abbrev pub invariant-loop-place : goal.invariant-loop-place
invariant-loop-place l =
    record {
      walk : IsWalk l.draft l.self;
      further : IsFurther l.initial.self l.self;
      came : (k : ℕ) → k < l.place-index → Stands l.draft (place_at l.places k).block (place_at l.places k).number → Came l.self (place_at l.places k).block (place_at l.places k).number;
      only : CameOnlyTo (StandsAtOneOf l.draft l.places) l.initial.self l.self;
    }
