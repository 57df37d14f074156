use Rattle.draft_steps.proofs.Common.{ℕ, ◌<◌, IsInScope, Stands, place_at, Came, CameOnlyTo, IsFurther, IsWalk, ReadsHere}
use Rattle.draft_steps.proofs.walk.Walk.come_to_readers.Given as goal

-- the users before this one that stand, in the block or across blocks, are found
abbrev pub invariant-loop-reader : goal.invariant-loop-reader
invariant-loop-reader l =
    record {
      walk : IsWalk l.fn.draft l.self;
      further : IsFurther l.initial.self l.self;
      came : (k : ℕ) → k < l.reader-index → IsInScope l.fn.across l.fn.place.block l.fn.place.number (place_at l.reader-items k).block (place_at l.reader-items k).number → Stands l.fn.draft (place_at l.reader-items k).block (place_at l.reader-items k).number
          → Came l.self (place_at l.reader-items k).block (place_at l.reader-items k).number;
      only : CameOnlyTo (ReadsHere l.fn.across l.fn.draft l.fn.place) l.initial.self l.self;
    }
