use Rattle.draft_steps.proofs.Common.{All, Contains, take, IsPlaceIn, Place}
use Rattle.draft_steps.proofs.Touching.{IsTold}
use Rattle.draft_steps.proofs.stepping.push_used.Given as goal

-- the places of the registers before this one with exactly one use are appended
abbrev pub invariant-loop-register : goal.invariant-loop-register
invariant-loop-register l =
    record {
      others : (p : Place) → Contains l.initial.places.items p → Contains l.places.items p;
      used : All (IsTold l.draft.arena l.places.items) (take l.register-index l.used);
      places : All (IsPlaceIn l.draft.arena) l.initial.places.items → All (IsPlaceIn l.draft.arena) l.places.items;
    }
