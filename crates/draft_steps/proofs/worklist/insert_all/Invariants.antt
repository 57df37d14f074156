use Rattle.draft_steps.proofs.Common.{◌⊎◌, ℕ, All, Contains, take, Has, IsWorklist}
use Rattle.draft_steps.proofs.worklist.insert_all.Given as goal

-- the places before this one are on the worklist
abbrev pub invariant-loop-place : goal.invariant-loop-place
invariant-loop-place l =
    record {
      arranged : IsWorklist l.orders l.waiting;
      stay : (b n : ℕ) → Has l.initial.waiting.marks b n → Has l.waiting.marks b n;
      places : All (λ p. Has l.waiting.marks p.block p.number) (take l.place-index l.places);
      only : (b n : ℕ) → Has l.waiting.marks b n → Has l.initial.waiting.marks b n ⊎ Contains l.places (record { block = b; number = n });
    }
