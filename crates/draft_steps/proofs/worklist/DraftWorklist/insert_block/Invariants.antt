use Rattle.draft_steps.proofs.Common.{◌≡◌, ℕ, ◌<◌, ◌⊎◌, ◌↔◌, Stands, IsOnWorklist, IsWorklist}
use Rattle.draft_steps.proofs.worklist.DraftWorklist.insert_block.Given as goal

-- the numbers before this one are on the worklist, where they stand
abbrev pub invariant-loop-number : goal.invariant-loop-number
invariant-loop-number l =
    record {
      worklist : IsWorklist l.draft.orders.items l.self;
      added : (b n : ℕ) → IsOnWorklist l.self b n ↔ (IsOnWorklist l.initial.self b n ⊎ ((b ≡ l.fn.block) × (n < l.number) × Stands l.draft b n));
    }
