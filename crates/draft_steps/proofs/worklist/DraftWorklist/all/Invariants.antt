use Rattle.draft_steps.proofs.Common.{ℕ, ◌<◌, ◌↔◌, IsReached, Stands, IsOnWorklist, IsWorklist}
use Rattle.draft_steps.proofs.worklist.DraftWorklist.all.Given as goal

-- the instructions of the reached blocks before this one are on the worklist
abbrev pub invariant-loop-block : goal.invariant-loop-block
invariant-loop-block l =
    record {
      worklist : IsWorklist l.draft.orders.items l.worklist;
      added : (b n : ℕ) → IsOnWorklist l.worklist b n ↔ ((b < l.block) × IsReached l.draft.arena b × Stands l.draft b n);
    }
