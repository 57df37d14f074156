use Rattle.draft_steps.proofs.Common.{IsNeeded}
use Rattle.draft_steps.proofs.dead_code.is_seen_needed.Given as goal

-- if this register is live, the first one is
abbrev pub invariant-loop-place : goal.invariant-loop-place
invariant-loop-place l = IsNeeded l.draft.arena l.here → IsNeeded l.draft.arena l.fn.register
