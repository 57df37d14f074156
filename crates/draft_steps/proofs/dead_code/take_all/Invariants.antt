use Rattle.draft_steps.proofs.Common.{ℕ, All, take, Stands}
use Rattle.draft_steps.proofs.Lessening.{IsLess}
use Rattle.draft_steps.proofs.dead_code.take_all.Given as goal

-- those before this one are removed
abbrev pub invariant-loop-block : goal.invariant-loop-block
invariant-loop-block l =
    record {
      less : IsLess l.initial.draft l.draft;
      gone : All (λ (p : ℕ × ℕ). ¬ Stands l.draft p.0 p.1) (take l.block-index l.unneeded);
    }
