use Rattle.draft_steps.proofs.Common.{◌≡◌, ℕ, All, take, IsNeeded, Stands}
use Rattle.ir_core.specs.declared.operand.Register.TheVariants as registers
use Rattle.draft_steps.proofs.dead_code.are_needed.Given as goal

-- those before this one are live, where they stand
abbrev pub invariant-loop-register : goal.invariant-loop-register
invariant-loop-register l = All (λ r. (b n : ℕ) → r ≡ registers.Result b n → Stands l.draft b n → IsNeeded l.draft.arena r) (take l.register-index l.used)
