use Rattle.draft_steps.proofs.Common.{◌≡◌, ℕ, All, refl, subst, arith, take_all, All-contains, All-more, Register, IsNeeded, Stands}
use Rattle.ir_core.specs.declared.operand.Register.TheVariants as registers
use Rattle.draft_steps.proofs.dead_code.are_needed.Goals as goal

pub loop-register-preserved : goal.loop-register-preserved
loop-register-preserved c =
    let d = c.args.draft.now in
    let seen = c.if-not-is_seen_needed.ensures refl in
    All-more (λ (r : Register). (b n : ℕ) → r ≡ registers.Result b n → Stands d b n → IsNeeded d.arena r) c.args.used.now c.loop-register.register-index _ c.loop-register-test.true c.loop-register.invariant seen

pub returns : goal.returns
returns c = λ yes b n has stands.
    let d = c.args.draft.now in
    All-contains (λ (r : Register). (b n : ℕ) → r ≡ registers.Result b n → Stands d b n → IsNeeded d.arena r) c.args.used.now (registers.Result b n)
    (subst (All (λ (r : Register). (b n : ℕ) → r ≡ registers.Result b n → Stands d b n → IsNeeded d.arena r)) (take_all c.loop-register.register-index c.args.used.now (omega arith)) c.loop-register.invariant) has b n refl stands
