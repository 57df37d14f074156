use Rattle.draft_steps.proofs.Common.{◌≡◌, ℕ, ◌<◌, ◌^◌, ◌⊎◌, inl, inr, List, All, Contains, length, sym, subst, HasInst, Block, Function, IsNeeded, counted_insts, stands_there}
use Rattle.ir_core.specs.declared.operand.Register.TheVariants as registers
use Rattle.draft_steps.proofs.Lessening.{all_less}
use Rattle.draft_steps.proofs.dead_code.remove_dead.Goals as goal

pub unneeded_insts-requires-clause-insts : goal.unneeded_insts-requires-clause-insts
unneeded_insts-requires-clause-insts c =
    subst (λ (f : Function). All (λ (b : Block). length b.insts < 2 ^ 32) f.blocks) (sym c.arena.ensures) (counted_insts c.args.draft.now c.requires)

pub returns-clause-cleaning : goal.returns-clause-cleaning
returns-clause-cleaning c = λ f rows waits is.
    let d = c.args.draft.now in
    let e = c.in_ok-take_all.ensures in
    let u = c.in_ok-unneeded.ensures in
    let same : c.as_slice.result.now ≡ c.in_ok-unneeded.unneeded.items = c.as_slice.ensures.value in
    all_less d c.take_all.new.draft c.requires e.whole e.needed (λ b n stands.
    let inst : HasInst d.arena b n = stands_there d c.requires b n (e.stood b n stands) in
    let either : Contains c.in_ok-unneeded.unneeded.items (b, n) ⊎ IsNeeded d.arena (registers.Result b n) =
    subst (λ (g : Function). HasInst g b n → Contains c.in_ok-unneeded.unneeded.items (b, n) ⊎ IsNeeded g (registers.Result b n)) c.arena.ensures (u.others b n) inst in
    elim either [
      | inl among ↦ absurd (e.gone b n (subst (λ (l : List (ℕ × ℕ)). Contains l (b, n)) (sym same) among) stands)
      | inr need ↦ need
    ]) f rows waits (e.cleaning f rows waits) is
