use Rattle.rule_typing.proofs.Common.{◌≡◌, ◌↔◌, ◌⊎◌, ℕ, ◌+◌, ◌<◌, subst, sym, MayHaveWidth}
use Rattle.rule_typing.proofs.Among.{holds, fails}
use Rattle.rule_typing.proofs.Sets.{one_below, added, left_out}
use Rattle.rule_typing.proofs.widths.widths_of_class.Goals as goal
use Rattle.rule_typing.proofs.widths.widths_of_class.Goals.{then-class_fits, else-class_fits}

pub loop-bits-preserved : goal.loop-bits-preserved
loop-bits-preserved c =
    let bits : ℕ = c.loop-bits.bits in
    let same : c.in-Some.width ≡ bits = c.in-Some.ensures.width in
    let more : (N : ℕ) → (N < bits + 1) ↔ ((N < bits) ⊎ (N ≡ c.in-Some.width)) = subst (λ w. (N : ℕ) → (N < bits + 1) ↔ ((N < bits) ⊎ (N ≡ w))) (sym same) (one_below bits) in
    elim c.if-class_fits.branch [
      | then-class_fits w ↦ rw w.set-is
          (added (λ N. N < bits) (λ N. N < bits + 1) (MayHaveWidth c.args.rule.now c.args.class) c.in-Some.width c.loop-bits.set more c.loop-bits.invariant
          w.insert.new.self w.insert.ensures (holds c.class_fits.result c.class_fits.ensures w.if-class_fits.true))
      | else-class_fits w ↦ rw w.set-is
          (left_out (λ N. N < bits) (λ N. N < bits + 1) (MayHaveWidth c.args.rule.now c.args.class) c.in-Some.width c.loop-bits.set more c.loop-bits.invariant
          (fails c.class_fits.result c.class_fits.ensures w.if-class_fits.false))
    ]
