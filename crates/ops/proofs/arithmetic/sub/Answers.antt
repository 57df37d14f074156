use Rattle.ops.proofs.Common.{ℕ, arith, ◌≡◌, ◌∙◌, ints, ℤ, Flags, arithmetic}
use Rattle.ops.proofs.arithmetic.sub.Goals as goal

-- equal results of the subtraction give equal values
same_results : (flags : Flags) (N : ℕ) (u u' s s' : ℤ) → u ≡ u' → s ≡ s' → arithmetic flags N u s ≡ arithmetic flags N u' s'
same_results flags N u u' s s' e f = cc

pub returns : goal.returns
returns c =
    c.reduce.ensures ∙ same_results _ _ _ _ _ _ (omega (arith, ints)) (omega (arith, ints))
