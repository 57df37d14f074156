use Rattle.rule_typing.proofs.Common.{◌≡◌, ℕ, None, Some, IfSome_then}
use Rattle.rule_typing.proofs.Among.{none_then}
use Rattle.rule_typing.proofs.fixed.fixed_width.Goals as goal

pub returns-clause-some : goal.returns-clause-some
returns-clause-some c = IfSome_then c.other_fixed_width.result c.other_fixed_width.ensures.some (λ N found. found.0)

nothing : (N : ℕ) → None ≡ Some N → ⊥
nothing N e = cc

pub returns-clause-none : goal.returns-clause-none
returns-clause-none c = none_then c.other_fixed_width.result c.other_fixed_width.ensures.none (λ only N fixed. nothing N (only N fixed))
