use Rattle.rule_typing.proofs.Common.{◌<◌, MayHaveWidth, HasExactly}
use Rattle.rule_typing.proofs.widths.widths_of_class.Given as goal

abbrev pub invariant-loop-bits : goal.invariant-loop-bits
invariant-loop-bits l = HasExactly l.set (λ N. (N < l.bits) × MayHaveWidth l.rule l.class N)
