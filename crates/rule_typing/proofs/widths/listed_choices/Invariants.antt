use Rattle.rule_typing.proofs.Common.{take, Contains, MayHaveWidth, HasExactly}
use Rattle.rule_typing.proofs.widths.listed_choices.Given as goal

abbrev pub invariant-loop-width : goal.invariant-loop-width
invariant-loop-width l = HasExactly l.set (λ N. Contains (take l.width-index l.widths) N × MayHaveWidth l.rule l.class N)
