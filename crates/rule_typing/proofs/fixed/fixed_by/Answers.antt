use Rattle.rule_typing.proofs.Common.{inl, inr, IfSome_then}
use Rattle.rule_typing.proofs.Among.{none_then}
use Rattle.rule_typing.proofs.fixed.fixed_by.Goals as goal

pub returns-in-None-clause-some : goal.returns-in-None-clause-some
returns-in-None-clause-some c =
    IfSome_then c.unless-in-None.result c.unless-in-None.ensures.some (λ N (is, other). ((c.if-operand-class.false, inr ((c.fixed_by_value.ensures N).0 is)), other))

pub returns-in-None-clause-none : goal.returns-in-None-clause-none
returns-in-None-clause-none c =
    none_then c.unless-in-None.result c.unless-in-None.ensures.none
    (λ value N (is, why). elim why [ inl e ↦ c.in-None.ensures.none N e | inr truth ↦ value N ((c.fixed_by_value.ensures N).1 truth) ])
