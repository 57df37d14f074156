use Rattle.rule_typing.proofs.Common.{inl, inr, IfSome_then}
use Rattle.rule_typing.proofs.Among.{none_then}
use Rattle.rule_typing.proofs.fixed.fixed_by_statement.Goals as goal

pub returns-in-Some-clause-some : goal.returns-in-Some-clause-some
returns-in-Some-clause-some c = (inl ((c.fixed_by_line.ensures c.in-Some.width).0 c.in-Some.ensures.some.0), c.in-Some.ensures.some.1)

pub returns-in-None-clause-some : goal.returns-in-None-clause-some
returns-in-None-clause-some c =
    IfSome_then c.fixed_by_operands.result (rw (c.as_slice.ensures, c.of-operands.ensures) at c.fixed_by_operands.ensures.some) (λ N (fixes, other). (inr fixes, other))

pub returns-in-None-clause-none : goal.returns-in-None-clause-none
returns-in-None-clause-none c =
    none_then c.fixed_by_operands.result (rw (c.as_slice.ensures, c.of-operands.ensures) at c.fixed_by_operands.ensures.none)
    (λ operands N how. elim how [ inl line ↦ c.in-None.ensures.none N ((c.fixed_by_line.ensures N).1 line) | inr fixes ↦ operands N fixes ])
