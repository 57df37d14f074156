use Rattle.rule_typing.proofs.Common.{IfSome_then}
use Rattle.rule_typing.proofs.CastLines.{in_source, in_target, none_broken}
use Rattle.rule_typing.proofs.casts.broken_line.Goals as goal

pub returns-in-Some-clause-some : goal.returns-in-Some-clause-some
returns-in-Some-clause-some c = let (line, broken) = rw c.as_slice.ensures at c.in-Some.ensures.some in (in_source c.args.rule.now c.in-Some.line line, broken)

pub returns-in-None-clause-some : goal.returns-in-None-clause-some
returns-in-None-clause-some c =
    IfSome_then c.broken_by_statements-in-None.result (rw c.as_slice-in-None.ensures at c.broken_by_statements-in-None.ensures.some) (λ line h. (in_target c.args.rule.now line h.0, h.1))

pub returns-in-None-clause-none : goal.returns-in-None-clause-none
returns-in-None-clause-none c =
    none_broken c.args.rule.now c.args.widths.now c.broken_by_statements-in-None.result (rw c.as_slice.ensures at c.in-None.ensures.none) (rw c.as_slice-in-None.ensures at c.broken_by_statements-in-None.ensures.none)
