use Rattle.rule_typing.proofs.Common.{inl, inr, IfSome_then, Contains-append_left, Contains-append_right, Contains-append_cases, Rule}
use Rattle.rule_typing.proofs.Among.{none_then}
use Rattle.rule_typing.proofs.FixedLines.{of_fixed, fixed_of}
use Rattle.rule_typing.proofs.fixed.other_fixed_width.Goals as goal

pub returns-in-Some-clause-some : goal.returns-in-Some-clause-some
returns-in-Some-clause-some c =
    let rule : Rule = c.args.rule.now in
    let found = rw c.as_slice.ensures at c.in-Some.ensures.some in
    (fixed_of rule found.0.0 c.args.class c.in-Some.width (Contains-append_left rule.source rule.target found.0.0 found.0.1) found.0.2, found.1)

pub returns-in-None-clause-some : goal.returns-in-None-clause-some
returns-in-None-clause-some c =
    let rule : Rule = c.args.rule.now in
    IfSome_then c.fixed_by_statements-in-None.result (rw c.as_slice-in-None.ensures at c.fixed_by_statements-in-None.ensures.some)
    (λ N ((s, among, how), other). (fixed_of rule s c.args.class N (Contains-append_right rule.source rule.target s among) how, other))

pub returns-in-None-clause-none : goal.returns-in-None-clause-none
returns-in-None-clause-none c =
    let rule : Rule = c.args.rule.now in
    let source = rw c.as_slice.ensures at c.in-None.ensures.none in
    none_then c.fixed_by_statements-in-None.result (rw c.as_slice-in-None.ensures at c.fixed_by_statements-in-None.ensures.none)
    (λ target N fixed. let (s, stands, how) = of_fixed rule c.args.class N fixed in
    elim (Contains-append_cases rule.source rule.target s stands) [ inl left ↦ source s N left how | inr right ↦ target s N right how ])
