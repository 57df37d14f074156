use Rattle.bench_parts.proofs.Common.{sym, subst, Rule, IsClassified}
use Rattle.bench_parts.proofs.deciding.decide_rules.Goals as goal

pub decide_rule-requires-clause-classes : goal.decide_rule-requires-clause-classes
decide_rule-requires-clause-classes c =
    let P : Rule → Type 0 = λ rule. IsClassified rule in
    let e = c.as_slice-rule-items.ensures.value in
    subst P (sym c.rule-item.is) (rw e (c.in_ok-rules_of.ensures.classes c.loop-rule.rule-index c.rule-item.result (rw (← e) c.loop-rule-test.true)))
