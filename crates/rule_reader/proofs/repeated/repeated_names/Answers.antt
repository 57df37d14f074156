use Rattle.rule_reader.proofs.Common.{◌+◌, [], take, refl, subst, sym, arith, bytes_eq, lookup}
use Rattle.rule_reader.proofs.Places.{read_at}
use Rattle.rule_reader.proofs.Repeats.{Known, MarksFirst, known_more, known_none, marks_none, marks_more, marks_all}
use Rattle.rule_reader.proofs.repeated.repeated_names.Goals as goal

pub loop-rule-init : goal.loop-rule-init
loop-rule-init c =
    record {
      marks = subst (MarksFirst c.args.rules.now 0) (sym c.new-repeated.ensures.items) (marks_none c.args.rules.now);
      known = λ key. subst (λ es. Known (lookup (λ y. bytes_eq key.now y.now) es) [] key.now) (sym c.new-names.ensures.empty) (known_none key.now);
    }

pub loop-rule-preserved : goal.loop-rule-preserved
loop-rule-preserved c =
    let rules = c.args.rules.now in
    let i = c.loop-rule.rule-index in
    let rule = c.rule-item.result in
    let at = read_at rules i rule (omega arith) c.rule-item.is in
    record {
      marks = marks_more rules i rule c.loop-rule.repeated.items _ c.is_some.result c.in_ok-earlier.earlier c.as_slice.result.now at c.loop-rule.invariant.marks c.in_ok-push.ensures.items c.is_some.ensures c.as_slice.ensures
          (subst (λ o. Known o (take i rules) c.as_slice.result.now) (sym c.in_ok-earlier.ensures.old) (c.loop-rule.invariant.known c.as_slice.result));
      known = λ q. subst (λ o. Known o (take (i + 1) rules) q.now) (sym (c.in_ok-earlier.ensures.updates.0 q))
          (known_more rules i rule c.as_slice.result.now q.now _ (omega arith) at c.as_slice.ensures (c.loop-rule.invariant.known q) _ refl);
    }

pub returns : goal.returns
returns c = marks_all c.args.rules.now c.loop-rule.rule-index c.loop-rule.repeated.items (omega arith) c.loop-rule.invariant.marks
