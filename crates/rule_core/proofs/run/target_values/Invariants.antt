use Rattle.rule_core.proofs.Common.{◌≡◌, [], length, drop, Ending, Follows, holding_target, shown, ValuesFit}
use Rattle.rule_core.proofs.run.target_values.Given as goal

abbrev pub invariant-loop-statement : goal.invariant-loop-statement
invariant-loop-statement l = record {
  count : length l.values.items ≡ l.statement-index;
  fit : ValuesFit l.given.typing.now l.rule.target l.values.items;
  follows : (end : Ending)
      → Follows l.given.typing.now (shown l.given) holding_target (drop l.statement-index l.rule.target) (record { inputs = l.inputs; source = l.source; target = l.values.items }) end
      → Follows l.given.typing.now (shown l.given) holding_target l.rule.target (record { inputs = l.inputs; source = l.source; target = [] }) end;
}
