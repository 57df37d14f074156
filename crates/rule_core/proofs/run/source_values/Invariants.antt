use Rattle.rule_core.proofs.Common.{◌≡◌, [], length, drop, take, Ending, Follows, holding_source, at_start, shown, ValuesFit}
use Rattle.rule_core.proofs.run.source_values.Given as goal

abbrev pub invariant-loop-place : goal.invariant-loop-place
invariant-loop-place l = record {
  count : length l.values.items ≡ l.place;
  fit : ValuesFit l.given.typing.now l.rule.source l.values.items;
  follows : (end : Ending)
      → Follows l.given.typing.now (shown l.given) holding_source (drop l.place (take l.count l.rule.source)) (record { inputs = l.inputs; source = l.values.items; target = [] }) end
      → Follows l.given.typing.now (shown l.given) holding_source (take l.count l.rule.source) (at_start l.inputs) end;
}
