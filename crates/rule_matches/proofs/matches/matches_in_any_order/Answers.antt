use Rattle.rule_matches.proofs.Common.{get_or, refl, option_to_list, known_by, Contains-get_or, slice_get_within}
use Rattle.rule_matches.proofs.Matching.{each_rule, next_rule}
use Rattle.rule_matches.proofs.matches.matches_in_any_order.Goals as goal

pub match_of-requires-clause-rule : goal.match_of-requires-clause-rule
match_of-requires-clause-rule c =
    let rules = c.args.rules.now.all.now in
    let places = c.at-rule-items.result.now in
    let r = get_or places c.loop-rule.rule-index 0 in
    let (rule, at, is) = (((c.at-rule-items.ensures rules c.requires.by_root).same r).0 (Contains-get_or places c.loop-rule.rule-index 0 c.loop-rule-test.true)).2 in
    slice_get_within rules r rule at

pub loop-rule-preserved : goal.loop-rule-preserved
loop-rule-preserved c =
    let rules = c.args.rules.now.all.now in
    let places = c.at-rule-items.result.now in
    next_rule c.args.rules.now.across (known_by c.args.known.now) rules c.args.f.now c.args.block c.args.place places c.loop-rule.rule-index (get_or places c.loop-rule.rule-index 0)
    c.loop-rule.found c.push_if_any.new.found (option_to_list c.in_ok-matched.matched)
    c.loop-rule-test.true refl (c.at-rule-items.ensures rules c.requires.by_root).in_order c.loop-rule.invariant c.in_ok-push_if_any.ensures c.in_ok-matched.ensures

pub returns : goal.returns
returns c =
    let rules = c.args.rules.now.all.now in
    each_rule c.args.rules.now.across (known_by c.args.known.now) rules c.args.f.now c.args.block c.args.place c.inst_at-inst.result.now c.at-rule-items.result.now c.loop-rule.rule-index
    c.loop-rule.found c.requires.ready c.inst_at-inst.ensures (c.at-rule-items.ensures rules c.requires.by_root) c.loop-rule-test.false c.loop-rule.invariant
