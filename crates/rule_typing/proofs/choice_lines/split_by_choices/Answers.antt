use Rattle.rule_typing.proofs.Common.{get_or, Choice, LineOf, choice_pairs, choice_naming}
use Rattle.rule_typing.proofs.Walks.{AreOne, stands_still, split_here, none_splits}
use Rattle.rule_typing.proofs.Among.{one_further}
use Rattle.rule_typing.proofs.choice_lines.split_by_choices.Goals as goal

-- the default for a place without a choice
abbrev none_choice : Choice
none_choice = record { place = 0; class = 0 }

pub returns-in-Some : goal.returns-in-Some
returns-in-Some c = split_here (LineOf c.args.rule.now (choice_pairs c.args.rule.now c.args.half) (choice_naming c.args.half)) c.args.choices.now c.loop-choice.choice-index (get_or c.args.choices.now c.loop-choice.choice-index none_choice) c.in-Some.pair (stands_still c.args.choices.now c.loop-choice.choice-index none_choice c.loop-choice-test.true) c.loop-choice-test.true c.in-Some.ensures

pub loop-choice-preserved : goal.loop-choice-preserved
loop-choice-preserved c = one_further (λ x. AreOne ((LineOf c.args.rule.now (choice_pairs c.args.rule.now c.args.half) (choice_naming c.args.half)) x)) c.args.choices.now c.loop-choice.choice-index (get_or c.args.choices.now c.loop-choice.choice-index none_choice) (stands_still c.args.choices.now c.loop-choice.choice-index none_choice c.loop-choice-test.true) c.in_default.ensures c.loop-choice.invariant

pub returns : goal.returns
returns c = none_splits (LineOf c.args.rule.now (choice_pairs c.args.rule.now c.args.half) (choice_naming c.args.half)) c.args.choices.now c.loop-choice.choice-index c.loop-choice.invariant c.loop-choice-test.false
