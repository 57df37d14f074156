use Rattle.strategy.proofs.Common.{function_of, placed_match, slice_get_within, stands_there}
use Rattle.strategy.proofs.Chosen.{is_true, ready_there}
use Rattle.strategy.proofs.Choosing.{no_number_keeps, unread_keeps}
use Rattle.draft_steps.proofs.OneStep.{root_stands}
use Rattle.strategy.proofs.folding.may_choose.Goals as goal

pub bounds-rules-chosen : goal.bounds-rules-chosen
bounds-rules-chosen c = slice_get_within c.args.rules.now c.args.chosen.now.rule c.requires.matches.1.rule c.requires.matches.1.is_rule

pub is_unread_at_ends-requires-clause-root : goal.is_unread_at_ends-requires-clause-root
is_unread_at_ends-requires-clause-root c =
    let d = c.args.draft.now in
    let m = c.args.chosen.now in
    let (rule, typed, matches) = ready_there c.args.rules.now (function_of d) (placed_match d m) c.index-rules-chosen.result c.requires.ready c.requires.matches.1 c.index-rules-chosen.is in
    stands_there d c.requires.settled.whole m.binding.block m.binding.place (root_stands d c.requires.settled c.index-rules-chosen.result m.binding c.requires.checks rule matches)

pub returns-then-not-may_put_number : goal.returns-then-not-may_put_number
returns-then-not-may_put_number c none =
    no_number_keeps c.args.rules.now c.args.draft.now c.args.chosen.now c.index-rules-chosen.result c.index-rules-chosen.is (c.may_put_number.ensures c.if-not-may_put_number.true)

pub returns : goal.returns
returns c kept =
    let d = c.args.draft.now in
    let m = c.args.chosen.now in
    let (rule, typed, matches) = ready_there c.args.rules.now (function_of d) (placed_match d m) c.index-rules-chosen.result c.requires.ready c.requires.matches.1 c.index-rules-chosen.is in
    unread_keeps c.args.rules.now d m c.index-rules-chosen.result c.index-rules-chosen.is c.requires.settled
    (root_stands d c.requires.settled c.index-rules-chosen.result m.binding c.requires.checks rule matches)
    (c.is_unread_at_ends.ensures (is_true c.is_unread_at_ends.result kept))
