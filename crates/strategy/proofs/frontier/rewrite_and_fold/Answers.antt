use Rattle.strategy.proofs.Common.{function_of, placed_match}
use Rattle.strategy.proofs.StayingFolded.{stays_folded, tidied_alone}
use Rattle.strategy.proofs.frontier.rewrite_and_fold.Goals as goal

pub may_choose-requires-clause-matches : goal.may_choose-requires-clause-matches
may_choose-requires-clause-matches c = (c.args.rules.now.across, c.requires.matches)

pub returns-clause-stepped : goal.returns-clause-stepped
returns-clause-stepped c =
    let stepped = c.in_ok-next.ensures.stepped in
    let is = c.requires.matches in
    let old = function_of c.args.frontier.draft in
    let put = stepped.2 is.rule is.is_rule in
    let binding = (placed_match c.args.frontier.draft c.args.chosen.now).binding in
    let alike = c.may_choose.ensures c.if-may_choose.false is.rule stepped.0 is.is_rule put in
    (stepped.0, tidied_alone stepped.0 (function_of c.in_ok-next.next.draft) (stays_folded old stepped.0 is.rule binding put c.requires.folded alike) stepped.1, stepped.2)

pub returns-clause-folded : goal.returns-clause-folded
returns-clause-folded c =
    let stepped = c.in_ok-next.ensures.stepped in
    let is = c.requires.matches in
    let old = function_of c.args.frontier.draft in
    let put = stepped.2 is.rule is.is_rule in
    let binding = (placed_match c.args.frontier.draft c.args.chosen.now).binding in
    let alike = c.may_choose.ensures c.if-may_choose.false is.rule stepped.0 is.is_rule put in
    c.cleaning_keeps_functions_folded.ensures stepped.0 (function_of c.in_ok-next.next.draft) (stays_folded old stepped.0 is.rule binding put c.requires.folded alike) stepped.1

pub returns-clause-room : goal.returns-clause-room
returns-clause-room c steps room countable = c.in_ok-next.ensures.room steps room

pub returns-then-may_choose-clause-frontier : goal.returns-then-may_choose-clause-frontier
returns-then-may_choose-clause-frontier c table others = c.in_ok-anew.ensures.frontier table

pub returns-then-may_choose-clause-room : goal.returns-then-may_choose-clause-room
returns-then-may_choose-clause-room c steps room countable = c.in_ok-anew.ensures.room steps countable
