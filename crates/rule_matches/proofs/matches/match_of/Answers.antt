use Rattle.rule_matches.proofs.Common.{ℕ, ◌<◌, List, get_or, length, slice_get-get_or, Rule, AreReady, IsReady, known_by}
use Rattle.rule_matches.proofs.Matching.{no_match, one_match}
use Rattle.rule_matches.proofs.matches.match_of.Goals as goal

-- the rule that is read off is ready
ready_there : (rules : List Rule) (r : ℕ) (d : Rule) → r < length rules → AreReady rules → IsReady (get_or rules r d)
ready_there rules r d within ready = ready r (get_or rules r d) (slice_get-get_or rules r d within)

pub match_in-requires-clause-rule : goal.match_in-requires-clause-rule
match_in-requires-clause-rule c = (ready_there c.args.rules.now.all.now c.args.rule c.index-rules-rule.result c.requires.rule c.requires.ready).checks

pub match_in-requires-clause-classes : goal.match_in-requires-clause-classes
match_in-requires-clause-classes c = (ready_there c.args.rules.now.all.now c.args.rule c.index-rules-rule.result c.requires.rule c.requires.ready).classes

pub match_in-requires-clause-typed : goal.match_in-requires-clause-typed
match_in-requires-clause-typed c = (ready_there c.args.rules.now.all.now c.args.rule c.index-rules-rule.result c.requires.rule c.requires.ready).typed

pub returns-in_default : goal.returns-in_default
returns-in_default c =
    let rules = c.args.rules.now.all.now in
    let at = slice_get-get_or rules c.args.rule c.index-rules-rule.result c.requires.rule in
    no_match c.args.rules.now.across (known_by c.args.known.now) rules c.args.f.now c.args.block c.args.place c.args.rule (get_or rules c.args.rule c.index-rules-rule.result) at c.requires.ready
    (rw c.in_default.is at c.in_ok-matched.ensures.none)

pub returns : goal.returns
returns c =
    let rules = c.args.rules.now.all.now in
    let at = slice_get-get_or rules c.args.rule c.index-rules-rule.result c.requires.rule in
    one_match c.args.rules.now.across (known_by c.args.known.now) rules c.args.f.now c.args.block c.args.place c.args.rule (get_or rules c.args.rule c.index-rules-rule.result) at c.requires.ready
    c.in-Some.binding (rw c.in-Some.is at c.in_ok-matched.ensures.ok)
