use Rattle.strategy.proofs.Common.{◌≡◌, sym, subst, ◌∙◌, get_or_from_slice_get, slice_get_within, IsRewritten, IsRewrittenAt, Rule, function_of, placed_match}
use Rattle.strategy.proofs.Chosen.{ready_there}
use Rattle.strategy.proofs.Sizes.{rewritten_countable}
use Rattle.strategy.proofs.folding.rewritten_at.Goals as goal

pub bounds-rules-chosen : goal.bounds-rules-chosen
bounds-rules-chosen c = slice_get_within c.args.rules.now c.args.chosen.now.rule c.requires.matches.1.rule c.requires.matches.1.is_rule

pub apply-requires-clause-rule : goal.apply-requires-clause-rule
apply-requires-clause-rule c =
    (ready_there c.args.rules.now (function_of c.args.draft) (placed_match c.args.draft c.args.chosen.now) c.index-rules-chosen.result c.requires.ready c.requires.matches.1 c.index-rules-chosen.is).0

pub apply-requires-clause-matches : goal.apply-requires-clause-matches
apply-requires-clause-matches c =
    (c.requires.matches.0, (ready_there c.args.rules.now (function_of c.args.draft) (placed_match c.args.draft c.args.chosen.now) c.index-rules-chosen.result c.requires.ready c.requires.matches.1 c.index-rules-chosen.is).2)

pub returns-clause-rewritten : goal.returns-clause-rewritten
returns-clause-rewritten c =
    let m = placed_match c.args.draft c.args.chosen.now in
    let put : IsRewrittenAt c.args.rules.now c.args.draft c.args.chosen.now c.in_ok-f.f = λ rule at.
    subst (λ (r : Rule). IsRewritten (function_of c.args.draft) m.binding r c.in_ok-f.f) (c.index-rules-chosen.is ∙ get_or_from_slice_get c.args.rules.now m.rule rule c.index-rules-chosen.result at) c.in_ok-f.ensures in
    put

pub returns-clause-checks : goal.returns-clause-checks
returns-clause-checks c =
    let old = function_of c.args.draft in
    let m = placed_match c.args.draft c.args.chosen.now in
    let read = c.index-rules-chosen.result in
    let (rule, typed, matches) = ready_there c.args.rules.now old m read c.requires.ready c.requires.matches.1 c.index-rules-chosen.is in
    c.rewritten_functions_meet_checks.ensures.checks c.requires.matches.0 old c.in_ok-f.f m.binding.block m.binding.place read m.binding rule typed c.requires.checks c.requires.numbers matches c.in_ok-f.ensures

pub returns-clause-numbers : goal.returns-clause-numbers
returns-clause-numbers c =
    let old = function_of c.args.draft in
    let m = placed_match c.args.draft c.args.chosen.now in
    let read = c.index-rules-chosen.result in
    let (rule, typed, matches) = ready_there c.args.rules.now old m read c.requires.ready c.requires.matches.1 c.index-rules-chosen.is in
    c.rewritten_functions_meet_checks.ensures.numbers c.requires.matches.0 old c.in_ok-f.f m.binding.block m.binding.place read m.binding rule typed c.requires.checks c.requires.numbers matches c.in_ok-f.ensures

pub returns-clause-countable : goal.returns-clause-countable
returns-clause-countable c steps countable =
    let old = function_of c.args.draft in
    let m = placed_match c.args.draft c.args.chosen.now in
    let read = c.index-rules-chosen.result in
    let (rule, typed, matches) = ready_there c.args.rules.now old m read c.requires.ready c.requires.matches.1 c.index-rules-chosen.is in
    rewritten_countable steps old c.in_ok-f.f read m.binding rule.few_in_target countable c.in_ok-f.ensures
