use Rattle.strategy.proofs.Common.{sym, subst, ◌∙◌, get_or_from_slice_get, slice_get_within, IfOk-weaker, IsRewritten, Rule, function_of, placed_match, cleaned_numbers_fit}
use Rattle.strategy.proofs.Chosen.{ready_there}
use Rattle.strategy.proofs.frontier.rewrite_draft.Goals as goal

pub bounds-rules-chosen : goal.bounds-rules-chosen
bounds-rules-chosen c = slice_get_within c.args.rules.now c.args.chosen.now.rule c.requires.matches.1.rule c.requires.matches.1.is_rule

pub step-requires-clause-rule : goal.step-requires-clause-rule
step-requires-clause-rule c =
    let old = c.args.draft in
    (ready_there c.args.rules.now (function_of old) (placed_match old c.args.chosen.now) c.index-rules-chosen.result c.requires.ready c.requires.matches.1 c.index-rules-chosen.is).0

pub step-requires-clause-typed : goal.step-requires-clause-typed
step-requires-clause-typed c =
    let old = c.args.draft in
    (ready_there c.args.rules.now (function_of old) (placed_match old c.args.chosen.now) c.index-rules-chosen.result c.requires.ready c.requires.matches.1 c.index-rules-chosen.is).1

pub step-requires-clause-matches : goal.step-requires-clause-matches
step-requires-clause-matches c =
    let old = c.args.draft in
    (c.requires.matches.0, (ready_there c.args.rules.now (function_of old) (placed_match old c.args.chosen.now) c.index-rules-chosen.result c.requires.ready c.requires.matches.1 c.index-rules-chosen.is).2)

pub returns-clause-stepped : goal.returns-clause-stepped
returns-clause-stepped c =
    let old = c.args.draft in
    let m = placed_match old c.args.chosen.now in
    let read = c.index-rules-chosen.result in
    IfOk-weaker c.step.result _ _
    (λ stepped made. (made.0, made.2, λ rule at. subst (λ (r : Rule). IsRewritten (function_of old) m.binding r made.0) (c.index-rules-chosen.is ∙ get_or_from_slice_get c.args.rules.now m.rule rule read at) made.1))
    c.step.ensures.steps

pub returns-clause-checks : goal.returns-clause-checks
returns-clause-checks c =
    let old = c.args.draft in
    let m = placed_match old c.args.chosen.now in
    let read = c.index-rules-chosen.result in
    let (rule, typed, matches) = ready_there c.args.rules.now (function_of old) m read c.requires.ready c.requires.matches.1 c.index-rules-chosen.is in
    IfOk-weaker c.step.result _ _
    (λ stepped made. c.every_cleaned_function_refines_the_old.ensures.checks made.0 (function_of stepped.0)
    (c.rewritten_functions_meet_checks.ensures.checks c.requires.matches.0 (function_of old) made.0 m.binding.block m.binding.place read m.binding rule typed c.requires.checks c.requires.numbers matches made.1) made.2)
    c.step.ensures.steps

pub returns-clause-numbers : goal.returns-clause-numbers
returns-clause-numbers c =
    let old = c.args.draft in
    let m = placed_match old c.args.chosen.now in
    let read = c.index-rules-chosen.result in
    let (rule, typed, matches) = ready_there c.args.rules.now (function_of old) m read c.requires.ready c.requires.matches.1 c.index-rules-chosen.is in
    IfOk-weaker c.step.result _ _
    (λ stepped made. cleaned_numbers_fit c.every_cleaned_number_was_there.ensures made.0 (function_of stepped.0)
    (c.rewritten_functions_meet_checks.ensures.checks c.requires.matches.0 (function_of old) made.0 m.binding.block m.binding.place read m.binding rule typed c.requires.checks c.requires.numbers matches made.1)
    (c.rewritten_functions_meet_checks.ensures.numbers c.requires.matches.0 (function_of old) made.0 m.binding.block m.binding.place read m.binding rule typed c.requires.checks c.requires.numbers matches made.1) made.2)
    c.step.ensures.steps
