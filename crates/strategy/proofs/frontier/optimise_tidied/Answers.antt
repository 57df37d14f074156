use Rattle.strategy.proofs.Common.{◌≡◌, ℕ, sym, subst, arith}
use Rattle.strategy.proofs.Stepping.{Along, no_step_yet, spent}
use Rattle.strategy.proofs.frontier.optimise_tidied.Goals as goal

pub returns-then-options-eq0 : goal.returns-then-options-eq0
returns-then-options-eq0 c =
    let across = c.args.rules.now.across in
    let rules = c.args.rules.now.all.now in
    let conflicts = c.args.options.conflicts in
    let steps = c.args.options.steps in
    let f = c.args.f in
    let before = c.args.verdicts.now in
    let none : steps ≡ 0 = omega arith in
    let made = c.in_ok-made.made in
    let along = subst (λ (n : ℕ). Along c.args.options.fold across rules conflicts steps n f f before before) (sym none)
    (no_step_yet c.args.options.fold across rules conflicts steps f before c.requires.checks c.requires.numbers c.requires.folded c.requires.countable) in
    spent c.args.options.fold across rules conflicts steps made.1.count f f made.0 before before c.search_last.new.verdicts made.1.limited along
    c.in_ok-made.ensures.function c.in_ok-made.ensures.count c.in_ok-made.ensures.asks
