use Rattle.strategy.proofs.Common.{◌≡◌, subst, Function, OptimisesFunction}
use Rattle.strategy.proofs.Entering.{entry_optimised}
use Rattle.strategy.proofs.module.optimise_copy.Goals as goal

pub returns : goal.returns
returns c =
    let across = c.args.rules.now.across in
    let rules = c.args.rules.now.all.now in
    let options = c.args.options in
    let made = c.in_ok-made.made.0 in
    let before = c.args.verdicts.now in
    let after = c.optimise_function.new.verdicts in
    let turns = c.in_ok-made.made.1 in
    let same : c.in_ok-f.f ≡ c.args.original.now = c.in_ok-f.ensures in
    entry_optimised options.fold across rules options.conflicts options.steps c.args.original.now made before after c.args.all.now c.push.new.self turns.count turns.limited
    (subst (λ (f : Function). OptimisesFunction options.fold across rules options.conflicts options.steps f made before after turns.count turns.limited) same c.in_ok-made.ensures)
    c.in_ok-push.ensures.counts c.in_ok-push.ensures.limited
