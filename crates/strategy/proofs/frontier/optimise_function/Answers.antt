use Rattle.strategy.proofs.Common.{arith}
use Rattle.strategy.proofs.Sizes.{countable_less}
use Rattle.strategy.proofs.frontier.optimise_function.Goals as goal

pub tidy_checked-requires-clause-countable : goal.tidy_checked-requires-clause-countable
tidy_checked-requires-clause-countable c = countable_less c.args.options.steps 0 c.args.f (omega arith) c.requires.countable

pub optimise_tidied-requires-clause-countable : goal.optimise_tidied-requires-clause-countable
optimise_tidied-requires-clause-countable c = c.in_ok-tidy_checked.ensures.countable c.args.options.steps c.requires.countable

pub returns : goal.returns
returns c = c.in_ok-made.ensures c.args.f c.in_ok-tidy_checked.ensures.tidied
