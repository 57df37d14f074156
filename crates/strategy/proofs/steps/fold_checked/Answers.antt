use Rattle.strategy.proofs.Common.{on_ok_weaker, folded_is_folded, folded_numbers_fit}
use Rattle.strategy.proofs.Sizes.{folded_countable}
use Rattle.strategy.proofs.steps.fold_checked.Goals as goal

pub fold-requires-clause-formed : goal.fold-requires-clause-formed
fold-requires-clause-formed c = c.requires.checks.formed

pub returns-clause-again : goal.returns-clause-again
returns-clause-again c = on_ok_weaker c.fold.result (folded_is_folded c.args.f.now c.fold.new.f) c.fold.ensures.ok

pub returns-clause-checks : goal.returns-clause-checks
returns-clause-checks c = on_ok_weaker c.fold.result (c.every_folded_function_refines_the_old.ensures.checks c.args.f.now c.fold.new.f c.requires.checks) c.fold.ensures.ok

pub returns-clause-numbers : goal.returns-clause-numbers
returns-clause-numbers c =
    on_ok_weaker c.fold.result (folded_numbers_fit c.every_folded_number_was_there.ensures c.args.f.now c.fold.new.f c.requires.numbers) c.fold.ensures.ok

pub returns-clause-countable : goal.returns-clause-countable
returns-clause-countable c = on_ok_weaker c.fold.result (λ folded steps few. folded_countable steps c.args.f.now c.fold.new.f few folded) c.fold.ensures.ok
