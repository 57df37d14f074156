use Rattle.strategy.proofs.Common.{on_ok_weaker}
use Rattle.strategy.proofs.steps.fold_and_clean.Goals as goal

pub clean_checked-requires-clause-countable : goal.clean_checked-requires-clause-countable
clean_checked-requires-clause-countable c = c.in_ok-fold_checked.ensures.countable 0 c.requires.countable

pub returns-clause-tidied : goal.returns-clause-tidied
returns-clause-tidied c =
    on_ok_weaker c.clean_checked.result (λ cleaned. (c.fold_checked.new.f, c.in_ok-fold_checked.ensures.folded, cleaned)) c.clean_checked.ensures.cleaned

pub returns-clause-folded : goal.returns-clause-folded
returns-clause-folded c =
    on_ok_weaker c.clean_checked.result (c.cleaning_keeps_functions_folded.ensures c.fold_checked.new.f c.clean_checked.new.f c.in_ok-fold_checked.ensures.again) c.clean_checked.ensures.cleaned

pub returns-clause-countable : goal.returns-clause-countable
returns-clause-countable c =
    on_ok_weaker c.clean_checked.result (λ countable steps few. countable steps (c.in_ok-fold_checked.ensures.countable steps few)) c.clean_checked.ensures.countable
