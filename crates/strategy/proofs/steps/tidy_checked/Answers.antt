use Rattle.strategy.proofs.Common.{Bool, true, false, OnOk, sym, subst, on_ok_weaker, HasNothingToFold, IsTidied}
use Rattle.strategy.proofs.steps.tidy_checked.Goals as goal

pub returns-then-folding-clause-tidied : goal.returns-then-folding-clause-tidied
returns-then-folding-clause-tidied c =
    subst (λ (folding : Bool). OnOk c.fold_and_clean.result (IsTidied folding c.args.f.now c.fold_and_clean.new.f)) (sym c.if-folding.true) c.fold_and_clean.ensures.tidied

pub returns-then-folding-clause-folded : goal.returns-then-folding-clause-folded
returns-then-folding-clause-folded c =
    subst (λ (folding : Bool). OnOk c.fold_and_clean.result (HasNothingToFold folding c.fold_and_clean.new.f)) (sym c.if-folding.true) c.fold_and_clean.ensures.folded

pub returns-clause-tidied : goal.returns-clause-tidied
returns-clause-tidied c =
    subst (λ (folding : Bool). OnOk c.clean_checked.result (IsTidied folding c.args.f.now c.clean_checked.new.f)) (sym c.if-folding.false) c.clean_checked.ensures.cleaned

pub returns-clause-folded : goal.returns-clause-folded
returns-clause-folded c =
    subst (λ (folding : Bool). OnOk c.clean_checked.result (HasNothingToFold folding c.clean_checked.new.f)) (sym c.if-folding.false)
    (on_ok_weaker c.clean_checked.result (λ cleaned. tt) c.clean_checked.ensures.cleaned)
