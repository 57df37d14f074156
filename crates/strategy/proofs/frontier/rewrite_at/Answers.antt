use Rattle.strategy.proofs.Common.{Bool, true, false, sym, subst, function_of, HasNothingToFold, IsSteppedAt}
use Rattle.strategy.proofs.frontier.rewrite_at.Goals as goal

pub rewrite_and_fold-requires-clause-folded : goal.rewrite_and_fold-requires-clause-folded
rewrite_and_fold-requires-clause-folded c = subst (λ (folding : Bool). HasNothingToFold folding (function_of c.args.frontier.draft)) c.if-folding.true c.requires.folded

pub returns-then-folding-clause-stepped : goal.returns-then-folding-clause-stepped
returns-then-folding-clause-stepped c =
    subst (λ (folding : Bool). IsSteppedAt folding c.args.rules.now.all.now c.args.frontier.draft c.in_ok-folded.folded.draft c.args.chosen.now) (sym c.if-folding.true) c.in_ok-folded.ensures.stepped

pub returns-then-folding-clause-folded : goal.returns-then-folding-clause-folded
returns-then-folding-clause-folded c = subst (λ (folding : Bool). HasNothingToFold folding (function_of c.in_ok-folded.folded.draft)) (sym c.if-folding.true) c.in_ok-folded.ensures.folded

pub returns-clause-stepped : goal.returns-clause-stepped
returns-clause-stepped c =
    subst (λ (folding : Bool). IsSteppedAt folding c.args.rules.now.all.now c.args.frontier.draft c.in_ok-next.next.draft c.args.chosen.now) (sym c.if-folding.false) c.in_ok-next.ensures.stepped

pub returns-clause-folded : goal.returns-clause-folded
returns-clause-folded c = subst (λ (folding : Bool). HasNothingToFold folding (function_of c.in_ok-next.next.draft)) (sym c.if-folding.false) tt

pub returns-clause-room : goal.returns-clause-room
returns-clause-room c steps room countable = c.in_ok-next.ensures.room steps room
