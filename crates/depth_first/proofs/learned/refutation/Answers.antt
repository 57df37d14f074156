use Rattle.depth_first.proofs.Common.{◌≡◌, [], ◌∷◌, ◌++◌, sym, ◌∙◌, subst, StepFollows, IsRefutation, clauses_with}
use Rattle.depth_first.proofs.LearnedStep.{IsRefutation-push}
use Rattle.depth_first.proofs.learned.refutation.Goals as goal

pub returns : goal.returns
returns c =
    let set = c.args.cnf.now in
    let log = c.args.log.items in
    let step = c.in_ok-step.step in
    let follows : StepFollows set (clauses_with set log) step =
    subst (λ steps. StepFollows set (clauses_with set steps) step) c.deref.ensures.value c.in_ok-step.ensures.follows in
    let is : c.from_vec.result ≡ log ++ step ∷ [] = c.from_vec.ensures ∙ c.in_ok-push.ensures.items in
    subst (IsRefutation set) (sym is)
    (IsRefutation-push set log c.args.trail.now.entries.items step c.requires.follows follows c.in_ok-step.ensures.shown.clause_is c.requires.no_decisions)
