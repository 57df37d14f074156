use Rattle.depth_first.proofs.Common.{◌≡◌, ◌++◌, ◌∷◌, [], ap, ◌∙◌, StepFollows, clauses_with, Step, negations_of, decisions, reasons, IsLearnedStep, marked_entries}
use Rattle.depth_first.proofs.Options.{IfOk_both}
use Rattle.depth_first.proofs.LearnedStep.{learned_follows}
use Rattle.depth_first.proofs.learned.learned.Goals as goal

pub returns-clause-shown : goal.returns-clause-shown
returns-clause-shown c =
    let clauses = clauses_with c.args.cnf.now c.args.log.now in
    let entries = c.args.trail.now.entries.items in
    let conflict = c.args.conflict in
    let involved = c.in_ok-involved.involved.items in
    IfOk_both c.step_of.result (λ (s : Step). s.clause ≡ negations_of (decisions entries)) (λ (s : Step). s.hints ≡ reasons (marked_entries c.deref.result.now entries) ++ conflict ∷ [])
    (IsLearnedStep clauses entries conflict)
    (λ s clause hints.
    record {
      marks = involved;
      involved = c.in_ok-involved.ensures.marks;
      clause_is = clause;
      hints_are = hints ∙ ap (λ ms. reasons (marked_entries ms entries) ++ conflict ∷ []) c.deref.ensures.value;
    }) c.step_of.ensures.clause c.step_of.ensures.hints

pub returns-clause-follows : goal.returns-clause-follows
returns-clause-follows c =
    let set = c.args.cnf.now in
    let log = c.args.log.now in
    let trail = c.args.trail.now in
    let entries = trail.entries.items in
    let conflict = c.args.conflict in
    let involved = c.in_ok-involved.involved.items in
    IfOk_both c.step_of.result (λ (s : Step). s.clause ≡ negations_of (decisions entries)) (λ (s : Step). s.hints ≡ reasons (marked_entries c.deref.result.now entries) ++ conflict ∷ [])
    (StepFollows set (clauses_with set log))
    (λ s clause hints.
    let shown : IsLearnedStep (clauses_with set log) entries conflict s =
    record {
      marks = involved;
      involved = c.in_ok-involved.ensures.marks;
      clause_is = clause;
      hints_are = hints ∙ ap (λ ms. reasons (marked_entries ms entries) ++ conflict ∷ []) c.deref.ensures.value;
    } in
    learned_follows set trail.values.items log entries conflict s trail.table trail.fresh c.requires.variables c.requires.caused c.requires.falsified shown)
    c.step_of.ensures.clause c.step_of.ensures.hints
