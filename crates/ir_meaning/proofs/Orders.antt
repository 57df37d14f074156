-- Refinement is reflexive and transitive.
use Rattle.ir_meaning.proofs.Common.{List, refl, sym, subst, ◌∙◌, AllowsValue-refl, AllowsValue-trans, Parameter, Outcome, AreArguments, AllowsOutcome, RefinementIsTransitive, RefinementIsReflexive}
use Rattle.ir_core.specs.declared.outcome.Outcome.TheVariants as outcomes

outcome_allows_itself : (o : Outcome) → AllowsOutcome o o
outcome_allows_itself outcomes.Undefined = tt
outcome_allows_itself (outcomes.Return v) = AllowsValue-refl v
outcome_allows_itself (outcomes.Running b) = refl

outcomes_transitive : (o p q : Outcome) → AllowsOutcome o p → AllowsOutcome p q → AllowsOutcome o q
outcomes_transitive outcomes.Undefined p q a b = tt
outcomes_transitive (outcomes.Return v) outcomes.Undefined q a b = absurd a
outcomes_transitive (outcomes.Return v) (outcomes.Return w) outcomes.Undefined a b = absurd b
outcomes_transitive (outcomes.Return v) (outcomes.Return w) (outcomes.Return x) a b = AllowsValue-trans v w x a b
outcomes_transitive (outcomes.Return v) (outcomes.Return w) (outcomes.Running c) a b = absurd b
outcomes_transitive (outcomes.Return v) (outcomes.Running c) q a b = absurd a
outcomes_transitive (outcomes.Running c) p q a b = subst (λ x. AllowsOutcome x q) a b

pub refines_itself : RefinementIsReflexive
refines_itself f = record { name = refl; before = refl; width = refl; parameters = refl; after = refl; blocks = refl; outcomes = λ args n o are h. (o, h, outcome_allows_itself o) }

pub refines_transitively : RefinementIsTransitive
refines_transitively f g h p q = record {
  name = q.name ∙ p.name;
  before = q.before ∙ p.before;
  width = q.width ∙ p.width;
  parameters = q.parameters ∙ p.parameters;
  after = q.after ∙ p.after;
  blocks = q.blocks ∙ p.blocks;
  outcomes = λ args n o are has.
      let middle = q.outcomes args n o (subst (λ (ps : List Parameter). AreArguments ps args) (sym p.parameters) are) has in
      let was = p.outcomes args n middle.0 are middle.1 in
      (was.0, was.1, outcomes_transitive was.0 middle.0 o was.2 middle.2);
}
