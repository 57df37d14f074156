use Rattle.first_uip.proofs.Common.{length, sym, ◌∙◌, subst, VariablesBelow}
use Rattle.first_uip.proofs.analysis.analyse_in.Goals as goal

pub learned_of-requires-clause-shown : goal.learned_of-requires-clause-shown
learned_of-requires-clause-shown c = c.deref.ensures.value ∙ c.in_ok-shown.ensures.shown

pub learned_of-requires-clause-within : goal.learned_of-requires-clause-within
learned_of-requires-clause-within c =
    subst (VariablesBelow (length c.give_parts-point.new.roles)) (sym c.deref.ensures.value) c.in_ok-shown.ensures.within

pub returns-clause-within : goal.returns-clause-within
returns-clause-within c =
    subst (λ n. VariablesBelow n c.in_ok-shown.shown.items) (c.give_parts-point.auto.roles ∙ c.requires.size) c.in_ok-shown.ensures.within
