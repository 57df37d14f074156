-- Where a circuit keeps its older literals, the constants, choices and terms that statements read stay the same.
use Rattle.blast_rule.proofs.Common.{Bool, List, sym, ◌∙◌, Ghosts, Keeps, Given, numbers_held-kept, numbers_of-kept, Scope, ScopeIsOwn, IsGiven}

module _ {C L : Type 0} {state : Ghosts C L} {old new : C} (keeps : Keeps state old new) where
  pub given-kept : (inputs : List Bool) → state.admits old inputs → (s : Scope L) (given : Given) → ScopeIsOwn (state.has_literal old) s → IsGiven (state.value old inputs) s given → IsGiven (state.value new inputs) s given
  given-kept inputs admitted s given own is = record {
    constants = is.constants ∙ sym (numbers_held-kept keeps inputs admitted s.constants.now own.constants);
    choices = is.choices ∙ sym (numbers_held-kept keeps inputs admitted s.choices.now own.choices);
    terms = is.terms ∙ sym (numbers_of-kept keeps inputs admitted s.terms.now own.terms);
  }
