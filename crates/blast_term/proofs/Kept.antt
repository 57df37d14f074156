-- Where a circuit keeps its older literals, a scope over these stands for the same as before.
use Rattle.blast_term.proofs.Common.{◌≡◌, Bool, List, refl, sym, ◌∙◌, Ghosts, Keeps, Meanings, AllOwn-kept, AllAll-kept, values-kept, numbers_held-kept, Scope, seen, ScopeIsOwn, MeansNames}

module _ {C L : Type 0} {state : Ghosts C L} {old new : C} (keeps : Keeps state old new) where
  pub scope_own-kept : (s : Scope L) → ScopeIsOwn (state.has_literal old) s → ScopeIsOwn (state.has_literal new) s
  scope_own-kept s own = record {
    inputs = AllOwn-kept keeps s.inputs.now own.inputs;
    source = AllOwn-kept keeps s.source.now own.source;
    target = AllOwn-kept keeps s.target.now own.target;
    constants = AllAll-kept keeps s.constants.now own.constants;
    choices = AllAll-kept keeps s.choices.now own.choices;
    terms = AllAll-kept keeps s.terms.now own.terms;
  }

  pub seen-kept : (inputs : List Bool) → state.admits old inputs → (s : Scope L) → ScopeIsOwn (state.has_literal old) s → seen (state.value new inputs) s ≡ seen (state.value old inputs) s
  seen-kept inputs admitted s own =
      rw (values-kept keeps inputs admitted s.inputs.now own.inputs, values-kept keeps inputs admitted s.source.now own.source, values-kept keeps inputs admitted s.target.now own.target) refl

  pub names-kept : (inputs : List Bool) → state.admits old inputs → (s : Scope L) (names : Meanings) → ScopeIsOwn (state.has_literal old) s → MeansNames (state.value old inputs) s names → MeansNames (state.value new inputs) s names
  names-kept inputs admitted s names own is = record {
    constants = is.constants ∙ sym (numbers_held-kept keeps inputs admitted s.constants.now own.constants);
    choices = is.choices ∙ sym (numbers_held-kept keeps inputs admitted s.choices.now own.choices);
    registers = λ r. rw (seen-kept inputs admitted s own) (is.registers r);
  }
