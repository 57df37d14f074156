-- The parts of a scope.
use Rattle.blast_rule.proofs.Common.{◌≡◌, Bool, List, length, map, refl, sym, ap, ◌∙◌, bits, number_of, Given, number_or_zero, Scope, number_held, holds, seen, word_shape, given_shape, IsGiven}
use Rattle.blast_value.specs.declared.held.Held.{Held}

-- the scope has these literals of registers, and these words
pub record Reads {L : Type 0} (s : Scope L) (inputs source target : List (Held L)) (constants choices terms : List (List L)) : Type 0 where
  pub inputs_are : s.inputs.now ≡ inputs
  pub source_are : s.source.now ≡ source
  pub target_are : s.target.now ≡ target
  pub constants_are : s.constants.now ≡ constants
  pub choices_are : s.choices.now ≡ choices
  pub terms_are : s.terms.now ≡ terms

module _ {L : Type 0} (s : Scope L) (inputs source target : List (Held L)) (constants choices terms : List (List L)) (reads : Reads s inputs source target constants choices terms) where
  pub seen_of : (value : L → Bool) → seen value s ≡ holds value inputs source target
  seen_of value = rw (reads.inputs_are, reads.source_are, reads.target_are) refl

  pub given_of : (value : L → Bool) (given : Given) → given.constants ≡ map (number_held value) constants → given.choices ≡ map (number_held value) choices → map number_or_zero given.terms ≡ map (number_of value) terms → IsGiven value s given
  given_of value given first second third = record {
    constants = first ∙ ap (map (number_held value)) (sym reads.constants_are);
    choices = second ∙ ap (map (number_held value)) (sym reads.choices_are);
    terms = third ∙ ap (map (number_of value)) (sym reads.terms_are);
  }

  pub given_shape_of : given_shape s ≡ record { constants = map word_shape constants; choices = map word_shape choices; terms = map (λ word. bits (length word) 0) terms }
  given_shape_of = rw (reads.constants_are, reads.choices_are, reads.terms_are) refl
