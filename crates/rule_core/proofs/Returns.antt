-- What `run_source` and `run_target` return, from how far their statements ran.
use Rattle.rule_core.proofs.Common.{◌≡◌, ℕ, ◌-◌, ◌<◌, List, [], length, Option, None, Some, refl, sym, ◌∙◌, ap, arith, get_or, take_all, slice_get_read, Number, Value, Effect, Rule, constant_values, Undefines, Holds, GivesLast, given_by, SourceGives, TargetGives, TargetGoesOn, SourceRan, TargetRan}
use Rattle.ops.specs.declared.value.Effect.TheVariants as effects

-- the values of the terms, for parts that are equal to these
pub terms_are : (rule : Rule) (typing classes : List ℕ) (constants numbers : List Number) (items terms : List Value)
    → classes ≡ typing → numbers ≡ constants → items ≡ constant_values classes numbers rule → terms ≡ items → terms ≡ constant_values typing constants rule
terms_are rule typing classes constants numbers items terms p q r s = s ∙ r ∙ ap (λ N. constant_values N numbers rule) p ∙ ap (λ n. constant_values typing n rule) q

module _ (rule : Rule) (typing classes : List ℕ) (constants numbers choices chosen : List Number) (terms inputs read : List Value)
    (p : classes ≡ typing) (q : numbers ≡ constants) (r : chosen ≡ choices) (s : terms ≡ constant_values typing constants rule) (t : read ≡ inputs) where
  pub SourceRan-at : (count : ℕ) (values : Option (List Value)) → SourceRan classes (record { constants = numbers; choices = chosen; terms = terms }) rule read count values
      → SourceRan typing (given_by typing constants choices rule) rule inputs count values
  SourceRan-at count values ran = rw (s, p, q, r, t) at ran

module _ (rule : Rule) (typing : List ℕ) (constants choices : List Number) (inputs : List Value) where
  last : (values : List Value) (count : ℕ) (v : Value) → length values ≡ count → 0 < count → v ≡ get_or values (count - 1) v → GivesLast values (effects.Gives v)
  last values count v long some is = (v, slice_get_read values (length values) (length values - 1) v refl (omega arith) (rw (sym long) at is), refl)

  pub source_ends : (count : ℕ) → count ≡ length rule.source → SourceRan typing (given_by typing constants choices rule) rule inputs count None → SourceGives typing constants choices rule inputs effects.Undefined
  source_ends count whole ran = (Undefines, rw (take_all count rule.source (omega arith)) at ran, refl)

  pub source_returns : (count : ℕ) (values : List Value) (v : Value) → count ≡ length rule.source → 0 < length rule.source → SourceRan typing (given_by typing constants choices rule) rule inputs count (Some values)
      → v ≡ get_or values (count - 1) v → SourceGives typing constants choices rule inputs (effects.Gives v)
  source_returns count values v whole some ran is =
      (Holds (record { inputs = inputs; source = values; target = [] }), rw (take_all count rule.source (omega arith)) at ran.2, last values count v ran.0 (omega arith) is)

  -- the target, from what the source's temporaries do
  pub target_ends : SourceRan typing (given_by typing constants [] rule) rule inputs (length rule.source - 1) None → TargetGives typing constants choices rule inputs effects.Undefined
  target_ends ran = (Undefines, ran, refl)

  pub target_follows : (source : List Value) → SourceRan typing (given_by typing constants [] rule) rule inputs (length rule.source - 1) (Some source)
      → (e : Effect) → TargetGoesOn typing constants choices rule (record { inputs = inputs; source = source; target = [] }) e → TargetGives typing constants choices rule inputs e
  target_follows source ran e goes = (Holds (record { inputs = inputs; source = source; target = [] }), ran.2, goes)

  -- and from its own statements
  module _ (source : List Value) where
    pub after_ends : TargetRan typing (given_by typing constants choices rule) rule inputs source None → TargetGoesOn typing constants choices rule (record { inputs = inputs; source = source; target = [] }) effects.Undefined
    after_ends ran = (Undefines, ran, refl)

    pub after_returns : (values : List Value) (v : Value) → 0 < length rule.target → TargetRan typing (given_by typing constants choices rule) rule inputs source (Some values)
        → v ≡ get_or values (length values - 1) v → TargetGoesOn typing constants choices rule (record { inputs = inputs; source = source; target = [] }) (effects.Gives v)
    after_returns values v some ran is =
        (Holds (record { inputs = inputs; source = source; target = values }), ran.1, last values (length values) v refl (omega (arith, ran.0)) is)
