-- What the lookup of a name finds.
use Rattle.rule_reader.proofs.Common.{◌≡◌, inl, inr, ℕ, ◌-◌, ◌<◌, List, length, Option, None, Some, refl, sym, ap, subst, ◌∙◌, arith, slice_get, Contains, MatchOption, RawRule, RawStatement, Contains-from_get, Names, AssignsAt, AreInputs, IsInput, IsConstant, IsRoot, AreNames, HasName, Finds}
use Rattle.rule_parse.specs.declared.raw.RawArgument.TheVariants as raw_arguments
use Rattle.rule_core.specs.declared.rule.Register.{Register}
use Rattle.rule_core.specs.declared.rule.Register.TheVariants as registers
use Rattle.rule_reader.specs.declared.place.UseSite.TheVariants as places

module _ (source : List RawStatement) (names : Names) (are : AreNames source names) (name : List ℕ) where
  pub input_of : Contains names.inputs name → IsInput source name
  input_of among = let (q, (a, at, (is, free))) = (are.inputs.each name).0 among in ((q, at ∙ ap (λ x. Some x) is), free)

  pub of_input : IsInput source name → Contains names.inputs name
  of_input input = (are.inputs.each name).1 (input.0.0, (raw_arguments.Register name, input.0.1, (refl, input.1)))

  pub constant_of : Contains names.constants name → IsConstant source name
  constant_of among = let (q, (a, at, is)) = (are.constants.each name).0 among in (q, at ∙ ap (λ x. Some x) is)

  pub of_constant : IsConstant source name → Contains names.constants name
  of_constant (q, at) = (are.constants.each name).1 (q, (raw_arguments.Constant name, at, refl))

module _ (raw : RawRule) (names : Names) (are : AreNames raw.source names) (name : List ℕ) where
  abbrev Free : List RawStatement → ℕ → Type 0
  Free statements before = (k : ℕ) → k < before → ¬ AssignsAt statements k name

  abbrev IsInputOf : Option Register → Type 0
  IsInputOf found = MatchOption found (¬ Contains names.inputs name) (λ r. (k : ℕ) × (r ≡ registers.Input k) × (slice_get names.inputs k ≡ Some name))

  input_here : (k : ℕ) → slice_get names.inputs k ≡ Some name → IsInput raw.source name
  input_here k at = input_of raw.source names are name (Contains-from_get names.inputs k name at)

  -- in a source statement: no earlier one assigns it, so it is an input
  pub found_in_source : (place : ℕ) (half : List RawStatement) (found : Option Register) → half ≡ raw.source → Free half place → IsInputOf found → Finds raw names (places.Source place) name found
  found_in_source place half None is free no_input = λ may. elim may [
    | inl input ↦ no_input (of_input raw.source names are name input)
    | inr (j, lt, at) ↦ free j lt (subst (λ ss. AssignsAt ss j name) (sym is) at)
  ]
  found_in_source place half (Some r) is free (k, e, at) = (inl (input_here k at), subst (λ x. HasName raw names x name) (sym e) at)

  -- in `Pre:` and `Wit:`: it is no temporary, so it is an input
  pub found_before_root : (half : List RawStatement) (found : Option Register) → half ≡ raw.source → Free half (length half - 1) → IsInputOf found → Finds raw names places.Heading name found
  found_before_root half None is free no_input = λ may. elim may [
    | inl input ↦ no_input (of_input raw.source names are name input)
    | inr (j, lt, at) ↦ free j (let e : length half ≡ length raw.source = ap length is in omega arith) (subst (λ ss. AssignsAt ss j name) (sym is) at)
  ]
  found_before_root half (Some r) is free (k, e, at) = (inl (input_here k at), subst (λ x. HasName raw names x name) (sym e) at)

  pub found_temporary : (half : List RawStatement) (k : ℕ) → half ≡ raw.source → k < length half - 1 → AssignsAt half k name → Finds raw names places.Heading name (Some (registers.Source k))
  found_temporary half k is lt at =
      let at' : AssignsAt raw.source k name = subst (λ ss. AssignsAt ss k name) is at in
      (inr (k, (let e : length half ≡ length raw.source = ap length is in omega arith), at'), at')

  -- in a target statement: no earlier one assigns it
  pub found_in_target : (place : ℕ) (half : List RawStatement) (found : Option Register) → half ≡ raw.target → ¬ IsRoot raw.source name → Free half place → Finds raw names places.Heading name found → Finds raw names (places.Target place) name found
  found_in_target place half None is not_root free none = λ may. elim may.1 [
    | inl input ↦ none (inl input)
    | inr (inl temporary) ↦ none (inr temporary)
    | inr (inr (j, lt, at)) ↦ free j lt (subst (λ ss. AssignsAt ss j name) (sym is) at)
  ]
  found_in_target place half (Some r) is not_root free (may, has) = elim may [
    | inl input ↦ ((not_root, inl input), has)
    | inr temporary ↦ ((not_root, inr (inl temporary)), has)
  ]

-- a name is an input's where it is among the inputs
pub among_inputs : (source : List RawStatement) (inputs : List (List ℕ)) (name : List ℕ) → AreInputs source inputs → (Contains inputs name → IsInput source name) × (IsInput source name → Contains inputs name)
among_inputs source inputs name are = (
  λ among. let (q, (a, at, (is, free))) = (are.each name).0 among in ((q, at ∙ ap (λ x. Some x) is), free),
  λ input. (are.each name).1 (input.0.0, (raw_arguments.Register name, input.0.1, (refl, input.1))),
)
