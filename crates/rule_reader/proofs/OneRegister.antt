-- In a rule as written whose assignments are without faults a name is that of one register.
use Rattle.rule_reader.proofs.Common.{◌≡◌, ◌⊎◌, inl, inr, ℕ, suc, ◌<◌, List, length, Some, refl, sym, ap, subst, arith, slice_get, cases_lt, slice_get_within, RawRule, RawStatement, Contains-from_get, Names, AssignsAt, IsInput, IsTemporary, IsRoot, AreNames, HasName, StandsAt, AssignsAgain, MayUse, RedefinesAt}
use Rattle.rule_core.specs.declared.rule.Register.{Register}
use Rattle.rule_core.specs.declared.rule.Register.TheVariants as registers
use Rattle.rule_reader.specs.declared.place.UseSite.TheVariants as places
use Rattle.rule_reader.proofs.Places.{order}
use Rattle.rule_reader.proofs.Found.{input_of as input_of_names}
use Rattle.rule_reader.proofs.Meaning.{assigning_statement, assigns_within}

-- no half assigns a register twice, and the target assigns no input and no temporary
pub record IsPlain (raw : RawRule) : Type 0 where
  pub source_once : (line : ℕ) → ¬ StandsAt raw.source (AssignsAgain raw.source) line
  pub target_once : (line : ℕ) → ¬ StandsAt raw.target (AssignsAgain raw.target) line
  pub stays : (line : ℕ) → ¬ RedefinesAt raw line

again : (statements : List RawStatement) → ((line : ℕ) → ¬ StandsAt statements (AssignsAgain statements) line) → (j k : ℕ) (name : List ℕ) → j < k → AssignsAt statements j name → AssignsAt statements k name → ⊥
again statements once j k name lt first second =
    let (s, at, is) = assigning_statement statements k name second in
    once s.line (k, s, at, (j, lt, subst (λ n. AssignsAt statements j n) (sym is) first), refl)

-- a register is assigned by one statement
pub one_place : (statements : List RawStatement) → ((line : ℕ) → ¬ StandsAt statements (AssignsAgain statements) line) → (j k : ℕ) (name : List ℕ) → AssignsAt statements j name → AssignsAt statements k name → j ≡ k
one_place statements once j k name p q = elim (order j k) [ inl lt ↦ absurd (again statements once j k name lt p q) | inr (inl e) ↦ e | inr (inr gt) ↦ absurd (again statements once k j name gt q p) ]

-- what the source assigns is a temporary or the root
pub temporary_or_root : (source : List RawStatement) (k : ℕ) (name : List ℕ) → AssignsAt source k name → IsTemporary source name ⊎ IsRoot source name
temporary_or_root source k name at =
    let within : k < length source = assigns_within source k name at in
    elim (order (suc k) (length source)) [ inl lt ↦ inl (k, lt, at) | inr (inl e) ↦ inr (k, e, at) | inr (inr gt) ↦ absurd (omega arith) ]

module _ (raw : RawRule) (names : Names) (plain : IsPlain raw) (are : AreNames raw.source names) where
  pub input_of : (k : ℕ) (name : List ℕ) → slice_get names.inputs k ≡ Some name → IsInput raw.source name
  input_of k name at = input_of_names raw.source names are name (Contains-from_get names.inputs k name at)

  pub not_redefined : (k : ℕ) (name : List ℕ) → AssignsAt raw.target k name → ¬ (IsInput raw.source name ⊎ IsTemporary raw.source name)
  not_redefined k name at taken =
      let (s, there, is) = assigning_statement raw.target k name at in
      plain.stays s.line (k, s, there, subst (λ n. IsInput raw.source n ⊎ IsTemporary raw.source n) (sym is) taken, refl)

  source_target : (j k : ℕ) (name : List ℕ) → ¬ IsRoot raw.source name → AssignsAt raw.source j name → AssignsAt raw.target k name → ⊥
  source_target j k name not_root p q = elim (temporary_or_root raw.source j name p) [ inl temporary ↦ not_redefined k name q (inr temporary) | inr root ↦ not_root root ]

  -- a name other than the root's is that of one register
  pub one_register : (r s : Register) (name : List ℕ) → ¬ IsRoot raw.source name → HasName raw names r name → HasName raw names s name → r ≡ s
  one_register (registers.Input j) (registers.Input k) name not_root p q = ap (λ n. registers.Input n) (are.inputs.once j k name p q)
  one_register (registers.Input j) (registers.Source k) name not_root p q = absurd ((input_of j name p).1 k q)
  one_register (registers.Input j) (registers.Target k) name not_root p q = absurd (not_redefined k name q (inl (input_of j name p)))
  one_register (registers.Source j) (registers.Input k) name not_root p q = absurd ((input_of k name q).1 j p)
  one_register (registers.Source j) (registers.Source k) name not_root p q = ap (λ n. registers.Source n) (one_place raw.source plain.source_once j k name p q)
  one_register (registers.Source j) (registers.Target k) name not_root p q = absurd (source_target j k name not_root p q)
  one_register (registers.Target j) (registers.Input k) name not_root p q = absurd (not_redefined j name p (inl (input_of k name q)))
  one_register (registers.Target j) (registers.Source k) name not_root p q = absurd (source_target k j name not_root q p)
  one_register (registers.Target j) (registers.Target k) name not_root p q = ap (λ n. registers.Target n) (one_place raw.target plain.target_once j k name p q)

  -- the root may not be used in the source
  pub not_root_in_source : (k : ℕ) (name : List ℕ) → k < length raw.source → MayUse raw (places.Source k) name → ¬ IsRoot raw.source name
  not_root_in_source k name within (inl input) (j, last, at) = input.1 j at
  not_root_in_source k name within (inr (i, lt, at)) (j, last, at') = let e : i ≡ j = one_place raw.source plain.source_once i j name at at' in absurd (omega arith)

  -- a register that may be used in a source statement is an input or assigned by an earlier one
  pub input_or_earlier : (k : ℕ) (name : List ℕ) (r : Register) → k < length raw.source → ¬ (¬ MayUse raw (places.Source k) name) → HasName raw names r name
      → ((i : ℕ) × (i < length names.inputs) × (r ≡ registers.Input i)) ⊎ ((j : ℕ) × (j < k) × (r ≡ registers.Source j))
  input_or_earlier k name (registers.Input i) within may is = inl (i, slice_get_within names.inputs i name is, refl)
  input_or_earlier k name (registers.Source j) within may is = elim (cases_lt j k) [
    | inl lt ↦ inr (j, lt, refl)
    | inr ge ↦ absurd (may (λ used. elim used [
      | inl input ↦ input.1 j is
      | inr (i, lt, at) ↦ let e : i ≡ j = one_place raw.source plain.source_once i j name at is in absurd (omega arith)
    ]))
  ]
  input_or_earlier k name (registers.Target j) within may is = absurd (may (λ used. elim used [
    | inl input ↦ not_redefined j name is (inl input)
    | inr (i, lt, at) ↦ not_redefined j name is (inr (i, (omega arith), at))
  ]))

  -- one that may be used in a target statement is an input, a temporary of the source, or assigned by an earlier one
  pub target_register : (k : ℕ) (name : List ℕ) (r : Register) → ¬ (¬ MayUse raw (places.Target k) name) → HasName raw names r name
      → ((i : ℕ) × (i < length names.inputs) × (r ≡ registers.Input i)) ⊎ (((j : ℕ) × (suc j < length raw.source) × (r ≡ registers.Source j)) ⊎ ((j : ℕ) × (j < k) × (r ≡ registers.Target j)))
  target_register k name (registers.Input i) may is = inl (i, slice_get_within names.inputs i name is, refl)
  target_register k name (registers.Source j) may is =
      let within : j < length raw.source = assigns_within raw.source j name is in
      elim (order (suc j) (length raw.source)) [
        | inl lt ↦ inr (inl (j, lt, refl))
        | inr (inl e) ↦ absurd (may (λ used. used.0 (j, e, is)))
        | inr (inr gt) ↦ absurd (omega arith)
      ]
  target_register k name (registers.Target j) may is = elim (cases_lt j k) [
    | inl lt ↦ inr (inr (j, lt, refl))
    | inr ge ↦ absurd (may (λ used. elim used.1 [
      | inl input ↦ not_redefined j name is (inl input)
      | inr (inl temporary) ↦ not_redefined j name is (inr temporary)
      | inr (inr (i, lt, at)) ↦ let e : i ≡ j = one_place raw.target plain.target_once i j name at is in absurd (omega arith)
    ]))
  ]

  -- one that may be used in `Pre:` and `Wit:` is not the root
  pub not_root_before : (name : List ℕ) → MayUse raw places.Heading name → ¬ IsRoot raw.source name
  not_root_before name (inl input) (j, last, at) = input.1 j at
  not_root_before name (inr (i, lt, at)) (j, last, at') = let e : i ≡ j = one_place raw.source plain.source_once i j name at at' in absurd (omega arith)

  pub before_root_register : (name : List ℕ) (r : Register) → MayUse raw places.Heading name → HasName raw names r name → ((i : ℕ) × (i < length names.inputs) × (r ≡ registers.Input i)) ⊎ ((j : ℕ) × (suc j < length raw.source) × (r ≡ registers.Source j))
  before_root_register name (registers.Input i) may is = inl (i, slice_get_within names.inputs i name is, refl)
  before_root_register name (registers.Source j) (inl input) is = absurd (input.1 j is)
  before_root_register name (registers.Source j) (inr (i, lt, at)) is = let e : i ≡ j = one_place raw.source plain.source_once i j name at is in inr (j, omega arith, refl)
  before_root_register name (registers.Target j) may is = absurd (not_redefined j name is may)
