-- A set of definitions' clauses and a root clause stands for the test that the root's literal is true.
use Rattle.cnf_build.proofs.Common.{◌≡◌, ℕ, ◌+◌, ◌-◌, ◌<◌, ◌≤◌, ◌⊎◌, ◌↔◌, Bool, true, false, List, [], ◌∷◌, length, map, get_or, All, Any, EachIndex, slice_index, Some, refl, sym, ap₂, ◌∙◌, subst, inl, inr, arith, slice_get, or_cases, or_left, true≢false, slice_get-get_or, get_or_default, All-nil, All-cons, All-head, All-tail, Cnf, Lit, Meets, literal_of, literal_true, clause_true, all_clauses, setting_literals, StandsAt, StandsFor, StandsIn, IsInner, IsDefined, IsUsed, AgreeOn, UnitsDerive, MeetsDefinition, input_values, Definition, definition_value, clauses_of_definition, clauses_from, AreOverSmaller}
use Rattle.cnf_build.specs.declared.definition.Definition.TheVariants.{One}
use Rattle.cnf_build.proofs.OneDefinition.{IsOperandOf, UsesBelow, operand_used}
use Rattle.cnf_build.proofs.DefinitionLists.{AgreeBelow, Solves, Meets-from_Solves, Solves-from_Meets, extend, extend-below, extend-solves, solutions-agree, definition_value-agree, Has, Has-append_left, Has-from_definition, Has-from_place, Any-from_Has, value_from_MeetsDefinition, MeetsDefinition-from_value, HoldsBelow, HoldsBelow-inputs, derive_all, literal_of-true}

-- the j-th variable after the inputs is used: it is the root's, or an operand of a definition
abbrev pub IsAsked : ℕ → List Definition → Lit → ℕ → Type 0
IsAsked inputs ds root j =
    (root.variable ≡ inputs + 1 + j)
    ⊎ ((i : ℕ) × (d : Definition) × (slice_get ds i ≡ Some d) × IsOperandOf (inputs + 1 + j) d)

-- the set has exactly these definitions' clauses, this root as its unit clause and so many inputs
pub record Encodes (inputs : ℕ) (ds : List Definition) (root : Lit) (set : Cnf) : Type 0 where
  pub gates : set.gates ≡ clauses_from (inputs + 1) ds
  pub roots : set.roots ≡ (root ∷ []) ∷ []
  pub input_count : length set.inputs ≡ inputs
  pub first : EachIndex set.inputs (λ k. slice_index set.inputs k ≡ k + 1)
  pub count : set.count ≡ inputs + length ds

-- The definitions and the root are sound for the test: each definition is over smaller variables, the root is true
-- exactly where the test is, and each defined variable is used.
pub record IsSound (inputs : ℕ) (ds : List Definition) (root : Lit) (test : List Bool → Type 0) : Type 0 where
  pub over_smaller : AreOverSmaller (inputs + 1) ds
  pub asked :
      (u : ℕ → Bool) (variables : List ℕ) → length variables ≡ inputs → EachIndex variables (λ k. slice_index variables k ≡ k + 1) →
      Solves u (inputs + 1) ds → ((literal_true u root ≡ true) ↔ test (map u variables))
  pub used : (j : ℕ) → j < length ds → IsAsked inputs ds root j

map-agree : (f g : ℕ → Bool) (xs : List ℕ) → All (λ n. f n ≡ g n) xs → map f xs ≡ map g xs
map-agree f g [] h = refl
map-agree f g (x ∷ xs) h =
    ap₂ (λ y ys. y ∷ ys) (All-head (λ n. f n ≡ g n) x xs h) (map-agree f g xs (All-tail (λ n. f n ≡ g n) x xs h))

root_true : (u : ℕ → Bool) (root : Lit) → Meets u ((root ∷ []) ∷ []) → literal_true u root ≡ true
root_true u root h =
    elim (or_cases (literal_true u root) false (h 0 [] (omega arith))) [
      | inl p ↦ p
      | inr never ↦ absurd (true≢false (sym never))
    ]

root_met : (u : ℕ → Bool) (root : Lit) → literal_true u root ≡ true → Meets u ((root ∷ []) ∷ [])
root_met u root p =
    All-cons (λ clause. clause_true u clause ≡ true) (root ∷ []) [] (or_left (literal_true u root) false p)
    (All-nil (λ clause. clause_true u clause ≡ true))

module _ (inputs : ℕ) (ds : List Definition) (root : Lit) (test : List Bool → Type 0) (set : Cnf) (e : Encodes inputs ds root set) (sound : IsSound inputs ds root test) where
  -- the input at place k is the variable k + 1
  number_at : (k d : ℕ) → k < length set.inputs → get_or set.inputs k d ≡ k + 1
  number_at k d within = get_or_default set.inputs k d 0 within ∙ e.first k within

  within_inputs : (v w : ℕ → Bool) → AgreeBelow (inputs + 1) v w → AgreeOn set.inputs v w
  within_inputs v w agree =
      λ k d within.
      let at = number_at k d within in
      let n = e.input_count in
      let from : 1 ≤ get_or set.inputs k d = omega arith in
      let below : get_or set.inputs k d < inputs + 1 = omega arith in
      agree (get_or set.inputs k d) from below

  from_inputs : (v w : ℕ → Bool) → AgreeOn set.inputs v w → AgreeBelow (inputs + 1) v w
  from_inputs v w agree =
      λ m from below.
      let n = e.input_count in
      let within : m - 1 < length set.inputs = omega arith in
      let at : get_or set.inputs (m - 1) 0 ≡ m = omega (arith, number_at (m - 1) 0 within) in
      subst (λ k. w k ≡ v k) at (agree (m - 1) 0 within)

  solves_set : (w : ℕ → Bool) → Meets w set.gates → Solves w (inputs + 1) ds
  solves_set w meets = Solves-from_Meets w (inputs + 1) ds (subst (Meets w) e.gates meets)

  derived_at : (setting u : ℕ → Bool) → AgreeBelow (inputs + 1) setting u → Solves u (inputs + 1) ds → UnitsDerive set setting u
  derived_at setting u agree s =
      let start : HoldsBelow u (inputs + 1) (setting_literals set setting) =
      subst (λ k. HoldsBelow u (k + 1) (setting_literals set setting)) e.input_count
      (HoldsBelow-inputs setting u set.inputs e.first
      (subst (λ k. AgreeBelow (k + 1) setting u) (sym e.input_count) agree)) in
      let run = derive_all (all_clauses set) u (inputs + 1) ds (setting_literals set setting)
      (λ c h. Has-append_left set.gates set.roots c (subst (λ cs. Has cs c) (sym e.gates) h)) sound.over_smaller s start in (
        run.0,
        run.1,
        run.2,
        inl (λ n is. let c = e.count in run.3.holds (literal_of n (u n)) (is.0, omega (arith, is.1)) (literal_of-true u n)),
      )

  stands_at : (setting : ℕ → Bool) → StandsAt set (test (input_values set setting)) setting
  stands_at setting =
      let u = extend (inputs + 1) ds setting in
      let agree : AgreeBelow (inputs + 1) setting u = λ m from below. extend-below (inputs + 1) ds setting m below in
      let s = extend-solves (inputs + 1) ds setting sound.over_smaller in
      let on = within_inputs setting u agree in
      let says = sound.asked u set.inputs e.input_count e.first s in
      let values : map u set.inputs ≡ map setting set.inputs = map-agree u setting set.inputs on in
      record {
        extension = u;
        extends = (on, subst (Meets u) (sym e.gates) (Meets-from_Solves u (inputs + 1) ds s));
        only = λ w (kept, meets).
            let same = solutions-agree (inputs + 1) ds u w sound.over_smaller s (solves_set w meets)
            (λ m from below. from_inputs setting w kept m from below ∙ sym (agree m from below)) in
            λ n is. let c = e.count in same n is.0 (omega (arith, is.1));
        derived = derived_at setting u agree s;
        asked = (
          (λ meets. subst test values (says.0 (root_true u root (subst (Meets u) e.roots meets)))),
          (λ passes. subst (Meets u) (sym e.roots) (root_met u root (says.1 (subst test (sym values) passes)))),
        );
      }

  defined_at : (j : ℕ) → j < length ds → IsDefined set (inputs + 1 + j)
  defined_at j within =
      let d = get_or ds j One in
      let at = slice_get-get_or ds j One within in
      λ v. (
        definition_value v d,
        λ w agree.
            let same = definition_value-agree (inputs + 1 + j) v w (λ m from below. agree m below) d (sound.over_smaller j d at) in (
              (λ meets.
                  value_from_MeetsDefinition (inputs + 1) ds sound.over_smaller j d at w
                  (subst (λ cs. MeetsDefinition (inputs + 1 + j) w cs) e.gates meets)
                  ∙ same),
              (λ value.
                  subst (λ cs. MeetsDefinition (inputs + 1 + j) w cs) (sym e.gates)
                  (MeetsDefinition-from_value (inputs + 1) ds sound.over_smaller j d at w (value ∙ sym same))),
            ),
      )

  used_at : (j : ℕ) → j < length ds → IsUsed set (inputs + 1 + j)
  used_at j within =
      let n = inputs + 1 + j in
      elim (sound.used j within) [
        | inl is ↦
            let at_root : Any (StandsIn n) ((root ∷ []) ∷ []) = (0, root ∷ [], omega arith, refl, (0, root, omega arith, refl, is)) in
            inl (subst (λ cs. Any (StandsIn n) cs) (sym e.roots) at_root)
        | inr w ↦
            let i = w.0 in
            let d = w.1 in
            let own = operand_used (inputs + 1 + i) n d (sound.over_smaller i d w.2) w.3 in
            let clauses = clauses_of_definition (inputs + 1 + i) d in
            let clause = own.1 in
            let has : Has clauses clause = subst (Has clauses) own.3 (Has-from_place clauses own.0 clause own.2) in
            let all = Has-from_definition (inputs + 1) ds i d clause w.2 has in
            inr (subst (λ cs. Any (UsesBelow n) cs) (sym e.gates) (Any-from_Has (UsesBelow n) (clauses_from (inputs + 1) ds) clause all own.4))
      ]

  pub StandsFor-from : StandsFor set test
  StandsFor-from =
      let place : (n : ℕ) → IsInner set n → inputs + 1 + (n - (inputs + 1)) ≡ n =
      λ n is. let k = e.input_count in omega (arith, is.0) in
      let within : (n : ℕ) → IsInner set n → n - (inputs + 1) < length ds =
      λ n is. let k = e.input_count in let c = e.count in omega (arith, is.0, is.1) in
      record {
        each_setting = stands_at;
        inputs_first = e.first;
        inner_defined = λ n is. subst (IsDefined set) (place n is) (defined_at (n - (inputs + 1)) (within n is));
        inner_used = λ n is. subst (IsUsed set) (place n is) (used_at (n - (inputs + 1)) (within n is));
      }
