-- Each clause of a gate names a variable once: the operands of a gate have different nodes, and these different
-- variables.
use Rattle.cnf_build.proofs.Common.{◌≡◌, ◌≢◌, ℕ, zero, suc, ◌+◌, ◌<◌, true, false, List, [], ◌∷◌, length, All, get_or, slice_get, Some, refl, sym, ap, ◌∙◌, subst, inl, inr, arith, cases_lt, slice_get_within, slice_get-get_or, same_Some, All-nil, All-cons, All-append, Lit, literal_of, negation_of, Node, Input, Output, Gate, AreApart, IsProper, IsAmong, OperandsAmong, IsInOrder, AreProper, OperandsAmong-later, Definition, clauses_of_definition, clauses_from, NamesOnce, IsOverSmaller, AreOverSmaller, NeededMarks, IsMarked, IsCovered, IsOperand, IsClosed, Names, variable_of, definition_of, NamesFirst}
use Rattle.aig.specs.declared.literal.Node.TheVariants.{One}
use Rattle.aig.specs.declared.gate.Gate.TheVariants.{And, Xor, Mux}
use Rattle.cnf_build.specs.declared.definition.Definition.TheVariants as definitions

-- clauses of one, two and three literals

once_of_one : (x : Lit) → NamesOnce (x ∷ [])
once_of_one x zero j d less within = absurd (omega arith)
once_of_one x (suc i) j d less within = absurd (omega arith)

once_of_two : (x y : Lit) → x.variable ≢ y.variable → NamesOnce (x ∷ y ∷ [])
once_of_two x y r zero zero d less within = absurd (omega arith)
once_of_two x y r zero (suc zero) d less within = r
once_of_two x y r zero (suc (suc j)) d less within = absurd (omega arith)
once_of_two x y r (suc i) j d less within = absurd (omega arith)

once_of_three : (x y z : Lit) → x.variable ≢ y.variable → x.variable ≢ z.variable → y.variable ≢ z.variable → NamesOnce (x ∷ y ∷ z ∷ [])
once_of_three x y z p q r zero zero d less within = absurd (omega arith)
once_of_three x y z p q r zero (suc zero) d less within = p
once_of_three x y z p q r zero (suc (suc zero)) d less within = q
once_of_three x y z p q r zero (suc (suc (suc j))) d less within = absurd (omega arith)
once_of_three x y z p q r (suc zero) zero d less within = absurd (omega arith)
once_of_three x y z p q r (suc zero) (suc zero) d less within = absurd (omega arith)
once_of_three x y z p q r (suc zero) (suc (suc zero)) d less within = r
once_of_three x y z p q r (suc zero) (suc (suc (suc j))) d less within = absurd (omega arith)
once_of_three x y z p q r (suc (suc i)) j d less within = absurd (omega arith)

-- the operands have different variables
abbrev pub OperandsDiffer : Definition → Type 0
OperandsDiffer definitions.One = Unit {0}
OperandsDiffer (definitions.And a b) = a.variable ≢ b.variable
OperandsDiffer (definitions.Xor a b) = a.variable ≢ b.variable
OperandsDiffer (definitions.Mux c a b) = (c.variable ≢ a.variable) × (c.variable ≢ b.variable) × (a.variable ≢ b.variable)

three : (c1 c2 c3 : List Lit) → NamesOnce c1 → NamesOnce c2 → NamesOnce c3 → All NamesOnce (c1 ∷ c2 ∷ c3 ∷ [])
three c1 c2 c3 p q r =
    All-cons NamesOnce c1 (c2 ∷ c3 ∷ []) p
    (All-cons NamesOnce c2 (c3 ∷ []) q (All-cons NamesOnce c3 [] r (All-nil NamesOnce)))

four : (c1 c2 c3 c4 : List Lit) → NamesOnce c1 → NamesOnce c2 → NamesOnce c3 → NamesOnce c4 → All NamesOnce (c1 ∷ c2 ∷ c3 ∷ c4 ∷ [])
four c1 c2 c3 c4 p q r s = All-cons NamesOnce c1 (c2 ∷ c3 ∷ c4 ∷ []) p (three c2 c3 c4 q r s)

once_of_definition : (n : ℕ) (d : Definition) → IsOverSmaller n d → OperandsDiffer d → All NamesOnce (clauses_of_definition n d)
once_of_definition n definitions.One over differ =
    All-cons NamesOnce (literal_of n true ∷ []) [] (once_of_one (literal_of n true)) (All-nil NamesOnce)
once_of_definition n (definitions.And a b) over differ =
    let yes = literal_of n true in
    let no = literal_of n false in
    let p : n ≢ a.variable = λ e. omega arith in
    let q : n ≢ b.variable = λ e. omega arith in
    three (no ∷ a ∷ []) (no ∷ b ∷ []) (yes ∷ negation_of a ∷ negation_of b ∷ []) (once_of_two no a p) (once_of_two no b q)
    (once_of_three yes (negation_of a) (negation_of b) p q differ)
once_of_definition n (definitions.Xor a b) over differ =
    let yes = literal_of n true in
    let no = literal_of n false in
    let p : n ≢ a.variable = λ e. omega arith in
    let q : n ≢ b.variable = λ e. omega arith in
    four (no ∷ a ∷ b ∷ []) (no ∷ negation_of a ∷ negation_of b ∷ []) (yes ∷ negation_of a ∷ b ∷ []) (yes ∷ a ∷ negation_of b ∷ [])
    (once_of_three no a b p q differ) (once_of_three no (negation_of a) (negation_of b) p q differ)
    (once_of_three yes (negation_of a) b p q differ) (once_of_three yes a (negation_of b) p q differ)
once_of_definition n (definitions.Mux c a b) over differ =
    let yes = literal_of n true in
    let no = literal_of n false in
    let o : n ≢ c.variable = λ e. omega arith in
    let p : n ≢ a.variable = λ e. omega arith in
    let q : n ≢ b.variable = λ e. omega arith in
    four (no ∷ negation_of c ∷ a ∷ []) (yes ∷ negation_of c ∷ negation_of a ∷ []) (no ∷ c ∷ b ∷ []) (yes ∷ c ∷ negation_of b ∷ [])
    (once_of_three no (negation_of c) a o p differ.0) (once_of_three yes (negation_of c) (negation_of a) o p differ.0)
    (once_of_three no c b o q differ.1) (once_of_three yes c (negation_of b) o q differ.1)

pub once_from : (n : ℕ) (ds : List Definition) → AreOverSmaller n ds → ((j : ℕ) (d : Definition) → slice_get ds j ≡ Some d → OperandsDiffer d) → All NamesOnce (clauses_from n ds)
once_from n [] over differ = All-nil NamesOnce
once_from n (d ∷ ds) over differ =
    let first : n + 0 ≡ n = omega arith in
    All-append NamesOnce (clauses_of_definition n d) (clauses_from (n + 1) ds)
    (once_of_definition n d (subst (λ m. IsOverSmaller m d) first (over 0 d refl)) (differ 0 d refl))
    (once_from (n + 1) ds
    (λ j e at. let next : n + suc j ≡ n + 1 + j = omega arith in subst (λ m. IsOverSmaller m e) next (over (suc j) e at))
    (λ j e at. differ (suc j) e at))

module _ (all : List Gate) (marks : NeededMarks) (names : Names) (order : IsInOrder names.inputs all) (proper : AreProper all) (closed : IsClosed all marks) (f : NamesFirst all marks (length all) names) where
  gate_at : (k : ℕ) → k < length all → (gate : Gate) × (slice_get all k ≡ Some gate)
  gate_at k within =
      let any : Gate = And (record { node = One; negated = false }) (record { node = One; negated = false }) in
      (get_or all k any, slice_get-get_or all k any within)

  -- nodes that are apart have different variables
  variables_differ : (m n : Node) → AreApart m n → IsAmong names.inputs (length all) m → IsAmong names.inputs (length all) n → IsCovered marks m → IsCovered marks n → variable_of names m ≢ variable_of names n
  variables_differ One n apart own_m own_n is_m is_n = absurd (apart.first refl)
  variables_differ (Input i) One apart own_m own_n is_m is_n = absurd (apart.second refl)
  variables_differ (Input i) (Input k) apart own_m own_n is_m is_n = λ e. let same : i ≡ k = omega arith in apart.differ (ap Input same)
  variables_differ (Input i) (Output k) apart own_m own_n is_m is_n =
      let gate = gate_at k own_n in
      let here = f.gates_defined k gate.0 own_n gate.1 is_n in
      λ e. omega (arith, here.1)
  variables_differ (Output i) One apart own_m own_n is_m is_n = absurd (apart.second refl)
  variables_differ (Output i) (Input k) apart own_m own_n is_m is_n =
      let gate = gate_at i own_m in
      let here = f.gates_defined i gate.0 own_m gate.1 is_m in
      λ e. omega (arith, here.1)
  variables_differ (Output i) (Output k) apart own_m own_n is_m is_n =
      elim (cases_lt i k) [
        | inl less ↦ let rises = f.rising i k less own_n is_m in λ e. omega arith
        | inr most ↦ elim (cases_lt k i) [
          | inl less ↦ let rises = f.rising k i less own_m is_n in λ e. omega arith
          | inr least ↦ let same : i ≡ k = omega arith in absurd (apart.differ (ap Output same))
        ]
      ]

  gate_differs : (gate : Gate) → IsProper gate → OperandsAmong names.inputs (length all) gate → ((node : Node) → IsOperand node gate → IsCovered marks node) → OperandsDiffer (definition_of names gate)
  gate_differs (And a b) proper own is =
      variables_differ a.node b.node proper.0 own.0 own.1 (is a.node (inl refl)) (is b.node (inr refl))
  gate_differs (Xor a b) proper own is =
      variables_differ a.node b.node proper.0 own.0 own.1 (is a.node (inl refl)) (is b.node (inr refl))
  gate_differs (Mux c a b) proper own is = (
    variables_differ c.node a.node proper.0 own.0 own.1 (is c.node (inl refl)) (is a.node (inr (inl refl))),
    variables_differ c.node b.node proper.1 own.0 own.2 (is c.node (inl refl)) (is b.node (inr (inr refl))),
    variables_differ a.node b.node proper.2 own.1 own.2 (is a.node (inr (inl refl))) (is b.node (inr (inr refl))),
  )

  pub definitions_differ : (j : ℕ) (d : Definition) → slice_get names.definitions j ≡ Some d → OperandsDiffer d
  definitions_differ j d at =
      let w = f.only_marked j (slice_get_within names.definitions j d at) in
      by w.0 w.1 w.2 w.3
    where
      same : (k : ℕ) (e : Definition) → names.inputs + 1 + k ≡ names.inputs + 1 + j → slice_get names.definitions k ≡ Some e → e ≡ d
      same k e place here =
          let is : j ≡ k = omega arith in
          same_Some e d (sym here ∙ ap (slice_get names.definitions) (sym is) ∙ at)

      by : (node : Node) → IsMarked marks node → variable_of names node ≡ names.inputs + 1 + j → IsAmong names.inputs (length all) node → OperandsDiffer d
      by One is number own =
          let here = f.one_defined is in
          subst OperandsDiffer (same here.0 definitions.One (sym here.1 ∙ number) here.2) tt
      by (Input k) is number own = absurd is
      by (Output k) is number own =
          let gate = gate_at k own in
          let here = f.gates_defined k gate.0 own gate.1 is in
          let among = OperandsAmong-later names.inputs k (length all) (omega arith) gate.0 (order k gate.0 gate.1) in
          subst OperandsDiffer (same here.0 (definition_of names gate.0) (sym here.1 ∙ number) here.2)
          (gate_differs gate.0 (proper k gate.0 gate.1) among (closed k gate.0 gate.1 is))
