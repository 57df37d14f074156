-- The constant and the marked gates get their variables one by one, and an assignment in which each definition holds
-- gives the nodes their values in the graph.
use Rattle.cnf_build.proofs.Common.{◌≡◌, ℕ, zero, suc, ◌+◌, ◌<◌, ◌≤◌, ◌⊎◌, Bool, true, false, not, ◌&&◌, cond, List, [], ◌∷◌, ◌++◌, length, map, get_or, EachIndex, slice_index, Some, refl, sym, ap, ap₂, ◌∙◌, subst, inl, inr, arith, xor, slice_get, cases_lt, true≢false, slice_get_within, slice_get-get_or, same_Some, get_or_append_left, get_or_push, length_push, get_or-map, Lit, IsVariable, literal_true, Node, Input, Output, Literal, Gate, Graph, IsAmong, IsOwn, OperandsAmong, IsInOrder, node_value, literal_value, gate_value, gate_values, value_of, value_of_gate, Definition, definition_value, IsSmaller, IsOverSmaller, NeededMarks, IsMarked, IsCovered, IsOperand, IsClosed, AreNeeded, Names, variable_of, lit_of, definition_of, with_gate, HasDefinition, NamesFirst}
use Rattle.aig.specs.declared.literal.Node.TheVariants.{One}
use Rattle.aig.specs.declared.gate.Gate.TheVariants.{And, Xor, Mux}
use Rattle.cnf_build.specs.declared.definition.Definition.TheVariants as definitions
use Rattle.cnf_build.proofs.OneDefinition.{IsOperandOf}
use Rattle.cnf_build.proofs.DefinitionLists.{Solves, Solves-at}
use Rattle.cnf_build.proofs.SetLemmas.{length-clauses_from-push}
use Rattle.cnf_build.proofs.Standing.{IsAsked, IsSound}

slice_get-push_old : {A : Type 0} (xs : List A) (y x : A) (k : ℕ) → slice_get xs k ≡ Some x → slice_get (xs ++ y ∷ []) k ≡ Some x
slice_get-push_old [] y x k at = absurd (cc)
slice_get-push_old (z ∷ xs) y x zero at = at
slice_get-push_old (z ∷ xs) y x (suc k) at = slice_get-push_old xs y x k at

slice_get-push_new : {A : Type 0} (xs : List A) (y : A) → slice_get (xs ++ y ∷ []) (length xs) ≡ Some y
slice_get-push_new [] y = refl
slice_get-push_new (z ∷ xs) y = slice_get-push_new xs y

-- an element of a list to which one was added is one of the list or the added one
slice_get-push_cases : {A : Type 0} (xs : List A) (y x : A) (k : ℕ) → slice_get (xs ++ y ∷ []) k ≡ Some x → (slice_get xs k ≡ Some x) ⊎ ((k ≡ length xs) × (y ≡ x))
slice_get-push_cases [] y x zero at = inr (refl, same_Some y x at)
slice_get-push_cases [] y x (suc k) at = absurd (cc)
slice_get-push_cases (z ∷ xs) y x zero at = inl at
slice_get-push_cases (z ∷ xs) y x (suc k) at =
    elim (slice_get-push_cases xs y x k at) [ inl before ↦ inl before | inr new ↦ inr (ap suc new.0, new.1) ]

-- a node that is among the first gates is among more

IsAmong-later : (inputs k n : ℕ) → k ≤ n → (node : Node) → IsAmong inputs k node → IsAmong inputs n node
IsAmong-later inputs k n le One own = tt
IsAmong-later inputs k n le (Input i) own = own
IsAmong-later inputs k n le (Output i) own = omega arith

-- the names with more variables
abbrev grown : Names → List ℕ → List Definition → Names
grown names more ds = record { inputs = names.inputs; numbers = names.numbers ++ more; definitions = ds }

variable_of-grown : (names : Names) (more : List ℕ) (ds : List Definition) (inputs k : ℕ) → k ≤ length names.numbers → (node : Node) → IsAmong inputs k node → variable_of (grown names more ds) node ≡ variable_of names node
variable_of-grown names more ds inputs k le One own = refl
variable_of-grown names more ds inputs k le (Input i) own = refl
variable_of-grown names more ds inputs k le (Output i) own = get_or_append_left names.numbers more 0 i (omega arith)

lit_of-grown : (names : Names) (more : List ℕ) (ds : List Definition) (inputs k : ℕ) → k ≤ length names.numbers → (l : Literal) → IsAmong inputs k l.node → lit_of (grown names more ds) l ≡ lit_of names l
lit_of-grown names more ds inputs k le l own =
    let made : ℕ → Lit = λ n. record { variable = n; negated = l.negated } in
    ap made (variable_of-grown names more ds inputs k le l.node own)

definition_of-grown : (names : Names) (more : List ℕ) (ds : List Definition) (inputs k : ℕ) → k ≤ length names.numbers → (gate : Gate) → OperandsAmong inputs k gate → definition_of (grown names more ds) gate ≡ definition_of names gate
definition_of-grown names more ds inputs k le (And a b) own =
    ap₂ definitions.And (lit_of-grown names more ds inputs k le a own.0) (lit_of-grown names more ds inputs k le b own.1)
definition_of-grown names more ds inputs k le (Xor a b) own =
    ap₂ definitions.Xor (lit_of-grown names more ds inputs k le a own.0) (lit_of-grown names more ds inputs k le b own.1)
definition_of-grown names more ds inputs k le (Mux c a b) own =
    ap (λ x. definitions.Mux x (lit_of (grown names more ds) a) (lit_of (grown names more ds) b)) (lit_of-grown names more ds inputs k le c own.0)
    ∙ ap₂ (definitions.Mux (lit_of names c)) (lit_of-grown names more ds inputs k le a own.1)
    (lit_of-grown names more ds inputs k le b own.2)

-- the start

-- the variable of a covered node is smaller than the next variable
pub IsSmaller-next : (all : List Gate) (marks : NeededMarks) (count : ℕ) (names : Names) → count ≤ length all → NamesFirst all marks count names → (node : Node) (negated : Bool) → IsAmong names.inputs count node → IsCovered marks node → IsSmaller (names.inputs + 1 + length names.definitions) (record { variable = variable_of names node; negated = negated })
IsSmaller-next all marks count names le f One negated own is =
    let at = f.one_defined is in
    let within = slice_get_within names.definitions at.0 definitions.One at.2 in
    (omega arith, omega arith)
IsSmaller-next all marks count names le f (Input i) negated own is = (omega arith, omega arith)
IsSmaller-next all marks count names le f (Output i) negated own is =
    let any : Gate = And (record { node = One; negated = false }) (record { node = One; negated = false }) in
    let gate = get_or all i any in
    let within : i < length all = omega arith in
    let at = f.gates_defined i gate own (slice_get-get_or all i any within) is in
    let within' = slice_get_within names.definitions at.0 (definition_of names gate) at.2 in
    let number = at.1 in
    (omega arith, omega arith)

IsOverSmaller-next : (all : List Gate) (marks : NeededMarks) (count : ℕ) (names : Names) → count ≤ length all → NamesFirst all marks count names → (gate : Gate) → OperandsAmong names.inputs count gate → ((node : Node) → IsOperand node gate → IsCovered marks node) → IsOverSmaller (names.inputs + 1 + length names.definitions) (definition_of names gate)
IsOverSmaller-next all marks count names le f (And a b) own is = (
  IsSmaller-next all marks count names le f a.node a.negated own.0 (is a.node (inl refl)),
  IsSmaller-next all marks count names le f b.node b.negated own.1 (is b.node (inr refl)),
)
IsOverSmaller-next all marks count names le f (Xor a b) own is = (
  IsSmaller-next all marks count names le f a.node a.negated own.0 (is a.node (inl refl)),
  IsSmaller-next all marks count names le f b.node b.negated own.1 (is b.node (inr refl)),
)
IsOverSmaller-next all marks count names le f (Mux c a b) own is = (
  IsSmaller-next all marks count names le f c.node c.negated own.0 (is c.node (inl refl)),
  IsSmaller-next all marks count names le f a.node a.negated own.1 (is a.node (inr (inl refl))),
  IsSmaller-next all marks count names le f b.node b.negated own.2 (is b.node (inr (inr refl))),
)

-- one more gate

module _ (all : List Gate) (marks : NeededMarks) (k : ℕ) (names : Names) (gate : Gate) (order : IsInOrder names.inputs all) (closed : IsClosed all marks) (at : slice_get all k ≡ Some gate) (f : NamesFirst all marks k names) where
  -- the definition of a node stays the same
  older_defined : (more : List ℕ) (ds : List Definition) → ((j : ℕ) (d : Definition) → slice_get names.definitions j ≡ Some d → slice_get ds j ≡ Some d) → (node : Node) (d : Definition) → IsAmong names.inputs k node → HasDefinition names node d → HasDefinition (grown names more ds) node d
  older_defined more ds kept node d own has =
      let enough : k ≤ length names.numbers = let n = f.length_numbers in omega arith in
      (has.0, variable_of-grown names more ds names.inputs k enough node own ∙ has.1, kept has.0 d has.2)

  older_gates : (more : List ℕ) (ds : List Definition) → ((j : ℕ) (d : Definition) → slice_get names.definitions j ≡ Some d → slice_get ds j ≡ Some d) → (i : ℕ) (g : Gate) → i < k → slice_get all i ≡ Some g → IsMarked marks (Output i) → HasDefinition (grown names more ds) (Output i) (definition_of (grown names more ds) g)
  older_gates more ds kept i g below at' is =
      let enough : i ≤ length names.numbers = let n = f.length_numbers in omega arith in
      subst (HasDefinition (grown names more ds) (Output i))
      (sym (definition_of-grown names more ds names.inputs i enough g (order i g at')))
      (older_defined more ds kept (Output i) (definition_of names g) below (f.gates_defined i g below at' is))

  within_all : k < length all
  within_all = slice_get_within all k gate at

  next_number : ℕ
  next_number = names.inputs + 1 + length names.definitions

  -- the variable of the next gate is greater than those of the marked gates before it
  rising_next : (i m : ℕ) → i < m → m < k + 1 → IsMarked marks (Output i) → slice_index (names.numbers ++ next_number ∷ []) i < slice_index (names.numbers ++ next_number ∷ []) m
  unfolding next_number
  rising_next i m less below is =
      let n = f.length_numbers in
      let old : slice_index (names.numbers ++ next_number ∷ []) i ≡ slice_index names.numbers i =
      get_or_append_left names.numbers (next_number ∷ []) 0 i (omega arith) in
      elim (cases_lt m k) [
        | inl earlier ↦
            let kept : slice_index (names.numbers ++ next_number ∷ []) m ≡ slice_index names.numbers m =
            get_or_append_left names.numbers (next_number ∷ []) 0 m (omega arith) in
            let rises = f.rising i m less earlier is in
            omega arith
        | inr last ↦
            let here : slice_index (names.numbers ++ next_number ∷ []) m ≡ next_number =
            get_or_push names.numbers next_number 0 m (omega arith) in
            let le : k ≤ length all = let w = within_all in omega arith in
            let small = IsSmaller-next all marks k names le f (Output i) false (omega arith) is in
            omega (arith, small.1)
      ]

  pub NamesFirst-skipped : get_or marks.gates k false ≡ false → NamesFirst all marks (k + 1) (with_gate names gate false)
  unfolding next_number
  NamesFirst-skipped free =
      let more : List ℕ = next_number ∷ [] in
      let ds = names.definitions in
      let kept : (j : ℕ) (d : Definition) → slice_get names.definitions j ≡ Some d → slice_get ds j ≡ Some d = λ j d h. h in
      let count : length (names.numbers ++ more) ≡ length names.numbers + 1 = length_push names.numbers next_number in
      let n = f.length_numbers in
      let m = f.length_definitions in
      record {
        length_numbers = omega arith;
        length_definitions = omega arith;
        few_clauses = λ i. omega (arith, f.few_clauses i);
        one_defined = λ one. older_defined more ds kept One definitions.One tt (f.one_defined one);
        gates_defined = λ i g below at' is.
            elim (cases_lt i k) [
              | inl less ↦ older_gates more ds kept i g less at' is
              | inr most ↦
                  let e : i ≡ k = omega arith in
                  absurd (true≢false (sym is ∙ ap (λ j. get_or marks.gates j false) e ∙ free))
            ];
        only_marked = λ j below.
            let w = f.only_marked j below in (
              w.0,
              w.1,
              variable_of-grown names more ds names.inputs k (omega arith) w.0 w.3 ∙ w.2,
              IsAmong-later names.inputs k (k + 1) (omega arith) w.0 w.3,
            );
        over_smaller = f.over_smaller;
        rising = rising_next;
      }

  pub NamesFirst-named : get_or marks.gates k false ≡ true → NamesFirst all marks (k + 1) (with_gate names gate true)
  unfolding next_number
  NamesFirst-named is =
      let more : List ℕ = next_number ∷ [] in
      let own = definition_of names gate in
      let ds = names.definitions ++ own ∷ [] in
      let new : Names = grown names more ds in
      let kept : (j : ℕ) (d : Definition) → slice_get names.definitions j ≡ Some d → slice_get ds j ≡ Some d =
      λ j d h. slice_get-push_old names.definitions own d j h in
      let count : length (names.numbers ++ more) ≡ length names.numbers + 1 = length_push names.numbers next_number in
      let count' : length ds ≡ length names.definitions + 1 = length_push names.definitions own in
      let n = f.length_numbers in
      let m = f.length_definitions in
      let number : variable_of new (Output k) ≡ names.inputs + 1 + length names.definitions =
      get_or_push names.numbers next_number 0 k n in
      let among = order k gate at in
      record {
        length_numbers = omega arith;
        length_definitions = omega arith;
        few_clauses = λ i. omega (arith, f.few_clauses i, length-clauses_from-push i names.definitions own);
        one_defined = λ one. older_defined more ds kept One definitions.One tt (f.one_defined one);
        gates_defined = λ i g below at' is'.
            elim (cases_lt i k) [
              | inl less ↦ older_gates more ds kept i g less at' is'
              | inr most ↦
                  let e : k ≡ i = omega arith in
                  let same : gate ≡ g = same_Some gate g (sym at ∙ ap (slice_get all) e ∙ at') in
                  let here : HasDefinition new (Output k) (definition_of new gate) = (
                    length names.definitions,
                    number,
                    slice_get-push_new names.definitions own
                        ∙ ap Some (sym (definition_of-grown names more ds names.inputs k (omega arith) gate among)),
                  ) in
                  subst (λ j. HasDefinition new (Output j) (definition_of new g)) e
                  (subst (λ x. HasDefinition new (Output k) (definition_of new x)) same here)
            ];
        only_marked = λ j below.
            elim (cases_lt j (length names.definitions)) [
              | inl less ↦
                  let w = f.only_marked j less in (
                    w.0,
                    w.1,
                    variable_of-grown names more ds names.inputs k (omega arith) w.0 w.3 ∙ w.2,
                    IsAmong-later names.inputs k (k + 1) (omega arith) w.0 w.3,
                  )
              | inr most ↦ (Output k, is, (let e : j ≡ length names.definitions = omega arith in number ∙ ap (λ i. names.inputs + 1 + i) (sym e)), omega arith)
            ];
        over_smaller = λ j d at'.
            elim (slice_get-push_cases names.definitions own d j at') [
              | inl before ↦ f.over_smaller j d before
              | inr last ↦
                  let le : k ≤ length all = let w = within_all in omega arith in
                  let over = IsOverSmaller-next all marks k names le f gate among (λ node operand. closed k gate at is node operand) in
                  subst (λ i. IsOverSmaller (names.inputs + 1 + i) d) (sym last.0)
                  (subst (IsOverSmaller (names.inputs + 1 + length names.definitions)) last.1 over)
            ];
        rising = rising_next;
      }

pub NamesFirst-next : (all : List Gate) (marks : NeededMarks) (k : ℕ) (names : Names) (gate : Gate) → IsInOrder names.inputs all → IsClosed all marks → slice_get all k ≡ Some gate → NamesFirst all marks k names → (b : Bool) → get_or marks.gates k false ≡ b → NamesFirst all marks (k + 1) (with_gate names gate b)
NamesFirst-next all marks k names gate order closed at f true is = NamesFirst-named all marks k names gate order closed at f is
NamesFirst-next all marks k names gate order closed at f false is = NamesFirst-skipped all marks k names gate order closed at f is

pub inputs-with_gate : (names : Names) (gate : Gate) (b : Bool) → (with_gate names gate b).inputs ≡ names.inputs
inputs-with_gate names gate true = refl
inputs-with_gate names gate false = refl

-- values

module _ (graph : Graph) (root : Literal) (marks : NeededMarks) (names : Names) (order : IsInOrder graph.inputs graph.gates) (own : IsOwn graph root) (needed : AreNeeded graph.gates root marks) (same_inputs : names.inputs ≡ graph.inputs) (f : NamesFirst graph.gates marks (length graph.gates) names) where
  module _ (u : ℕ → Bool) (variables : List ℕ) (count : length variables ≡ graph.inputs) (first : EachIndex variables (λ k. slice_index variables k ≡ k + 1)) (s : Solves u (names.inputs + 1) names.definitions) where
    values : List Bool
    values = map u variables

    outputs : List Bool
    outputs = gate_values (map u variables) graph.gates

    -- the variables of the marked gates before this place have the gates' values
    abbrev HasValues : ℕ → Type 0
    HasValues n = (k : ℕ) → k < n → k < length graph.gates → IsMarked marks (Output k) → u (variable_of names (Output k)) ≡ get_or outputs k false

    node_same : (n : ℕ) → n ≤ length graph.gates → HasValues n → (node : Node) → IsAmong graph.inputs n node → IsCovered marks node → u (variable_of names node) ≡ node_value values outputs node
    unfolding values
    node_same n le has One among is =
        let at = f.one_defined is in ap u at.1 ∙ Solves-at u (names.inputs + 1) names.definitions at.0 definitions.One s at.2
    node_same n le has (Input k) among is =
        let within : k < length variables = omega arith in
        ap u (sym (first k within)) ∙ sym (get_or-map u variables k 0 false within)
    node_same n le has (Output k) among is = has k among (omega arith) is

    literal_same : (n : ℕ) → n ≤ length graph.gates → HasValues n → (l : Literal) → IsAmong graph.inputs n l.node → IsCovered marks l.node → literal_true u (lit_of names l) ≡ literal_value values outputs l
    literal_same n le has l among is =
        ap (λ x. cond l.negated (not x) x) (node_same n le has l.node among is)

    gate_same : (n : ℕ) → n ≤ length graph.gates → HasValues n → (gate : Gate) → OperandsAmong graph.inputs n gate → ((node : Node) → IsOperand node gate → IsCovered marks node) → definition_value u (definition_of names gate) ≡ gate_value values outputs gate
    gate_same n le has (And a b) among is =
        ap₂ (λ x y. x && y) (literal_same n le has a among.0 (is a.node (inl refl)))
        (literal_same n le has b among.1 (is b.node (inr refl)))
    gate_same n le has (Xor a b) among is =
        ap₂ xor (literal_same n le has a among.0 (is a.node (inl refl)))
        (literal_same n le has b among.1 (is b.node (inr refl)))
    gate_same n le has (Mux c a b) among is =
        ap (λ o. cond o (literal_true u (lit_of names a)) (literal_true u (lit_of names b))) (literal_same n le has c among.0 (is c.node (inl refl)))
        ∙ ap₂ (cond (literal_value values outputs c)) (literal_same n le has a among.1 (is a.node (inr (inl refl))))
        (literal_same n le has b among.2 (is b.node (inr (inr refl))))

    has_values : (n : ℕ) → HasValues n
    unfolding values outputs
    has_values zero = λ k below. absurd (omega arith)
    has_values (suc n) =
        λ k below within is.
        elim (cases_lt k n) [
          | inl less ↦ has_values n k less within is
          | inr most ↦
              let e : n ≡ k = omega arith in
              let any : Gate = And (record { node = One; negated = false }) (record { node = One; negated = false }) in
              let gate = get_or graph.gates k any in
              let at = slice_get-get_or graph.gates k any within in
              let here = f.gates_defined k gate within at is in
              let before : HasValues k = subst HasValues e (has_values n) in
              ap u here.1
              ∙ Solves-at u (names.inputs + 1) names.definitions here.0 (definition_of names gate) s here.2
              ∙ gate_same k (omega arith) before gate (order k gate at) (needed.closed k gate at is)
              ∙ sym (value_of_gate values graph.inputs graph.gates order k gate at)
        ]

    pub root_same : literal_true u (lit_of names root) ≡ value_of graph (map u variables) root
    unfolding values outputs
    root_same =
        literal_same (length graph.gates) (omega arith) (has_values (length graph.gates)) root own needed.root_covered

  operand_number : (node : Node) (gate : Gate) → IsOperand node gate → IsOperandOf (variable_of names node) (definition_of names gate)
  operand_number node (And a b) is =
      elim is [ inl e ↦ inl (ap (variable_of names) e) | inr e ↦ inr (ap (variable_of names) e) ]
  operand_number node (Xor a b) is =
      elim is [ inl e ↦ inl (ap (variable_of names) e) | inr e ↦ inr (ap (variable_of names) e) ]
  operand_number node (Mux c a b) is =
      elim is [
        | inl e ↦ inl (ap (variable_of names) e)
        | inr rest ↦ inr (elim rest [ inl e ↦ inl (ap (variable_of names) e) | inr e ↦ inr (ap (variable_of names) e) ])
      ]

  asked_number : (j : ℕ) → j < length names.definitions → IsAsked names.inputs names.definitions (lit_of names root) j
  asked_number j below =
      let w = f.only_marked j below in
      elim (needed.asked_for w.0 w.1) [
        | inl e ↦ inl (ap (variable_of names) e ∙ w.2)
        | inr (k, gate, at, is, operand) ↦
            let here = f.gates_defined k gate (slice_get_within graph.gates k gate at) at is in
            inr (here.0, definition_of names gate, here.2, subst (λ n. IsOperandOf n (definition_of names gate)) w.2 (operand_number w.0 gate operand))
      ]

  -- the definitions and the root's literal are sound: a set with their clauses stands for the root
  pub IsSound-named : IsSound names.inputs names.definitions (lit_of names root) (λ values. value_of graph values root ≡ true)
  IsSound-named =
      record {
        over_smaller = f.over_smaller;
        asked = λ u variables count first s.
            let same = root_same u variables (count ∙ same_inputs) first s in
            ((λ p. sym same ∙ p), (λ q. same ∙ q));
        used = asked_number;
      }

  pub root_within : IsVariable (names.inputs + length names.definitions) (variable_of names root.node)
  root_within =
      let among : IsAmong names.inputs (length graph.gates) root.node =
      subst (λ n. IsAmong n (length graph.gates) root.node) (sym same_inputs) own in
      let small = IsSmaller-next graph.gates marks (length graph.gates) names (omega arith) f root.node root.negated among needed.root_covered in
      (small.0, omega (arith, small.1))
