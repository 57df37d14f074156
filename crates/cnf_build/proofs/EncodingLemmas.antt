-- The parts of the encoding together: names, definitions and clauses.
use Rattle.cnf_build.proofs.Common.{◌≡◌, ℕ, ◌+◌, true, List, [], ◌∷◌, length, All, Result, Ok, Err, IfOk, EachIndex, slice_index, sym, subst, ap, ◌∙◌, Cnf, Lit, IsVariable, StandsFor, Literal, Gate, Graph, IsOwn, IsInOrder, AreProper, value_of, Definition, clauses_from, NamesOnce, NeededMarks, AreNeeded, Names, lit_of, NamesFirst}
use Rattle.cnf_build.proofs.Standing.{Encodes, StandsFor-from}
use Rattle.cnf_build.proofs.OnceLemmas.{once_from, definitions_differ}
use Rattle.cnf_build.proofs.NamesLemmas.{IsSound-named, root_within}

module _ (graph : Graph) (root : Literal) (marks : NeededMarks) (names : Names) (order : IsInOrder graph.inputs graph.gates) (own : IsOwn graph root) where
  module _ (gates : List Gate) (gates_are : gates ≡ graph.gates) (needed : AreNeeded gates root marks) (named : NamesFirst gates marks (length gates) names) (same_inputs : names.inputs ≡ graph.inputs) (inputs : ℕ) (inputs_are : inputs ≡ graph.inputs) (ds : List Definition) (ds_are : ds ≡ names.definitions) (l : Lit) (l_is : l ≡ lit_of names root) where
    needed' : AreNeeded graph.gates root marks
    needed' = subst (λ gs. AreNeeded gs root marks) gates_are needed

    named' : NamesFirst graph.gates marks (length graph.gates) names
    named' = subst (λ gs. NamesFirst gs marks (length gs) names) gates_are named

    inputs_same : names.inputs ≡ inputs
    inputs_same = same_inputs ∙ sym inputs_are

    -- the variable of the root's literal is one of the set's
    pub variable_within : IsVariable (inputs + length ds) l.variable
    variable_within =
        let within = root_within graph root marks names order own needed' same_inputs named' in
        let e : l.variable ≡ (lit_of names root).variable = ap (λ (x : Lit). x.variable) l_is in
        subst (λ n. IsVariable (n + length ds) l.variable) inputs_same
        (subst (λ ds'. IsVariable (names.inputs + length ds') l.variable) (sym ds_are)
        (subst (IsVariable (names.inputs + length names.definitions)) (sym e) within))

    -- no clause of the definitions names a variable twice
    pub clauses_once : AreProper graph.gates → All NamesOnce (clauses_from (inputs + 1) ds)
    clauses_once proper =
        let order' : IsInOrder names.inputs graph.gates = subst (λ n. IsInOrder n graph.gates) (sym same_inputs) order in
        subst (λ n. All NamesOnce (clauses_from (n + 1) ds)) inputs_same
        (subst (λ ds'. All NamesOnce (clauses_from (names.inputs + 1) ds')) (sym ds_are)
        (once_from (names.inputs + 1) names.definitions named'.over_smaller
        (definitions_differ graph.gates marks names order' proper needed'.closed named')))

    -- the set stands for the test that the root is true
    pub stands_for_root : {E : Type 0} (r : Result Cnf E) → IfOk r (λ set. set.gates ≡ clauses_from (inputs + 1) ds) → IfOk r (λ set. set.roots ≡ (l ∷ []) ∷ []) → IfOk r (λ set. length set.inputs ≡ inputs) → IfOk r (λ set. EachIndex set.inputs (λ k. slice_index set.inputs k ≡ k + 1)) → IfOk r (λ set. set.count ≡ inputs + length ds) → IfOk r (λ set. StandsFor set (λ values. value_of graph values root ≡ true))
    stands_for_root (Err e) g t n f k = tt
    stands_for_root (Ok set) g t n f k =
        let sound = IsSound-named graph root marks names order own needed' same_inputs named' in
        let encodes : Encodes inputs ds l set = record { gates = g; roots = t; input_count = n; first = f; count = k } in
        let encodes' : Encodes names.inputs names.definitions (lit_of names root) set =
        subst (λ x. Encodes names.inputs names.definitions x set) l_is
        (subst (λ xs. Encodes names.inputs xs l set) ds_are (subst (λ i. Encodes i ds l set) (sym inputs_same) encodes)) in
        StandsFor-from names.inputs names.definitions (lit_of names root) (λ values. value_of graph values root ≡ true) set encodes' sound
