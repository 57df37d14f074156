-- The variables of the clauses of definitions, and how many clauses these are.
use Rattle.cnf_build.proofs.Common.{◌≡◌, ℕ, ◌+◌, ◌*◌, ◌≤◌, List, [], ◌∷◌, ◌++◌, length, get_or, All, EachIndex, slice_index, ◌∙◌, arith, length-append, slice_get_within, get_or_default, All-nil, All-cons, Lit, IsVariable, IsWithin, VariablesWithin, Definition, clauses_of_definition, clauses_from, AreOverSmaller}
use Rattle.cnf_build.specs.declared.definition.Definition.TheVariants.{One, And, Xor, Mux}
use Rattle.cnf_build.proofs.OneDefinition.{all_heads, within_from_head}
use Rattle.cnf_build.proofs.DefinitionLists.{All-clauses_from}

pub VariablesWithin-clauses_from : (inputs : ℕ) (ds : List Definition) → AreOverSmaller (inputs + 1) ds → VariablesWithin (inputs + length ds) (clauses_from (inputs + 1) ds)
VariablesWithin-clauses_from inputs ds over =
    All-clauses_from (IsWithin (inputs + length ds)) (inputs + 1) ds (λ j d at. λ k c within.
    let inside = slice_get_within ds j d at in
    within_from_head (inputs + 1 + j) (inputs + length ds) (get_or (clauses_of_definition (inputs + 1 + j) d) k c) (omega arith) (omega arith)
    (all_heads (inputs + 1 + j) d (over j d at) k c within))

pub VariablesWithin-root : (count : ℕ) (root : Lit) → IsVariable count root.variable → VariablesWithin count ((root ∷ []) ∷ [])
VariablesWithin-root count root is =
    All-cons (IsWithin count) (root ∷ []) []
    (All-cons (λ l. IsVariable count l.variable) root [] is (All-nil (λ l. IsVariable count l.variable)))
    (All-nil (IsWithin count))

pub IsVariable-inputs : (count : ℕ) (inputs : List ℕ) → length inputs ≤ count → EachIndex inputs (λ k. slice_index inputs k ≡ k + 1) → All (IsVariable count) inputs
IsVariable-inputs count inputs le first =
    λ k d within.
    let number : get_or inputs k d ≡ k + 1 = get_or_default inputs k d 0 within ∙ first k within in
    (omega arith, omega arith)

length-clauses_of_definition : (n : ℕ) (d : Definition) → length (clauses_of_definition n d) ≤ 4
length-clauses_of_definition n One = omega arith
length-clauses_of_definition n (And a b) = omega arith
length-clauses_of_definition n (Xor a b) = omega arith
length-clauses_of_definition n (Mux c a b) = omega arith

pub length-clauses_from : (n : ℕ) (ds : List Definition) → length (clauses_from n ds) ≤ 4 * length ds
length-clauses_from n [] = omega arith
length-clauses_from n (d ∷ ds) =
    omega (arith, length-append (clauses_of_definition n d) (clauses_from (n + 1) ds), length-clauses_of_definition n d, length-clauses_from (n + 1) ds)

pub length-clauses_from-push : (n : ℕ) (ds : List Definition) (d : Definition) → length (clauses_from n (ds ++ d ∷ [])) ≤ length (clauses_from n ds) + 4
length-clauses_from-push n [] d = omega (arith, length-append (clauses_of_definition n d) [], length-clauses_of_definition n d)
length-clauses_from-push n (e ∷ ds) d =
    omega (
      arith,
      length-append (clauses_of_definition n e) (clauses_from (n + 1) ds),
      length-append (clauses_of_definition n e) (clauses_from (n + 1) (ds ++ d ∷ [])),
      length-clauses_from-push (n + 1) ds d,
    )
