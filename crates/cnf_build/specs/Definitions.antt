-- Definitions of variables by smaller ones, and their clauses (Tseitin's encoding).
use Rattle.std.specs.Prelude.{◌≡◌, ◌≢◌, ℕ, ◌+◌, ◌<◌, ◌≤◌, Bool, true, false, ◌&&◌, if◌then◌else◌, List, [], ◌∷◌, ◌++◌, Some, slice_get, AllPairs}
use Rattle.std.specs.Bool.{xor}
use Rattle.clauses.specs.Literal.{Lit, literal_true, literal_of, negation_of}
use Rattle.cnf_build.specs.declared.definition.Definition.{Definition}
use Rattle.cnf_build.specs.declared.definition.Definition.TheVariants.{One, And, Xor, Mux}

-- the value that a definition gives under an assignment
abbrev pub definition_value : (ℕ → Bool) → Definition → Bool
definition_value v One = true
definition_value v (And a b) = literal_true v a && literal_true v b
definition_value v (Xor a b) = xor (literal_true v a) (literal_true v b)
definition_value v (Mux c a b) = if literal_true v c then literal_true v a else literal_true v b

-- The clauses that are all true exactly where the variable n has the definition's value: one for each row of the truth
-- table, where rows that differ in one operand alone are joined to one.
abbrev pub clauses_of_definition : ℕ → Definition → List (List Lit)
clauses_of_definition n One = (literal_of n true ∷ []) ∷ []
clauses_of_definition n (And a b) =
    (literal_of n false ∷ a ∷ []) ∷ (literal_of n false ∷ b ∷ []) ∷ (literal_of n true ∷ negation_of a ∷ negation_of b ∷ []) ∷ []
clauses_of_definition n (Xor a b) =
    (literal_of n false ∷ a ∷ b ∷ []) ∷ (literal_of n false ∷ negation_of a ∷ negation_of b ∷ [])
    ∷ (literal_of n true ∷ negation_of a ∷ b ∷ []) ∷ (literal_of n true ∷ a ∷ negation_of b ∷ []) ∷ []
clauses_of_definition n (Mux c a b) =
    (literal_of n false ∷ negation_of c ∷ a ∷ []) ∷ (literal_of n true ∷ negation_of c ∷ negation_of a ∷ [])
    ∷ (literal_of n false ∷ c ∷ b ∷ []) ∷ (literal_of n true ∷ c ∷ negation_of b ∷ []) ∷ []

-- the clauses of definitions in order, the first of which defines the variable n
abbrev pub clauses_from : ℕ → List Definition → List (List Lit)
clauses_from n [] = []
clauses_from n (d ∷ ds) = clauses_of_definition n d ++ clauses_from (n + 1) ds

-- no variable stands in the clause twice
abbrev pub NamesOnce : List Lit → Type 0
NamesOnce clause = AllPairs (λ l m. l.variable ≢ m.variable) clause

-- the literal's variable is smaller than n
abbrev pub IsSmaller : ℕ → Lit → Type 0
IsSmaller n l = (1 ≤ l.variable) × (l.variable < n)

-- the variable of each operand is smaller than n
abbrev pub IsOverSmaller : ℕ → Definition → Type 0
IsOverSmaller n One = Unit {0}
IsOverSmaller n (And a b) = IsSmaller n a × IsSmaller n b
IsOverSmaller n (Xor a b) = IsSmaller n a × IsSmaller n b
IsOverSmaller n (Mux c a b) = IsSmaller n c × IsSmaller n a × IsSmaller n b

-- each operand has a smaller variable than the one that is defined; the first definition is that of n
abbrev pub AreOverSmaller : ℕ → List Definition → Type 0
AreOverSmaller n ds = (j : ℕ) (d : Definition) → slice_get ds j ≡ Some d → IsOverSmaller (n + j) d
