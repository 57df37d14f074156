-- Literals and clauses, and where an assignment makes them true (propositional logic). A literal has a code, a number.
-- An assignment is a function from variables to truth values; the variables are numbered from 1.
use Rattle.std.specs.Prelude.{◌≡◌, ℕ, ◌+◌, ◌-◌, ◌*◌, ◌/◌, ◌%◌, ◌≤◌, Bool, true, false, not, ◌&&◌, ◌==◌, if◌then◌else◌, List, slice_index_or, All}
use Rattle.std.specs.List.{list_any}
use Rattle.std.proofs.Common.{arith}
use Rattle.std.proofs.lemmas.Bool.Decides.{nat_tests}

-- a variable or, where `negated`, its negation
pub record Lit : Type 0 where
  pub variable : ℕ
  pub negated : Bool

-- the code of a literal: twice the number of the variable, and one more where the literal is negated
abbrev pub code_of : Lit → ℕ
code_of l = 2 * l.variable + (if l.negated then 1 else 0)

-- the literal that has this code
abbrev pub literal_at : ℕ → Lit
literal_at code = record { variable = code / 2; negated = code % 2 == 1 }

-- each code is that of its literal
pub code_of-literal_at : (code : ℕ) → code_of (literal_at code) ≡ code
code_of-literal_at code = grind (arith, nat_tests)

-- the literal of a variable that is true where the variable has this value
abbrev pub literal_of : ℕ → Bool → Lit
literal_of n value = record { variable = n; negated = not value }

abbrev pub negation_of : Lit → Lit
negation_of l = record { variable = l.variable; negated = not l.negated }

-- whether two literals are the same
abbrev pub is_same : Lit → Lit → Bool
is_same l m = (l.variable == m.variable) && (if l.negated then m.negated else not m.negated)

-- whether the assignment makes the literal true
abbrev pub literal_true : (ℕ → Bool) → Lit → Bool
literal_true v l = if l.negated then not (v l.variable) else v l.variable

-- whether it makes the clause true, that is, one of its literals
abbrev pub clause_true : (ℕ → Bool) → List Lit → Bool
clause_true v clause = list_any (literal_true v) clause

-- the assignment meets the clauses: it makes each of them true
abbrev pub Meets : (ℕ → Bool) → List (List Lit) → Type 0
Meets v clauses = All (λ clause. clause_true v clause ≡ true) clauses

-- A list of truth values as an assignment: variable n has the value at place n - 1, and false past the end.
abbrev pub assignment_of : List Bool → ℕ → Bool
assignment_of values n = slice_index_or values (n - 1) false

-- the variables of so many: the numbers from 1 to count
abbrev pub IsVariable : ℕ → ℕ → Type 0
IsVariable count n = (1 ≤ n) × (n ≤ count)

-- each variable of the clause is one of so many variables
abbrev pub IsWithin : ℕ → List Lit → Type 0
IsWithin count clause = All (λ l. IsVariable count l.variable) clause

abbrev pub VariablesWithin : ℕ → List (List Lit) → Type 0
VariablesWithin count clauses = All (IsWithin count) clauses
