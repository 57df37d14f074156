-- The table of the checker: which literals are held, which clauses are marked, and which clauses account for the
-- variables of the literals that are held.
use Rattle.std.specs.Prelude.{◌≡◌, ◌==◌, ◌⊎◌, ℕ, Bool, true, false, List, [], slice_index_or, if◌then◌else◌}
use Rattle.std.specs.List.{list_any}
use Rattle.clauses.specs.Literal.{Lit}
use Rattle.clauses.specs.Propagation.{is_held}
use Rattle.rup_checker.specs.declared.table.Entry.{Entry}

-- an entry that says nothing: no literal of the variable is held, and the clause isn't marked
abbrev pub nothing : Entry
nothing = record { positive = false; negative = false; used = false }

-- whether the table says that the literal is held
abbrev pub table_holds : List Entry → Lit → Bool
table_holds table l =
    if l.negated then (slice_index_or table l.variable nothing).negative
    else (slice_index_or table l.variable nothing).positive

-- The table represents the state: it holds exactly the literals that are held in it.
pub record Represents (table : List Entry) (held : List Lit) : Type 0 where
  pub each : (l : Lit) → table_holds table l ≡ is_held held l

-- whether the variable stands in the clause
abbrev pub stands_in : ℕ → List Lit → Bool
stands_in n clause = list_any (λ m. m.variable == n) clause

-- whether the clause of the number is marked
abbrev pub used_in : List Entry → ℕ → Bool
used_in used number = (slice_index_or used number nothing).used

-- Each literal that the table holds is of a variable of this clause, the step's, or of a marked clause.
abbrev pub Accounted : List (List Lit) → List Lit → List Entry → List Entry → Type 0
Accounted clauses clause table used =
    (l : Lit) → table_holds table l ≡ true →
    (stands_in l.variable clause ≡ true)
    ⊎ ((number : ℕ) × (used_in used number ≡ true) × (stands_in l.variable (slice_index_or clauses number []) ≡ true))
