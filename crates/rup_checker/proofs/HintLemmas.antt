-- Hints taken one by one, and where the literals stand that they propagate.
use Rattle.rup_checker.proofs.Common.{◌==◌, ◌≡◌, ℕ, true, List, [], ◌∷◌, ◌++◌, get_or, ap, ◌∙◌, subst, eq-eqb, All-contains, list_any_at, slice_get_within, get_or_from_slice_get, Lit, IsVariable, IsWithin, VariablesWithin, HintsRefute, NamesUnit, HintsRefute-move, NamesUnit-same, stands_in}

-- hints refute nothing where the first of several names a clause without a unit literal
pub no_move : (clauses : List (List Lit)) (held : List Lit) (number : ℕ) (rest : List ℕ) (last : ℕ) → ((l : Lit) → ¬ (NamesUnit clauses held number l)) → ¬ (HintsRefute clauses held (number ∷ (rest ++ last ∷ [])))
no_move clauses held number [] last none h =
    let move = HintsRefute-move clauses held number last [] h in none move.0 move.1
no_move clauses held number (n ∷ ns) last none h =
    let move = HintsRefute-move clauses held number n (ns ++ last ∷ []) h in none move.0 move.1

-- hints refute a state, so without the first one, which propagates a literal, they refute the state that holds it too
pub after_move : (clauses : List (List Lit)) (held : List Lit) (number : ℕ) (l : Lit) (rest : List ℕ) (last : ℕ) → NamesUnit clauses held number l → HintsRefute clauses held (number ∷ (rest ++ last ∷ [])) → HintsRefute clauses (l ∷ held) (rest ++ last ∷ [])
after_move clauses held number l [] last unit h =
    let move = HintsRefute-move clauses held number last [] h in
    subst (λ m. HintsRefute clauses (m ∷ held) (last ∷ [])) (NamesUnit-same clauses held number move.0 l move.1 unit) move.2
after_move clauses held number l (n ∷ ns) last unit h =
    let move = HintsRefute-move clauses held number n (ns ++ last ∷ []) h in
    subst (λ m. HintsRefute clauses (m ∷ held) (n ∷ (ns ++ last ∷ []))) (NamesUnit-same clauses held number move.0 l move.1 unit) move.2

-- the unit literal of a clause stands in it
pub unit_stands : (clauses : List (List Lit)) (held : List Lit) (number : ℕ) (l : Lit) → NamesUnit clauses held number l → stands_in l.variable (get_or clauses number []) ≡ true
unit_stands clauses held number l (clause, at, unit) =
    let (k, within, is) = unit.stands in
    ap (stands_in l.variable) (get_or_from_slice_get clauses number clause [] at)
    ∙ list_any_at (λ m. m.variable == l.variable) clause k l within
    (eq-eqb (get_or clause k l).variable l.variable (ap (λ (m : Lit). m.variable) is))

-- the variable of a unit literal is one of the set's
pub unit_within : (count : ℕ) (clauses : List (List Lit)) (held : List Lit) (number : ℕ) (l : Lit) → VariablesWithin count clauses → NamesUnit clauses held number l → IsVariable count l.variable
unit_within count clauses held number l within (clause, at, unit) =
    let here : IsWithin count clause =
    subst (IsWithin count) (get_or_from_slice_get clauses number clause clause at) (within number clause (slice_get_within clauses number clause at)) in
    All-contains (λ m. IsVariable count m.variable) clause l here unit.stands
