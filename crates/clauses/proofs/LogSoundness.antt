-- Each clause of a log that follows is true in every model of the set.
use Rattle.clauses.proofs.Common.{◌≡◌, ℕ, zero, suc, ◌-◌, ◌<◌, ◌≤◌, Bool, true, List, [], ◌∷◌, ◌++◌, Some, None, length, take, refl, sym, ap, ◌∙◌, arith, subst, append_assoc, length-append, slice_get, All, Option, option_map, IsSomeAnd, Step, Cnf, clause_true, Meets, all_clauses, clauses_of_steps, clauses_before, LogFollows, IsRefutation, true≢false, append-nil, get_or_append_left, map-append, take_all, All-push, slice_get-map}
use Rattle.clauses.proofs.Soundness.{Meets-at, shown_is_true}

-- the elements up to and with a place are those before it and the one at it
take_one_more : {X : Type 0} (xs : List X) (place : ℕ) (x : X) → slice_get xs place ≡ Some x → take (suc place) xs ≡ take place xs ++ x ∷ []
take_one_more [] place x is = cc
take_one_more (y ∷ ys) zero x is = let same : y ≡ x = cc in ap (λ z. z ∷ []) same
take_one_more (y ∷ ys) (suc place) x is = ap (λ zs. y ∷ zs) (take_one_more ys place x is)

-- the clauses before the next step are those before this step, and this step's clause
pub clauses_before-suc : (set : Cnf) (log : List Step) (place : ℕ) (step : Step) → slice_get log place ≡ Some step → clauses_before set log (suc place) ≡ clauses_before set log place ++ step.clause ∷ []
clauses_before-suc set log place step is =
    ap (λ steps. all_clauses set ++ clauses_of_steps steps) (take_one_more log place step is)
    ∙ ap (λ clauses. all_clauses set ++ clauses) (map-append (λ (s : Step). s.clause) (take place log) (step ∷ []))
    ∙ sym (append_assoc (all_clauses set) (clauses_of_steps (take place log)) (step.clause ∷ []))

element_at : {X : Type 0} (xs : List X) (place : ℕ) → place < length xs → (x : X) × (slice_get xs place ≡ Some x)
element_at [] place within = absurd (omega arith)
element_at (y ∷ ys) zero within = (y, refl)
element_at (y ∷ ys) (suc place) within = element_at ys place (omega arith)

-- a model of the set makes the clauses before each step true
pub Meets-clauses_before : (set : Cnf) (log : List Step) (v : ℕ → Bool) → LogFollows set log → Meets v (all_clauses set) → (place : ℕ) → place ≤ length log → Meets v (clauses_before set log place)
Meets-clauses_before set log v follows meets zero within =
    subst (Meets v) (sym (append-nil (all_clauses set))) meets
Meets-clauses_before set log v follows meets (suc place) within =
    let (step, at) = element_at log place (omega arith) in
    let before : Meets v (clauses_before set log place) =
    Meets-clauses_before set log v follows meets place (omega arith) in
    subst (Meets v) (sym (clauses_before-suc set log place step at))
    (All-push (λ clause. clause_true v clause ≡ true) (clauses_before set log place) step.clause before
    (shown_is_true v (clauses_before set log place) step.clause step.hints before (follows place step at).1))

-- a model of the set makes the clauses of the set and of the log true
pub Meets-set_and_log : (set : Cnf) (log : List Step) (v : ℕ → Bool) → LogFollows set log → Meets v (all_clauses set) → Meets v (all_clauses set ++ clauses_of_steps log)
Meets-set_and_log set log v follows meets =
    subst (λ steps. Meets v (all_clauses set ++ clauses_of_steps steps)) (take_all (length log) log (omega arith))
    (Meets-clauses_before set log v follows meets (length log) (omega arith))

pub All-left : {X : Type 0} (P : X → Type 0) (xs ys : List X) → All P (xs ++ ys) → All P xs
All-left P xs ys h k d within =
    subst P (get_or_append_left xs ys d k within) (h k d (omega (arith, length-append xs ys)))

pub All-right : {X : Type 0} (P : X → Type 0) (xs ys : List X) → All P (xs ++ ys) → All P ys
All-right P [] ys h = h
All-right P (x ∷ xs) ys h = All-right P xs ys (λ k d within. h (suc k) d (omega arith))

pub Meets-log : (set : Cnf) (log : List Step) (v : ℕ → Bool) → LogFollows set log → Meets v (all_clauses set) → Meets v (clauses_of_steps log)
Meets-log set log v follows meets =
    All-right (λ clause. clause_true v clause ≡ true) (all_clauses set) (clauses_of_steps log) (Meets-set_and_log set log v follows meets)

empty_is_false : (v : ℕ → Bool) (log : List Step) (place : ℕ) (step : Step) → slice_get log place ≡ Some step → step.clause ≡ [] → Meets v (clauses_of_steps log) → ⊥
empty_is_false v log place step at empty meets =
    let named : slice_get (clauses_of_steps log) place ≡ Some step.clause =
    slice_get-map (λ (s : Step). s.clause) log place ∙ ap (option_map (λ (s : Step). s.clause)) at in
    true≢false (sym (Meets-at v (clauses_of_steps log) place step.clause meets named) ∙ ap (clause_true v) empty)

last_empty : (v : ℕ → Bool) (log : List Step) (last : Option Step) → slice_get log (length log - 1) ≡ last → IsSomeAnd last (λ step. step.clause ≡ []) → Meets v (clauses_of_steps log) → ⊥
last_empty v log None is empty meets = empty
last_empty v log (Some step) is empty meets = empty_is_false v log (length log - 1) step is empty meets

-- a refuted set has no model
pub refuted_no_model : (set : Cnf) (log : List Step) → IsRefutation set log → (v : ℕ → Bool) → ¬ (Meets v (all_clauses set))
refuted_no_model set log refutes v meets =
    last_empty v log (slice_get log (length log - 1)) refl refutes.1 (Meets-log set log v refutes.0 meets)
