-- What follows where a set stands for a test of its inputs' values.
use Rattle.clauses.proofs.Common.{◌≡◌, ℕ, zero, suc, ◌-◌, ◌<◌, ◌≤◌, Bool, true, false, ◌||◌, List, [], ◌∷◌, length, map, take, get_or, refl, sym, ap, ◌∙◌, arith, inl, inr, length-take, ◌↔◌, Cnf, Lit, Meets, IsWithin, VariablesWithin, IsVariable, literal_true, clause_true, assignment_of, all_clauses, UnitsDetermine, AgreeUpTo, StandsFor, input_values, same_lists, length-map, get_or-take, get_or_default, All-append, All-head, All-tail}
use Rattle.clauses.proofs.LogSoundness.{All-left, All-right}

-- an assignment meets the clauses of the set exactly where it meets those of the gates and the roots
pub Meets-gates : (set : Cnf) (v : ℕ → Bool) → Meets v (all_clauses set) → Meets v set.gates
Meets-gates set v h = All-left (λ clause. clause_true v clause ≡ true) set.gates set.roots h

pub Meets-roots : (set : Cnf) (v : ℕ → Bool) → Meets v (all_clauses set) → Meets v set.roots
Meets-roots set v h = All-right (λ clause. clause_true v clause ≡ true) set.gates set.roots h

pub Meets-both : (set : Cnf) (v : ℕ → Bool) → Meets v set.gates → Meets v set.roots → Meets v (all_clauses set)
Meets-both set v g r = All-append (λ clause. clause_true v clause ≡ true) set.gates set.roots g r

value_same : (v w : ℕ → Bool) (l : Lit) → w l.variable ≡ v l.variable → literal_true w l ≡ literal_true v l
value_same v w l e = ap (λ b. literal_true (λ _. b) l) e

-- assignments that agree on the variables of a clause give it the same truth
pub clause_true-agree : (count : ℕ) (v w : ℕ → Bool) → AgreeUpTo count v w → (clause : List Lit) → IsWithin count clause → clause_true w clause ≡ clause_true v clause
clause_true-agree count v w agree [] within = refl
clause_true-agree count v w agree (l ∷ ls) within =
    let here : literal_true w l ≡ literal_true v l =
    value_same v w l (agree l.variable (All-head (λ k. IsVariable count k.variable) l ls within)) in
    let rest : clause_true w ls ≡ clause_true v ls =
    clause_true-agree count v w agree ls (All-tail (λ k. IsVariable count k.variable) l ls within) in
    ap (λ b. b || clause_true w ls) here ∙ ap (λ b. literal_true v l || b) rest

pub Meets-agree : (count : ℕ) (v w : ℕ → Bool) → AgreeUpTo count v w → (clauses : List (List Lit)) → VariablesWithin count clauses → Meets v clauses → Meets w clauses
Meets-agree count v w agree clauses within meets =
    λ k d inside. clause_true-agree count v w agree (get_or clauses k d) (within k d inside) ∙ meets k d inside

-- the inputs' values in a model of the set pass the test
pub model_passes : (set : Cnf) (test : List Bool → Type 0) → StandsFor set test → (v : ℕ → Bool) → Meets v (all_clauses set) → test (input_values set v)
model_passes set test stands v meets =
    let at = stands.each_setting v in
    let agree : AgreeUpTo set.count at.extension v = at.only v ((λ k d inside. refl), Meets-gates set v meets) in
    at.asked.0 (Meets-agree set.count v at.extension (λ n is. sym (agree n is)) set.roots set.root_variables (Meets-roots set v meets))

-- where the set has no model, no values of the inputs pass the test
pub none_passes : (set : Cnf) (test : List Bool → Type 0) → StandsFor set test → ((v : ℕ → Bool) → ¬ (Meets v (all_clauses set))) → (setting : ℕ → Bool) → ¬ (test (input_values set setting))
none_passes set test stands none setting passes =
    let at = stands.each_setting setting in
    none at.extension (Meets-both set at.extension at.extends.1 (at.asked.1 passes))

-- unit propagation from the inputs' values derives all other variables or finds a conflict
pub UnitsDetermine-from_StandsFor : (set : Cnf) (test : List Bool → Type 0) → StandsFor set test → UnitsDetermine set
UnitsDetermine-from_StandsFor set test stands setting =
    let at = stands.each_setting setting in (
      at.derived.0,
      at.derived.1,
      at.derived.2,
      elim at.derived.3 [
        | inl all ↦ inl (λ n is. (at.extension n, all n is))
        | inr some ↦ inr some
      ],
    )

-- A set that stands for a test stands for each other test that says the same of lists with one value for each input.
pub StandsFor-same : (set : Cnf) (p q : List Bool → Type 0) → ((values : List Bool) → length values ≡ length set.inputs → (p values ↔ q values)) → StandsFor set p → StandsFor set q
StandsFor-same set p q same stands =
    record {
      each_setting = λ setting.
          let at = stands.each_setting setting in
          let s = same (input_values set setting) (length-map set.inputs setting) in
          record {
            extension = at.extension;
            extends = at.extends;
            only = at.only;
            derived = at.derived;
            asked = ((λ meets. s.0 (at.asked.0 meets)), (λ passes. at.asked.1 (s.1 passes)));
          };
      inputs_first = stands.inputs_first;
      inner_defined = stands.inner_defined;
      inner_used = stands.inner_used;
    }

get_or-map : {A B : Type 0} (f : A → B) (xs : List A) (k : ℕ) (d : A) (e : B) → k < length xs → get_or (map f xs) k e ≡ f (get_or xs k d)
get_or-map f [] k d e within = absurd (omega arith)
get_or-map f (x ∷ xs) zero d e within = refl
get_or-map f (x ∷ xs) (suc k) d e within = get_or-map f xs k d e (omega arith)

-- in the assignment that a list of values is, the inputs have the first values of the list
pub input_values-assignment_of : (set : Cnf) (test : List Bool → Type 0) → StandsFor set test → (values : List Bool) → length set.inputs ≤ length values → input_values set (assignment_of values) ≡ take (length set.inputs) values
input_values-assignment_of set test stands values enough =
    let lengths : length (take (length set.inputs) values) ≡ length set.inputs = omega (arith, length-take (length set.inputs) values) in
    same_lists (input_values set (assignment_of values)) (take (length set.inputs) values)
    (length-map set.inputs (assignment_of values) ∙ sym lengths)
    (λ k d within.
    let inside : k < length set.inputs = omega (arith, length-map set.inputs (assignment_of values)) in
    let number : get_or set.inputs k 0 - 1 ≡ k = omega (arith, stands.inputs_first k inside) in
    get_or-map (assignment_of values) set.inputs k 0 d inside
    ∙ ap (λ n. get_or values n false) number
    ∙ get_or_default values k false d (omega arith)
    ∙ sym (get_or-take (length set.inputs) values k d inside))
