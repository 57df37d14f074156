-- Steps that are packed and unpacked one by one.
use Rattle.packed_log.proofs.Common.{◌≡◌, ℕ, ◌+◌, ◌<◌, ◌≤◌, List, [], ◌∷◌, ◌++◌, take, drop, get_or, length, refl, sym, ap, subst, ◌∙◌, append_assoc, append-nil, take_all, take_more, drop_all, drop_more, Lit, Step, behind_list, first_hints, steps, HintsFit, AllHintsFit, Adds, AreHints}

-- the bytes behind the hints of the steps of these clauses
abbrev behind_hints : List (List Lit) → List ℕ → List ℕ
behind_hints [] bytes = bytes
behind_hints (clause ∷ clauses) bytes = behind_hints clauses (behind_list bytes)

steps_more : (clauses : List (List Lit)) (clause : List Lit) (bytes : List ℕ) → steps (clauses ++ clause ∷ []) bytes ≡ steps clauses bytes ++ record { clause = clause; hints = first_hints (behind_hints clauses bytes) } ∷ []
steps_more [] clause bytes = refl
steps_more (first ∷ clauses) clause bytes = ap (λ (k : List Step). record { clause = first; hints = first_hints bytes } ∷ k) (steps_more clauses clause (behind_list bytes))

behind_hints_more : (clauses : List (List Lit)) (clause : List Lit) (bytes : List ℕ) → behind_hints (clauses ++ clause ∷ []) bytes ≡ behind_list (behind_hints clauses bytes)
behind_hints_more [] clause bytes = refl
behind_hints_more (first ∷ clauses) clause bytes = behind_hints_more clauses clause (behind_list bytes)

fit_more : (clauses : List (List Lit)) (clause : List Lit) (bytes : List ℕ) → AllHintsFit clauses bytes → HintsFit (behind_hints clauses bytes) → AllHintsFit (clauses ++ clause ∷ []) bytes
fit_more [] clause bytes fit last = (last, tt)
fit_more (first ∷ clauses) clause bytes fit last = (fit.0, fit_more clauses clause (behind_list bytes) fit.1 last)

-- The bytes are exactly the hints of the steps of these clauses, whatever bytes follow.
pub record AreSteps (clauses : List (List Lit)) (bytes : List ℕ) (log : List Step) : Type 0 where
  pub first : (rest : List ℕ) → steps clauses (bytes ++ rest) ≡ log
  pub behind : (rest : List ℕ) → behind_hints clauses (bytes ++ rest) ≡ rest
  pub fit : (rest : List ℕ) → AllHintsFit clauses (bytes ++ rest)

pub no_steps : (clauses : List (List Lit)) (bytes : List ℕ) → clauses ≡ [] → bytes ≡ [] → AreSteps clauses bytes []
no_steps clauses bytes none empty =
    subst (λ (k : List (List Lit)). AreSteps k bytes []) (sym none)
    (subst (λ (k : List ℕ). AreSteps [] k []) (sym empty) (record { first = λ rest. refl; behind = λ rest. refl; fit = λ rest. tt }))

pub one_more_step : (log : List Step) (place : ℕ) (step : Step) (clauses longer : List (List Lit)) (bytes newer : List ℕ) → place < length log → step ≡ get_or log place step → longer ≡ clauses ++ step.clause ∷ [] → Adds (AreHints step.hints) bytes newer → AreSteps clauses bytes (take place log) → AreSteps longer newer (take (place + 1) log)
one_more_step log place step clauses longer bytes newer within stands more adds h =
    let next : take (place + 1) log ≡ take place log ++ step ∷ [] = take_more log place step within ∙ ap (λ (m : Step). take place log ++ m ∷ []) (sym stands) in
    let word = adds.0 in
    let whole = λ (rest : List ℕ). ap (λ (s : List ℕ). s ++ rest) adds.1 ∙ append_assoc bytes word rest in
    let last = λ (rest : List ℕ). h.behind (word ++ rest) in
    subst (λ (k : List (List Lit)). AreSteps k newer (take (place + 1) log)) (sym more)
    (record {
      first = λ rest.
          ap (steps (clauses ++ step.clause ∷ [])) (whole rest) ∙ steps_more clauses step.clause (bytes ++ (word ++ rest))
          ∙ ap (λ (s : List ℕ). steps clauses (bytes ++ (word ++ rest)) ++ record { clause = step.clause; hints = first_hints s } ∷ []) (last rest)
          ∙ ap (λ (s : List ℕ). steps clauses (bytes ++ (word ++ rest)) ++ record { clause = step.clause; hints = s } ∷ []) (adds.2.first rest)
          ∙ ap (λ (s : List Step). s ++ step ∷ []) (h.first (word ++ rest)) ∙ sym next;
      behind = λ rest.
          ap (behind_hints (clauses ++ step.clause ∷ [])) (whole rest) ∙ behind_hints_more clauses step.clause (bytes ++ (word ++ rest))
          ∙ ap behind_list (last rest) ∙ adds.2.behind rest;
      fit = λ rest.
          subst (AllHintsFit (clauses ++ step.clause ∷ [])) (sym (whole rest))
          (fit_more clauses step.clause (bytes ++ (word ++ rest)) (h.fit (word ++ rest)) (subst HintsFit (sym (last rest)) (adds.2.fit rest)));
    })

pub all_packed : (log : List Step) (place : ℕ) (clauses : List (List Lit)) (bytes same : List ℕ) → length log ≤ place → same ≡ bytes → AreSteps clauses bytes (take place log) → (steps clauses same ≡ log) × AllHintsFit clauses same
all_packed log place clauses bytes same all is h =
    let empty : bytes ++ [] ≡ same = append-nil bytes ∙ sym is in
    (ap (steps clauses) (sym empty) ∙ h.first [] ∙ take_all place log all, subst (AllHintsFit clauses) empty (h.fit []))

-- The steps that were unpacked, and those that the rest of the bytes gives for the clauses from this place on, are the
-- whole log.
pub record StepsTaken (clauses : List (List Lit)) (place : ℕ) (bytes rest : List ℕ) (log : List Step) : Type 0 where
  pub are : log ++ steps (drop place clauses) rest ≡ steps clauses bytes
  pub fit : AllHintsFit (drop place clauses) rest

pub none_taken : (clauses same : List (List Lit)) (bytes rest : List ℕ) (log : List Step) → same ≡ clauses → rest ≡ bytes → log ≡ [] → AllHintsFit clauses bytes → StepsTaken same 0 bytes rest log
none_taken clauses same bytes rest log is begins empty fit = record {
  are = ap (λ (k : List Step). k ++ steps same rest) empty ∙ ap (steps same) begins;
  fit = subst (λ (k : List (List Lit)). AllHintsFit k rest) (sym is) (subst (AllHintsFit clauses) (sym begins) fit);
}

next_clause : (clauses : List (List Lit)) (place : ℕ) (clause : List Lit) → place < length clauses → clause ≡ get_or clauses place clause → drop place clauses ≡ clause ∷ drop (place + 1) clauses
next_clause clauses place clause within stands = drop_more clauses place clause within ∙ ap (λ (k : List Lit). k ∷ drop (place + 1) clauses) (sym stands)

pub next_fits : (clauses : List (List Lit)) (place : ℕ) (clause : List Lit) (bytes rest : List ℕ) (log : List Step) → place < length clauses → clause ≡ get_or clauses place clause → StepsTaken clauses place bytes rest log → HintsFit rest
next_fits clauses place clause bytes rest log within stands h =
    (subst (λ (k : List (List Lit)). AllHintsFit k rest) (next_clause clauses place clause within stands) h.fit).0

pub step_taken : (clauses : List (List Lit)) (place : ℕ) (clause : List Lit) (bytes rest newer : List ℕ) (log longer : List Step) (step : Step) → place < length clauses → clause ≡ get_or clauses place clause → step.clause ≡ clause → step.hints ≡ first_hints rest → newer ≡ behind_list rest → longer ≡ log ++ step ∷ [] → StepsTaken clauses place bytes rest log → StepsTaken clauses (place + 1) bytes newer longer
step_taken clauses place clause bytes rest newer log longer step within stands clause_is hints_are behind more h =
    let split = next_clause clauses place clause within stands in
    let is : step ≡ record { clause = clause; hints = first_hints rest } = ap (λ (k : List Lit). record { clause = k; hints = step.hints }) clause_is ∙ ap (λ (k : List ℕ). record { clause = clause; hints = k }) hints_are in
    record {
      are =
          ap (λ (s : List Step). s ++ steps (drop (place + 1) clauses) newer) more ∙ append_assoc log (step ∷ []) (steps (drop (place + 1) clauses) newer)
          ∙ ap (λ (s : List ℕ). log ++ step ∷ steps (drop (place + 1) clauses) s) behind ∙ ap (λ (s : Step). log ++ s ∷ steps (drop (place + 1) clauses) (behind_list rest)) is
          ∙ sym (ap (λ (k : List (List Lit)). log ++ steps k rest) split) ∙ h.are;
      fit = subst (AllHintsFit (drop (place + 1) clauses)) (sym behind) (subst (λ (k : List (List Lit)). AllHintsFit k rest) split h.fit).1;
    }

pub all_taken : (clauses same : List (List Lit)) (place : ℕ) (bytes rest : List ℕ) (log : List Step) → same ≡ clauses → length same ≤ place → StepsTaken same place bytes rest log → log ≡ steps clauses bytes
all_taken clauses same place bytes rest log is all h =
    sym (append-nil log) ∙ sym (ap (λ (k : List (List Lit)). log ++ steps k rest) (drop_all place same all)) ∙ h.are ∙ ap (λ (k : List (List Lit)). steps k bytes) is
