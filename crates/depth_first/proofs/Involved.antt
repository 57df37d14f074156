-- Which variables a conflict rests on, as they are marked from the last entry of the trail back.
use Rattle.depth_first.proofs.Common.{◌≡◌, ℕ, zero, suc, ◌+◌, ◌<◌, Bool, true, false, cond, None, List, [], ◌∷◌, ◌++◌, Some, length, take, set, get_or, refl, sym, ap, ◌∙◌, arith, inl, inr, subst, slice_get, ◌⊎◌, Option, cases_Bool, cases_eq, cases_order, get_or-set_same, get_or-set_other, Cnf, Step, Lit, negation_of, IsWithin, is_held, is_false, unit_only, all_clauses, clauses_of_steps, LogFollows, clauses_with, Entry, Cause, InputDecision, NonInputDecision, Reason, literals, EachFresh, IsOpen, reasons, reason_of, EachForced, is_marked, AllMarked, Marks, NamesMarked, IsInvolved, marked_entries, filter-append, cons_option}
use Rattle.depth_first.proofs.Lists.{some_same, take_next, slice_get_cases, slice_get_in_take, take_take_below}
use Rattle.depth_first.proofs.HeldLists.{held_left, held_cases, held_one_same, held_last, both_held, open_not_held, open_not_false, literal_at, HeldWithin-take}
use Rattle.depth_first.proofs.Decisions.{read_at, reasons-append}
use Rattle.depth_first.proofs.Sets.{clause_within}

-- one more variable of the clause is marked
pub Marks-next : (clause : List Lit) (old mid : List Bool) (k : ℕ) (l : Lit) → slice_get clause k ≡ Some l → l.variable < length mid → Marks (take k clause) old mid → Marks (take (k + 1) clause) old (set mid l.variable true)
Marks-next clause old mid k l at room so_far =
    let v = l.variable in
    let next : take (k + 1) clause ≡ take k clause ++ l ∷ [] =
    let e : k + 1 ≡ suc k = omega arith in ap (λ n. take n clause) e ∙ take_next clause k l at in
    let here : is_marked (set mid v true) v ≡ true = get_or-set_same mid v true false room in
    let keeps : (n : ℕ) → is_marked mid n ≡ true → is_marked (set mid v true) n ≡ true =
    λ n h.
    elim (cases_eq n v) [
      | inl same ↦ ap (is_marked (set mid v true)) same ∙ here
      | inr differ ↦ get_or-set_other mid v n true false differ ∙ h
    ] in
    record {
      all = λ m h.
          elim (held_cases (take k clause) (l ∷ []) m (sym (ap (λ c. is_held c m) next) ∙ h)) [
            | inl before ↦ keeps m.variable (so_far.all m before)
            | inr one ↦ ap (λ (x : Lit). is_marked (set mid v true) x.variable) (held_one_same l m one) ∙ here
          ];
      kept = λ n h. keeps n (so_far.kept n h);
      only = λ n h.
          elim (cases_eq n v) [
            | inl same ↦ inr (l, ap (λ c. is_held c l) next ∙ held_last (take k clause) l, sym same)
            | inr differ ↦
                elim (so_far.only n (sym (get_or-set_other mid v n true false differ) ∙ h)) [
                  | inl before ↦ inl before
                  | inr (m, stands, is) ↦ inr (m, ap (λ c. is_held c m) next ∙ held_left (take k clause) (l ∷ []) m stands, is)
                ]
          ];
    }

named_marked : (clauses : List (List Lit)) (marks : List Bool) (number : ℕ) (clause : List Lit) → slice_get clauses number ≡ Some clause → AllMarked marks clause → NamesMarked clauses marks number
named_marked clauses marks number clause at all c there l stands =
    all l (ap (λ ls. is_held ls l) (some_same clause c (sym at ∙ there)) ∙ stands)

-- behind the last entry only the clause that is false counts
pub IsInvolved-start : (clauses : List (List Lit)) (entries : List Entry) (conflict from : ℕ) (clause : List Lit) (old marks : List Bool) → from ≡ length entries → slice_get clauses conflict ≡ Some clause → Marks clause old marks → IsInvolved clauses entries conflict from marks
IsInvolved-start clauses entries conflict from clause old marks is at m =
    record {
      falsified = named_marked clauses marks conflict clause at m.all;
      reasons_too = λ place e number past there cause marked. absurd (omega (arith, is, slice_get_below' entries place e there));
    }
  where
    slice_get_below' : (xs : List Entry) (k : ℕ) (x : Entry) → slice_get xs k ≡ Some x → k < length xs
    slice_get_below' [] k x at = cc
    slice_get_below' (z ∷ zs) zero x at = omega arith
    slice_get_below' (z ∷ zs) (suc k) x at = let h : k < length zs = slice_get_below' zs k x at in omega arith

-- an entry that isn't marked, or was decided, marks nothing
pub IsInvolved-skip : (clauses : List (List Lit)) (entries : List Entry) (conflict place from : ℕ) (e : Entry) (marks : List Bool) → from ≡ place + 1 → slice_get entries place ≡ Some e → ((number : ℕ) → e.cause ≡ Reason number → is_marked marks e.literal.variable ≡ true → ⊥) → IsInvolved clauses entries conflict from marks → IsInvolved clauses entries conflict place marks
IsInvolved-skip clauses entries conflict place from e marks is at skips so_far =
    record {
      falsified = so_far.falsified;
      reasons_too = λ k f number past there cause marked.
          elim (cases_order k place) [
            | inl same ↦
                let es : f ≡ e = some_same f e (sym there ∙ ap (slice_get entries) same ∙ at) in
                absurd (skips number (sym (ap (λ (g : Entry). g.cause) es) ∙ cause) (sym (ap (λ (g : Entry). is_marked marks g.literal.variable) es) ∙ marked))
            | inr (inl less) ↦ absurd (omega arith)
            | inr (inr more) ↦ so_far.reasons_too k f number (omega (arith, is)) there cause marked
          ];
    }

-- the variables of a reason had values before it forced its literal, so no later entry is of one of them
set_before : (values : List (Option Bool)) (entries : List Entry) (place k : ℕ) (e f : Entry) (clause : List Lit) (l : Lit) → EachFresh values entries → slice_get entries place ≡ Some e → slice_get entries k ≡ Some f → place < k → (is_false (literals (take place entries)) l ≡ true) ⊎ (l ≡ e.literal) → l.variable ≡ f.literal.variable → ⊥
set_before values entries place k e f clause l fresh at there later (inl closed) same =
    let held = literals (take k entries) in
    let within = HeldWithin-take place (take k entries) in
    let same_first : take place (take k entries) ≡ take place entries = take_take_below place k entries (omega arith) in
    both_held held (negation_of l)
    (within.each (negation_of l) (ap (λ es. is_held (literals es) (negation_of l)) same_first ∙ closed))
    (open_not_false held l (subst (IsOpen held) (sym same) (fresh k f there).2))
set_before values entries place k e f clause l fresh at there later (inr is) same =
    let held = literals (take k entries) in
    both_held held l
    (ap (is_held held) is ∙ literal_at (take k entries) place e (slice_get_in_take k entries place e at later))
    (open_not_held held l (subst (IsOpen held) (sym same) (fresh k f there).2))

-- an entry that is marked and has a reason: the variables of the reason are marked
pub IsInvolved-mark : (clauses : List (List Lit)) (values : List (Option Bool)) (entries : List Entry) (conflict place from number : ℕ) (e : Entry) (clause : List Lit) (old new : List Bool) → EachFresh values entries → EachForced clauses entries → from ≡ place + 1 → slice_get entries place ≡ Some e → e.cause ≡ Reason number → slice_get clauses number ≡ Some clause → Marks clause old new → IsInvolved clauses entries conflict from old → IsInvolved clauses entries conflict place new
IsInvolved-mark clauses values entries conflict place from number e clause old new fresh forced is at cause named marks so_far =
    let before = literals (take place entries) in
    let keep : (n : ℕ) → NamesMarked clauses old n → NamesMarked clauses new n = λ n h c there l stands. marks.kept l.variable (h c there l stands) in
    let (reason, named', unit) = forced.each place e number at cause in
    let same_clause : reason ≡ clause = some_same reason clause (sym named' ∙ named) in
    record {
      falsified = keep conflict so_far.falsified;
      reasons_too = λ k f n past there cause' marked.
          elim (cases_order k place) [
            | inl same ↦
                let es : f ≡ e = some_same f e (sym there ∙ ap (slice_get entries) same ∙ at) in
                let numbers : n ≡ number = reason_same n number (sym cause' ∙ ap (λ (g : Entry). g.cause) es ∙ cause) in
                subst (NamesMarked clauses new) (sym numbers) (named_marked clauses new number clause named marks.all)
            | inr (inl less) ↦ absurd (omega arith)
            | inr (inr more) ↦
                elim (marks.only f.literal.variable marked) [
                  | inl was ↦ keep n (so_far.reasons_too k f n (omega (arith, is)) there cause' was)
                  | inr (l, stands, variable) ↦
                      let in_reason : is_held reason l ≡ true = ap (λ ls. is_held ls l) same_clause ∙ stands in
                      let set_there : (is_false before l ≡ true) ⊎ (l ≡ e.literal) =
                      elim (cases_Bool (is_false before l)) [
                        | inl closed ↦ inl closed
                        | inr free ↦ inr (unit_only before reason e.literal l unit in_reason free)
                      ] in
                      absurd (set_before values entries place k e f clause l fresh at there more set_there variable)
                ]
          ];
    }
  where
    reason_same : (n m : ℕ) → ◌≡◌ {A = Cause} (Reason n) (Reason m) → n ≡ m
    reason_same n m e = cc

-- the step of a clause of the log
pub step_at : (log : List Step) (j : ℕ) (clause : List Lit) → slice_get (clauses_of_steps log) j ≡ Some clause → (s : Step) × (slice_get log j ≡ Some s) × (s.clause ≡ clause)
step_at [] j clause at = cc
step_at (s ∷ ss) zero clause at = (s, refl, some_same s.clause clause at)
step_at (s ∷ ss) (suc j) clause at = step_at ss j clause at

-- the variables of the clauses of the set and the log are the set's
pub with_within : (set : Cnf) (log : List Step) (number : ℕ) (clause : List Lit) → LogFollows set log → slice_get (clauses_with set log) number ≡ Some clause → IsWithin set.count clause
with_within set log number clause follows at =
    elim (slice_get_cases (all_clauses set) (clauses_of_steps log) number clause at) [
      | inl left ↦ clause_within set number clause left
      | inr (j, is, right) ↦
          let (s, there, same) = step_at log j clause right in subst (IsWithin set.count) same (follows j s there).0
    ]

pub cause_of_reason : (cause : Cause) (n : ℕ) → reason_of cause ≡ Some n → cause ≡ Reason n
cause_of_reason InputDecision n some = cc
cause_of_reason NonInputDecision n some = cc
cause_of_reason (Reason number) n some = let e : number ≡ n = cc in ap Reason e

pub no_reason : (cause : Cause) (n : ℕ) → reason_of cause ≡ None → cause ≡ Reason n → ⊥
no_reason cause n none is = let e : Some n ≡ None = sym (ap reason_of is) ∙ none in cc

-- the hint of an entry that is marked and has a reason
pub hint_of_marked : (marks : List Bool) (e : Entry) (n : ℕ) → is_marked marks e.literal.variable ≡ true → reason_of e.cause ≡ Some n → reasons (marked_entries marks (e ∷ [])) ≡ n ∷ []
hint_of_marked marks e n marked some = ap (λ b. reasons (cond b (e ∷ []) [])) marked ∙ ap (λ o. cons_option o []) some

pub no_hint_unmarked : (marks : List Bool) (e : Entry) → is_marked marks e.literal.variable ≡ false → reasons (marked_entries marks (e ∷ [])) ≡ []
no_hint_unmarked marks e unmarked = ap (λ b. reasons (cond b (e ∷ []) [])) unmarked

pub no_hint_of_decision : (marks : List Bool) (e : Entry) → reason_of e.cause ≡ None → reasons (marked_entries marks (e ∷ [])) ≡ []
no_hint_of_decision marks e none = one (is_marked marks e.literal.variable)
  where
    one : (b : Bool) → reasons (cond b (e ∷ []) []) ≡ []
    one true = ap (λ o. cons_option o []) none
    one false = refl

-- a walk along the entries adds the reason of one more, where it is marked, to the hints
pub hints_more : (entries items : List Entry) (k : ℕ) (d : Entry) (marks : List Bool) (hints next : List ℕ) → items ≡ entries → k < length items → d ≡ get_or items k d → hints ≡ reasons (marked_entries marks (take k entries)) → next ≡ hints ++ reasons (marked_entries marks (d ∷ [])) → next ≡ reasons (marked_entries marks (take (k + 1) entries))
hints_more entries items k d marks hints next same within read so_far e =
    let at : slice_get entries k ≡ Some d = read_at entries items k d same within ∙ ap Some (sym read) in
    let suc_k : k + 1 ≡ suc k = omega arith in
    e
    ∙ ap (λ ns. ns ++ reasons (marked_entries marks (d ∷ []))) so_far
    ∙ sym (
    ap (λ n. reasons (marked_entries marks (take n entries))) suc_k
    ∙ ap (λ es. reasons (marked_entries marks es)) (take_next entries k d at)
    ∙ ap reasons (filter-append (λ (f : Entry). is_marked marks f.literal.variable) (take k entries) (d ∷ []))
    ∙ reasons-append (marked_entries marks (take k entries)) (marked_entries marks (d ∷ []))
    )
