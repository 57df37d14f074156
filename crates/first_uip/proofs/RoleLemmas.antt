-- The roles of variables in a conflict, step by step. A variable is seen where the conflict rests on it: it is resolved
-- or kept.
use Rattle.first_uip.proofs.Common.{◌≡◌, ℕ, zero, suc, ◌+◌, ◌<◌, ◌≤◌, Bool, true, false, not, cond, List, [], ◌∷◌, ◌++◌, Option, Some, None, length, take, set, refl, sym, ap, ◌∙◌, arith, inl, inr, subst, slice_get, replicate, ◌⊎◌, cases_Bool, cases_eq, cases_order, true≢false, get_or-set_same, get_or-set_other, map-append, Lit, negation_of, is_held, is_false, negations_of, unit_only, Entry, InputDecision, NonInputDecision, Reason, literals, EachFresh, IsOpen, is_decision, reason_of, reasons, Cause, some_same, take_next, slice_get_in_take, take_take_below, held_left, held_cases, held_one_same, held_last, both_held, open_not_held, open_not_false, literal_at, literals-append, HeldWithin-take, EachForced, reasons-append, option_to_list, filter-append, sameb, the_type, Role, Unseen, Resolved, Kept, role_of, is_seen, is_kept, is_resolved, part_of, AllSeen, Sees, NamesSeen, IsResolution, NoneSeen, NoneKept, NoneDecided, kept_entries, resolved_entries}

next_clause : (clause : List Lit) (k : ℕ) (l : Lit) → slice_get clause k ≡ Some l → take (k + 1) clause ≡ take k clause ++ l ∷ []
next_clause clause k l at = let e : k + 1 ≡ suc k = omega arith in ap (λ n. take n clause) e ∙ take_next clause k l at

-- one more literal of the clause, whose variable was seen already
pub Sees-skip : (clause : List Lit) (old mid : List Role) (k : ℕ) (l : Lit) → slice_get clause k ≡ Some l → is_seen (role_of mid l.variable) ≡ true → Sees (take k clause) old mid → Sees (take (k + 1) clause) old mid
Sees-skip clause old mid k l at seen so_far =
    let next = next_clause clause k l at in
    record {
      all = λ m h.
          elim (held_cases (take k clause) (l ∷ []) m (sym (ap (λ c. is_held c m) next) ∙ h)) [
            | inl before ↦ so_far.all m before
            | inr one ↦ ap (λ (x : Lit). is_seen (role_of mid x.variable)) (held_one_same l m one) ∙ seen
          ];
      still = so_far.still;
      same_kept = so_far.same_kept;
      only = λ n h.
          elim (so_far.only n h) [
            | inl before ↦ inl before
            | inr (m, stands, is) ↦ inr (m, ap (λ c. is_held c m) next ∙ held_left (take k clause) (l ∷ []) m stands, is)
          ];
    }

-- one more literal of the clause, whose variable wasn't seen: it is to be resolved
pub Sees-next : (clause : List Lit) (old mid : List Role) (k : ℕ) (l : Lit) → slice_get clause k ≡ Some l → l.variable < length mid → role_of mid l.variable ≡ Unseen → Sees (take k clause) old mid → Sees (take (k + 1) clause) old (set mid l.variable Resolved)
Sees-next clause old mid k l at room unseen so_far =
    let v = l.variable in
    let new = set mid v Resolved in
    let next = next_clause clause k l at in
    let here : role_of new v ≡ Resolved = get_or-set_same mid v Resolved Unseen room in
    let there : (n : ℕ) → (n ≡ v → ⊥) → role_of new n ≡ role_of mid n = λ n differ. get_or-set_other mid v n Resolved Unseen differ in
    let keeps : (n : ℕ) → is_seen (role_of mid n) ≡ true → is_seen (role_of new n) ≡ true =
    λ n h.
    elim (cases_eq n v) [
      | inl same ↦ ap (λ k. is_seen (role_of new k)) same ∙ ap is_seen here
      | inr differ ↦ ap is_seen (there n differ) ∙ h
    ] in
    record {
      all = λ m h.
          elim (held_cases (take k clause) (l ∷ []) m (sym (ap (λ c. is_held c m) next) ∙ h)) [
            | inl before ↦ keeps m.variable (so_far.all m before)
            | inr one ↦ ap (λ (x : Lit). is_seen (role_of new x.variable)) (held_one_same l m one) ∙ ap is_seen here
          ];
      still = λ n h. keeps n (so_far.still n h);
      same_kept = λ n.
          elim (cases_eq n v) [
            | inl same ↦
                ap (λ k. is_kept (role_of new k)) same ∙ ap is_kept here ∙ sym (ap is_kept unseen) ∙ sym (ap (λ k. is_kept (role_of mid k)) same) ∙ so_far.same_kept n
            | inr differ ↦ ap is_kept (there n differ) ∙ so_far.same_kept n
          ];
      only = λ n h.
          elim (cases_eq n v) [
            | inl same ↦ inr (l, ap (λ c. is_held c l) next ∙ held_last (take k clause) l, sym same)
            | inr differ ↦
                elim (so_far.only n (sym (ap is_seen (there n differ)) ∙ h)) [
                  | inl before ↦ inl before
                  | inr (m, stands, is) ↦ inr (m, ap (λ c. is_held c m) next ∙ held_left (take k clause) (l ∷ []) m stands, is)
                ]
          ];
    }

named_seen : (clauses : List (List Lit)) (roles : List Role) (number : ℕ) (clause : List Lit) → slice_get clauses number ≡ Some clause → AllSeen roles clause → NamesSeen clauses roles number
named_seen clauses roles number clause at all c there l stands =
    all l (ap (λ ls. is_held ls l) (some_same clause c (sym at ∙ there)) ∙ stands)

-- behind the last entry, only the variables of the clause that is false have to be seen
pub IsResolution-start : (clauses : List (List Lit)) (entries : List Entry) (conflict : ℕ) (clause : List Lit) (old roles : List Role) → slice_get clauses conflict ≡ Some clause → Sees clause old roles → IsResolution clauses entries conflict (length entries) roles
IsResolution-start clauses entries conflict clause old roles at sees =
    record {
      falsified = named_seen clauses roles conflict clause at sees.all;
      reasons_too = λ place e past there seen kept. absurd (omega (arith, past, below entries place e there));
    }
  where
    below : (xs : List Entry) (k : ℕ) (x : Entry) → slice_get xs k ≡ Some x → k < length xs
    below [] k x at = cc
    below (z ∷ zs) zero x at = omega arith
    below (z ∷ zs) (suc k) x at = let h : k < length zs = below zs k x at in omega arith

-- the variables of a reason had values before it forced its literal, so no later entry is of one of them
set_before : (values : List (Option Bool)) (entries : List Entry) (place k : ℕ) (e f : Entry) (l : Lit) → EachFresh values entries → slice_get entries place ≡ Some e → slice_get entries k ≡ Some f → place < k → (is_false (literals (take place entries)) l ≡ true) ⊎ (l ≡ e.literal) → l.variable ≡ f.literal.variable → ⊥
set_before values entries place k e f l fresh at there later (inl closed) same =
    let held = literals (take k entries) in
    let within = HeldWithin-take place (take k entries) in
    let same_first : take place (take k entries) ≡ take place entries = take_take_below place k entries (omega arith) in
    both_held held (negation_of l)
    (within.each (negation_of l) (ap (λ es. is_held (literals es) (negation_of l)) same_first ∙ closed))
    (open_not_false held l (subst (IsOpen held) (sym same) (fresh k f there).2))
set_before values entries place k e f l fresh at there later (inr is) same =
    let held = literals (take k entries) in
    both_held held l
    (ap (is_held held) is ∙ literal_at (take k entries) place e (slice_get_in_take k entries place e at later))
    (open_not_held held l (subst (IsOpen held) (sym same) (fresh k f there).2))

-- two entries are of different variables
pub other_entry : (values : List (Option Bool)) (entries : List Entry) (place k : ℕ) (e f : Entry) → EachFresh values entries → slice_get entries place ≡ Some e → slice_get entries k ≡ Some f → place < k → e.literal.variable ≡ f.literal.variable → ⊥
other_entry values entries place k e f fresh at there later same =
    set_before values entries place k e f e.literal fresh at there later (inr refl) same

-- an entry is resolved: the variables of its reason are seen
pub IsResolution-see : (clauses : List (List Lit)) (values : List (Option Bool)) (entries : List Entry) (conflict place number : ℕ) (e : Entry) (clause : List Lit) (old new : List Role) → EachFresh values entries → EachForced clauses entries → slice_get entries place ≡ Some e → e.cause ≡ Reason number → slice_get clauses number ≡ Some clause → Sees clause old new → IsResolution clauses entries conflict (place + 1) old → IsResolution clauses entries conflict place new
IsResolution-see clauses values entries conflict place number e clause old new fresh forced at cause named sees so_far =
    let before = literals (take place entries) in
    let keep : (n : ℕ) → NamesSeen clauses old n → NamesSeen clauses new n = λ n h c there l stands. sees.still l.variable (h c there l stands) in
    let (reason, named', unit) = forced.each place e number at cause in
    let same_clause : reason ≡ clause = some_same reason clause (sym named' ∙ named) in
    record {
      falsified = keep conflict so_far.falsified;
      reasons_too = λ k f past there seen kept.
          elim (cases_order k place) [
            | inl same ↦
                let es : f ≡ e = some_same f e (sym there ∙ ap (slice_get entries) same ∙ at) in
                (number, ap (λ (g : Entry). g.cause) es ∙ cause, named_seen clauses new number clause named sees.all)
            | inr (inl less) ↦ absurd (omega arith)
            | inr (inr more) ↦
                elim (sees.only f.literal.variable seen) [
                  | inl was ↦
                      let (n, is, all) = so_far.reasons_too k f (omega arith) there was (sym (sees.same_kept f.literal.variable) ∙ kept) in
                      (n, is, keep n all)
                  | inr (l, stands, variable) ↦
                      let in_reason : is_held reason l ≡ true = ap (λ ls. is_held ls l) same_clause ∙ stands in
                      let set_there : (is_false before l ≡ true) ⊎ (l ≡ e.literal) =
                      elim (cases_Bool (is_false before l)) [
                        | inl closed ↦ inl closed
                        | inr free ↦ inr (unit_only before reason e.literal l unit in_reason free)
                      ] in
                      absurd (set_before values entries place k e f l fresh at there more set_there variable)
                ]
          ];
    }

-- an entry is kept, so nothing has to be seen for it
pub IsResolution-keep : (clauses : List (List Lit)) (values : List (Option Bool)) (entries : List Entry) (conflict place : ℕ) (e : Entry) (roles : List Role) → EachFresh values entries → slice_get entries place ≡ Some e → e.literal.variable < length roles → IsResolution clauses entries conflict (place + 1) roles → IsResolution clauses entries conflict place (set roles e.literal.variable Kept)
IsResolution-keep clauses values entries conflict place e roles fresh at room so_far =
    let v = e.literal.variable in
    let new = set roles v Kept in
    let here : role_of new v ≡ Kept = get_or-set_same roles v Kept Unseen room in
    let there : (n : ℕ) → (n ≡ v → ⊥) → role_of new n ≡ role_of roles n = λ n differ. get_or-set_other roles v n Kept Unseen differ in
    let keeps : (n : ℕ) → is_seen (role_of roles n) ≡ true → is_seen (role_of new n) ≡ true =
    λ n h.
    elim (cases_eq n v) [
      | inl same ↦ ap (λ k. is_seen (role_of new k)) same ∙ ap is_seen here
      | inr differ ↦ ap is_seen (there n differ) ∙ h
    ] in
    let keep : (n : ℕ) → NamesSeen clauses roles n → NamesSeen clauses new n = λ n h c found l stands. keeps l.variable (h c found l stands) in
    record {
      falsified = keep conflict so_far.falsified;
      reasons_too = λ k f past found seen kept.
          elim (cases_order k place) [
            | inl same ↦
                let es : f ≡ e = some_same f e (sym found ∙ ap (slice_get entries) same ∙ at) in
                absurd (true≢false (sym (ap (λ (g : Entry). is_kept (role_of new g.literal.variable)) es ∙ ap is_kept here) ∙ kept))
            | inr (inl less) ↦ absurd (omega arith)
            | inr (inr more) ↦
                let differ : f.literal.variable ≡ v → ⊥ = λ q. other_entry values entries place k e f fresh at found more (sym q) in
                let (n, is, all) = so_far.reasons_too k f (omega arith) found (sym (ap is_seen (there f.literal.variable differ)) ∙ seen) (sym (ap is_kept (there f.literal.variable differ)) ∙ kept) in
                (n, is, keep n all)
          ];
    }

-- for entries that aren't seen, nothing has to be seen
pub IsResolution-unseen : (clauses : List (List Lit)) (entries : List Entry) (conflict from to : ℕ) (roles : List Role) → NoneSeen entries roles from to → IsResolution clauses entries conflict to roles → IsResolution clauses entries conflict from roles
IsResolution-unseen clauses entries conflict from to roles none so_far =
    record {
      falsified = so_far.falsified;
      reasons_too = λ k f past found seen kept.
          elim (cases_order k to) [
            | inl same ↦ so_far.reasons_too k f (omega arith) found seen kept
            | inr (inl less) ↦ absurd (true≢false (sym seen ∙ none k f past less found))
            | inr (inr more) ↦ so_far.reasons_too k f (omega arith) found seen kept
          ];
    }

pub reason_if_undecided : (cause : Cause) → is_decision cause ≡ false → reason_of cause ≡ None → ⊥
reason_if_undecided InputDecision is none = true≢false is
reason_if_undecided NonInputDecision is none = true≢false is
reason_if_undecided (Reason number) is none = cc

-- at the start no variable is seen
pub unseen_everywhere : (m n : ℕ) → role_of (replicate m Unseen) n ≡ Unseen
unseen_everywhere zero n = refl
unseen_everywhere (suc m) zero = refl
unseen_everywhere (suc m) (suc n) = unseen_everywhere m n

-- what the tests of a role say
pub unseen_if : (r : Role) → sameb the_type r Unseen ≡ true → r ≡ Unseen
unseen_if Unseen h = refl
unseen_if Resolved h = absurd (true≢false (sym h))
unseen_if Kept h = absurd (true≢false (sym h))

pub seen_if : (r : Role) → sameb the_type r Unseen ≡ false → is_seen r ≡ true
seen_if Unseen h = absurd (true≢false h)
seen_if Resolved h = refl
seen_if Kept h = refl

pub seen_if_ne : (r : Role) (differs : Bool) → differs ≡ not (sameb the_type r Unseen) → differs ≡ true → is_seen r ≡ true
seen_if_ne Unseen differs is h = absurd (true≢false (sym h ∙ is))
seen_if_ne Resolved differs is h = refl
seen_if_ne Kept differs is h = refl

pub unseen_if_ne : (r : Role) (differs : Bool) → differs ≡ not (sameb the_type r Unseen) → differs ≡ false → is_seen r ≡ false
unseen_if_ne Unseen differs is h = refl
unseen_if_ne Resolved differs is h = absurd (true≢false (sym is ∙ h))
unseen_if_ne Kept differs is h = absurd (true≢false (sym is ∙ h))

pub resolved_is : (r : Role) (b : Bool) → sameb the_type r Resolved ≡ b → is_resolved r ≡ b
resolved_is Unseen b h = h
resolved_is Resolved b h = h
resolved_is Kept b h = h

pub kept_is : (r : Role) (b : Bool) → sameb the_type r Kept ≡ b → is_kept r ≡ b
kept_is Unseen b h = h
kept_is Resolved b h = h
kept_is Kept b h = h

-- one more entry before those of which none is kept, which isn't kept either
pub NoneKept-before : (entries : List Entry) (roles : List Role) (place next to : ℕ) (e : Entry) → next ≤ place + 1 → slice_get entries place ≡ Some e → is_kept (part_of roles e) ≡ false → NoneKept entries roles next to → NoneKept entries roles place to
NoneKept-before entries roles place next to e near at unkept later k f from below there =
    elim (cases_order k place) [
      | inl same ↦ ap (λ (g : Entry). is_kept (part_of roles g)) (some_same f e (sym there ∙ ap (slice_get entries) same ∙ at)) ∙ unkept
      | inr (inl less) ↦ absurd (omega arith)
      | inr (inr more) ↦ later k f (omega arith) below there
    ]

-- one more entry before those of which none was decided, which wasn't decided either
pub NoneDecided-before : (entries : List Entry) (place next to : ℕ) (e : Entry) → next ≤ place + 1 → slice_get entries place ≡ Some e → is_decision e.cause ≡ false → NoneDecided entries next to → NoneDecided entries place to
NoneDecided-before entries place next to e near at undecided later k f from below there =
    elim (cases_order k place) [
      | inl same ↦ ap (λ (g : Entry). is_decision g.cause) (some_same f e (sym there ∙ ap (slice_get entries) same ∙ at)) ∙ undecided
      | inr (inl less) ↦ absurd (omega arith)
      | inr (inr more) ↦ later k f (omega arith) below there
    ]

pub none_decided_here : (entries : List Entry) (place number : ℕ) (e : Entry) → slice_get entries place ≡ Some e → e.cause ≡ Reason number → NoneDecided entries place (place + 1)
none_decided_here entries place number e at cause k f from below there =
    let same : k ≡ place = omega arith in
    let es : f ≡ e = some_same f e (sym there ∙ ap (slice_get entries) same ∙ at) in
    ap (λ (g : Entry). is_decision g.cause) es ∙ ap is_decision cause

reasons_one : (cause : Cause) (l : Lit) → reasons ((record { literal = l; cause = cause }) ∷ []) ≡ option_to_list (reason_of cause)
reasons_one InputDecision l = refl
reasons_one NonInputDecision l = refl
reasons_one (Reason number) l = refl

-- a walk along the entries adds the reason of one more, where it is resolved, to the hints
pub hints_next : (entries : List Entry) (roles : List Role) (k : ℕ) (e : Entry) (hints next added : List ℕ) (b : Bool) → slice_get entries k ≡ Some e → is_resolved (part_of roles e) ≡ b → added ≡ cond b (option_to_list (reason_of e.cause)) [] → hints ≡ reasons (resolved_entries roles (take k entries)) → next ≡ hints ++ added → next ≡ reasons (resolved_entries roles (take (k + 1) entries))
hints_next entries roles k e hints next added b at resolved adds so_far is =
    let suc_k : take (k + 1) entries ≡ take k entries ++ e ∷ [] = let s : k + 1 ≡ suc k = omega arith in ap (λ n. take n entries) s ∙ take_next entries k e at in
    let parts : reasons (resolved_entries roles (take (k + 1) entries)) ≡ reasons (resolved_entries roles (take k entries)) ++ reasons (cond b (e ∷ []) []) =
    ap (λ es. reasons (resolved_entries roles es)) suc_k
    ∙ ap reasons (filter-append (λ (f : Entry). is_resolved (part_of roles f)) (take k entries) (e ∷ []))
    ∙ reasons-append (resolved_entries roles (take k entries)) (resolved_entries roles (e ∷ []))
    ∙ ap (λ c. reasons (resolved_entries roles (take k entries)) ++ reasons (cond c (e ∷ []) [])) resolved in
    let last : reasons (cond b (e ∷ []) []) ≡ added = one b ∙ sym adds in
    is ∙ ap (λ ns. ns ++ added) so_far ∙ ap (λ ns. reasons (resolved_entries roles (take k entries)) ++ ns) (sym last) ∙ sym parts
  where
    one : (c : Bool) → reasons (cond c (e ∷ []) []) ≡ cond c (option_to_list (reason_of e.cause)) []
    one true = reasons_one e.cause e.literal
    one false = refl

-- a walk along the entries adds the negation of one more, where it is kept, to the clause
pub clause_next : (entries : List Entry) (roles : List Role) (k : ℕ) (e : Entry) (clause next added : List Lit) (b : Bool) → slice_get entries k ≡ Some e → is_kept (part_of roles e) ≡ b → added ≡ cond b (negation_of e.literal ∷ []) [] → clause ≡ negations_of (literals (kept_entries roles (take k entries))) → next ≡ clause ++ added → next ≡ negations_of (literals (kept_entries roles (take (k + 1) entries)))
clause_next entries roles k e clause next added b at kept adds so_far is =
    let before = kept_entries roles (take k entries) in
    let suc_k : take (k + 1) entries ≡ take k entries ++ e ∷ [] = let s : k + 1 ≡ suc k = omega arith in ap (λ n. take n entries) s ∙ take_next entries k e at in
    let parts : negations_of (literals (kept_entries roles (take (k + 1) entries))) ≡ negations_of (literals before) ++ negations_of (literals (cond b (e ∷ []) [])) =
    ap (λ es. negations_of (literals (kept_entries roles es))) suc_k
    ∙ ap (λ es. negations_of (literals es)) (filter-append (λ (f : Entry). is_kept (part_of roles f)) (take k entries) (e ∷ []))
    ∙ ap negations_of (literals-append before (kept_entries roles (e ∷ [])))
    ∙ map-append negation_of (literals before) (literals (kept_entries roles (e ∷ [])))
    ∙ ap (λ c. negations_of (literals before) ++ negations_of (literals (cond c (e ∷ []) []))) kept in
    is ∙ ap (λ ls. ls ++ added) so_far ∙ ap (λ ls. negations_of (literals before) ++ ls) (adds ∙ one b) ∙ sym parts
  where
    one : (c : Bool) → cond c (negation_of e.literal ∷ []) [] ≡ negations_of (literals (cond c (e ∷ []) []))
    one true = refl
    one false = refl
