-- The clause and the hints may be taken from the seen entries alone.
use Rattle.first_uip.proofs.Common.{◌≡◌, ℕ, zero, suc, ◌+◌, ◌-◌, ◌<◌, ◌≤◌, Bool, true, false, cond, List, [], ◌∷◌, ◌++◌, Option, Some, length, take, filter, get_or, refl, sym, ap, ◌∙◌, subst, arith, inl, inr, slice_get, cases_Bool, true≢false, append-nil, take_all, All-filter, filter-append, slice_get-get_or, Lit, negation_of, negations_of, Entry, literals, EachFresh, element_at, slice_get_below, take_next, Role, Unseen, Resolved, Kept, is_kept, is_resolved, is_seen, part_of, kept_entries, resolved_entries, IsAnalysis, NoneSeen, shown_entries, VariablesBelow}
use Rattle.first_uip.proofs.Analysed.{learned_clause}

-- one more element for a filter of what a weaker filter keeps
within_one : {X : Type 0} (p : X → Bool) (x : X) (ys zs : List X) (b c : Bool) → p x ≡ b → (b ≡ true → c ≡ true) → filter p ys ≡ zs → filter p (cond c (x ∷ ys) ys) ≡ cond b (x ∷ zs) zs
within_one p x ys zs true true is inside same = ap (λ t. cond t (x ∷ filter p ys) (filter p ys)) is ∙ ap (λ ws. x ∷ ws) same
within_one p x ys zs false true is inside same = ap (λ t. cond t (x ∷ filter p ys) (filter p ys)) is ∙ same
within_one p x ys zs true false is inside same = absurd (true≢false (sym (inside refl)))
within_one p x ys zs false false is inside same = same

filter_within : {X : Type 0} (p q : X → Bool) → ((x : X) → p x ≡ true → q x ≡ true) → (xs : List X) → filter p (filter q xs) ≡ filter p xs
filter_within p q inside [] = refl
filter_within p q inside (x ∷ xs) = within_one p x (filter q xs) (filter p xs) (p x) (q x) refl (inside x) (filter_within p q inside xs)

kept_seen : (r : Role) → is_kept r ≡ true → is_seen r ≡ true
kept_seen Unseen h = h
kept_seen Resolved h = refl
kept_seen Kept h = refl

resolved_seen : (r : Role) → is_resolved r ≡ true → is_seen r ≡ true
resolved_seen Unseen h = h
resolved_seen Resolved h = refl
resolved_seen Kept h = refl

kept_shown : (roles : List Role) (entries : List Entry) → kept_entries roles (shown_entries roles entries) ≡ kept_entries roles entries
kept_shown roles entries =
    filter_within (λ (e : Entry). is_kept (part_of roles e)) (λ (e : Entry). is_seen (part_of roles e))
    (λ e kept. kept_seen (part_of roles e) kept) entries

pub resolved_shown : (roles : List Role) (entries shown : List Entry) → shown ≡ shown_entries roles entries → resolved_entries roles shown ≡ resolved_entries roles entries
resolved_shown roles entries shown is =
    ap (resolved_entries roles) is
    ∙ filter_within (λ (e : Entry). is_resolved (part_of roles e)) (λ (e : Entry). is_seen (part_of roles e))
    (λ e resolved. resolved_seen (part_of roles e) resolved) entries

-- a filter keeps nothing between two places where no element passes
filter_gap : {X : Type 0} (p : X → Bool) (xs : List X) (from k : ℕ) → from + k ≤ length xs → ((place : ℕ) (x : X) → from ≤ place → place < from + k → slice_get xs place ≡ Some x → p x ≡ false) → filter p (take (from + k) xs) ≡ filter p (take from xs)
filter_gap p xs from zero within none = let e : from + 0 ≡ from = omega arith in ap (λ n. filter p (take n xs)) e
filter_gap p xs from (suc k) within none =
    let e : from + suc k ≡ suc (from + k) = omega arith in
    let (x, at) = element_at xs (from + k) (omega arith) in
    ap (λ n. filter p (take n xs)) e
    ∙ ap (filter p) (take_next xs (from + k) x at)
    ∙ filter-append p (take (from + k) xs) (x ∷ [])
    ∙ ap (λ b. filter p (take (from + k) xs) ++ cond b (x ∷ []) []) (none (from + k) x (omega arith) (omega arith) at)
    ∙ append-nil (filter p (take (from + k) xs))
    ∙ filter_gap p xs from k (omega arith) (λ place y past below there. none place y past (omega arith) there)

pub filter_between : {X : Type 0} (p : X → Bool) (xs : List X) (from to : ℕ) → from ≤ to → to ≤ length xs → ((place : ℕ) (x : X) → from ≤ place → place < to → slice_get xs place ≡ Some x → p x ≡ false) → filter p (take to xs) ≡ filter p (take from xs)
filter_between p xs from to order within none =
    let split : from + (to - from) ≡ to = omega arith in
    sym (ap (λ n. filter p (take n xs)) split)
    ∙ filter_gap p xs from (to - from) (omega arith) (λ place x past below there. none place x past (omega arith) there)

negated_push : (xs : List Entry) (e : Entry) → negations_of (literals (xs ++ e ∷ [])) ≡ negations_of (literals xs) ++ negation_of e.literal ∷ []
negated_push [] e = refl
negated_push (x ∷ xs) e = ap (λ ls. negation_of x.literal ∷ ls) (negated_push xs e)

module _ (clauses : List (List Lit)) (entries : List Entry) (roles : List Role) (conflict start point : ℕ) (analysis : IsAnalysis clauses entries roles conflict start point) where
  abbrev e : Entry
  e = analysis.entry

  -- of the last level only the implication point is kept
  unkept : (k : ℕ) (f : Entry) → start ≤ k → (k ≡ point → ⊥) → slice_get entries k ≡ Some f → is_kept (part_of roles f) ≡ false
  unkept k f from differ at =
      elim (cases_Bool (is_kept (part_of roles f))) [
        | inl kept ↦ absurd (differ (analysis.only k f from at kept))
        | inr free ↦ free
      ]

  kept_all : kept_entries roles entries ≡ kept_entries roles (take start entries) ++ e ∷ []
  kept_all =
      let p = λ (f : Entry). is_kept (part_of roles f) in
      let below : point < length entries = slice_get_below entries point e analysis.at in
      let next : point + 1 ≡ suc point = omega arith in
      sym (ap (kept_entries roles) (take_all (length entries) entries (omega arith)))
      ∙ filter_between p entries (point + 1) (length entries) (omega arith) (omega arith) (λ k f past less at. unkept k f (omega (arith, analysis.first)) (λ q. absurd (omega arith)) at)
      ∙ ap (λ n. kept_entries roles (take n entries)) next
      ∙ ap (kept_entries roles) (take_next entries point e analysis.at)
      ∙ filter-append p (take point entries) (e ∷ [])
      ∙ ap (λ b. kept_entries roles (take point entries) ++ cond b (e ∷ []) []) analysis.kept
      ∙ ap (λ es. es ++ e ∷ []) (filter_between p entries start point analysis.first (omega arith) (λ k f past less at. unkept k f past (λ q. absurd (omega arith)) at))

  -- the learned clause, taken from the seen entries
  pub learned_shown : (shown : List Entry) → shown ≡ shown_entries roles entries → negations_of (literals (kept_entries roles shown)) ≡ learned_clause roles entries start (negation_of e.literal)
  learned_shown shown is =
      ap (λ es. negations_of (literals es)) (ap (kept_entries roles) is ∙ kept_shown roles entries ∙ kept_all)
      ∙ negated_push (kept_entries roles (take start entries)) e

-- a walk along the trail comes to one more entry that is seen
pub shown_next : (roles : List Role) (entries : List Entry) (place : ℕ) (e : Entry) → slice_get entries place ≡ Some e → is_seen (part_of roles e) ≡ true → shown_entries roles (take (place + 1) entries) ≡ shown_entries roles (take place entries) ++ e ∷ []
shown_next roles entries place e at seen =
    let next : place + 1 ≡ suc place = omega arith in
    ap (λ n. shown_entries roles (take n entries)) next
    ∙ ap (shown_entries roles) (take_next entries place e at)
    ∙ filter-append (λ (f : Entry). is_seen (part_of roles f)) (take place entries) (e ∷ [])
    ∙ ap (λ b. shown_entries roles (take place entries) ++ cond b (e ∷ []) []) seen

pub shown_between : (roles : List Role) (entries : List Entry) (from to : ℕ) → from ≤ to → to ≤ length entries → NoneSeen entries roles from to → shown_entries roles (take to entries) ≡ shown_entries roles (take from entries)
shown_between roles entries from to order within none = filter_between (λ (e : Entry). is_seen (part_of roles e)) entries from to order within none

pub shown_all : (roles : List Role) (entries : List Entry) (from : ℕ) → from ≤ length entries → NoneSeen entries roles from (length entries) → shown_entries roles (take from entries) ≡ shown_entries roles entries
shown_all roles entries from order none =
    sym (shown_between roles entries from (length entries) order (omega arith) none) ∙ ap (shown_entries roles) (take_all (length entries) entries (omega arith))

-- the variables of the entries have places in the table
pub shown_within : (values : List (Option Bool)) (entries : List Entry) (roles : List Role) → EachFresh values entries → VariablesBelow (length values) (shown_entries roles entries)
shown_within values entries roles fresh =
    All-filter (λ (e : Entry). is_seen (part_of roles e)) (λ (e : Entry). e.literal.variable < length values) entries
    (λ i d inside. (fresh i (get_or entries i d) (slice_get-get_or entries i d inside)).1)

pub VariablesBelow-same : (n m : ℕ) (es : List Entry) → n ≡ m → VariablesBelow n es → VariablesBelow m es
VariablesBelow-same n m es same = subst (λ k. VariablesBelow k es) same
