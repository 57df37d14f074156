-- The table of the values of a trail after an entry is pushed or popped.
use Rattle.depth_first.proofs.Common.{◌≡◌, ℕ, ◌+◌, ◌<◌, ◌≤◌, Bool, true, false, not, ◌||◌, ◌&&◌, cond, List, [], ◌∷◌, ◌++◌, Some, None, Option, length, take, set, get_or, refl, sym, ap, ◌∙◌, arith, inl, inr, subst, length-set, cases_eq, eq-eqb, ne_eqb, true≢false, get_or-set_same, get_or-set_other, sum_by-set, Lit, negation_of, is_same, is_held, made, Entry, literals, IsOpen, IsTableOf, EachFresh, value_makes, open_count, one_if_open}
use Rattle.depth_first.proofs.Lists.{slice_get_push_cases, slice_get_left, take_left, take_whole, slice_get_last}
use Rattle.depth_first.proofs.HeldLists.{literals-append, open_not_held, Consistent}

pub or-false : (b : Bool) → (b || false) ≡ b
or-false true = refl
or-false false = refl

or_assoc : (a b c : Bool) → (a || (b || c)) ≡ ((a || b) || c)
or_assoc true b c = refl
or_assoc false b c = refl

held-append : (xs ys : List Lit) (l : Lit) → is_held (xs ++ ys) l ≡ (is_held xs l || is_held ys l)
held-append [] ys l = refl
held-append (x ∷ xs) ys l =
    ap (λ b. is_same l x || b) (held-append xs ys l) ∙ or_assoc (is_same l x) (is_held xs l) (is_held ys l)

-- a literal is held after one more entry where it was held before or is the entry's
pub held-push : (entries : List Entry) (e : Entry) (l : Lit) → is_held (literals (entries ++ e ∷ [])) l ≡ (is_held (literals entries) l || is_same l e.literal)
held-push entries e l =
    ap (λ held. is_held held l) (literals-append entries (e ∷ []))
    ∙ held-append (literals entries) (e.literal ∷ []) l
    ∙ ap (λ b. is_held (literals entries) l || b) (or-false (is_same l e.literal))

other_variable : (l m : Lit) → (l.variable ≡ m.variable → ⊥) → is_same l m ≡ false
other_variable l m differ = ap (λ b. b && (cond l.negated m.negated (not m.negated))) (ne_eqb l.variable m.variable differ)

signs : (a b : Bool) → cond a b (not b) ≡ cond a (not (not b)) (not b)
signs true true = refl
signs true false = refl
signs false true = refl
signs false false = refl

same_variable : (l m : Lit) → l.variable ≡ m.variable → is_same l m ≡ value_makes (Some (not m.negated)) l
same_variable l m e =
    ap (λ b. b && (cond l.negated m.negated (not m.negated))) (eq-eqb l.variable m.variable e) ∙ signs l.negated m.negated

at_variable : (values : List (Option Bool)) (n m : ℕ) (v : Option Bool) → m < length values → n ≡ m → get_or (set values m v) n None ≡ v
at_variable values n m v within e = ap (λ k. get_or (set values m v) k None) e ∙ get_or-set_same values m v None within

-- the table after a push
pub IsTableOf-push : (values : List (Option Bool)) (entries : List Entry) (e : Entry) → IsTableOf values entries → e.literal.variable < length values → IsOpen (literals entries) e.literal.variable → IsTableOf (set values e.literal.variable (Some (not e.literal.negated))) (entries ++ e ∷ [])
IsTableOf-push values entries e table within o l =
    let x = e.literal in
    elim (cases_eq l.variable x.variable) [
      | inl same ↦
          let none : is_held (literals entries) l ≡ false = open_not_held (literals entries) l (subst (IsOpen (literals entries)) (sym same) o) in
          held-push entries e l
          ∙ ap (λ b. b || is_same l x) none
          ∙ same_variable l x same
          ∙ sym (ap (λ v. value_makes v l) (at_variable values l.variable x.variable (Some (not x.negated)) within same))
      | inr differ ↦
          held-push entries e l
          ∙ ap (λ b. is_held (literals entries) l || b) (other_variable l x differ)
          ∙ or-false (is_held (literals entries) l)
          ∙ table l
          ∙ sym (ap (λ v. value_makes v l) (get_or-set_other values x.variable l.variable (Some (not x.negated)) None differ))
    ]

-- the table after the last entry is popped
pub IsTableOf-pop : (values : List (Option Bool)) (entries : List Entry) (e : Entry) → IsTableOf values (entries ++ e ∷ []) → e.literal.variable < length values → IsOpen (literals entries) e.literal.variable → IsTableOf (set values e.literal.variable None) entries
IsTableOf-pop values entries e table within o l =
    let x = e.literal in
    elim (cases_eq l.variable x.variable) [
      | inl same ↦
          open_not_held (literals entries) l (subst (IsOpen (literals entries)) (sym same) o)
          ∙ sym (ap (λ v. value_makes v l) (at_variable values l.variable x.variable None within same))
      | inr differ ↦
          sym (or-false (is_held (literals entries) l))
          ∙ sym (ap (λ b. is_held (literals entries) l || b) (other_variable l x differ))
          ∙ sym (held-push entries e l)
          ∙ table l
          ∙ sym (ap (λ v. value_makes v l) (get_or-set_other values x.variable l.variable None None differ))
    ]

pub EachFresh-push : (values : List (Option Bool)) (entries : List Entry) (e : Entry) (v : Option Bool) → EachFresh values entries → 1 ≤ e.literal.variable → e.literal.variable < length values → IsOpen (literals entries) e.literal.variable → EachFresh (set values e.literal.variable v) (entries ++ e ∷ [])
EachFresh-push values entries e v fresh first within o place f at =
    let n = e.literal.variable in
    let lengths : length (set values n v) ≡ length values = length-set values n v in
    elim (slice_get_push_cases entries e place f at) [
      | inl left ↦
          let h = fresh place f left in
          (h.0, omega (arith, lengths, h.1), subst (λ es. IsOpen (literals es) f.literal.variable) (sym (take_left entries (e ∷ []) place f left)) h.2)
      | inr here ↦
          let vars : f.literal.variable ≡ n = sym (ap (λ (y : Entry). y.literal.variable) here.1) in
          let before : take place (entries ++ e ∷ []) ≡ entries = ap (λ k. take k (entries ++ e ∷ [])) here.0 ∙ take_whole entries (e ∷ []) in (
            omega (arith, vars, first),
            omega (arith, vars, lengths, within),
            subst (λ es. IsOpen (literals es) f.literal.variable) (sym before) (subst (IsOpen (literals entries)) (sym vars) o),
          )
    ]

pub EachFresh-pop : (values : List (Option Bool)) (entries : List Entry) (e : Entry) (n : ℕ) (v : Option Bool) → EachFresh values (entries ++ e ∷ []) → EachFresh (set values n v) entries
EachFresh-pop values entries e n v fresh place f at =
    let h = fresh place f (slice_get_left entries (e ∷ []) place f at) in
    let lengths : length (set values n v) ≡ length values = length-set values n v in
    (h.0, omega (arith, lengths, h.1), subst (λ es. IsOpen (literals es) f.literal.variable) (take_left entries (e ∷ []) place f at) h.2)

-- the variable of the last entry has a place in the table and was open before that entry
pub last_fresh : (values : List (Option Bool)) (entries : List Entry) (e : Entry) → EachFresh values (entries ++ e ∷ []) → (e.literal.variable < length values) × IsOpen (literals entries) e.literal.variable
last_fresh values entries e fresh =
    let h = fresh (length entries) e (slice_get_last entries e) in
    (h.1, subst (λ es. IsOpen (literals es) e.literal.variable) (take_whole entries (e ∷ [])) h.2)

open_value : (v : Option Bool) (n : ℕ) → value_makes v (made n true) ≡ false → value_makes v (made n false) ≡ false → one_if_open v ≡ 1
open_value None n h k = refl
open_value (Some true) n h k = absurd (true≢false k)
open_value (Some false) n h k = absurd (true≢false h)

-- an open variable counts as one in the table
pub open_one : (values : List (Option Bool)) (entries : List Entry) (n : ℕ) → IsTableOf values entries → IsOpen (literals entries) n → one_if_open (get_or values n None) ≡ 1
open_one values entries n table o =
    open_value (get_or values n None) n (sym (table (made n true)) ∙ o false) (sym (table (made n false)) ∙ o true)

pub open_count-push : (values : List (Option Bool)) (entries : List Entry) (n : ℕ) (b : Bool) → IsTableOf values entries → n < length values → IsOpen (literals entries) n → open_count (set values n (Some b)) + 1 ≡ open_count values
open_count-push values entries n b table within o =
    omega (arith, sum_by-set one_if_open values n (Some b) None within, open_one values entries n table o)

set_value : (v : Option Bool) (l : Lit) → value_makes v l ≡ true → one_if_open v ≡ 0
set_value None l h = absurd (true≢false (sym h))
set_value (Some b) l h = refl

pub open_count-pop : (values : List (Option Bool)) (entries : List Entry) (l : Lit) → IsTableOf values entries → l.variable < length values → is_held (literals entries) l ≡ true → open_count (set values l.variable None) ≡ open_count values + 1
open_count-pop values entries l table within h =
    omega (arith, sum_by-set one_if_open values l.variable None None within, set_value (get_or values l.variable None) l (sym (table l) ∙ h))

consistent_value : (v : Option Bool) (n : ℕ) (b : Bool) → value_makes v (made n b) ≡ true → value_makes v (made n (not b)) ≡ false
consistent_value None n b h = absurd (true≢false (sym h))
consistent_value (Some true) n true h = absurd (true≢false (sym h))
consistent_value (Some false) n true h = refl
consistent_value (Some true) n false h = refl
consistent_value (Some false) n false h = absurd (true≢false (sym h))

-- a trail with a table of values is consistent
pub Consistent-from_table : (values : List (Option Bool)) (entries : List Entry) → IsTableOf values entries → Consistent (literals entries)
Consistent-from_table values entries table =
    record {
      each = λ l h.
          table (negation_of l)
          ∙ consistent_value (get_or values l.variable None) l.variable l.negated (sym (table l) ∙ h);
    }
