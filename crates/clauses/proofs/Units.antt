-- False clauses and unit literals, where a clause is looked through literal by literal.
use Rattle.clauses.proofs.Common.{◌≡◌, ℕ, ◌+◌, ◌<◌, true, false, List, [], ◌∷◌, ◌++◌, Option, Some, None, length, take, get_or, refl, sym, ap, ◌∙◌, inl, inr, subst, Contains, cases_Bool, true≢false, take_more, All-contains, All-cons, All-push, Contains-get_or, Contains-append_left, Contains-push, Any-from_list_any, list_any_at, Lit, is_same, IsFalsified, IsUnit, is_held, is_false}
use Rattle.clauses.proofs.Held.{is_same-self, is_same-true}

-- the test of a literal in a list says that it stands there
pub Contains-from_held : (clause : List Lit) (l : Lit) → is_held clause l ≡ true → Contains clause l
Contains-from_held clause l h =
    let (k, m, within, at, same) = Any-from_list_any (is_same l) clause h in
    subst (Contains clause) (sym (is_same-true l m same)) (k, within, at)

pub held-from_Contains : (clause : List Lit) (l : Lit) → Contains clause l → is_held clause l ≡ true
held-from_Contains clause l (k, within, at) = list_any_at (is_same l) clause k l within (ap (is_same l) at ∙ is_same-self l)

pub held_at_place : (clause : List Lit) (k : ℕ) (d : Lit) → k < length clause → is_held clause (get_or clause k d) ≡ true
held_at_place clause k d within = held-from_Contains clause (get_or clause k d) (Contains-get_or clause k d within)

-- literals that the test finds different are different
pub differ : (l m : Lit) → is_same l m ≡ false → l ≡ m → ⊥
differ l m isnt e = true≢false (sym (subst (λ k. is_same l k ≡ true) e (is_same-self l)) ∙ isnt)

pub falsified_each : (held clause : List Lit) (m : Lit) → IsFalsified held clause → is_held clause m ≡ true → is_false held m ≡ true
falsified_each held clause m none stands = All-contains (λ l. is_false held l ≡ true) clause m none (Contains-from_held clause m stands)

pub falsified_from : (held clause : List Lit) → ((m : Lit) → is_held clause m ≡ true → is_false held m ≡ true) → IsFalsified held clause
falsified_from held clause each = λ k d within. each (get_or clause k d) (held_at_place clause k d within)

pub not_falsified_by : (held clause : List Lit) (m : Lit) → is_held clause m ≡ true → is_false held m ≡ false → ¬ (IsFalsified held clause)
not_falsified_by held clause m stands kept none = true≢false (sym (falsified_each held clause m none stands) ∙ kept)

pub unit_stands : (held clause : List Lit) (l : Lit) → IsUnit held clause l → is_held clause l ≡ true
unit_stands held clause l unit = held-from_Contains clause l unit.stands

-- a literal that is unit is the only one of the clause that isn't false
pub unit_only : (held clause : List Lit) (l m : Lit) → IsUnit held clause l → is_held clause m ≡ true → is_false held m ≡ false → m ≡ l
unit_only held clause l m unit stands kept =
    elim (cases_Bool (is_same m l)) [
      | inl same ↦ is_same-true m l same
      | inr isnt ↦
          absurd (true≢false (sym (All-contains (λ k. (k ≡ l → ⊥) → is_false held k ≡ true) clause m unit.others_false (Contains-from_held clause m stands) (differ m l isnt)) ∙ kept))
    ]

pub unit_from : (held clause : List Lit) (l : Lit) → is_held clause l ≡ true → is_false held l ≡ false → ((m : Lit) → is_held clause m ≡ true → is_false held m ≡ false → m ≡ l) → IsUnit held clause l
unit_from held clause l stands kept only =
    record {
      stands = Contains-from_held clause l stands;
      not_false = kept;
      others_false = λ k d within other.
          elim (cases_Bool (is_false held (get_or clause k d))) [
            | inl closed ↦ closed
            | inr free ↦ absurd (other (only (get_or clause k d) (held_at_place clause k d within) free))
          ];
    }

-- a clause has at most one unit literal
pub unit_same : (held clause : List Lit) (l m : Lit) → IsUnit held clause l → IsUnit held clause m → l ≡ m
unit_same held clause l m one other = unit_only held clause m l other (unit_stands held clause l one) one.not_false

-- A clause of which the same literals are false in two states: it is false in both, or the same literal is unit in
-- both.
pub IsFalsified-agree : (a b clause : List Lit) → ((m : Lit) → is_held clause m ≡ true → is_false b m ≡ is_false a m) → IsFalsified a clause → IsFalsified b clause
IsFalsified-agree a b clause agree none = falsified_from b clause (λ m stands. agree m stands ∙ falsified_each a clause m none stands)

pub IsUnit-agree : (a b clause : List Lit) (l : Lit) → ((m : Lit) → is_held clause m ≡ true → is_false b m ≡ is_false a m) → IsUnit a clause l → IsUnit b clause l
IsUnit-agree a b clause l agree unit =
    unit_from b clause l (unit_stands a clause l unit) (agree l (unit_stands a clause l unit) ∙ unit.not_false)
    (λ m stands kept. unit_only a clause l m unit stands (sym (agree m stands) ∙ kept))

-- the only literal that isn't false, before or behind literals that are, is unit
pub unit_last : (held ls : List Lit) (x : Lit) → IsFalsified held ls → is_false held x ≡ false → IsUnit held (ls ++ x ∷ []) x
unit_last held ls x none kept =
    record {
      stands = Contains-push ls x;
      not_false = kept;
      others_false = All-push (λ m. (m ≡ x → ⊥) → is_false held m ≡ true) ls x (λ k d within other. none k d within) (λ other. absurd (other refl));
    }

pub unit_first : (held : List Lit) (x : Lit) (ls : List Lit) → is_false held x ≡ false → IsFalsified held ls → IsUnit held (x ∷ ls) x
unit_first held x ls kept none =
    record {
      stands = Contains-append_left (x ∷ []) ls x (Contains-push [] x);
      not_false = kept;
      others_false = All-cons (λ m. (m ≡ x → ⊥) → is_false held m ≡ true) x ls (λ other. absurd (other refl)) (λ k d within other. none k d within);
    }

-- What was found among the first literals of a clause: none that isn't false, or one, which is unit in them.
abbrev pub IsSoFar : List Lit → List Lit → Option Lit → Type 0
IsSoFar held ls None = IsFalsified held ls
IsSoFar held ls (Some l) = IsUnit held ls l

push_false : (held ls : List Lit) (x : Lit) (found : Option Lit) → is_false held x ≡ true → IsSoFar held ls found → IsSoFar held (ls ++ x ∷ []) found
push_false held ls x None closed none = All-push (λ l. is_false held l ≡ true) ls x none closed
push_false held ls x (Some l) closed unit =
    record {
      stands = Contains-append_left ls (x ∷ []) l unit.stands;
      not_false = unit.not_false;
      others_false = All-push (λ m. (m ≡ l → ⊥) → is_false held m ≡ true) ls x unit.others_false (λ other. closed);
    }

push_open : (held ls : List Lit) (x : Lit) (found : Option Lit) → is_false held x ≡ false → ((l : Lit) → found ≡ Some l → l ≡ x) → IsSoFar held ls found → IsUnit held (ls ++ x ∷ []) x
push_open held ls x None kept same none = unit_last held ls x none kept
push_open held ls x (Some l) kept same unit =
    let was : IsUnit held ls x = subst (IsUnit held ls) (same l refl) unit in
    record {
      stands = Contains-push ls x;
      not_false = kept;
      others_false = All-push (λ m. (m ≡ x → ⊥) → is_false held m ≡ true) ls x was.others_false (λ other. absurd (other refl));
    }

-- the search goes on past a literal that is false
pub so_far_false : (held clause : List Lit) (k : ℕ) (d : Lit) (found : Option Lit) → k < length clause → is_false held (get_or clause k d) ≡ true → IsSoFar held (take k clause) found → IsSoFar held (take (k + 1) clause) found
so_far_false held clause k d found within closed h =
    subst (λ ls. IsSoFar held ls found) (sym (take_more clause k d within)) (push_false held (take k clause) (get_or clause k d) found closed h)

-- The search comes to a literal that isn't false, and any that was found before is the same one: it is unit so far.
pub so_far_open : (held clause : List Lit) (k : ℕ) (d : Lit) (found : Option Lit) → k < length clause → is_false held (get_or clause k d) ≡ false → ((l : Lit) → found ≡ Some l → l ≡ get_or clause k d) → IsSoFar held (take k clause) found → IsUnit held (take (k + 1) clause) (get_or clause k d)
so_far_open held clause k d found within kept same h =
    subst (λ ls. IsUnit held ls (get_or clause k d)) (sym (take_more clause k d within)) (push_open held (take k clause) (get_or clause k d) found kept same h)
