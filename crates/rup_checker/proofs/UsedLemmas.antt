-- Marked clauses, those that have propagated a literal. It is held and unit in the clause still, so a hint that names
-- the clause again propagates nothing new.
use Rattle.rup_checker.proofs.Common.{◌==◌, Contains, ◌≡◌, ℕ, zero, suc, ◌+◌, ◌<◌, ◌≤◌, Bool, true, false, not, ◌&&◌, ◌||◌, cond, eqb, List, [], ◌∷◌, ◌++◌, drop, get_or, length, refl, sym, ap, ◌∙◌, inl, inr, subst, arith, cases_Bool, or_cases, or_from, or_left, or_right, and_parts, and_from, and_right, eqb-true, eq-eqb, true≢false, false_from_ne_true, drop_all, drop_more, Contains-append_cases, Contains-append_left, Contains-get_or, Lit, is_same, negation_of, NamesUnit, is_false, is_held, is_same-self, is_same-true, negation-negation, Entry, Accounted, stands_in, table_holds, used_in}
use Rattle.rup_checker.proofs.HintLemmas.{unit_stands}

-- each marked clause has a unit literal, which is held already
pub record UsedAreUnit (clauses : List (List Lit)) (held : List Lit) (used : List Entry) : Type 0 where
  pub unit_of : (number : ℕ) → used_in used number ≡ true → (l : Lit) × NamesUnit clauses held number l × (is_held held l ≡ true)

pub UsedAreUnit-none : (clauses : List (List Lit)) (held : List Lit) (used : List Entry) → ((number : ℕ) → used_in used number ≡ false) → UsedAreUnit clauses held used
UsedAreUnit-none clauses held used none = record { unit_of = λ number is. absurd (true≢false (sym is ∙ none number)) }

signs_differ : (b : Bool) → cond (not b) b (not b) ≡ false
signs_differ true = refl
signs_differ false = refl

negation_differs : (l : Lit) → is_same (negation_of l) l ≡ false
negation_differs l = and_right (eqb l.variable l.variable) (cond (not l.negated) l.negated (not l.negated)) (signs_differ l.negated)

-- a literal that isn't false is not the negation of a literal that is held
no_negation : (held : List Lit) (l m : Lit) → is_held held l ≡ true → is_false held m ≡ false → is_same (negation_of l) m ≡ false
no_negation held l m holds unset =
    false_from_ne_true (is_same (negation_of l) m) (λ same.
    let back : negation_of m ≡ l = sym (ap negation_of (is_same-true (negation_of l) m same)) ∙ negation-negation l in
    true≢false (sym holds ∙ sym (ap (is_held held) back) ∙ unset))

-- a literal stays unit in a clause where one more is held that isn't its negation
unit_later : (clauses : List (List Lit)) (held : List Lit) (number : ℕ) (l m : Lit) → is_same (negation_of l) m ≡ false → NamesUnit clauses held number l → NamesUnit clauses (m ∷ held) number l
unit_later clauses held number l m differs (clause, at, unit) = (
  clause,
  at,
  record {
    stands = unit.stands;
    not_false = or_from (is_same (negation_of l) m) (is_held held (negation_of l)) differs unit.not_false;
    others_false = λ k d within other.
        or_right (is_same (negation_of (get_or clause k d)) m) (is_held held (negation_of (get_or clause k d))) (unit.others_false k d within other);
  },
)

pub UsedAreUnit-more : (clauses : List (List Lit)) (held : List Lit) (used : List Entry) (m : Lit) → is_false held m ≡ false → UsedAreUnit clauses held used → UsedAreUnit clauses (m ∷ held) used
UsedAreUnit-more clauses held used m unset u =
    record {
      unit_of = λ number is.
          let (l, unit, holds) = u.unit_of number is in
          (l, unit_later clauses held number l m (no_negation held l m holds unset) unit, or_right (is_same l m) (is_held held l) holds);
    }

pub UsedAreUnit-marked : (clauses : List (List Lit)) (held : List Lit) (old new : List Entry) (number : ℕ) (l : Lit) → NamesUnit clauses held number l → ((n : ℕ) → used_in new n ≡ ((n == number) || used_in old n)) → UsedAreUnit clauses held old → UsedAreUnit clauses (l ∷ held) new
UsedAreUnit-marked clauses held old new number l unit step u =
    record {
      unit_of = λ n is.
          elim (or_cases (n == number) (used_in old n) (sym (step n) ∙ is)) [
            | inl same ↦ (
              l,
              subst (λ k. NamesUnit clauses (l ∷ held) k l) (sym (eqb-true n number same)) (unit_later clauses held number l l (negation_differs l) unit),
              or_left (is_same l l) (is_held held l) (is_same-self l),
            )
            | inr before ↦ (UsedAreUnit-more clauses held old l unit.2.not_false u).unit_of n before
          ];
    }

-- What the table holds is accounted for still where a clause's unit literal is held and the clause is marked.
pub Accounted-more : (clauses : List (List Lit)) (clause held : List Lit) (number : ℕ) (l : Lit) (table newer used more : List Entry) → NamesUnit clauses held number l → ((m : Lit) → table_holds newer m ≡ (is_same m l || table_holds table m)) → ((n : ℕ) → used_in more n ≡ ((n == number) || used_in used n)) → Accounted clauses clause table used → Accounted clauses clause newer more
Accounted-more clauses clause held number l table newer used more unit holds marks accounted =
    λ m is.
    elim (or_cases (is_same m l) (table_holds table m) (sym (holds m) ∙ is)) [
      | inl same ↦
          inr (
            number,
            marks number ∙ or_left (number == number) (used_in used number) (eq-eqb number number refl),
            ap (λ (k : Lit). stands_in k.variable (get_or clauses number [])) (is_same-true m l same) ∙ unit_stands clauses held number l unit,
          )
      | inr before ↦
          elim (accounted m before) [
            | inl own ↦ inl own
            | inr (n, marked, stands) ↦ inr (n, marks n ∙ or_right (n == number) (used_in used n) marked, stands)
          ]
    ]

pub marked_more : (hints moves : List ℕ) (last place : ℕ) (used more : List Entry) → hints ≡ moves ++ last ∷ [] → place < length moves → ((n : ℕ) → used_in more n ≡ ((n == get_or moves place 0) || used_in used n)) → ((n : ℕ) → used_in used n ≡ true → Contains hints n) → (n : ℕ) → used_in more n ≡ true → Contains hints n
marked_more hints moves last place used more whole within marks marked n is =
    elim (or_cases (n == get_or moves place 0) (used_in used n) (sym (marks n) ∙ is)) [
      | inl same ↦
          subst (Contains hints) (sym (eqb-true n (get_or moves place 0) same))
          (subst (λ ns. Contains ns (get_or moves place 0)) (sym whole)
          (Contains-append_left moves (last ∷ []) (get_or moves place 0) (Contains-get_or moves place 0 within)))
      | inr before ↦ marked n before
    ]

-- What the table holds is accounted for still where the mark of a clause is taken and the variables of the clause are
-- released.
pub Accounted-less : (clauses : List (List Lit)) (clause : List Lit) (number : ℕ) (table newer used less : List Entry) → ((m : Lit) → table_holds newer m ≡ (table_holds table m && not (used_in used number && stands_in m.variable (get_or clauses number [])))) → ((n : ℕ) → used_in less n ≡ (used_in used n && not (n == number))) → Accounted clauses clause table used → Accounted clauses clause newer less
Accounted-less clauses clause number table newer used less released taken accounted =
    λ m is.
    let parts = and_parts (table_holds table m) (not (used_in used number && stands_in m.variable (get_or clauses number []))) (sym (released m) ∙ is) in
    elim (accounted m parts.0) [
      | inl own ↦ inl own
      | inr (n, marked, stands) ↦
          elim (cases_Bool (n == number)) [
            | inl same ↦
                let both : (used_in used n && stands_in m.variable (get_or clauses n [])) ≡ true = and_from (used_in used n) (stands_in m.variable (get_or clauses n [])) marked stands in
                let here = ap (λ k. used_in used k && stands_in m.variable (get_or clauses k [])) (sym (eqb-true n number same)) ∙ both in
                absurd (true≢false (sym parts.1 ∙ ap not here))
            | inr differs ↦ inr (n, taken n ∙ and_from (used_in used n) (not (n == number)) marked (ap not differs), stands)
          ]
    ]

only : (m n : ℕ) → Contains (m ∷ []) n → m ≡ n
only m n (zero, within, is) = is
only m n (suc k, within, is) = absurd (omega (arith, within))

-- once the mark of the next hint's clause is taken, each clause that is marked is named by a later hint
pub marked_later : (hints : List ℕ) (place : ℕ) (used less : List Entry) → place < length hints → ((n : ℕ) → used_in less n ≡ (used_in used n && not (n == get_or hints place 0))) → ((n : ℕ) → used_in used n ≡ true → Contains (drop place hints) n) → (n : ℕ) → used_in less n ≡ true → Contains (drop (place + 1) hints) n
marked_later hints place used less within taken marked n is =
    let number = get_or hints place 0 in
    let parts = and_parts (used_in used n) (not (n == number)) (sym (taken n) ∙ is) in
    elim (Contains-append_cases (number ∷ []) (drop (place + 1) hints) n (subst (λ ns. Contains ns n) (drop_more hints place 0 within) (marked n parts.0))) [
      | inl first ↦
          let same : number ≡ n = only number n first in
          absurd (true≢false (sym parts.1 ∙ ap not (eq-eqb n number (sym same))))
      | inr later ↦ later
    ]

-- once the marks of all hints' clauses are taken, no clause is marked
pub none_marked : (hints : List ℕ) (place : ℕ) (used : List Entry) → length hints ≤ place → ((n : ℕ) → used_in used n ≡ true → Contains (drop place hints) n) → (n : ℕ) → used_in used n ≡ false
none_marked hints place used all marked n =
    false_from_ne_true (used_in used n) (λ is.
    let h = marked n is in
    let empty : length (drop place hints) ≡ 0 = ap length (drop_all place hints all) in
    omega (arith, h.1, empty))
