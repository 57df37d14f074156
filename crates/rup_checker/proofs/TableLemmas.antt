-- What the table says of a clause's literals.
use Rattle.rup_checker.proofs.Common.{◌≡◌, Bool, true, false, not, ◌&&◌, ◌||◌, cond, eqb, List, [], ◌∷◌, refl, sym, ap, ◌∙◌, inl, inr, cases_Bool, or_parts, or_from, or_left, and_left, and_right, ne_eqb, eqb-false, true≢false, Lit, is_same, negation_of, is_held, negations_of, is_same-true, Entry, Represents, table_holds, stands_in}

-- a table that is told of one more literal represents the state that holds it too
pub Represents-hold : (old new : List Entry) (held : List Lit) (l : Lit) → ((m : Lit) → table_holds new m ≡ (is_same m l || table_holds old m)) → Represents old held → Represents new (l ∷ held)
Represents-hold old new held l step r = record { each = λ m. step m ∙ ap (λ b. is_same m l || b) (r.each m) }

-- The negations of a clause's literals hold no literal of a variable that doesn't stand in the clause.
negations_elsewhere : (clause : List Lit) (m : Lit) → stands_in m.variable clause ≡ false → is_held (negations_of clause) m ≡ false
negations_elsewhere [] m none = refl
negations_elsewhere (l ∷ ls) m none =
    let parts = or_parts (eqb l.variable m.variable) (stands_in m.variable ls) none in
    or_from (is_same m (negation_of l)) (is_held (negations_of ls) m)
    (and_left (eqb m.variable l.variable) (cond m.negated (not l.negated) (not (not l.negated))) (ne_eqb m.variable l.variable (λ same. eqb-false l.variable m.variable parts.0 (sym same))))
    (negations_elsewhere ls m parts.1)

-- a state that holds a literal twice is represented by the same table
pub Represents-again : (table : List Entry) (held : List Lit) (l : Lit) → is_held held l ≡ true → Represents table held → Represents table (l ∷ held)
Represents-again table held l holds r =
    record {
      each = λ m.
          elim (cases_Bool (is_same m l)) [
            | inl same ↦ r.each m ∙ ap (is_held held) (is_same-true m l same) ∙ holds ∙ sym (or_left (is_same m l) (is_held held m) same)
            | inr differs ↦ r.each m ∙ ap (λ b. b || is_held held m) (sym differs)
          ];
    }

-- where the negations of the clause's literals are held, each literal that the table holds is of a variable of the
-- clause
pub own_negations : (negated : List Entry) (clause : List Lit) → Represents negated (negations_of clause) → (m : Lit) → table_holds negated m ≡ true → stands_in m.variable clause ≡ true
own_negations negated clause r m holds =
    elim (cases_Bool (stands_in m.variable clause)) [
      | inl stands ↦ stands
      | inr none ↦ absurd (true≢false (sym holds ∙ r.each m ∙ negations_elsewhere clause m none))
    ]

-- where only literals of the clause's variables were held, the table holds nothing once these variables are released
pub Represents-released : (clause : List Lit) (freed blank : List Entry) → ((m : Lit) → table_holds freed m ≡ true → stands_in m.variable clause ≡ true) → ((m : Lit) → table_holds blank m ≡ (table_holds freed m && not (stands_in m.variable clause))) → Represents blank []
Represents-released clause freed blank own released =
    record {
      each = λ m.
          elim (cases_Bool (table_holds freed m)) [
            | inl holds ↦ released m ∙ and_right (table_holds freed m) (not (stands_in m.variable clause)) (ap not (own m holds))
            | inr free ↦ released m ∙ and_left (table_holds freed m) (not (stands_in m.variable clause)) free
          ];
    }

pub and-true : (b : Bool) → b ≡ (b && true)
and-true true = refl
and-true false = refl
