-- Reverse unit propagation is sound.
use Rattle.clauses.proofs.Common.{◌≡◌, ℕ, Bool, true, false, List, [], ◌∷◌, Some, sym, ap, ◌∙◌, inl, inr, subst, slice_get, Lit, literal_true, clause_true, negation_of, Meets, Derives, HintsRefute, IsFalsified, IsUnit, is_held, is_false, negations_of, cases_Bool, true≢false, false_from_ne_true, Any-from_list_any, slice_get_within, get_or_from_slice_get}
use Rattle.clauses.proofs.Held.{HeldTrue, HeldTrue-cons, HeldTrue-negations, false_of_negation}
use Rattle.clauses.proofs.Units.{held-from_Contains, falsified_each, unit_only}

-- where an assignment meets all clauses, it makes the clause of each number true
pub Meets-at : (v : ℕ → Bool) (clauses : List (List Lit)) (number : ℕ) (clause : List Lit) → Meets v clauses → slice_get clauses number ≡ Some clause → clause_true v clause ≡ true
Meets-at v clauses number clause meets is =
    sym (ap (clause_true v) (get_or_from_slice_get clauses number clause clause is)) ∙ meets number clause (slice_get_within clauses number clause is)

-- a clause that is true has a true literal
true_literal : (v : ℕ → Bool) (clause : List Lit) → clause_true v clause ≡ true → (l : Lit) × (is_held clause l ≡ true) × (literal_true v l ≡ true)
true_literal v clause t =
    let (k, l, within, at, is) = Any-from_list_any (literal_true v) clause t in
    (l, held-from_Contains clause l (k, within, at), is)

-- a unit literal of a true clause is true where all literals that are held are
pub unit_is_true : (v : ℕ → Bool) (held clause : List Lit) (l : Lit) → HeldTrue v held → clause_true v clause ≡ true → IsUnit held clause l → literal_true v l ≡ true
unit_is_true v held clause l h t unit =
    let (m, stands, is) = true_literal v clause t in
    elim (cases_Bool (is_false held m)) [
      | inl closed ↦ absurd (true≢false (sym is ∙ false_of_negation v m (h.each (negation_of m) closed)))
      | inr kept ↦ subst (λ k. literal_true v k ≡ true) (unit_only held clause l m unit stands kept) is
    ]

-- a clause with all literals false is false under each assignment that makes the literals held true
pub falsified_is_false : (v : ℕ → Bool) (held clause : List Lit) → HeldTrue v held → IsFalsified held clause → clause_true v clause ≡ false
falsified_is_false v held clause h none =
    false_from_ne_true (clause_true v clause) (λ t.
    let (m, stands, is) = true_literal v clause t in
    true≢false (sym is ∙ false_of_negation v m (h.each (negation_of m) (falsified_each held clause m none stands))))

-- what is derived from literals that are true, by clauses that are true, is true
pub derived_is_true : (v : ℕ → Bool) (clauses : List (List Lit)) → Meets v clauses → (held : List Lit) (numbers : List ℕ) (after : List Lit) → HeldTrue v held → Derives clauses held numbers after → HeldTrue v after
derived_is_true v clauses meets held [] after h d = subst (HeldTrue v) d h
derived_is_true v clauses meets held (number ∷ numbers) after h d =
    let clause = d.1.0 in
    let now_true : literal_true v d.0 ≡ true =
    unit_is_true v held clause d.0 h (Meets-at v clauses number clause meets d.1.1) d.1.2 in
    derived_is_true v clauses meets (d.0 ∷ held) numbers after (HeldTrue-cons v d.0 held now_true h) d.2

-- a clause that the hints show is true in each assignment that meets the earlier clauses
pub shown_is_true : (v : ℕ → Bool) (earlier : List (List Lit)) (clause : List Lit) (hints : List ℕ) → Meets v earlier → HintsRefute earlier (negations_of clause) hints → clause_true v clause ≡ true
shown_is_true v earlier clause hints meets (moves, last, held, is, derived, (named, at, none)) =
    elim (cases_Bool (clause_true v clause)) [
      | inl holds ↦ holds
      | inr fails ↦
          let h : HeldTrue v held = derived_is_true v earlier meets (negations_of clause) moves held (HeldTrue-negations v clause fails) derived in
          absurd (true≢false (sym (Meets-at v earlier last named meets at) ∙ falsified_is_false v held named h none))
    ]
