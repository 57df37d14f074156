-- Clauses at which unit propagation has nothing to do.
use Rattle.depth_first.proofs.Common.{◌≡◌, ℕ, true, false, List, [], ◌∷◌, ◌++◌, sym, ap, ◌∙◌, inl, inr, subst, or_cases, cases_Bool, true≢false, false_from_ne_true, All-head, All-tail, Lit, negation_of, is_same, IsVariable, IsWithin, is_held, is_false, IsUnit, is_same-true, is_same-self, negation-negation, not_falsified_by, unit_only, unit_same, unit_stands, IsFalsified-agree, IsUnit-agree, IsPropagated}
use Rattle.depth_first.proofs.HeldLists.{Consistent, held_left, held_last, held_cases, held_one_same, not_held_nil, both_held}

-- a clause with a literal that is held is propagated
pub IsPropagated-from_held : (held clause : List Lit) (m : Lit) → Consistent held → is_held clause m ≡ true → is_held held m ≡ true → IsPropagated held clause
IsPropagated-from_held held clause m ok within is =
    record {
      not_false = not_falsified_by held clause m within (ok.each m is);
      forced_held = λ l unit. subst (λ k. is_held held k ≡ true) (unit_only held clause l m unit within (ok.each m is)) is;
    }

-- a clause with two different literals that aren't false is propagated
pub IsPropagated-from_different : (held clause : List Lit) (a b : Lit) → is_held clause a ≡ true → is_false held a ≡ false → is_held clause b ≡ true → is_false held b ≡ false → (a ≡ b → ⊥) → IsPropagated held clause
IsPropagated-from_different held clause a b in_a kept_a in_b kept_b differ =
    record {
      not_false = not_falsified_by held clause a in_a kept_a;
      forced_held = λ l unit. absurd (differ (unit_only held clause l a unit in_a kept_a ∙ sym (unit_only held clause l b unit in_b kept_b)));
    }

-- a literal that becomes held makes no other literal false than its negation
is_false-push : (held : List Lit) (x m : Lit) → is_same (negation_of x) m ≡ false → is_false (held ++ x ∷ []) m ≡ is_false held m
is_false-push held x m differ =
    elim (cases_Bool (is_false held m)) [
      | inl closed ↦ held_left held (x ∷ []) (negation_of m) closed ∙ sym closed
      | inr kept ↦
          false_from_ne_true (is_false (held ++ x ∷ []) m) (λ now.
          elim (held_cases held (x ∷ []) (negation_of m) now) [
            | inl before ↦ both_held held (negation_of m) before kept
            | inr new ↦
                let e : negation_of m ≡ x = held_one_same x (negation_of m) new in
                let back : negation_of x ≡ m = sym (ap negation_of e) ∙ negation-negation m in
                true≢false (sym (subst (λ k. is_same (negation_of x) k ≡ true) back (is_same-self (negation_of x))) ∙ differ)
          ])
          ∙ sym kept
    ]

agree_push : (held clause : List Lit) (x : Lit) → is_held clause (negation_of x) ≡ false → (m : Lit) → is_held clause m ≡ true → is_false (held ++ x ∷ []) m ≡ is_false held m
agree_push held clause x none m stands =
    is_false-push held x m (false_from_ne_true (is_same (negation_of x) m) (λ same.
    true≢false (sym (ap (is_held clause) (is_same-true (negation_of x) m same) ∙ stands) ∙ none)))

pub IsPropagated-push : (held clause : List Lit) (x : Lit) → is_held clause (negation_of x) ≡ false → IsPropagated held clause → IsPropagated (held ++ x ∷ []) clause
IsPropagated-push held clause x none propagated =
    let back : (m : Lit) → is_held clause m ≡ true → is_false held m ≡ is_false (held ++ x ∷ []) m =
    λ m stands. sym (agree_push held clause x none m stands) in
    record {
      not_false = λ falsified. propagated.not_false (IsFalsified-agree (held ++ x ∷ []) held clause back falsified);
      forced_held = λ l unit. held_left held (x ∷ []) l (propagated.forced_held l (IsUnit-agree (held ++ x ∷ []) held clause l back unit));
    }

-- a clause is propagated once its unit literal is held
pub IsPropagated-forced : (held clause : List Lit) (x : Lit) → is_held clause (negation_of x) ≡ false → IsUnit held clause x → IsPropagated (held ++ x ∷ []) clause
IsPropagated-forced held clause x none unit =
    let now : IsUnit (held ++ x ∷ []) clause x = IsUnit-agree held (held ++ x ∷ []) clause x (agree_push held clause x none) unit in
    record {
      not_false = not_falsified_by (held ++ x ∷ []) clause x (unit_stands held clause x unit) now.not_false;
      forced_held = λ l forces.
          subst (λ k. is_held (held ++ x ∷ []) k ≡ true) (unit_same (held ++ x ∷ []) clause x l now forces) (held_last held x);
    }

-- the variable of each literal of a clause is one of those that the clause is within
pub variable_within : (count : ℕ) (clause : List Lit) (l : Lit) → IsWithin count clause → is_held clause l ≡ true → IsVariable count l.variable
variable_within count [] l within h = absurd (not_held_nil l h)
variable_within count (m ∷ ms) l within h =
    elim (or_cases (is_same l m) (is_held ms l) h) [
      | inl same ↦
          subst (λ (k : Lit). IsVariable count k.variable) (sym (is_same-true l m same)) (All-head (λ k. IsVariable count k.variable) m ms within)
      | inr rest ↦ variable_within count ms l (All-tail (λ k. IsVariable count k.variable) m ms within) rest
    ]
