-- Literals that are held, and assignments that make them true.
use Rattle.clauses.proofs.Common.{◌≡◌, ℕ, ◌+◌, ◌*◌, ◌/◌, Bool, true, false, not, cond, eqb, List, [], ◌∷◌, refl, sym, ap, ◌∙◌, inl, inr, arith, not-false, and_parts, and_from, or_cases, or_parts, eqb-true, eq-eqb, true≢false, not-true, nat_tests, Lit, code_of, literal_at, negation_of, is_same, literal_true, clause_true, is_held, negations_of}

-- the literal of this variable and sign
abbrev pub made : ℕ → Bool → Lit
made n b = record { variable = n; negated = b }

made_same : (n m : ℕ) (a b : Bool) → n ≡ m → a ≡ b → made n a ≡ made m b
made_same n m a b p q = ap (λ k. made k a) p ∙ ap (λ c. made m c) q

bool_same : (a b : Bool) → cond a b (not b) ≡ true → a ≡ b
bool_same true true h = refl
bool_same true false h = sym h
bool_same false true h = h
bool_same false false h = refl

bool_self : (a : Bool) → cond a a (not a) ≡ true
bool_self true = refl
bool_self false = refl

-- literals that the test finds equal are equal
pub is_same-true : (l m : Lit) → is_same l m ≡ true → l ≡ m
is_same-true l m h =
    let parts = and_parts (eqb l.variable m.variable) (cond l.negated m.negated (not m.negated)) h in
    made_same l.variable m.variable l.negated m.negated (eqb-true l.variable m.variable parts.0)
    (bool_same l.negated m.negated parts.1)

half : (n : ℕ) (b : Bool) → (2 * n + cond b 1 0) / 2 ≡ n
half n true = omega arith
half n false = omega arith

odd : (n : ℕ) (b : Bool) → (literal_at (2 * n + cond b 1 0)).negated ≡ b
odd n true = grind (arith, nat_tests)
odd n false = grind (arith, nat_tests)

literal_at-code_of : (l : Lit) → literal_at (code_of l) ≡ l
literal_at-code_of l = made_same _ l.variable _ l.negated (half l.variable l.negated) (odd l.variable l.negated)

-- literals with the same code are equal
pub same_code : (l m : Lit) → code_of l ≡ code_of m → l ≡ m
same_code l m e = sym (literal_at-code_of l) ∙ ap literal_at e ∙ literal_at-code_of m

-- literals of which `!=` is false are equal
pub equal_literals : (l m : Lit) (differs : Bool) → differs ≡ not (eqb (code_of l) (code_of m)) → differs ≡ false → l ≡ m
equal_literals l m differs is same = same_code l m (eqb-true (code_of l) (code_of m) (not-false _ (sym is ∙ same)))

pub is_same-self : (l : Lit) → is_same l l ≡ true
is_same-self l =
    and_from (eqb l.variable l.variable) (cond l.negated l.negated (not l.negated)) (eq-eqb l.variable l.variable refl)
    (bool_self l.negated)

not_not : (b : Bool) → not (not b) ≡ b
not_not true = refl
not_not false = refl

pub negation-negation : (l : Lit) → negation_of (negation_of l) ≡ l
negation-negation l = made_same l.variable l.variable (not (not l.negated)) l.negated refl (not_not l.negated)

true_of_made : (v : ℕ → Bool) (n : ℕ) (b : Bool) → literal_true v (made n (not b)) ≡ not (literal_true v (made n b))
true_of_made v n true = sym (not_not (v n))
true_of_made v n false = refl

-- the negation of a literal is true exactly where the literal is false
pub literal_true-negation : (v : ℕ → Bool) (l : Lit) → literal_true v (negation_of l) ≡ not (literal_true v l)
literal_true-negation v l = true_of_made v l.variable l.negated

pub false_of_negation : (v : ℕ → Bool) (l : Lit) → literal_true v (negation_of l) ≡ true → literal_true v l ≡ false
false_of_negation v l h = not-true (literal_true v l) (sym (literal_true-negation v l) ∙ h)

-- the assignment makes each literal that is held true
pub record HeldTrue (v : ℕ → Bool) (held : List Lit) : Type 0 where
  pub each : (l : Lit) → is_held held l ≡ true → literal_true v l ≡ true

pub HeldTrue-nil : (v : ℕ → Bool) → HeldTrue v []
HeldTrue-nil v = record { each = λ l h. elim (true≢false (sym h)) [ ] }

pub HeldTrue-cons : (v : ℕ → Bool) (l : Lit) (held : List Lit) → literal_true v l ≡ true → HeldTrue v held → HeldTrue v (l ∷ held)
HeldTrue-cons v l held t h =
    record {
      each = λ m is.
          elim (or_cases (is_same m l) (is_held held m) is) [
            | inl same ↦ ap (literal_true v) (is_same-true m l same) ∙ t
            | inr before ↦ h.each m before
          ];
    }

-- an assignment that makes a clause false makes the negations of its literals true
pub HeldTrue-negations : (v : ℕ → Bool) (clause : List Lit) → clause_true v clause ≡ false → HeldTrue v (negations_of clause)
HeldTrue-negations v [] h = HeldTrue-nil v
HeldTrue-negations v (l ∷ ls) h =
    let parts = or_parts (literal_true v l) (clause_true v ls) h in
    HeldTrue-cons v (negation_of l) (negations_of ls) (literal_true-negation v l ∙ ap not parts.0) (HeldTrue-negations v ls parts.1)
