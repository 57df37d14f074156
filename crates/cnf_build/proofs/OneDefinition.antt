-- The clauses of one definition: an assignment meets them exactly where the variable has the definition's value, unit
-- propagation derives that value from those of the operands, and the variable is the greatest of each clause.
use Rattle.cnf_build.proofs.Common.{◌≡◌, ℕ, ◌<◌, ◌≤◌, ◌⊎◌, Bool, true, false, not, ◌&&◌, ◌||◌, cond, List, [], ◌∷◌, length, get_or, All, Any, refl, sym, ap, ap₂, ◌∙◌, subst, inl, inr, arith, xor, beq, list_all, cases_Bool, and_parts, and_from, All-nil, All-cons, All-head, All-tail, All-weaker, Lit, Meets, IsVariable, IsWithin, literal_of, negation_of, literal_true, clause_true, is_false, IsFalsified, IsUnit, StandsIn, IsGreatest, literal_true-negation, unit_first, Definition, definition_value, clauses_of_definition, IsSmaller, IsOverSmaller}
use Rattle.cnf_build.specs.declared.definition.Definition.TheVariants.{One, And, Xor, Mux}

-- truth

-- the test that all clauses of a list are true
pub Meets-test : (w : ℕ → Bool) (clauses : List (List Lit)) → list_all (clause_true w) clauses ≡ true → Meets w clauses
Meets-test w [] h = All-nil (λ c. clause_true w c ≡ true)
Meets-test w (c ∷ cs) h =
    let parts = and_parts (clause_true w c) (list_all (clause_true w) cs) h in
    All-cons (λ c. clause_true w c ≡ true) c cs parts.0 (Meets-test w cs parts.1)

pub test-Meets : (w : ℕ → Bool) (clauses : List (List Lit)) → Meets w clauses → list_all (clause_true w) clauses ≡ true
test-Meets w [] h = refl
test-Meets w (c ∷ cs) h =
    and_from (clause_true w c) (list_all (clause_true w) cs) (All-head (λ c. clause_true w c ≡ true) c cs h)
    (test-Meets w cs (All-tail (λ c. clause_true w c ≡ true) c cs h))

one_table : (x : Bool) → ((x || false) && true) ≡ beq x true
one_table true = refl
one_table false = refl

and_table : (x p q : Bool) → ((not x || (p || false)) && ((not x || (q || false)) && ((x || (not p || (not q || false))) && true))) ≡ beq x (p && q)
and_table true true true = refl
and_table true true false = refl
and_table true false true = refl
and_table true false false = refl
and_table false true true = refl
and_table false true false = refl
and_table false false true = refl
and_table false false false = refl

xor_table : (x p q : Bool) → ((not x || (p || (q || false))) && ((not x || (not p || (not q || false))) && ((x || (not p || (q || false))) && ((x || (p || (not q || false))) && true)))) ≡ beq x (xor p q)
unfolding mathlib.Core.Bool.xor
xor_table true true true = refl
xor_table true true false = refl
xor_table true false true = refl
xor_table true false false = refl
xor_table false true true = refl
xor_table false true false = refl
xor_table false false true = refl
xor_table false false false = refl

mux_table : (x o p q : Bool) → ((not x || (not o || (p || false))) && ((x || (not o || (not p || false))) && ((not x || (o || (q || false))) && ((x || (o || (not q || false))) && true)))) ≡ beq x (cond o p q)
mux_table true true true true = refl
mux_table true true true false = refl
mux_table true true false true = refl
mux_table true true false false = refl
mux_table true false true true = refl
mux_table true false true false = refl
mux_table true false false true = refl
mux_table true false false false = refl
mux_table false true true true = refl
mux_table false true true false = refl
mux_table false true false true = refl
mux_table false true false false = refl
mux_table false false true true = refl
mux_table false false true false = refl
mux_table false false false true = refl
mux_table false false false false = refl

clauses_table : (w : ℕ → Bool) (n : ℕ) (d : Definition) → list_all (clause_true w) (clauses_of_definition n d) ≡ beq (w n) (definition_value w d)
clauses_table w n One = one_table (w n)
clauses_table w n (And a b) =
    let x = w n in
    let p = literal_true w a in
    let q = literal_true w b in
    ap₂ (λ p' q'. ((not x || (p || false)) && ((not x || (q || false)) && ((x || (p' || (q' || false))) && true))))
    (literal_true-negation w a) (literal_true-negation w b)
    ∙ and_table x p q
clauses_table w n (Xor a b) =
    let x = w n in
    let p = literal_true w a in
    let q = literal_true w b in
    ap₂ (λ p' q'. ((not x || (p || (q || false))) && ((not x || (p' || (q' || false))) && ((x || (p' || (q || false))) && ((x || (p || (q' || false))) && true)))))
    (literal_true-negation w a) (literal_true-negation w b)
    ∙ xor_table x p q
clauses_table w n (Mux c a b) =
    let x = w n in
    let o = literal_true w c in
    let p = literal_true w a in
    let q = literal_true w b in
    let negations : (o' p' q' : Bool) → Bool =
    λ o' p' q'. ((not x || (o' || (p || false))) && ((x || (o' || (p' || false))) && ((not x || (o || (q || false))) && ((x || (o || (q' || false))) && true)))) in
    ap₂ (λ o' p'. negations o' p' (literal_true w (negation_of b))) (literal_true-negation w c) (literal_true-negation w a)
    ∙ ap (λ q'. negations (not o) (not p) q') (literal_true-negation w b)
    ∙ mux_table x o p q

beq-true : (a b : Bool) → beq a b ≡ true → a ≡ b
beq-true true true h = refl
beq-true true false h = sym h
beq-true false true h = h
beq-true false false h = refl

beq-same : (a b : Bool) → a ≡ b → beq a b ≡ true
beq-same true true h = refl
beq-same true false h = sym h
beq-same false true h = h
beq-same false false h = refl

-- where all clauses are true, the variable has the definition's value
pub value_from_Meets : (w : ℕ → Bool) (n : ℕ) (d : Definition) → Meets w (clauses_of_definition n d) → w n ≡ definition_value w d
value_from_Meets w n d h =
    beq-true (w n) (definition_value w d) (sym (clauses_table w n d) ∙ test-Meets w (clauses_of_definition n d) h)

pub Meets-from_value : (w : ℕ → Bool) (n : ℕ) (d : Definition) → w n ≡ definition_value w d → Meets w (clauses_of_definition n d)
Meets-from_value w n d h =
    Meets-test w (clauses_of_definition n d) (clauses_table w n d ∙ beq-same (w n) (definition_value w d) h)

-- unit propagation

-- The state is decided below n: each literal of a smaller variable that the assignment makes false is false, and n has
-- no value.
pub record IsDecided (u : ℕ → Bool) (n : ℕ) (held : List Lit) : Type 0 where
  pub closed : (l : Lit) → IsSmaller n l → literal_true u l ≡ false → is_false held l ≡ true
  pub open_at : (b : Bool) → is_false held (literal_of n b) ≡ false

-- some clause of the definition is unit, with the literal that gives the variable its value
abbrev pub SomeUnit : (ℕ → Bool) → List Lit → ℕ → Definition → Type 0
SomeUnit u held n d =
    (i : ℕ) × (i < length (clauses_of_definition n d)) × IsUnit held (get_or (clauses_of_definition n d) i []) (literal_of n (definition_value u d))

make_unit : (u : ℕ → Bool) (held : List Lit) (n : ℕ) (d : Definition) (b : Bool) → definition_value u d ≡ b → (i : ℕ) → i < length (clauses_of_definition n d) → IsUnit held (get_or (clauses_of_definition n d) i []) (literal_of n b) → SomeUnit u held n d
make_unit u held n d b e i within unit =
    (i, within, subst (λ x. IsUnit held (get_or (clauses_of_definition n d) i []) (literal_of n x)) (sym e) unit)

module _ (u : ℕ → Bool) (n : ℕ) (held : List Lit) (decided : IsDecided u n held) where
  none_false : IsFalsified held []
  none_false = All-nil (λ l. is_false held l ≡ true)

  one_false : (a : Lit) → IsSmaller n a → literal_true u a ≡ false → IsFalsified held (a ∷ [])
  one_false a small p = All-cons (λ l. is_false held l ≡ true) a [] (decided.closed a small p) none_false

  two_false : (a b : Lit) → IsSmaller n a → IsSmaller n b → literal_true u a ≡ false → literal_true u b ≡ false → IsFalsified held (a ∷ b ∷ [])
  two_false a b small small' p q =
      All-cons (λ l. is_false held l ≡ true) a (b ∷ []) (decided.closed a small p) (one_false b small' q)

  negation_false : (a : Lit) → literal_true u a ≡ true → literal_true u (negation_of a) ≡ false
  negation_false a p = literal_true-negation u a ∙ ap not p

  unit : (b : Bool) (ls : List Lit) → IsFalsified held ls → IsUnit held (literal_of n b ∷ ls) (literal_of n b)
  unit b ls none = unit_first held (literal_of n b) ls (decided.open_at b) none

  pub unit_of : (d : Definition) → IsOverSmaller n d → SomeUnit u held n d
  unfolding mathlib.Core.Bool.xor
  unit_of One over = make_unit u held n One true refl 0 (omega arith) (unit true [] none_false)
  unit_of (And a b) over =
      elim (cases_Bool (literal_true u a)) [
        | inr p ↦
            make_unit u held n (And a b) false (ap (λ x. x && literal_true u b) p) 0 (omega arith)
            (unit false (a ∷ []) (one_false a over.0 p))
        | inl p ↦
            elim (cases_Bool (literal_true u b)) [
              | inr q ↦
                  make_unit u held n (And a b) false (ap₂ (λ x y. x && y) p q) 1 (omega arith)
                  (unit false (b ∷ []) (one_false b over.1 q))
              | inl q ↦
                  make_unit u held n (And a b) true (ap₂ (λ x y. x && y) p q) 2 (omega arith)
                  (unit true (negation_of a ∷ negation_of b ∷ [])
                  (two_false (negation_of a) (negation_of b) over.0 over.1 (negation_false a p) (negation_false b q)))
            ]
      ]
  unit_of (Xor a b) over =
      elim (cases_Bool (literal_true u a)) [
        | inl p ↦
            elim (cases_Bool (literal_true u b)) [
              | inl q ↦
                  make_unit u held n (Xor a b) false (ap₂ xor p q) 1 (omega arith)
                  (unit false (negation_of a ∷ negation_of b ∷ [])
                  (two_false (negation_of a) (negation_of b) over.0 over.1 (negation_false a p) (negation_false b q)))
              | inr q ↦
                  make_unit u held n (Xor a b) true (ap₂ xor p q) 2 (omega arith)
                  (unit true (negation_of a ∷ b ∷ []) (two_false (negation_of a) b over.0 over.1 (negation_false a p) q))
            ]
        | inr p ↦
            elim (cases_Bool (literal_true u b)) [
              | inl q ↦
                  make_unit u held n (Xor a b) true (ap₂ xor p q) 3 (omega arith)
                  (unit true (a ∷ negation_of b ∷ []) (two_false a (negation_of b) over.0 over.1 p (negation_false b q)))
              | inr q ↦
                  make_unit u held n (Xor a b) false (ap₂ xor p q) 0 (omega arith)
                  (unit false (a ∷ b ∷ []) (two_false a b over.0 over.1 p q))
            ]
      ]
  unit_of (Mux c a b) over =
      let value : (x : Bool) → literal_true u c ≡ x → definition_value u (Mux c a b) ≡ cond x (literal_true u a) (literal_true u b) =
      λ x o. ap (λ y. cond y (literal_true u a) (literal_true u b)) o in
      elim (cases_Bool (literal_true u c)) [
        | inl o ↦
            elim (cases_Bool (literal_true u a)) [
              | inl p ↦
                  make_unit u held n (Mux c a b) true (value true o ∙ p) 1 (omega arith)
                  (unit true (negation_of c ∷ negation_of a ∷ [])
                  (two_false (negation_of c) (negation_of a) over.0 over.1 (negation_false c o) (negation_false a p)))
              | inr p ↦
                  make_unit u held n (Mux c a b) false (value true o ∙ p) 0 (omega arith)
                  (unit false (negation_of c ∷ a ∷ []) (two_false (negation_of c) a over.0 over.1 (negation_false c o) p))
            ]
        | inr o ↦
            elim (cases_Bool (literal_true u b)) [
              | inl q ↦
                  make_unit u held n (Mux c a b) true (value false o ∙ q) 3 (omega arith)
                  (unit true (c ∷ negation_of b ∷ []) (two_false c (negation_of b) over.0 over.2 o (negation_false b q)))
              | inr q ↦
                  make_unit u held n (Mux c a b) false (value false o ∙ q) 2 (omega arith)
                  (unit false (c ∷ b ∷ []) (two_false c b over.0 over.2 o q))
            ]
      ]

-- variables

-- the first literal of a clause stands in it
stands_first : (l : Lit) (ls : List Lit) → StandsIn l.variable (l ∷ ls)
stands_first l ls = (0, l, omega arith, refl, refl)

-- the clause begins with a literal of n, and its other literals have smaller variables
abbrev pub HasHead : ℕ → List Lit → Type 0
HasHead n clause = (b : Bool) × (ls : List Lit) × (clause ≡ literal_of n b ∷ ls) × All (IsSmaller n) ls

module _ (n : ℕ) where
  one_small : (a : Lit) → IsSmaller n a → All (IsSmaller n) (a ∷ [])
  one_small a p = All-cons (IsSmaller n) a [] p (All-nil (IsSmaller n))

  two_small : (a b : Lit) → IsSmaller n a → IsSmaller n b → All (IsSmaller n) (a ∷ b ∷ [])
  two_small a b p q = All-cons (IsSmaller n) a (b ∷ []) p (one_small b q)

  two_heads : (c d : List Lit) → HasHead n c → HasHead n d → All (HasHead n) (c ∷ d ∷ [])
  two_heads c d p q = All-cons (HasHead n) c (d ∷ []) p (All-cons (HasHead n) d [] q (All-nil (HasHead n)))

  pub all_heads : (d : Definition) → IsOverSmaller n d → All (HasHead n) (clauses_of_definition n d)
  all_heads One over =
      All-cons (HasHead n) (literal_of n true ∷ []) [] (true, [], refl, All-nil (IsSmaller n)) (All-nil (HasHead n))
  all_heads (And a b) over =
      let rest = two_heads (literal_of n false ∷ b ∷ []) (literal_of n true ∷ negation_of a ∷ negation_of b ∷ [])
      (false, b ∷ [], refl, one_small b over.1)
      (true, negation_of a ∷ negation_of b ∷ [], refl, two_small (negation_of a) (negation_of b) over.0 over.1) in
      All-cons (HasHead n) (literal_of n false ∷ a ∷ [])
      ((literal_of n false ∷ b ∷ []) ∷ (literal_of n true ∷ negation_of a ∷ negation_of b ∷ []) ∷ [])
      (false, a ∷ [], refl, one_small a over.0) rest
  all_heads (Xor a b) over =
      let rest = two_heads (literal_of n true ∷ negation_of a ∷ b ∷ []) (literal_of n true ∷ a ∷ negation_of b ∷ [])
      (true, negation_of a ∷ b ∷ [], refl, two_small (negation_of a) b over.0 over.1)
      (true, a ∷ negation_of b ∷ [], refl, two_small a (negation_of b) over.0 over.1) in
      let more : All (HasHead n) ((literal_of n false ∷ negation_of a ∷ negation_of b ∷ []) ∷ (literal_of n true ∷ negation_of a ∷ b ∷ []) ∷ (literal_of n true ∷ a ∷ negation_of b ∷ []) ∷ []) =
      All-cons (HasHead n) (literal_of n false ∷ negation_of a ∷ negation_of b ∷ [])
      ((literal_of n true ∷ negation_of a ∷ b ∷ []) ∷ (literal_of n true ∷ a ∷ negation_of b ∷ []) ∷ [])
      (false, negation_of a ∷ negation_of b ∷ [], refl, two_small (negation_of a) (negation_of b) over.0 over.1) rest in
      All-cons (HasHead n) (literal_of n false ∷ a ∷ b ∷ [])
      ((literal_of n false ∷ negation_of a ∷ negation_of b ∷ []) ∷ (literal_of n true ∷ negation_of a ∷ b ∷ []) ∷ (literal_of n true ∷ a ∷ negation_of b ∷ []) ∷ [])
      (false, a ∷ b ∷ [], refl, two_small a b over.0 over.1) more
  all_heads (Mux c a b) over =
      let rest = two_heads (literal_of n false ∷ c ∷ b ∷ []) (literal_of n true ∷ c ∷ negation_of b ∷ [])
      (false, c ∷ b ∷ [], refl, two_small c b over.0 over.2)
      (true, c ∷ negation_of b ∷ [], refl, two_small c (negation_of b) over.0 over.2) in
      let more : All (HasHead n) ((literal_of n true ∷ negation_of c ∷ negation_of a ∷ []) ∷ (literal_of n false ∷ c ∷ b ∷ []) ∷ (literal_of n true ∷ c ∷ negation_of b ∷ []) ∷ []) =
      All-cons (HasHead n) (literal_of n true ∷ negation_of c ∷ negation_of a ∷ [])
      ((literal_of n false ∷ c ∷ b ∷ []) ∷ (literal_of n true ∷ c ∷ negation_of b ∷ []) ∷ [])
      (true, negation_of c ∷ negation_of a ∷ [], refl, two_small (negation_of c) (negation_of a) over.0 over.1) rest in
      All-cons (HasHead n) (literal_of n false ∷ negation_of c ∷ a ∷ [])
      ((literal_of n true ∷ negation_of c ∷ negation_of a ∷ []) ∷ (literal_of n false ∷ c ∷ b ∷ []) ∷ (literal_of n true ∷ c ∷ negation_of b ∷ []) ∷ [])
      (false, negation_of c ∷ a ∷ [], refl, two_small (negation_of c) a over.0 over.1) more

-- n is the greatest variable of such a clause
pub greatest_from_head : (n : ℕ) (clause : List Lit) → HasHead n clause → IsGreatest n clause
greatest_from_head n clause (b, ls, is, small) =
    subst (IsGreatest n) (sym is) (
      stands_first (literal_of n b) ls,
      All-cons (λ l. l.variable ≤ n) (literal_of n b) ls (omega arith)
          (All-weaker (IsSmaller n) (λ l. l.variable ≤ n) (λ l small. omega arith) ls small),
    )

-- the variables of such a clause are from 1 to n
pub within_from_head : (n count : ℕ) (clause : List Lit) → 1 ≤ n → n ≤ count → HasHead n clause → IsWithin count clause
within_from_head n count clause from to (b, ls, is, small) =
    subst (IsWithin count) (sym is)
    (All-cons (λ l. IsVariable count l.variable) (literal_of n b) ls (from, to)
    (All-weaker (IsSmaller n) (λ l. IsVariable count l.variable) (λ l small. (small.0, omega arith)) ls small))

-- the variable is one of an operand of the definition
abbrev pub IsOperandOf : ℕ → Definition → Type 0
IsOperandOf m One = ⊥
IsOperandOf m (And a b) = (a.variable ≡ m) ⊎ (b.variable ≡ m)
IsOperandOf m (Xor a b) = (a.variable ≡ m) ⊎ (b.variable ≡ m)
IsOperandOf m (Mux c a b) = (c.variable ≡ m) ⊎ ((a.variable ≡ m) ⊎ (b.variable ≡ m))

-- the clause has this variable, and a greater one
abbrev pub UsesBelow : ℕ → List Lit → Type 0
UsesBelow m clause = StandsIn m clause × Any (λ l. m < l.variable) clause

module _ (n m : ℕ) where
  uses_second : (b : Bool) (a : Lit) (ls : List Lit) → IsSmaller n a → a.variable ≡ m → UsesBelow m (literal_of n b ∷ a ∷ ls)
  uses_second b a ls small e = ((1, a, omega arith, refl, e), (0, literal_of n b, omega arith, refl, omega arith))

  uses_third : (b : Bool) (a c : Lit) (ls : List Lit) → IsSmaller n c → c.variable ≡ m → UsesBelow m (literal_of n b ∷ a ∷ c ∷ ls)
  uses_third b a c ls small e = ((2, c, omega arith, refl, e), (0, literal_of n b, omega arith, refl, omega arith))

  pub operand_used : (d : Definition) → IsOverSmaller n d → IsOperandOf m d → Any (UsesBelow m) (clauses_of_definition n d)
  operand_used One over is = absurd is
  operand_used (And a b) over is =
      elim is [
        | inl e ↦ (0, literal_of n false ∷ a ∷ [], omega arith, refl, uses_second false a [] over.0 e)
        | inr e ↦ (1, literal_of n false ∷ b ∷ [], omega arith, refl, uses_second false b [] over.1 e)
      ]
  operand_used (Xor a b) over is =
      elim is [
        | inl e ↦ (0, literal_of n false ∷ a ∷ b ∷ [], omega arith, refl, uses_second false a (b ∷ []) over.0 e)
        | inr e ↦ (0, literal_of n false ∷ a ∷ b ∷ [], omega arith, refl, uses_third false a b [] over.1 e)
      ]
  operand_used (Mux c a b) over is =
      elim is [
        | inl e ↦ (0, literal_of n false ∷ negation_of c ∷ a ∷ [], omega arith, refl, uses_second false (negation_of c) (a ∷ []) over.0 e)
        | inr rest ↦
            elim rest [
              | inl e ↦ (0, literal_of n false ∷ negation_of c ∷ a ∷ [], omega arith, refl, uses_third false (negation_of c) a [] over.1 e)
              | inr e ↦ (2, literal_of n false ∷ c ∷ b ∷ [], omega arith, refl, uses_third false c b [] over.2 e)
            ]
      ]
