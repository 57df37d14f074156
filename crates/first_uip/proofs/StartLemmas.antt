-- Clauses with one literal, and literals that differ.
use Rattle.first_uip.proofs.Common.{◌≡◌, ℕ, suc, ◌+◌, ◌<◌, true, false, Bool, not, eqb, List, [], ◌∷◌, ◌++◌, Some, length, take, get_or, refl, sym, ap, ◌∙◌, arith, subst, slice_get, All, IfSome, MatchOption, Option, None, true≢false, eq-eqb, take_more, All-nil, All-cons, All-more, Contains-push, Cnf, Lit, code_of, IsVariable, IsUnit, IsFalsified, is_held, is_false, all_clauses, Entry, is_decision, Grows, Contains-from_held, held-from_Contains, element_at, take_next, variable_within, One, IsShape}
use Rattle.depth_first.proofs.Sets.{clause_within}

-- literals of which `!=` is true are different
pub differ_by_ne : (l m : Lit) (differs : Bool) → differs ≡ not (eqb (code_of l) (code_of m)) → differs ≡ true → (l ≡ m) → ⊥
differ_by_ne l m differs is is_true same =
    true≢false (sym is_true ∙ is ∙ ap not (eq-eqb (code_of l) (code_of m) (ap code_of same)))

-- A walk along a clause comes to one more literal: it is the only one so far, as any before it was the same.
pub one_more : (clause : List Lit) (k : ℕ) (x : Lit) (first : Option Lit) → k < length clause → x ≡ get_or clause k x → ((l : Lit) → first ≡ Some l → l ≡ x) → MatchOption first (k ≡ 0) (λ y. (is_held (take k clause) y ≡ true) × All (λ m. m ≡ y) (take k clause)) → (is_held (take (k + 1) clause) x ≡ true) × All (λ m. m ≡ x) (take (k + 1) clause)
one_more clause k x first within read same so_far =
    let next : take (k + 1) clause ≡ take k clause ++ x ∷ [] =
    take_more clause k x within ∙ ap (λ (y : Lit). take k clause ++ y ∷ []) (sym read) in (
      subst (λ ls. is_held ls x ≡ true) (sym next) (held-from_Contains (take k clause ++ x ∷ []) x (Contains-push (take k clause) x)),
      All-more (λ (m : Lit). m ≡ x) clause k x within (before first same so_far) (sym read),
    )
  where
    before : (o : Option Lit) → ((l : Lit) → o ≡ Some l → l ≡ x) → MatchOption o (k ≡ 0) (λ y. (is_held (take k clause) y ≡ true) × All (λ m. m ≡ y) (take k clause)) → All (λ m. m ≡ x) (take k clause)
    before None same none = subst (λ n. All (λ (m : Lit). m ≡ x) (take n clause)) (sym none) (All-nil (λ (m : Lit). m ≡ x))
    before (Some l) same some = subst (λ (y : Lit). All (λ m. m ≡ y) (take k clause)) (same l refl) some.1

-- the clause of this number has this literal, and no other one
pub record IsAloneAt (set : Cnf) (number : ℕ) (l : Lit) : Type 0 where
  pub clause : List Lit
  pub at : slice_get (all_clauses set) number ≡ Some clause
  pub stands : is_held clause l ≡ true
  pub only : All (λ m. m ≡ l) clause
  pub within : IsVariable set.count l.variable
  pub next : take (number + 1) (all_clauses set) ≡ take number (all_clauses set) ++ clause ∷ []

pub IsAloneAt-from : (set : Cnf) (number : ℕ) (l : Lit) → number < length (all_clauses set) → IfSome (slice_get (all_clauses set) number) (λ clause. IsShape clause (One l)) → IsAloneAt set number l
IsAloneAt-from set number l known alone =
    let cs = all_clauses set in
    let (clause, at) = element_at cs number known in
    let shape : IsShape clause (One l) = subst (λ o. IfSome o (λ c. IsShape c (One l))) at alone in
    let s : number + 1 ≡ suc number = omega arith in
    record {
      clause = clause;
      at = at;
      stands = shape.0;
      only = shape.1;
      within = variable_within set.count clause l (clause_within set number clause at) shape.0;
      next = ap (λ n. take n cs) s ∙ take_next cs number clause at;
    }

pub alone_falsified : (held clause : List Lit) (l : Lit) → All (λ m. m ≡ l) clause → is_false held l ≡ true → IsFalsified held clause
alone_falsified held clause l only closed = λ k d within. ap (is_false held) (only k d within) ∙ closed

pub alone_unit : (held clause : List Lit) (l : Lit) → is_held clause l ≡ true → All (λ m. m ≡ l) clause → is_false held l ≡ false → IsUnit held clause l
alone_unit held clause l stands only kept =
    record { stands = Contains-from_held clause l stands; not_false = kept; others_false = λ k d within other. absurd (other (only k d within)) }

-- no entry was decided that clauses of the set forced at the start
pub undecided : (clauses : List (List Lit)) (entries : List Entry) → Grows clauses [] entries → (place : ℕ) (e : Entry) → slice_get entries place ≡ Some e → is_decision e.cause ≡ true → ⊥
undecided clauses entries g place e at decides =
    let there : slice_get g.more place ≡ Some e = sym (ap (λ es. slice_get es place) g.is) ∙ at in
    true≢false (sym decides ∙ ap is_decision (g.forced place e there).1)

pub All-two : {X : Type 0} (P : X → Type 0) (a b : X) → P a → P b → All P (a ∷ b ∷ [])
All-two P a b pa pb = All-cons P a (b ∷ []) pa (All-cons P b [] pb (All-nil P))
