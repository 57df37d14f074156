-- Definitions in order: each assignment to the smaller variables has exactly one extension that meets their clauses,
-- unit propagation derives it, and each clause is one of the definition of its greatest variable.
use Rattle.cnf_build.proofs.Common.{◌≡◌, ℕ, zero, suc, ◌+◌, ◌-◌, ◌<◌, ◌≤◌, Bool, true, false, not, ◌&&◌, cond, eqb, List, [], ◌∷◌, ◌++◌, length, map, get_or, All, Any, EachIndex, slice_index, Some, refl, sym, ap, ap₂, ◌∙◌, subst, inl, inr, arith, xor, slice_get, cases_lt, or_cases, or_left, or_right, eq-eqb, ne_eqb, false_from_ne_true, slice_get-get_or, slice_get_within, get_or_from_slice_get, same_Some, get_or-map, length-map, All-nil, All-append, Any-from_list_any, list_any_at, Lit, Meets, literal_of, negation_of, is_same, literal_true, clause_true, is_held, is_false, Derives, NamesUnit, StandsIn, IsGreatest, MeetsDefinition, is_same-true, is_same-self, literal_true-negation, All-left, All-right, Definition, definition_value, clauses_of_definition, clauses_from, IsSmaller, IsOverSmaller, AreOverSmaller}
use Rattle.cnf_build.specs.declared.definition.Definition.TheVariants.{One, And, Xor, Mux}
use Rattle.cnf_build.proofs.OneDefinition.{value_from_Meets, Meets-from_value, IsDecided, unit_of, all_heads, greatest_from_head}

-- operands

literal_true-agree : (v w : ℕ → Bool) (l : Lit) → w l.variable ≡ v l.variable → literal_true w l ≡ literal_true v l
literal_true-agree v w l e = ap (λ b. literal_true (λ _. b) l) e

-- the assignments agree on the variables below n
abbrev pub AgreeBelow : ℕ → (ℕ → Bool) → (ℕ → Bool) → Type 0
AgreeBelow n v w = (m : ℕ) → 1 ≤ m → m < n → w m ≡ v m

pub definition_value-agree : (n : ℕ) (v w : ℕ → Bool) → AgreeBelow n v w → (d : Definition) → IsOverSmaller n d → definition_value w d ≡ definition_value v d
definition_value-agree n v w agree One over = refl
definition_value-agree n v w agree (And a b) over =
    ap₂ (λ x y. x && y) (literal_true-agree v w a (agree a.variable over.0.0 over.0.1))
    (literal_true-agree v w b (agree b.variable over.1.0 over.1.1))
definition_value-agree n v w agree (Xor a b) over =
    ap₂ xor (literal_true-agree v w a (agree a.variable over.0.0 over.0.1))
    (literal_true-agree v w b (agree b.variable over.1.0 over.1.1))
definition_value-agree n v w agree (Mux c a b) over =
    ap (λ o. cond o (literal_true w a) (literal_true w b)) (literal_true-agree v w c (agree c.variable over.0.0 over.0.1))
    ∙ ap₂ (cond (literal_true v c)) (literal_true-agree v w a (agree a.variable over.1.0 over.1.1))
    (literal_true-agree v w b (agree b.variable over.2.0 over.2.1))

over-head : (n : ℕ) (d : Definition) (ds : List Definition) → AreOverSmaller n (d ∷ ds) → IsOverSmaller n d
over-head n d ds over = let place : n + 0 ≡ n = omega arith in subst (λ k. IsOverSmaller k d) place (over 0 d refl)

over-tail : (n : ℕ) (d : Definition) (ds : List Definition) → AreOverSmaller n (d ∷ ds) → AreOverSmaller (n + 1) ds
over-tail n d ds over =
    λ j e at. let place : n + suc j ≡ n + 1 + j = omega arith in subst (λ k. IsOverSmaller k e) place (over (suc j) e at)

-- solutions

-- each defined variable has the value of its definition under the assignment
abbrev pub Solves : (ℕ → Bool) → ℕ → List Definition → Type 0
Solves u n [] = Unit {0}
Solves u n (d ∷ ds) = (u n ≡ definition_value u d) × Solves u (n + 1) ds

pub Solves-at : (u : ℕ → Bool) (n : ℕ) (ds : List Definition) (j : ℕ) (d : Definition) → Solves u n ds → slice_get ds j ≡ Some d → u (n + j) ≡ definition_value u d
Solves-at u n [] j d s at = absurd (cc)
Solves-at u n (e ∷ ds) zero d s at =
    let place : n + 0 ≡ n = omega arith in
    let same : e ≡ d = same_Some e d at in
    ap u place ∙ s.0 ∙ ap (definition_value u) same
Solves-at u n (e ∷ ds) (suc j) d s at =
    let place : n + suc j ≡ n + 1 + j = omega arith in ap u place ∙ Solves-at u (n + 1) ds j d s.1 at

pub Meets-from_Solves : (u : ℕ → Bool) (n : ℕ) (ds : List Definition) → Solves u n ds → Meets u (clauses_from n ds)
Meets-from_Solves u n [] s = All-nil (λ clause. clause_true u clause ≡ true)
Meets-from_Solves u n (d ∷ ds) s =
    All-append (λ clause. clause_true u clause ≡ true) (clauses_of_definition n d) (clauses_from (n + 1) ds)
    (Meets-from_value u n d s.0) (Meets-from_Solves u (n + 1) ds s.1)

pub Solves-from_Meets : (u : ℕ → Bool) (n : ℕ) (ds : List Definition) → Meets u (clauses_from n ds) → Solves u n ds
Solves-from_Meets u n [] m = tt
Solves-from_Meets u n (d ∷ ds) m =
    let P : List Lit → Type 0 = λ clause. clause_true u clause ≡ true in (
      value_from_Meets u n d (All-left P (clauses_of_definition n d) (clauses_from (n + 1) ds) m),
      Solves-from_Meets u (n + 1) ds (All-right P (clauses_of_definition n d) (clauses_from (n + 1) ds) m),
    )

-- the assignment in which one variable has this value
abbrev assign : ℕ → Bool → (ℕ → Bool) → ℕ → Bool
assign n b v m = cond (eqb m n) b (v m)

-- the assignment in which each defined variable has the value of its definition
abbrev pub extend : ℕ → List Definition → (ℕ → Bool) → ℕ → Bool
extend n [] v = v
extend n (d ∷ ds) v = extend (n + 1) ds (assign n (definition_value v d) v)

pub extend-below : (n : ℕ) (ds : List Definition) (v : ℕ → Bool) (m : ℕ) → m < n → extend n ds v m ≡ v m
extend-below n [] v m below = refl
extend-below n (d ∷ ds) v m below =
    let b = definition_value v d in
    extend-below (n + 1) ds (assign n b v) m (omega arith)
    ∙ ap (λ t. cond t b (v m)) (ne_eqb m n (λ e. omega arith))

pub extend-solves : (n : ℕ) (ds : List Definition) (v : ℕ → Bool) → AreOverSmaller n ds → Solves (extend n ds v) n ds
extend-solves n [] v over = tt
extend-solves n (d ∷ ds) v over =
    let b = definition_value v d in
    let u = extend n (d ∷ ds) v in
    let here : u n ≡ b =
    extend-below (n + 1) ds (assign n b v) n (omega arith) ∙ ap (λ t. cond t b (v n)) (eq-eqb n n refl) in
    let same : definition_value u d ≡ b =
    definition_value-agree n v u (λ m from below. extend-below n (d ∷ ds) v m below) d (over-head n d ds over) in
    (here ∙ sym same, extend-solves (n + 1) ds (assign n b v) (over-tail n d ds over))

pub solutions-agree : (n : ℕ) (ds : List Definition) (u w : ℕ → Bool) → AreOverSmaller n ds → Solves u n ds → Solves w n ds → AgreeBelow n u w → AgreeBelow (n + length ds) u w
solutions-agree n [] u w over s t agree = λ m from below. agree m from (omega arith)
solutions-agree n (d ∷ ds) u w over s t agree =
    let here : w n ≡ u n = t.0 ∙ definition_value-agree n u w agree d (over-head n d ds over) ∙ sym s.0 in
    let more : AgreeBelow (n + 1) u w =
    λ m from below.
    elim (cases_lt m n) [
      | inl less ↦ agree m from less
      | inr most ↦ let e : n ≡ m = omega arith in subst (λ k. w k ≡ u k) e here
    ] in
    let rest = solutions-agree (n + 1) ds u w (over-tail n d ds over) s.1 t.1 more in
    λ m from below. rest m from (omega arith)

-- where clauses come from

-- the clause is one of the list
abbrev pub Has : List (List Lit) → List Lit → Type 0
Has clauses c = (number : ℕ) × (slice_get clauses number ≡ Some c)

Has-left : (xs ys : List (List Lit)) (number : ℕ) (c : List Lit) → slice_get xs number ≡ Some c → Has (xs ++ ys) c
Has-left [] ys number c at = absurd (cc)
Has-left (x ∷ xs) ys zero c at = (0, at)
Has-left (x ∷ xs) ys (suc k) c at = let r = Has-left xs ys k c at in (suc r.0, r.1)

Has-right : (xs ys : List (List Lit)) (c : List Lit) → Has ys c → Has (xs ++ ys) c
Has-right [] ys c h = h
Has-right (x ∷ xs) ys c h = let r = Has-right xs ys c h in (suc r.0, r.1)

pub Has-append_left : (xs ys : List (List Lit)) (c : List Lit) → Has xs c → Has (xs ++ ys) c
Has-append_left xs ys c h = Has-left xs ys h.0 c h.1

pub Has-from_definition : (n : ℕ) (ds : List Definition) (j : ℕ) (d : Definition) (c : List Lit) → slice_get ds j ≡ Some d → Has (clauses_of_definition (n + j) d) c → Has (clauses_from n ds) c
Has-from_definition n [] j d c at h = absurd (cc)
Has-from_definition n (e ∷ ds) zero d c at h =
    let place : n + 0 ≡ n = omega arith in
    let here : Has (clauses_of_definition n d) c = subst (λ k. Has (clauses_of_definition k d) c) place h in
    let same : d ≡ e = sym (same_Some e d at) in
    Has-append_left (clauses_of_definition n e) (clauses_from (n + 1) ds) c
    (subst (λ x. Has (clauses_of_definition n x) c) same here)
Has-from_definition n (e ∷ ds) (suc j) d c at h =
    let place : n + suc j ≡ n + 1 + j = omega arith in
    Has-right (clauses_of_definition n e) (clauses_from (n + 1) ds) c
    (Has-from_definition (n + 1) ds j d c at (subst (λ k. Has (clauses_of_definition k d) c) place h))

pub Any-from_Has : (P : List Lit → Type 0) (clauses : List (List Lit)) (c : List Lit) → Has clauses c → P c → Any P clauses
Any-from_Has P clauses c h p =
    (h.0, c, slice_get_within clauses h.0 c h.1, get_or_from_slice_get clauses h.0 c c h.1, p)

pub Has-from_place : (clauses : List (List Lit)) (k : ℕ) (d : List Lit) → k < length clauses → Has clauses (get_or clauses k d)
Has-from_place clauses k d within = (k, slice_get-get_or clauses k d within)

-- what is true of the clauses of each definition is true of all clauses
pub All-clauses_from : (P : List Lit → Type 0) (n : ℕ) (ds : List Definition) → ((j : ℕ) (d : Definition) → slice_get ds j ≡ Some d → All P (clauses_of_definition (n + j) d)) → All P (clauses_from n ds)
All-clauses_from P n [] each = All-nil P
All-clauses_from P n (d ∷ ds) each =
    let place : n + 0 ≡ n = omega arith in
    All-append P (clauses_of_definition n d) (clauses_from (n + 1) ds)
    (subst (λ k. All P (clauses_of_definition k d)) place (each 0 d refl))
    (All-clauses_from P (n + 1) ds (λ j e at.
    let place' : n + suc j ≡ n + 1 + j = omega arith in
    subst (λ k. All P (clauses_of_definition k e)) place' (each (suc j) e at)))

-- a variable of a clause is at most its greatest

stands_le : (p q : ℕ) (clause : List Lit) → StandsIn p clause → All (λ l. l.variable ≤ q) clause → p ≤ q
stands_le p q clause (k, l, within, at, e) all =
    let same : (get_or clause k l).variable ≡ l.variable = ap (λ (x : Lit). x.variable) at in
    let le : (get_or clause k l).variable ≤ q = all k l within in
    omega arith

greatest_same : (p q : ℕ) (clause : List Lit) → IsGreatest p clause → IsGreatest q clause → p ≡ q
greatest_same p q clause g h =
    let a : p ≤ q = stands_le p q clause g.0 h.1 in
    let b : q ≤ p = stands_le q p clause h.0 g.1 in
    omega arith

-- The clauses in which a defined variable is the greatest give it the value of its definition.
pub value_from_MeetsDefinition : (n : ℕ) (ds : List Definition) → AreOverSmaller n ds → (j : ℕ) (d : Definition) → slice_get ds j ≡ Some d → (w : ℕ → Bool) → MeetsDefinition (n + j) w (clauses_from n ds) → w (n + j) ≡ definition_value w d
value_from_MeetsDefinition n ds over j d at w meets =
    value_from_Meets w (n + j) d (λ k c within.
    let own = clauses_of_definition (n + j) d in
    let clause = get_or own k c in
    let greatest = greatest_from_head (n + j) clause (all_heads (n + j) d (over j d at) k c within) in
    let all = Has-from_definition n ds j d clause at (Has-from_place own k c within) in
    let same : get_or (clauses_from n ds) all.0 [] ≡ clause = get_or_from_slice_get (clauses_from n ds) all.0 clause [] all.1 in
    let inside = slice_get_within (clauses_from n ds) all.0 clause all.1 in
    let told : IsGreatest (n + j) clause → clause_true w clause ≡ true =
    subst (λ x. IsGreatest (n + j) x → clause_true w x ≡ true) same (meets all.0 [] inside) in
    told greatest)

pub MeetsDefinition-from_value : (n : ℕ) (ds : List Definition) → AreOverSmaller n ds → (j : ℕ) (d : Definition) → slice_get ds j ≡ Some d → (w : ℕ → Bool) → w (n + j) ≡ definition_value w d → MeetsDefinition (n + j) w (clauses_from n ds)
MeetsDefinition-from_value n ds over j d at w value =
    All-clauses_from (λ clause. IsGreatest (n + j) clause → clause_true w clause ≡ true) n ds (λ i e at'. λ k c within greatest.
    let clause = get_or (clauses_of_definition (n + i) e) k c in
    let other = greatest_from_head (n + i) clause (all_heads (n + i) e (over i e at') k c within) in
    let number : n + i ≡ n + j = greatest_same (n + i) (n + j) clause other greatest in
    let place : i ≡ j = omega arith in
    let same : e ≡ d = same_Some e d (sym at' ∙ ap (slice_get ds) place ∙ at) in
    let value' : w (n + i) ≡ definition_value w e = ap w number ∙ value ∙ ap (definition_value w) (sym same) in
    Meets-from_value w (n + i) e value' k c within)

-- unit propagation

-- the state holds exactly the literals of the variables below n that the assignment makes true
pub record HoldsBelow (u : ℕ → Bool) (n : ℕ) (held : List Lit) : Type 0 where
  pub holds : (l : Lit) → IsSmaller n l → literal_true u l ≡ true → is_held held l ≡ true
  pub held_only : (l : Lit) → is_held held l ≡ true → (literal_true u l ≡ true) × (l.variable < n)

pub IsDecided-from_HoldsBelow : (u : ℕ → Bool) (n : ℕ) (held : List Lit) → HoldsBelow u n held → IsDecided u n held
IsDecided-from_HoldsBelow u n held h =
    record {
      closed = λ l small p. h.holds (negation_of l) small (literal_true-negation u l ∙ ap not p);
      open_at = λ b. false_from_ne_true (is_false held (literal_of n b)) (λ is. let less = (h.held_only (negation_of (literal_of n b)) is).1 in omega arith);
    }

sign_of_true : (negated x : Bool) → cond negated (not x) x ≡ true → negated ≡ not x
sign_of_true true true h = sym h
sign_of_true true false h = refl
sign_of_true false true h = refl
sign_of_true false false h = h

-- a literal that is true is that of its variable's value
pub true_literal : (u : ℕ → Bool) (l : Lit) → literal_true u l ≡ true → l ≡ literal_of l.variable (u l.variable)
true_literal u l p =
    let same : Bool → Lit = λ b. record { variable = l.variable; negated = b } in
    ap same (sign_of_true l.negated (u l.variable) p)

own_true : (b : Bool) → cond (not b) (not b) b ≡ true
own_true true = refl
own_true false = refl

pub literal_of-true : (u : ℕ → Bool) (n : ℕ) → literal_true u (literal_of n (u n)) ≡ true
literal_of-true u n = own_true (u n)

pub HoldsBelow-cons : (u : ℕ → Bool) (n : ℕ) (held : List Lit) → HoldsBelow u n held → HoldsBelow u (n + 1) (literal_of n (u n) ∷ held)
HoldsBelow-cons u n held h =
    let x = literal_of n (u n) in
    record {
      holds = λ l small p.
          elim (cases_lt l.variable n) [
            | inl less ↦ or_right (is_same l x) (is_held held l) (h.holds l (small.0, less) p)
            | inr most ↦
                let e : l.variable ≡ n = omega arith in
                let is : l ≡ x = true_literal u l p ∙ ap (λ k. literal_of k (u k)) e in
                or_left (is_same l x) (is_held held l) (subst (λ y. is_same l y ≡ true) is (is_same-self l))
          ];
      held_only = λ l is.
          elim (or_cases (is_same l x) (is_held held l) is) [
            | inl same ↦
                let e : l ≡ x = is_same-true l x same in
                let v : l.variable ≡ n = ap (λ (y : Lit). y.variable) e in
                (ap (literal_true u) e ∙ literal_of-true u n, omega arith)
            | inr before ↦ let r = h.held_only l before in (r.0, omega arith)
          ];
    }

pub derive_all : (all : List (List Lit)) (u : ℕ → Bool) (n : ℕ) (ds : List Definition) (held : List Lit) → ((c : List Lit) → Has (clauses_from n ds) c → Has all c) → AreOverSmaller n ds → Solves u n ds → HoldsBelow u n held → (moves : List ℕ) × (after : List Lit) × Derives all held moves after × HoldsBelow u (n + length ds) after
derive_all all u n [] held has over s h =
    let place : n ≡ n + 0 = omega arith in ([], held, refl, subst (λ k. HoldsBelow u k held) place h)
derive_all all u n (d ∷ ds) held has over s h =
    let own = clauses_of_definition n d in
    let l = literal_of n (u n) in
    let found = unit_of u n held (IsDecided-from_HoldsBelow u n held h) d (over-head n d ds over) in
    let clause = get_or own found.0 [] in
    let number = has clause (Has-append_left own (clauses_from (n + 1) ds) clause (Has-from_place own found.0 [] found.1)) in
    let unit : NamesUnit all held number.0 l =
    subst (λ b. NamesUnit all held number.0 (literal_of n b)) (sym s.0) (clause, number.1, found.2) in
    let rest = derive_all all u (n + 1) ds (l ∷ held)
    (λ c in'. has c (Has-right own (clauses_from (n + 1) ds) c in')) (over-tail n d ds over) s.1 (HoldsBelow-cons u n held h) in
    let place : n + 1 + length ds ≡ n + suc (length ds) = omega arith in
    (number.0 ∷ rest.0, rest.1, (l, unit, rest.2), subst (λ k. HoldsBelow u k rest.1) place rest.3)

-- the literals of the inputs' values, where the inputs are the first variables
pub HoldsBelow-inputs : (setting u : ℕ → Bool) (inputs : List ℕ) → EachIndex inputs (λ k. slice_index inputs k ≡ k + 1) → AgreeBelow (length inputs + 1) setting u → HoldsBelow u (length inputs + 1) (map (λ n. literal_of n (setting n)) inputs)
HoldsBelow-inputs setting u inputs first agree =
    let f : ℕ → Lit = λ n. literal_of n (setting n) in
    let at : (k : ℕ) (d : Lit) → k < length inputs → get_or (map f inputs) k d ≡ literal_of (k + 1) (u (k + 1)) =
    λ k d within.
    get_or-map f inputs k 0 d within ∙ ap f (first k within)
    ∙ ap (literal_of (k + 1)) (sym (agree (k + 1) (omega arith) (omega arith))) in
    let count : length (map f inputs) ≡ length inputs = length-map inputs f in
    record {
      holds = λ l small p.
          let k = l.variable - 1 in
          let within : k < length inputs = omega (arith, small.0, small.1) in
          let number : l.variable ≡ k + 1 = omega (arith, small.0) in
          let is : l ≡ get_or (map f inputs) k l =
          true_literal u l p ∙ ap (λ n. literal_of n (u n)) number ∙ sym (at k l within) in
          list_any_at (is_same l) (map f inputs) k l (omega arith) (subst (λ y. is_same l y ≡ true) is (is_same-self l));
      held_only = λ l is.
          let found = Any-from_list_any (is_same l) (map f inputs) is in
          let x = found.1 in
          let within : found.0 < length inputs = omega (arith, found.2) in
          let e : l ≡ literal_of (found.0 + 1) (u (found.0 + 1)) = is_same-true l x found.4 ∙ sym found.3 ∙ at found.0 x within in
          let v : l.variable ≡ found.0 + 1 = ap (λ (y : Lit). y.variable) e in
          (ap (literal_true u) e ∙ literal_of-true u (found.0 + 1), omega arith);
    }
