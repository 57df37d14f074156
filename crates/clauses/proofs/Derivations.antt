-- Derivations taken propagation by propagation, and hints taken hint by hint.
use Rattle.clauses.proofs.Common.{◌≡◌, ℕ, List, [], ◌∷◌, ◌++◌, Some, refl, sym, ap, ◌∙◌, subst, slice_get, Lit, Derives, HintsRefute, NamesFalse, NamesUnit, IsUnit}
use Rattle.clauses.proofs.Units.{unit_same}

-- a number is that of one clause at most
same_clause : (clauses : List (List Lit)) (number : ℕ) (c d : List Lit) → slice_get clauses number ≡ Some c → slice_get clauses number ≡ Some d → c ≡ d
same_clause clauses number c d p q = let e : Some c ≡ Some d = sym p ∙ q in cc

-- in one state at most one literal is unit in the clause of a number
pub NamesUnit-same : (clauses : List (List Lit)) (held : List Lit) (number : ℕ) (l m : Lit) → NamesUnit clauses held number l → NamesUnit clauses held number m → l ≡ m
NamesUnit-same clauses held number l m (c, at, one) (d, at', one') =
    unit_same held d l m (subst (λ e. IsUnit held e l) (same_clause clauses number c d at at') one) one'

-- a derivation may go on with the unit literal of one more clause
pub Derives-push : (clauses : List (List Lit)) (held : List Lit) (numbers : List ℕ) (after : List Lit) (number : ℕ) (l : Lit) → Derives clauses held numbers after → NamesUnit clauses after number l → Derives clauses held (numbers ++ number ∷ []) (l ∷ after)
Derives-push clauses held [] after number l d unit =
    (l, subst (λ state. NamesUnit clauses state number l) (sym d) unit, ap (λ state. l ∷ state) d)
Derives-push clauses held (n ∷ numbers) after number l d unit =
    (d.0, d.1, Derives-push clauses (d.0 ∷ held) numbers after number l d.2 unit)

-- a single hint refutes the state where it names a false clause
pub HintsRefute-one : (clauses : List (List Lit)) (held : List Lit) (number : ℕ) → NamesFalse clauses held number → HintsRefute clauses held (number ∷ [])
HintsRefute-one clauses held number false_named = ([], number, held, refl, refl, false_named)

pub HintsRefute-only : (clauses : List (List Lit)) (held : List Lit) (number : ℕ) → HintsRefute clauses held (number ∷ []) → NamesFalse clauses held number
HintsRefute-only clauses held number ([], last, after, is, d, named) =
    let e : number ≡ last = cc in
    subst (λ n. NamesFalse clauses held n) (sym e) (subst (λ state. NamesFalse clauses state last) (sym d) named)
HintsRefute-only clauses held number (n ∷ [], last, after, is, d, named) = cc
HintsRefute-only clauses held number (n ∷ m ∷ ns, last, after, is, d, named) = cc

-- A hint before others refutes the state where its clause has a unit literal and the others refute the state that holds
-- it too.
pub HintsRefute-cons : (clauses : List (List Lit)) (held : List Lit) (number : ℕ) (l : Lit) (hints : List ℕ) → NamesUnit clauses held number l → HintsRefute clauses (l ∷ held) hints → HintsRefute clauses held (number ∷ hints)
HintsRefute-cons clauses held number l hints unit (moves, last, after, is, d, named) =
    (number ∷ moves, last, after, ap (λ ns. number ∷ ns) is, (l, unit, d), named)

pub HintsRefute-move : (clauses : List (List Lit)) (held : List Lit) (number next : ℕ) (hints : List ℕ) → HintsRefute clauses held (number ∷ next ∷ hints) → (l : Lit) × NamesUnit clauses held number l × HintsRefute clauses (l ∷ held) (next ∷ hints)
HintsRefute-move clauses held number next hints ([], last, after, is, d, named) = cc
HintsRefute-move clauses held number next hints (n ∷ moves, last, after, is, d, named) =
    let first : number ≡ n = cc in
    let others : next ∷ hints ≡ moves ++ last ∷ [] = cc in
    (d.0, subst (λ k. NamesUnit clauses held k d.0) (sym first) d.1, (moves, last, after, others, d.2, named))
