-- Two lists of the same matches in order are equal.
use Rattle.rule_matches.proofs.Common.{◌≡◌, ◌⊎◌, inl, inr, ℕ, zero, suc, Bool, List, [], ◌∷◌, ◌++◌, take, drop, Some, refl, sym, ap, subst, ◌∙◌, arith, AllPairs, Contains, slice_get, All-contains, same_Some, slice_get-get_or, Function, Rule, Match, AreMatchesWhere, ComesBefore, IsMatchAmong, MatchesBeforeStandFirst}
use Rattle.rule_matches.proofs.Joining.{before_chosen, not_both, pairs_first, pairs_later, same_where}

-- an element is the first, or one of the others
first_or_later : {X : Type 0} (x : X) (xs : List X) (y : X) → Contains (x ∷ xs) y → (x ≡ y) ⊎ Contains xs y
first_or_later x xs y (zero, within, is) = inl is
first_or_later x xs y (suc k, within, is) = inr (k, omega (arith, within), is)

later_too : {X : Type 0} (x : X) (xs : List X) (y : X) → Contains xs y → Contains (x ∷ xs) y
later_too x xs y (k, within, is) = (suc k, omega (arith, within), is)

not_itself : (m : Match) → ¬ ComesBefore m m
not_itself m before = not_both m m before before

-- both begin with the same
same_first : (x y : Match) (xs ys : List Match) → AllPairs ComesBefore (x ∷ xs) → AllPairs ComesBefore (y ∷ ys)
    → Contains (y ∷ ys) x → Contains (x ∷ xs) y → x ≡ y
same_first x y xs ys in_xs in_ys has_x has_y = elim (first_or_later y ys x has_x) [
  | inl is ↦ sym is
  | inr later_x ↦ elim (first_or_later x xs y has_y) [
    | inl is ↦ is
    | inr later_y ↦ absurd (not_both x y
        (All-contains (ComesBefore x) xs y (pairs_first ComesBefore x xs in_xs) later_y)
        (All-contains (ComesBefore y) ys x (pairs_first ComesBefore y ys in_ys) later_x))
  ]
]

-- and go on with the same
goes_on : (x : Match) (xs ys : List Match) → AllPairs ComesBefore (x ∷ xs) → ((m : Match) → Contains (x ∷ xs) m → Contains (x ∷ ys) m)
    → (m : Match) → Contains xs m → Contains ys m
goes_on x xs ys in_xs has m later = elim (first_or_later x ys m (has m (later_too x xs m later))) [
  | inl is ↦ absurd (not_itself x (subst (ComesBefore x) (sym is) (All-contains (ComesBefore x) xs m (pairs_first ComesBefore x xs in_xs) later)))
  | inr there ↦ there
]

one_list : (xs ys : List Match) → AllPairs ComesBefore xs → AllPairs ComesBefore ys
    → ((m : Match) → Contains xs m → Contains ys m) → ((m : Match) → Contains ys m → Contains xs m) → xs ≡ ys
one_list [] [] in_xs in_ys on back = refl
one_list [] (y ∷ ys) in_xs in_ys on back = absurd (let h = back y (0, omega arith, refl) in omega (arith, h.1))
one_list (x ∷ xs) [] in_xs in_ys on back = absurd (let h = on x (0, omega arith, refl) in omega (arith, h.1))
one_list (x ∷ xs) (y ∷ ys) in_xs in_ys on back =
    let same : x ≡ y = same_first x y xs ys in_xs in_ys (on x (0, omega arith, refl)) (back y (0, omega arith, refl)) in
    let in_ys' : AllPairs ComesBefore (x ∷ ys) = subst (λ (m : Match). AllPairs ComesBefore (m ∷ ys)) (sym same) in_ys in
    let on' : (m : Match) → Contains (x ∷ xs) m → Contains (x ∷ ys) m = λ m h. subst (λ (n : Match). Contains (n ∷ ys) m) (sym same) (on m h) in
    let back' : (m : Match) → Contains (x ∷ ys) m → Contains (x ∷ xs) m = λ m h. back m (subst (λ (n : Match). Contains (n ∷ ys) m) same h) in
    let rest : xs ≡ ys = one_list xs ys (pairs_later ComesBefore x xs in_xs) (pairs_later ComesBefore y ys in_ys) (goes_on x xs ys in_xs on') (goes_on x ys xs in_ys' back') in
    ap (λ (m : Match). m ∷ xs) same ∙ ap (λ (l : List Match). y ∷ l) rest

-- a list is what is in front of an index, the item there, and what is behind it
split_there : {X : Type 0} (xs : List X) (k : ℕ) (x : X) → slice_get xs k ≡ Some x → take k xs ++ x ∷ drop (suc k) xs ≡ xs
split_there [] k x at = absurd cc
split_there (y ∷ xs) zero x at = ap (λ z. z ∷ xs) (sym (same_Some y x at))
split_there (y ∷ xs) (suc k) x at = ap (λ l. y ∷ l) (split_there xs k x at)

among : (across : Bool) (rules : List Rule) (f : Function) (P : Match → Type 0) (xs ys : List Match) → AreMatchesWhere across rules f P xs → AreMatchesWhere across rules f P ys
    → (m : Match) → Contains xs m → Contains ys m
among across rules f P xs ys first later m has = (let h = All-contains (λ n. IsMatchAmong across rules f n × P n) xs m first.each has in later.all m h.0 h.1)

pub before_stand_first : MatchesBeforeStandFirst
before_stand_first across rules f chosen passed all is before are =
    let (k, within, is_there) = are.all chosen is in
    let at : slice_get all k ≡ Some chosen = slice_get-get_or all k chosen within ∙ ap Some is_there in
    let anywhere : AreMatchesWhere across rules f (λ m. Unit {0}) all = record { each = λ i d lt. (are.each i d lt, tt); all = λ m is_m of. are.all m is_m; in_order = are.in_order } in
    let first : AreMatchesWhere across rules f (λ m. ComesBefore m chosen) (take k all) =
    same_where rules f (λ m. Unit {0} × ComesBefore m chosen) (λ m. ComesBefore m chosen) (take k all) (before_chosen rules f (λ m. Unit {0}) all k chosen at anywhere) (λ m is_m h. (tt, h)) (λ m h. h.1) in
    let same : take k all ≡ passed = one_list (take k all) passed first.in_order before.in_order
    (among across rules f (λ m. ComesBefore m chosen) (take k all) passed first before) (among across rules f (λ m. ComesBefore m chosen) passed (take k all) before first) in
    (drop (suc k) all, sym (split_there all k chosen at) ∙ ap (λ (l : List Match). l ++ chosen ∷ drop (suc k) all) same)
