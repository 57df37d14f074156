-- The matches of one part of a function, followed by those of the next.
use Rattle.rule_matches.proofs.Common.{◌≡◌, ◌⊎◌, inl, inr, ℕ, zero, suc, ◌<◌, ◌≤◌, Bool, List, [], ◌∷◌, ◌++◌, length, get_or, take, Some, refl, sym, ap, subst, ◌∙◌, arith, All, AllPairs, Contains, slice_get, cases_eq, cases_lt, get_or-take, length-take-le, All-append, All-contains, Contains-append_left, Contains-append_right, Contains-get_or, AllPairs-cons, get_or_from_slice_get, slice_get-get_or, slice_get_within, IsBefore, Function, Rule, Contains-take, Match, MatchesAmong, IsMatchAmong, ComesBefore, AreMatches, AreMatchesAmong, AreMatchesWhere, Knowledge}

pub pairs_first : {X : Type 0} (R : X → X → Type 0) (x : X) (xs : List X) → AllPairs R (x ∷ xs) → All (R x) xs
pairs_first R x xs h k d lt = h 0 (suc k) d (omega arith) (omega arith)

pub pairs_later : {X : Type 0} (R : X → X → Type 0) (x : X) (xs : List X) → AllPairs R (x ∷ xs) → AllPairs R xs
pairs_later R x xs h i j d less within = h (suc i) (suc j) d (omega arith) (omega arith)

pub pairs_append : {X : Type 0} (R : X → X → Type 0) (xs ys : List X) → AllPairs R xs → AllPairs R ys
    → ((x y : X) → Contains xs x → Contains ys y → R x y) → AllPairs R (xs ++ ys)
pairs_append R [] ys first later cross = later
pairs_append R (x ∷ xs) ys first later cross =
    AllPairs-cons R x (xs ++ ys)
    (All-append (R x) xs ys (pairs_first R x xs first) (λ k d lt. cross x (get_or ys k d) (0, omega arith, refl) (Contains-get_or ys k d lt)))
    (pairs_append R xs ys (pairs_later R x xs first) later (λ a b has. cross a b (suc has.0, omega (arith, has.1), has.2)))

-- of two places at most one comes before the other
pub not_after : (b k i c l j : ℕ) → IsBefore b k i c l j → IsBefore c l j b k i → ⊥
not_after b k i c l j first later = elim first [
  | inl p ↦ elim later [ inl q ↦ omega (arith, p, q) | inr q ↦ omega (arith, p, q.0) ]
  | inr p ↦ elim later [
    | inl q ↦ omega (arith, p.0, q)
    | inr q ↦ elim p.1 [
      | inl s ↦ elim q.1 [ inl t ↦ omega (arith, s, t) | inr t ↦ omega (arith, s, t.0) ]
      | inr s ↦ elim q.1 [ inl t ↦ omega (arith, s.0, t) | inr t ↦ omega (arith, s.1, t.1) ]
    ]
  ]
]

pub not_both : (m n : Match) → ComesBefore m n → ComesBefore n m → ⊥
not_both m n = not_after m.binding.block m.binding.place m.rule n.binding.block n.binding.place n.rule

module _ {Before : ℕ → ℕ → ℕ → ℕ → Type 0} {known : Knowledge} (rules : List Rule) (f : Function) where
  -- where no rule matches
  pub none_where : (P : Match → Type 0) → ((m : Match) → MatchesAmong Before known rules f m → ¬ P m) → AreMatchesAmong Before known rules f P []
  none_where P never = record {
    each = λ k d lt. absurd (omega arith);
    all = λ m is p. absurd (never m is p);
    in_order = λ i j d less within. absurd (omega arith);
  }

  -- where one does
  pub one_where : (P : Match → Type 0) (m : Match) → MatchesAmong Before known rules f m → P m → ((n : Match) → MatchesAmong Before known rules f n → P n → m ≡ n) → AreMatchesAmong Before known rules f P (m ∷ [])
  one_where P m is p only = record {
    each = one_each;
    all = λ n is_n p_n. (0, omega arith, only n is_n p_n);
    in_order = λ i j d less within. absurd (omega arith);
  }
    where
      one_each : All (λ x. MatchesAmong Before known rules f x × P x) (m ∷ [])
      one_each zero d lt = (is, p)
      one_each (suc k) d lt = absurd (omega arith)

  -- all of one part come before all of the next
  pub joined : (P Q R : Match → Type 0) (xs ys : List Match) → AreMatchesAmong Before known rules f P xs → AreMatchesAmong Before known rules f Q ys
      → ((m n : Match) → P m → Q n → ComesBefore m n)
      → ((m : Match) → MatchesAmong Before known rules f m → R m → P m ⊎ Q m) → ((m : Match) → P m → R m) → ((m : Match) → Q m → R m)
      → AreMatchesAmong Before known rules f R (xs ++ ys)
  joined P Q R xs ys first later before split from_p from_q = record {
    each = All-append (λ m. MatchesAmong Before known rules f m × R m) xs ys
        (λ k d lt. let h = first.each k d lt in (h.0, from_p (get_or xs k d) h.1))
        (λ k d lt. let h = later.each k d lt in (h.0, from_q (get_or ys k d) h.1));
    all = λ m is r. elim (split m is r) [
      | inl p ↦ Contains-append_left xs ys m (first.all m is p)
      | inr q ↦ Contains-append_right xs ys m (later.all m is q)
    ];
    in_order = pairs_append ComesBefore xs ys first.in_order later.in_order
        (λ m n has_m has_n. before m n
        (All-contains (λ x. MatchesAmong Before known rules f x × P x) xs m first.each has_m).1
        (All-contains (λ x. MatchesAmong Before known rules f x × Q x) ys n later.each has_n).1);
  }

  -- by another property that the same matches have
  pub same_where : (P Q : Match → Type 0) (xs : List Match) → AreMatchesAmong Before known rules f P xs
      → ((m : Match) → MatchesAmong Before known rules f m → Q m → P m) → ((m : Match) → P m → Q m) → AreMatchesAmong Before known rules f Q xs
  same_where P Q xs found back on = record {
    each = λ k d lt. let h = found.each k d lt in (h.0, on (get_or xs k d) h.1);
    all = λ m is q. found.all m is (back m is q);
    in_order = found.in_order;
  }

  -- the matches of one part, and those of the next that come before one of it, are all of both parts that do
  pub joined_before : (P Q R : Match → Type 0) (chosen : Match) (xs ys : List Match) → Q chosen
      → AreMatchesAmong Before known rules f P xs → AreMatchesAmong Before known rules f (λ m. Q m × ComesBefore m chosen) ys
      → ((m n : Match) → P m → Q n → ComesBefore m n)
      → ((m : Match) → R m → ComesBefore m chosen → P m ⊎ Q m) → ((m : Match) → P m → R m) → ((m : Match) → Q m → R m)
      → AreMatchesAmong Before known rules f (λ m. R m × ComesBefore m chosen) (xs ++ ys)
  joined_before P Q R chosen xs ys here first later before split from_p from_q =
      joined P (λ m. Q m × ComesBefore m chosen) (λ m. R m × ComesBefore m chosen) xs ys first later
      (λ m n p q. before m n p q.0)
      (λ m is r. elim (split m r.0 r.1) [ inl p ↦ inl p | inr q ↦ inr (q, r.1) ])
      (λ m p. (from_p m p, before m chosen p here))
      (λ m q. (from_q m q.0, q.1))

  -- those that come before a match of a list are those in front of it
  module _ (P : Match → Type 0) (ms : List Match) (i : ℕ) (chosen : Match) (at : slice_get ms i ≡ Some chosen) (found : AreMatchesAmong Before known rules f P ms) where
    size : length (take i ms) ≡ i
    size = (let within : i < length ms = slice_get_within ms i chosen at in length-take-le i ms (omega arith))

    earlier : (k : ℕ) (d : Match) → k < i → ComesBefore (get_or ms k d) chosen
    earlier k d early = subst (ComesBefore (get_or ms k d)) (get_or_from_slice_get ms i chosen d at) (found.in_order k i d early (slice_get_within ms i chosen at))

    not_later : (j : ℕ) (m : Match) → i ≤ j → j < length ms → get_or ms j m ≡ m → ¬ ComesBefore m chosen
    not_later j m late within is before = elim (cases_eq i j) [
      | inl same ↦
          let equal : chosen ≡ m = sym (get_or_from_slice_get ms i chosen m at) ∙ ap (λ (n : ℕ). get_or ms n m) same ∙ is in
          let twice : ComesBefore m m = subst (ComesBefore m) equal before in
          not_both m m twice twice
      | inr other ↦
          let past : i < j = omega (arith, late, other) in
          let after : ComesBefore (get_or ms i m) (get_or ms j m) = found.in_order i j m past within in
          not_both m chosen before (subst (ComesBefore chosen) is (subst (λ (n : Match). ComesBefore n (get_or ms j m)) (get_or_from_slice_get ms i chosen m at) after))
    ]

    pub before_chosen : AreMatchesAmong Before known rules f (λ m. P m × ComesBefore m chosen) (take i ms)
    before_chosen = record {
      each = λ k d lt.
          let early : k < i = omega (arith, lt, size) in
          let within : i < length ms = slice_get_within ms i chosen at in
          let h = found.each k d (omega (arith, early, within)) in
          subst (λ (m : Match). MatchesAmong Before known rules f m × (P m × ComesBefore m chosen)) (sym (get_or-take i ms k d early)) (h.0, (h.1, earlier k d early));
      all = λ m is p.
          let (j, within, at_j) = found.all m is p.0 in
          elim (cases_lt j i) [
            | inl early ↦ Contains-take ms i j m early (slice_get-get_or ms j m within ∙ ap Some at_j)
            | inr late ↦ absurd (not_later j m late within at_j p.1)
          ];
      in_order = λ j k d less within.
          let early : k < i = omega (arith, within, size) in
          let whole : i < length ms = slice_get_within ms i chosen at in
          subst (λ (m : Match). ComesBefore m (get_or (take i ms) k d)) (sym (get_or-take i ms j d (omega (arith, less, early))))
          (subst (ComesBefore (get_or ms j d)) (sym (get_or-take i ms k d early)) (found.in_order j k d less (omega (arith, early, whole))));
    }

-- all matches with a property, where every match has it
pub everywhere : {across : Bool} (rules : List Rule) (f : Function) (P : Match → Type 0) (xs : List Match) → AreMatchesWhere across rules f P xs → ((m : Match) → IsMatchAmong across rules f m → P m) → AreMatches across rules f xs
everywhere rules f P xs found all = record {
  each = λ k d lt. (found.each k d lt).0;
  all = λ m is. found.all m is (all m is);
  in_order = found.in_order;
}
