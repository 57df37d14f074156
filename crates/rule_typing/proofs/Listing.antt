-- A listing, in lexicographic order, of all lists of one length over small numbers with some decidable property.
use Rattle.rule_typing.proofs.Common.{◌≡◌, ◌↔◌, ◌⊎◌, inl, inr, ℕ, zero, suc, ◌+◌, ◌<◌, List, [], ◌∷◌, ◌++◌, length, map, get_or, Some, refl, sym, subst, ap, arith, length-append, slice_get, slice_index, Contains, AllPairs, cases_lt, Contains-append_left, Contains-append_right, Contains-append_cases, slice_get_within, slice_get-get_or, get_or_from_slice_get, ComesBefore}
use Rattle.rule_typing.proofs.Images.{Contains-map, from_map, get_from_map, get-append_cases}

-- each list comes before all later ones
abbrev pub InOrder : List (List ℕ) → Type 0
InOrder xs = (j k : ℕ) (a b : List ℕ) → j < k → slice_get xs j ≡ Some a → slice_get xs k ≡ Some b → ComesBefore a b

-- all lists of which P holds, in order
pub record Listing (P : List ℕ → Type 0) : Type 0 where
  pub all : List (List ℕ)
  pub which : (t : List ℕ) → Contains all t ↔ P t
  pub in_order : InOrder all

pub pairs_of : (xs : List (List ℕ)) → InOrder xs → AllPairs ComesBefore xs
pairs_of xs order j k d less within = order j k (get_or xs j d) (get_or xs k d) less (slice_get-get_or xs j d (omega arith)) (slice_get-get_or xs k d within)

pub order_of : (xs : List (List ℕ)) → AllPairs ComesBefore xs → InOrder xs
order_of xs pairs j k a b less at at' =
    subst (λ x. ComesBefore x b) (get_or_from_slice_get xs j a a at) (subst (ComesBefore (get_or xs j a)) (get_or_from_slice_get xs k b a at') (pairs j k a less (slice_get_within xs k b at')))

among_at : (xs : List (List ℕ)) (k : ℕ) (x : List ℕ) → slice_get xs k ≡ Some x → Contains xs x
among_at xs k x at = (k, slice_get_within xs k x at, get_or_from_slice_get xs k x x at)

none_at : {X : Type 0} (k : ℕ) (x : X) → slice_get [] k ≡ Some x → ⊥
none_at zero x at = cc
none_at (suc k) x at = cc

pub same_lists : (P Q : List ℕ → Type 0) → ((t : List ℕ) → P t ↔ Q t) → Listing P → Listing Q
same_lists P Q same lists = record { all = lists.all; which = λ t. (λ among. (same t).0 ((lists.which t).0 among), λ q. (lists.which t).1 ((same t).1 q)); in_order = lists.in_order }

pub joined : (P Q : List ℕ → Type 0) → Listing P → Listing Q → ((a b : List ℕ) → P a → Q b → ComesBefore a b) → Listing (λ t. P t ⊎ Q t)
joined P Q first second apart = record {
  all = first.all ++ second.all;
  which = λ t. (
    λ among. elim (Contains-append_cases first.all second.all t among) [ inl here ↦ inl ((first.which t).0 here) | inr there ↦ inr ((second.which t).0 there) ],
    λ one. elim one [ inl p ↦ Contains-append_left first.all second.all t ((first.which t).1 p) | inr q ↦ Contains-append_right first.all second.all t ((second.which t).1 q) ],
  );
  in_order = λ j k a b less at at'. elim (get-append_cases first.all second.all j a at) [
    | inl left ↦ elim (get-append_cases first.all second.all k b at') [
      | inl left' ↦ first.in_order j k a b less left left'
      | inr (n, place, right') ↦ apart a b ((first.which a).0 (among_at first.all j a left)) ((second.which b).0 (among_at second.all n b right'))
    ]
    | inr (m, place, right) ↦ elim (get-append_cases first.all second.all k b at') [
      | inl left' ↦ let h = slice_get_within first.all k b left' in absurd (omega arith)
      | inr (n, place', right') ↦ second.in_order m n a b (omega arith) right right'
    ]
  ];
}

pub count_joined : (P Q : List ℕ → Type 0) (first : Listing P) (second : Listing Q) (apart : (a b : List ℕ) → P a → Q b → ComesBefore a b) → length (joined P Q first second apart).all ≡ length first.all + length second.all
unfolding joined
count_joined P Q first second apart = length-append first.all second.all

none_of : (P : List ℕ → Type 0) → ((t : List ℕ) → ¬ P t) → Listing P
none_of P none = record { all = []; which = λ t. (λ (k, within, is). absurd (omega arith), λ p. absurd (none t p)); in_order = λ j k a b less at at'. absurd (none_at j a at) }

only_empty : (P : List ℕ → Type 0) → P [] → ((t : List ℕ) → P t → t ≡ []) → Listing P
only_empty P holds empty = record {
  all = [] ∷ [];
  which = λ t. (λ (k, within, is). let first : k ≡ 0 = omega arith in subst P (subst (λ j. get_or ([] ∷ []) j t ≡ t) first is) holds, λ p. subst (Contains ([] ∷ [])) (sym (empty t p)) (0, omega arith, refl));
  in_order = λ j k a b less at at'. let h = slice_get_within ([] ∷ []) k b at' in absurd (omega arith);
}

-- the same with one number in front of each list
behind_number : (x : ℕ) (P : List ℕ → Type 0) → Listing P → Listing (λ t. (u : List ℕ) × (t ≡ x ∷ u) × P u)
behind_number x P lists = record {
  all = map (λ u. x ∷ u) lists.all;
  which = λ t. (
    λ among. let (u, there, is) = from_map (λ (v : List ℕ). x ∷ v) lists.all t among in (u, is, (lists.which u).0 there),
    λ (u, is, p). subst (Contains (map (λ v. x ∷ v) lists.all)) (sym is) (Contains-map (λ (v : List ℕ). x ∷ v) lists.all u ((lists.which u).1 p)),
  );
  in_order = λ j k a b less at at'.
      let (u, at_u, is) = get_from_map (λ (v : List ℕ). x ∷ v) lists.all j a at in
      let (v, at_v, is') = get_from_map (λ (w : List ℕ). x ∷ w) lists.all k b at' in
      subst (λ c. ComesBefore c b) is (subst (ComesBefore (x ∷ u)) is' (inr (refl, lists.in_order j k u v less at_u at_v)));
}

-- the lists with the least first number, then those with the next one, and so on
module _ (P : List ℕ → Type 0) (n : ℕ) (sized : (t : List ℕ) → P t → length t ≡ suc n) (each : (x : ℕ) → Listing (λ u. P (x ∷ u))) where
  one_more : (m : ℕ) (t : List ℕ) → P t → slice_index t 0 < m + 1 → (P t × (slice_index t 0 < m)) ⊎ ((u : List ℕ) × (t ≡ m ∷ u) × P (m ∷ u))
  one_more m [] p less = let h = sized [] p in absurd (omega arith)
  one_more m (x ∷ u) p less = elim (cases_lt x m) [ inl below ↦ inl (p, below) | inr most ↦ let same : x ≡ m = omega arith in inr (u, ap (λ y. y ∷ u) same, subst (λ y. P (y ∷ u)) same p) ]

  apart : (m : ℕ) (a b : List ℕ) → P a × (slice_index a 0 < m) → (u : List ℕ) × (b ≡ m ∷ u) × P (m ∷ u) → ComesBefore a b
  apart m [] b (p, less) later = let h = sized [] p in absurd (omega arith)
  apart m (x ∷ a) b (p, less) (u, is, q) = rw is (inl less)

  pub upto : (m : ℕ) → Listing (λ t. P t × (slice_index t 0 < m))
  upto zero = none_of (λ t. P t × (slice_index t 0 < zero)) (λ t (p, less). omega arith)
  upto (suc m) =
      same_lists (λ t. (P t × (slice_index t 0 < m)) ⊎ ((u : List ℕ) × (t ≡ m ∷ u) × P (m ∷ u))) (λ t. P t × (slice_index t 0 < suc m))
      (λ t. (
        λ one. elim one [ inl (p, less) ↦ (p, omega arith) | inr (u, is, p) ↦ (subst P (sym is) p, let first : slice_index t 0 ≡ m = ap (λ l. slice_index l 0) is in omega arith) ],
        λ (p, less). one_more m t p (omega arith),
      ))
      (joined (λ t. P t × (slice_index t 0 < m)) (λ t. (u : List ℕ) × (t ≡ m ∷ u) × P (m ∷ u)) (upto m) (behind_number m (λ u. P (m ∷ u)) (each m)) (apart m))

pub listed : (n bound : ℕ) (P : List ℕ → Type 0) → ((t : List ℕ) → Dec (P t)) → ((t : List ℕ) → P t → (length t ≡ n) × ((c : ℕ) → c < n → slice_index t c < bound)) → Listing P
listed zero bound P dec sized = elim (dec []) [
  | yes holds ↦ only_empty P holds (λ t p. empty t (sized t p).0)
  | no fails ↦ none_of P (λ t p. fails (subst P (empty t (sized t p).0) p))
]
  where
    empty : (t : List ℕ) → length t ≡ 0 → t ≡ []
    empty [] none = refl
    empty (x ∷ t) none = absurd (omega arith)
listed (suc n) bound P dec sized =
    same_lists (λ t. P t × (slice_index t 0 < bound)) P (λ t. (λ (p, less). p, λ p. (p, (sized t p).1 0 (omega arith))))
    (upto P n (λ t p. (sized t p).0)
    (λ x. listed n bound (λ u. P (x ∷ u)) (λ u. dec (x ∷ u)) (λ u p. let h = sized (x ∷ u) p in (omega (arith, h.0), λ c less. h.1 (suc c) (omega arith)))) bound)
