-- How use lists change, operand by operand.
use Rattle.readers.proofs.Common.{◌≡◌, ◌⊎◌, ◌↔◌, inl, inr, ℕ, ◌+◌, ◌<◌, ◌≤◌, List, [], ◌∷◌, ◌++◌, length, get_or, set, take, drop, refl, sym, ap, subst, ◌∙◌, arith, Contains, filter_map, append-nil, get_or_default, drop-set-lt, drop_more, length-set, take_more, take_more_set, Contains-append_left, Contains-push, Contains-push_cases, filter_map-append, Operand, Register, register_of, AreListed, HasList, HaveLists, IsListed, IsListedAmong, listed_for, Place, Readers}
use Rattle.ir_core.specs.declared.operand.Operand.TheVariants as operands
use Rattle.readers.proofs.Naming.{is_same_register}
use Rattle.readers.proofs.Counting.{next_contained}

-- ---- one place more

pub listed_again : (xs : List Place) (x : Place) → Contains xs x → IsListedAmong x xs xs
listed_again xs x there = λ p. (
  λ h. inl h,
  λ h. elim h [ inl old ↦ old | inr same ↦ subst (λ (q : Place). Contains xs q) (sym same) there ],
)

pub listed_push : (xs : List Place) (x : Place) → IsListedAmong x xs (xs ++ x ∷ [])
listed_push xs x = λ p. (
  λ h. elim (Contains-push_cases xs x p h) [ inl old ↦ inl old | inr same ↦ inr (sym same) ],
  λ h. elim h [
    | inl old ↦ Contains-append_left xs (x ∷ []) p old
    | inr same ↦ subst (λ (q : Place). Contains (xs ++ x ∷ []) q) (sym same) (Contains-push xs x)
  ],
)

-- ---- operand by operand

module _ {A : Type 0} (xs : List A) (i : ℕ) (x d : A) (within : i < length xs) (here : x ≡ get_or xs i d) where
  taken : take (i + 1) xs ≡ take i xs ++ x ∷ []
  taken = take_more xs i d within ∙ ap (λ (y : A). take i xs ++ y ∷ []) (sym here)

  pub contained_more : (y : A) → Contains (take (i + 1) xs) y ↔ (Contains (take i xs) y ⊎ (x ≡ y))
  contained_more y = (
    λ h. Contains-push_cases (take i xs) x y (subst (λ (l : List A). Contains l y) taken h),
    λ h. subst (λ (l : List A). Contains l y) (sym taken) (elim h [
      | inl old ↦ Contains-append_left (take i xs) (x ∷ []) y old
      | inr same ↦ subst (λ (z : A). Contains (take i xs ++ x ∷ []) z) same (Contains-push (take i xs) x)
    ]),
  )

nothing_contained : {A : Type 0} (x : A) → Contains {X = A} [] x → ⊥
nothing_contained x (k, within, is) = absurd (omega arith)

pub listed_none : (place : Place) (readers : Readers) → AreListed place [] readers readers
listed_none place readers = record {
  there = λ r h. h;
  listed = λ r p. (λ h. inl h, λ h. elim h [ inl old ↦ old | inr (there, same) ↦ absurd (nothing_contained (operands.Register r) there) ]);
}

module _ (place : Place) (xs : List Operand) (i : ℕ) (a : Operand) (old mid : Readers) (within : i < length xs) (here : a ≡ get_or xs i operands.Poison) (before : AreListed place (take i xs) old mid) where
  -- the next operand is a register, and the place is listed for it
  module _ (register : Register) (new : Readers) (is : a ≡ operands.Register register) (one : IsListed register place mid new) where
    still : (r : Register) (p : Place) → Contains (listed_for mid r) p → Contains (listed_for new r) p
    still r p h = elim (is_same_register r register) [
      | inl same ↦ subst (λ (s : Register). Contains (listed_for new s) p) (sym same) ((one.is p).1 (inl (subst (λ (s : Register). Contains (listed_for mid s) p) same h)))
      | inr apart ↦ subst (λ (l : List Place). Contains l p) (sym (one.others r apart)) h
    ]

    came : (r : Register) (p : Place) → Contains (listed_for new r) p → Contains (listed_for mid r) p ⊎ ((r ≡ register) × (p ≡ place))
    came r p h = elim (is_same_register r register) [
      | inl same ↦ elim ((one.is p).0 (subst (λ (s : Register). Contains (listed_for new s) p) same h)) [
        | inl older ↦ inl (subst (λ (s : Register). Contains (listed_for mid s) p) (sym same) older)
        | inr this ↦ inr (same, this)
      ]
      | inr apart ↦ inl (subst (λ (l : List Place). Contains l p) (one.others r apart) h)
    ]

    pub listed_more : AreListed place (take (i + 1) xs) old new
    listed_more = record {
      there = λ r h. one.there r (before.there r h);
      listed = λ r p. (
        λ h. elim (came r p h) [
          | inl older ↦ elim ((before.listed r p).0 older) [
            | inl oldest ↦ inl oldest
            | inr (there, this) ↦ inr ((contained_more xs i a operands.Poison within here (operands.Register r)).1 (inl there), this)
          ]
          | inr (same, this) ↦ inr ((contained_more xs i a operands.Poison within here (operands.Register r)).1 (inr cc), this)
        ],
        λ h. elim h [
          | inl oldest ↦ still r p ((before.listed r p).1 (inl oldest))
          | inr (there, this) ↦ elim ((contained_more xs i a operands.Poison within here (operands.Register r)).0 there) [
            | inl earlier ↦ still r p ((before.listed r p).1 (inr (earlier, this)))
            | inr now ↦
                let same : register ≡ r = cc in
                subst (λ (s : Register). Contains (listed_for new s) p) same ((one.is p).1 (inr this))
          ]
        ],
      );
    }

  -- the next operand is no register
  pub listed_past : ((r : Register) → a ≡ operands.Register r → ⊥) → AreListed place (take (i + 1) xs) old mid
  listed_past other = record {
    there = before.there;
    listed = λ r p. (
      λ h. elim ((before.listed r p).0 h) [
        | inl oldest ↦ inl oldest
        | inr (there, this) ↦ inr ((contained_more xs i a operands.Poison within here (operands.Register r)).1 (inl there), this)
      ],
      λ h. elim h [
        | inl oldest ↦ (before.listed r p).1 (inl oldest)
        | inr (there, this) ↦ elim ((contained_more xs i a operands.Poison within here (operands.Register r)).0 there) [
          | inl earlier ↦ (before.listed r p).1 (inr (earlier, this))
          | inr now ↦ absurd (other r now)
        ]
      ],
    );
  }

  -- a register among the operands has a list
  pub next_list : HaveLists old xs → (register : Register) → a ≡ operands.Register register → HasList mid register
  next_list have register is = before.there register (have register (subst (λ (x : Operand). Contains xs x) is (next_contained xs i a within here)))

-- ---- registers behind others

registers_taken : (xs : List Operand) (i : ℕ) (a : Operand) → i < length xs → a ≡ get_or xs i operands.Poison → filter_map register_of (take (i + 1) xs) ≡ filter_map register_of (take i xs) ++ filter_map register_of (a ∷ [])
registers_taken xs i a within here =
    ap (filter_map register_of) (take_more xs i operands.Poison within ∙ ap (λ (x : Operand). take i xs ++ x ∷ []) (sym here))
    ∙ filter_map-append register_of (take i xs) (a ∷ [])

pub register_taken : (xs : List Operand) (i : ℕ) (a : Operand) (r : Register) → i < length xs → a ≡ get_or xs i operands.Poison → a ≡ operands.Register r → filter_map register_of (take (i + 1) xs) ≡ filter_map register_of (take i xs) ++ r ∷ []
register_taken xs i a r within here is = registers_taken xs i a within here ∙ ap (λ (x : Operand). filter_map register_of (take i xs) ++ filter_map register_of (x ∷ [])) is

no_register : (a : Operand) → ((r : Register) → a ≡ operands.Register r → ⊥) → filter_map register_of (a ∷ []) ≡ []
no_register (operands.Register r) other = absurd (other r refl)
no_register (operands.Number n) other = refl
no_register operands.Undef other = refl
no_register operands.Poison other = refl

pub other_taken : (xs : List Operand) (i : ℕ) (a : Operand) → i < length xs → a ≡ get_or xs i operands.Poison → ((r : Register) → a ≡ operands.Register r → ⊥) → filter_map register_of (take (i + 1) xs) ≡ filter_map register_of (take i xs)
other_taken xs i a within here other =
    registers_taken xs i a within here ∙ ap (λ (l : List Register). filter_map register_of (take i xs) ++ l) (no_register a other)
    ∙ append-nil (filter_map register_of (take i xs))

-- ---- of a list those that are kept, which go to its front

pub record Kept {A : Type 0} (P : A → Type 0) (all : List A) (i kept : ℕ) (items : List A) : Type 0 where
  pub few : kept ≤ i
  pub size : length items ≡ length all
  pub rest : drop i items ≡ drop i all
  pub chosen : (x : A) → Contains (take kept items) x ↔ (Contains (take i all) x × P x)

module _ {A : Type 0} (P : A → Type 0) (all : List A) (i kept : ℕ) (items : List A) (x : A) (so_far : Kept P all i kept items) (within : i < length items) (here : x ≡ get_or items i x) where
  next_and_rest : get_or items i x ∷ drop (i + 1) items ≡ get_or all i x ∷ drop (i + 1) all
  next_and_rest =
      let size = so_far.size in
      sym (drop_more items i x within) ∙ so_far.rest ∙ drop_more all i x (omega arith)

  pub next_is : x ≡ get_or all i x
  next_is = let e = next_and_rest in let heads : get_or items i x ≡ get_or all i x = cc in here ∙ heads

  tails : drop (i + 1) items ≡ drop (i + 1) all
  tails = let e = next_and_rest in cc

  in_all : i < length all
  in_all = let size = so_far.size in omega arith

  pub kept_more : P x → Kept P all (i + 1) (kept + 1) (set items kept x)
  kept_more holds =
      let few = so_far.few in
      let size = so_far.size in
      let put : take (kept + 1) (set items kept x) ≡ take kept items ++ x ∷ [] = take_more_set items kept x (omega arith) in
      record {
        few = omega arith;
        size = length-set items kept x ∙ so_far.size;
        rest = drop-set-lt (i + 1) items kept x (omega arith) ∙ tails;
        chosen = λ y. (
          λ h. elim (Contains-push_cases (take kept items) x y (subst (λ (l : List A). Contains l y) put h)) [
            | inl older ↦ let (there, p) = (so_far.chosen y).0 older in ((contained_more all i x x in_all next_is y).1 (inl there), p)
            | inr same ↦ ((contained_more all i x x in_all next_is y).1 (inr same), subst P same holds)
          ],
          λ (there, p). subst (λ (l : List A). Contains l y) (sym put) (elim ((contained_more all i x x in_all next_is y).0 there) [
            | inl older ↦ Contains-append_left (take kept items) (x ∷ []) y ((so_far.chosen y).1 (older, p))
            | inr same ↦ subst (λ (z : A). Contains (take kept items ++ x ∷ []) z) same (Contains-push (take kept items) x)
          ]),
        );
      }

  pub kept_past : ¬ P x → Kept P all (i + 1) kept items
  kept_past other =
      let few = so_far.few in
      record {
        few = omega arith;
        size = so_far.size;
        rest = tails;
        chosen = λ y. (
          λ h. let (there, p) = (so_far.chosen y).0 h in ((contained_more all i x x in_all next_is y).1 (inl there), p),
          λ (there, p). elim ((contained_more all i x x in_all next_is y).0 there) [
            | inl older ↦ (so_far.chosen y).1 (older, p)
            | inr same ↦ absurd (other (subst P (sym same) p))
          ],
        );
      }

-- ---- what is found in a list

pub found_at : {A : Type 0} (xs : List A) (k : ℕ) (x d : A) → k < length xs → get_or xs k d ≡ x → Contains xs x
found_at xs k x d within is = (k, within, get_or_default xs k x d within ∙ is)

pub not_found : {A : Type 0} (xs : List A) (i : ℕ) (x d : A) → length xs ≤ i → ((k : ℕ) → k < i → get_or xs k d ≡ x → ⊥) → Contains xs x → ⊥
not_found xs i x d past none (k, within, is) = none k (omega arith) (get_or_default xs k d x within ∙ is)
