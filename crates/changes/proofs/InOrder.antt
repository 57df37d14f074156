-- Places of a function that are listed block after block.
use Rattle.changes.proofs.Common.{◌≡◌, ◌↔◌, inl, inr, ℕ, ◌+◌, ◌<◌, ◌≤◌, List, [], ◌∷◌, ◌++◌, length, get_or, take, Option, None, Some, refl, sym, ap, subst, ◌∙◌, arith, slice_get, option_map, unwrap_or, Contains, cases_eq, take_more, Contains-append_left, Contains-push, Contains-push_cases, slice_get_within, HasInst, end_of, Block, Function, end_of-is, Rows, Has, IsAdded, IsPast, ListedTo, Listed, IsIn, AreAscending}
use Rattle.changes.proofs.Ascending.{none_listed, same_listed, one_more}

-- an instruction stands before the end of its block
pub before_end : (f : Function) (b k : ℕ) → HasInst f b k → k < end_of f b
before_end f b k has = let (block, at, within) = has in omega (arith, end_of-is f b block at)

-- and before the end there is an instruction at each place
pub inst_before_end : (f : Function) (b k : ℕ) → k < end_of f b → HasInst f b k
inst_before_end f b k less = by (slice_get f.blocks b) refl less
  where
    by : (o : Option Block) → slice_get f.blocks b ≡ o → k < unwrap_or (option_map (λ (block : Block). length block.insts) o) 0 → HasInst f b k
    by None at lt = absurd (omega arith)
    by (Some block) at lt = (block, at, lt)

-- in a set each place is given itself
pub one_place : (rows : Rows) (b k l m : ℕ) → IsIn rows b k l → IsIn rows b k m → l ≡ m
one_place rows b k l m x y = x.1 ∙ sym y.1

pub in_order : (rows : Rows) (b j k l m : ℕ) → j < k → IsIn rows b j l → IsIn rows b k m → l < m
in_order rows b j k l m less x y = let first = x.1 in let second = y.1 in omega arith

-- a set with one place more of a list
pub set_more : (places : List (ℕ × ℕ)) (i : ℕ) (old new : Rows) → i < length places → ((b k : ℕ) → Has old b k ↔ Contains (take i places) (b, k))
    → IsAdded old new (record { block = (get_or places i (0, 0)).0; number = (get_or places i (0, 0)).1 }) → (b k : ℕ) → Has new b k ↔ Contains (take (i + 1) places) (b, k)
set_more places i old new within was added b k = by (get_or places i (0, 0)) (take_more places i (0, 0) within) added
  where
    by : (x : ℕ × ℕ) → take (i + 1) places ≡ take i places ++ x ∷ [] → IsAdded old new (record { block = x.0; number = x.1 }) → Has new b k ↔ Contains (take (i + 1) places) (b, k)
    by x more added = (
      λ has. subst (λ (l : List (ℕ × ℕ)). Contains l (b, k)) (sym more) (elim ((added b k).0 has) [
        | inl (eb, ek) ↦
            let same : x ≡ (b, k) = ap (λ (c : ℕ). (c, x.1)) eb ∙ ap (λ (d : ℕ). (b, d)) ek in
            subst (λ (z : ℕ × ℕ). Contains (take i places ++ x ∷ []) z) same (Contains-push (take i places) x)
        | inr older ↦ Contains-append_left (take i places) (x ∷ []) (b, k) ((was b k).0 older)
      ]),
      λ there. (added b k).1 (elim (Contains-push_cases (take i places) x (b, k) (subst (λ (l : List (ℕ × ℕ)). Contains l (b, k)) more there)) [
        | inl older ↦ inr ((was b k).1 older)
        | inr same ↦ inl (ap (λ (z : ℕ × ℕ). z.0) same, ap (λ (z : ℕ × ℕ). z.1) same)
      ]),
    )

module _ (f : Function) (R : ℕ → ℕ → ℕ → Type 0) where
  pub none_yet : AreAscending (ListedTo f R 0 0) []
  none_yet = none_listed (ListedTo f R 0 0) (λ b l x. let (k, past, has, r) = x in elim past [ inl less ↦ omega arith | inr both ↦ omega arith ])

  -- each instruction is given one place at most, and a later one a later place
  module _ (one : (b k l m : ℕ) → R b k l → R b k m → l ≡ m) (up : (b j k l m : ℕ) → j < k → R b j l → R b k m → l < m) where
    pub listed_more : (c n l : ℕ) (places new : List (ℕ × ℕ)) → new ≡ places ++ (c, l) ∷ [] → HasInst f c n → R c n l → AreAscending (ListedTo f R c n) places → AreAscending (ListedTo f R c (n + 1)) new
    listed_more c n l places new is there here are = one_more (ListedTo f R c n) (ListedTo f R c (n + 1)) places new c l is are
        (λ b m x. let (k, past, has, r) = x in elim past [
          | inl less ↦ inl less
          | inr (same, less) ↦ inr (same, up c k n m l less (subst (λ (d : ℕ). R d k m) same r) here)
        ])
        (λ b m x. let (k, past, has, r) = x in (k, further b k past, has, r))
        (n, inr (refl, omega arith), there, here)
        (λ b m x. let (k, past, has, r) = x in elim past [
          | inl less ↦ inl (k, inl less, has, r)
          | inr (same, less) ↦ elim (cases_eq k n) [
            | inl e ↦ inr (same, one c n m l (subst (λ (i : ℕ). R c i m) e (subst (λ (d : ℕ). R d k m) same r)) here)
            | inr apart ↦ inl (k, inr (same, omega arith), has, r)
          ]
        ])
      where
        further : (b k : ℕ) → IsPast c n b k → IsPast c (n + 1) b k
        further b k (inl less) = inl less
        further b k (inr (same, less)) = inr (same, omega arith)

  pub listed_none : (c n : ℕ) (places : List (ℕ × ℕ)) → ((l : ℕ) → R c n l → ⊥) → AreAscending (ListedTo f R c n) places → AreAscending (ListedTo f R c (n + 1)) places
  listed_none c n places none are = same_listed (ListedTo f R c n) (ListedTo f R c (n + 1)) places
      (λ b l x. let (k, past, has, r) = x in (k, elim past [ inl less ↦ inl less | inr (same, less) ↦ inr (same, omega arith) ], has, r))
      (λ b l x. let (k, past, has, r) = x in (
        k,
        elim past [
          | inl less ↦ inl less
          | inr (same, less) ↦ elim (cases_eq k n) [
            | inl e ↦ absurd (none l (subst (λ (i : ℕ). R c i l) e (subst (λ (d : ℕ). R d k l) same r)))
            | inr apart ↦ inr (same, omega arith)
          ]
        ],
        has,
        r,
      ))
      are

  pub row_past : (c end : ℕ) (places : List (ℕ × ℕ)) → end ≡ end_of f c → AreAscending (ListedTo f R c end) places → AreAscending (ListedTo f R (c + 1) 0) places
  row_past c end places is are = same_listed (ListedTo f R c end) (ListedTo f R (c + 1) 0) places
      (λ b l x. let (k, past, has, r) = x in (k, elim past [ inl less ↦ inl (omega arith) | inr (same, less) ↦ inl (omega arith) ], has, r))
      (λ b l x. let (k, past, has, r) = x in (
        k,
        elim past [
          | inl less ↦ elim (cases_eq b c) [
            | inl e ↦ inr (e, omega (arith, before_end f c k (subst (λ (d : ℕ). HasInst f d k) e has)))
            | inr apart ↦ inl (omega arith)
          ]
          | inr (same, less) ↦ absurd (omega arith)
        ],
        has,
        r,
      ))
      are

  pub all_past : (c : ℕ) (places : List (ℕ × ℕ)) → length f.blocks ≤ c → AreAscending (ListedTo f R c 0) places → AreAscending (Listed f R) places
  all_past c places past are = same_listed (ListedTo f R c 0) (Listed f R) places
      (λ b l x. let (k, before, has, r) = x in (k, has, r))
      (λ b l x. let (k, has, r) = x in (k, inl (below b k has), has, r))
      are
    where
      below : (b k : ℕ) → HasInst f b k → b < c
      below b k has = let (block, at, within) = has in omega (arith, slice_get_within f.blocks b block at)
