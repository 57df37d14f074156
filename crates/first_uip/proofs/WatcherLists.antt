-- The watch lists after one of them changed.
use Rattle.first_uip.proofs.Common.{◌≡◌, ℕ, ◌<◌, ◌⊎◌, false, List, [], length, length-set, set, get_or, Contains, sym, ap, ◌∙◌, arith, inl, inr, subst, cases_Bool, cases_eq, true≢false, get_or-set_same, get_or-set_other, Lit, code_of, is_same, is_same-self, is_same-true, same_code, Watcher, Watches, KeepsOnly}

-- the watch lists by the codes of the literals, of which that of one literal changed
module _ (old new : List (List Watcher)) (l : Lit) (changed : List Watcher) (within : code_of l < length old) (is : new ≡ set old (code_of l) changed) where
  list_here : get_or new (code_of l) [] ≡ changed
  list_here = ap (λ ls. get_or ls (code_of l) []) is ∙ get_or-set_same old (code_of l) changed [] within

  list_elsewhere : (m : Lit) → is_same m l ≡ false → get_or new (code_of m) [] ≡ get_or old (code_of m) []
  list_elsewhere m differ =
      ap (λ ls. get_or ls (code_of m) []) is
      ∙ get_or-set_other old (code_of l) (code_of m) changed []
      (λ same. true≢false (sym (ap (λ x. is_same x l) (same_code m l same) ∙ is_same-self l) ∙ differ))

  -- what is true of each unchanged list, and of the one that changed, is true of each
  pub each_list : (P : List Watcher → List Watcher → Type 0) → ((xs : List Watcher) → P xs xs) → P (get_or old (code_of l) []) changed → (m : Lit) → P (get_or old (code_of m) []) (get_or new (code_of m) [])
  each_list P same here m =
      elim (cases_Bool (is_same m l)) [
        | inl one ↦
            subst (λ k. P (get_or old (code_of k) []) (get_or new (code_of k) [])) (sym (is_same-true m l one))
            (subst (P (get_or old (code_of l) [])) (sym list_here) here)
        | inr differ ↦ subst (P (get_or old (code_of m) [])) (sym (list_elsewhere m differ)) (same (get_or old (code_of m) []))
      ]

-- the new list has only watchers of the old one and new ones
abbrev pub Keeps : (Watcher → Type 0) → List Watcher → List Watcher → Type 0
Keeps IsNew old new = (w : Watcher) → Contains new w → Contains old w ⊎ IsNew w

module _ (IsNew : Watcher → Type 0) where
  pub Keeps-self : (xs : List Watcher) → Keeps IsNew xs xs
  Keeps-self xs w h = inl h

  pub Keeps-set : (xs : List Watcher) (i : ℕ) (x : Watcher) → i < length xs → IsNew x → Keeps IsNew xs (set xs i x)
  Keeps-set xs i x within new w (j, below, at) =
      elim (cases_eq j i) [
        | inl same ↦
            inr (subst IsNew (sym (get_or-set_same xs i x w within) ∙ sym (ap (λ k. get_or (set xs i x) k w) same) ∙ at) new)
        | inr differ ↦ inl (j, omega (arith, below, length-set xs i x), sym (get_or-set_other xs i j x w differ) ∙ at)
      ]

  -- two changes, one after the other
  pub KeepsOnly-two : (IsFirst IsSecond : Watcher → Type 0) (old mid new : Watches) → ((w : Watcher) → IsFirst w → IsNew w) → ((w : Watcher) → IsSecond w → IsNew w) → KeepsOnly old mid IsFirst → KeepsOnly mid new IsSecond → KeepsOnly old new IsNew
  KeepsOnly-two IsFirst IsSecond old mid new first second before after l w h =
      elim (after l w h) [
        | inl there ↦ elim (before l w there) [ inl stood ↦ inl stood | inr is ↦ inr (first w is) ]
        | inr is ↦ inr (second w is)
      ]
