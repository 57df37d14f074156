-- The table of the literals that are held, after an entry is pushed or popped.
use Rattle.depth_first.proofs.Common.{◌≡◌, ℕ, ◌+◌, ◌*◌, ◌<◌, Bool, true, false, ◌||◌, if◌then◌else◌, List, [], ◌∷◌, ◌++◌, length, set, get_or, refl, sym, ap, subst, ◌∙◌, arith, inl, inr, cases_eq, get_or-set_same, get_or-set_other, Lit, code_of, is_same, is_held, is_same-self, is_same-true, same_code, Entry, literals, IsHeldTable, IsOpen}
use Rattle.depth_first.proofs.HeldLists.{open_not_held}
use Rattle.depth_first.proofs.TrailTable.{held-push, or-false}

not_true : (b : Bool) → (b ≡ true → ⊥) → b ≡ false
not_true true h = absurd (h refl)
not_true false h = refl

apart_codes : (l m : Lit) → (code_of l ≡ code_of m → ⊥) → is_same l m ≡ false
apart_codes l m apart = not_true (is_same l m) (λ same. apart (ap code_of (is_same-true l m same)))

or_true : (b : Bool) → (b || true) ≡ true
or_true true = refl
or_true false = refl

pub IsHeldTable-push : (held : List Bool) (entries : List Entry) (e : Entry) → IsHeldTable held entries → code_of e.literal < length held → IsHeldTable (set held (code_of e.literal) true) (entries ++ e ∷ [])
IsHeldTable-push held entries e table within l =
    let x = e.literal in
    elim (cases_eq (code_of l) (code_of x)) [
      | inl same ↦
          held-push entries e l
          ∙ ap (λ b. is_held (literals entries) l || b) (subst (λ (m : Lit). is_same l m ≡ true) (same_code l x same) (is_same-self l))
          ∙ or_true (is_held (literals entries) l)
          ∙ sym (ap (λ k. get_or (set held (code_of x) true) k false) same ∙ get_or-set_same held (code_of x) true false within)
      | inr differ ↦
          held-push entries e l
          ∙ ap (λ b. is_held (literals entries) l || b) (apart_codes l x differ)
          ∙ or-false (is_held (literals entries) l)
          ∙ table l
          ∙ sym (get_or-set_other held (code_of x) (code_of l) true false differ)
    ]

pub IsHeldTable-pop : (held : List Bool) (entries : List Entry) (e : Entry) → IsHeldTable held (entries ++ e ∷ []) → code_of e.literal < length held → IsOpen (literals entries) e.literal.variable → IsHeldTable (set held (code_of e.literal) false) entries
IsHeldTable-pop held entries e table within o l =
    let x = e.literal in
    elim (cases_eq (code_of l) (code_of x)) [
      | inl same ↦
          open_not_held (literals entries) l (subst (λ (m : Lit). IsOpen (literals entries) m.variable) (sym (same_code l x same)) o)
          ∙ sym (ap (λ k. get_or (set held (code_of x) false) k false) same ∙ get_or-set_same held (code_of x) false false within)
      | inr differ ↦
          sym (or-false (is_held (literals entries) l))
          ∙ sym (ap (λ b. is_held (literals entries) l || b) (apart_codes l x differ))
          ∙ sym (held-push entries e l)
          ∙ table l
          ∙ sym (get_or-set_other held (code_of x) (code_of l) false false differ)
    ]

-- the code of a literal whose variable has a place in one table has a place in a table twice as long
pub code_within : (l : Lit) (n m : ℕ) → l.variable < n → m ≡ 2 * n → code_of l < m
code_within l n m within twice = below l.negated
  where
    below : (b : Bool) → 2 * l.variable + (if b then 1 else 0) < m
    below true = omega (arith, within, twice)
    below false = omega (arith, within, twice)
