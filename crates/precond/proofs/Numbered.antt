-- The precondition holds exactly where each of the terms' values is a number and the formula holds.
use Rattle.precond.proofs.Common.{◌≡◌, ◌↔◌, ℕ, ◌+◌, ◌<◌, ◌≤◌, below_more, true, false, IsTrue, List, length, Some, refl, sym, subst, ◌∙◌, arith, slice_get, same_Some, slice_get_within, Number, Value, Poison, Bits, HasNumber, HaveNumbers}

-- the values before a place are numbers
abbrev pub FirstHaveNumbers : List Value → ℕ → Type 0
FirstHaveNumbers values i = (n : ℕ) → n < i → (v : Value) → slice_get values n ≡ Some v → HasNumber v

pub none_refuses : (values : List Value) (i : ℕ) (v : Value) → slice_get values i ≡ Some v → v ≡ Poison → IsTrue false ↔ HaveNumbers values
none_refuses values i v at is = (λ h. cc, λ all. let none : HasNumber Poison = subst HasNumber is (all i v at) in absurd none)

pub one_more : (values : List Value) (i : ℕ) (v : Value) (a : Number) → FirstHaveNumbers values i → slice_get values i ≡ Some v → v ≡ Bits a → FirstHaveNumbers values (i + 1)
one_more values i v a first at is =
    below_more _ _ first (λ u there. let e : u ≡ Bits a = same_Some u v (sym there ∙ at) ∙ is in subst HasNumber (sym e) tt)

pub all_numbers : (values : List Value) (i : ℕ) → length values ≤ i → FirstHaveNumbers values i → IsTrue true ↔ HaveNumbers values
all_numbers values i whole first = (λ h n v at. let within : n < length values = slice_get_within values n v at in first n (omega arith) v at, λ h. refl)
