-- Whether a node of a formula is true, shown from the literals of what it reads.
use Rattle.blast_term.proofs.Common.{◌≡◌, ℕ, Bool, false, ◌&&◌, ◌||◌, not, List, map, length, Some, sym, ap, ◌∙◌, refl, slice_get, slice_index_or, option_map, slice_get-map, same_Some, get_or_from_slice_get, Pred, Formula, compares, has_one_bit, is_sign_bit, formula_holds, Held, held_value, widths_of}
use Rattle.rule_core.specs.declared.rule.Formula.TheVariants as formulas
use Rattle.blast_term.proofs.Turns.{value_there}

-- a term that is read has the width that is told of it
pub width_read : {L : Type 0} (terms : List (Held L)) (n N : ℕ) (x : Held L) → slice_get (widths_of terms) n ≡ Some N → slice_get terms n ≡ Some x → length x.bits ≡ N
width_read terms n N x width at =
    same_Some (length x.bits) N (sym (slice_get-map (λ (h : Held _). length h.bits) terms n ∙ ap (option_map (λ (h : Held _). length h.bits)) at) ∙ width)

truth_read : {L : Type 0} (value : L → Bool) (before : List L) (n : ℕ) (x : L) → slice_get before n ≡ Some x → value x ≡ slice_index_or (map value before) n false
truth_read value before n x at = sym (get_or_from_slice_get (map value before) n (value x) false (slice_get-map value before n ∙ ap (option_map value) at))

module _ {L : Type 0} (value : L → Bool) (terms : List (Held L)) (before : List L) (f : Formula) where
  pub compare-holds : (pred : Pred) (a b : ℕ) (x y : Held L) → f ≡ formulas.Compare pred a b → slice_get terms a ≡ Some x → slice_get terms b ≡ Some y → compares pred (held_value value x) (held_value value y) ≡ formula_holds (map (held_value value) terms) (map value before) f
  compare-holds pred a b x y is at_a at_b = rw (is, value_there value terms a x at_a, value_there value terms b y at_b) refl

  pub power-holds : (a : ℕ) (x : Held L) → f ≡ formulas.IsPowerOfTwo a → slice_get terms a ≡ Some x → has_one_bit (held_value value x) ≡ formula_holds (map (held_value value) terms) (map value before) f
  power-holds a x is at = rw (is, value_there value terms a x at) refl

  pub sign-holds : (a : ℕ) (x : Held L) → f ≡ formulas.IsSignBit a → slice_get terms a ≡ Some x → is_sign_bit (held_value value x) ≡ formula_holds (map (held_value value) terms) (map value before) f
  sign-holds a x is at = rw (is, value_there value terms a x at) refl

  pub not-holds : (a : ℕ) (x : L) → f ≡ formulas.Not a → slice_get before a ≡ Some x → not (value x) ≡ formula_holds (map (held_value value) terms) (map value before) f
  not-holds a x is at = rw (is, truth_read value before a x at) refl

  pub and-holds : (a b : ℕ) (x y : L) → f ≡ formulas.And a b → slice_get before a ≡ Some x → slice_get before b ≡ Some y → (value x && value y) ≡ formula_holds (map (held_value value) terms) (map value before) f
  and-holds a b x y is at_a at_b = rw (is, truth_read value before a x at_a, truth_read value before b y at_b) refl

  pub or-holds : (a b : ℕ) (x y : L) → f ≡ formulas.Or a b → slice_get before a ≡ Some x → slice_get before b ≡ Some y → (value x || value y) ≡ formula_holds (map (held_value value) terms) (map value before) f
  or-holds a b x y is at_a at_b = rw (is, truth_read value before a x at_a, truth_read value before b y at_b) refl
