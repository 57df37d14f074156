-- Whether two values are numbers of which a predicate is true, shown from the literals of a comparison.
use Rattle.blast_term.proofs.Common.{◌≡◌, ℕ, Bool, true, false, not, ◌&&◌, if◌then◌else◌, List, [], ◌∷◌, length, get_or, refl, sym, ap, ◌∙◌, arith, comparison, holds, bits, HasWidth, Pred, Poison, Undefined, Gives, number, number_of, compares, number_or_zero, value_given, Held, held_value, greatest}
use Rattle.blast_term.proofs.Functions.{value_or_poison}

and_false : (b : Bool) → (b && false) ≡ false
and_false true = refl
and_false false = refl

and_true : (b : Bool) → (b && true) ≡ b
and_true true = refl
and_true false = refl

digit-is : (d h : Bool) → number (d ∷ []) ≡ (if h then 1 else 0) → d ≡ h
digit-is true true e = refl
digit-is true false e = absurd (omega arith)
digit-is false true e = absurd (omega arith)
digit-is false false e = refl

pub compares-value : (pred : Pred) (left right undefined poison digit : Bool) (M K a b : ℕ)
    → (if undefined then Undefined else Gives (value_or_poison poison 1 (number (digit ∷ [])))) ≡ Gives (comparison pred false M (value_or_poison left M a) (value_or_poison right K b))
    → (digit && not poison) ≡ compares pred (value_or_poison left M a) (value_or_poison right K b)
unfolding comparison
compares-value pred left right true poison digit M K a b is = cc
compares-value pred true right false true digit M K a b is = and_false digit
compares-value pred true right false false digit M K a b is = cc
compares-value pred false true false true digit M K a b is = and_false digit
compares-value pred false true false false digit M K a b is = cc
compares-value pred false false false true digit M K a b is = cc
compares-value pred false false false false digit M K a b is = and_true digit ∙ digit-is digit (holds pred M a b) (ap (λ e. number_or_zero (value_given e)) is)

-- a word with one literal
pub one-word : {L : Type 0} (word : List L) (x : L) → length word ≡ 1 → x ≡ get_or word 0 x → word ≡ x ∷ []
one-word [] x one is = absurd (omega arith)
one-word (y ∷ []) x one is = ap (λ z. z ∷ []) (sym is)
one-word (y ∷ z ∷ rest) x one is = absurd (omega arith)

-- the value of an operand has the width of its literals
pub held_value-width : {L : Type 0} (value : L → Bool) (h : Held L) → HasWidth (held_value value h) (length h.bits)
held_value-width value h = elim (value h.poison) as (λ b. HasWidth (if b then Poison else bits (length h.bits) (number_of value h.bits)) (length h.bits)) [ true ↦ tt | false ↦ refl ]

-- the greatest of two equal widths
pub two-widths : (M K : ℕ) → K ≡ M → greatest (M ∷ K ∷ []) ≡ M
two-widths M K is = omega arith
