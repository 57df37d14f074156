-- The number of a word that is chosen from two.
use Rattle.circuits.proofs.Common.{◌≡◌, Bool, true, false, List, if◌then◌else◌, sym, ap, ◌∙◌, true≢false, number}

pub chosen : (word xs ys a b : List Bool) (c d : Bool) → word ≡ (if c then xs else ys) → c ≡ d → xs ≡ a → ys ≡ b → number word ≡ (if d then number a else number b)
chosen word xs ys a b true true e p q r = ap number (e ∙ q)
chosen word xs ys a b false false e p q r = ap number (e ∙ r)
chosen word xs ys a b true false e p q r = absurd (true≢false p)
chosen word xs ys a b false true e p q r = absurd (true≢false (sym p))
