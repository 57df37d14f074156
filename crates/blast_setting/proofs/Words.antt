-- Words of truth values, bit by bit.
use Rattle.blast_setting.proofs.Common.{◌≡◌, ℕ, zero, suc, ◌+◌, ◌*◌, ◌^◌, Bool, false, List, [], ◌∷◌, take, drop, refl, sym, ap, ◌∙◌, add-zero, add-one, arith, get_or, pow-succ', get_or-drop, bit, number}

-- one more bit of the number; past the end of the list it is 0
pub number-take_one : (read : List Bool) (i : ℕ) → number (take (i + 1) read) ≡ number (take i read) + 2 ^ i * bit (get_or read i false)
number-take_one [] zero = refl
number-take_one [] (suc i) = rw (add-one (suc i)) (omega arith)
number-take_one (b ∷ read) zero = omega arith
number-take_one (b ∷ read) (suc i) = rw (add-one (suc i), pow-succ' 2 i) (omega (arith, rw (add-one i) at (number-take_one read i)))

-- the first element behind so many, in a list of which the rests agree
pub get_or-behind : (read rest : List Bool) (m i : ℕ) → drop m read ≡ drop i rest → get_or read m false ≡ get_or rest i false
get_or-behind read rest m i same =
    ap (λ k. get_or read k false) (sym (add-zero m)) ∙ sym (get_or-drop m read 0 false) ∙ ap (λ (w : List Bool). get_or w 0 false) same ∙ get_or-drop i rest 0 false ∙ ap (λ k. get_or rest k false) (add-zero i)
