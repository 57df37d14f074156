-- The bytes that quoted texts stand for, from left to right.
use Rattle.scan.proofs.Common.{◌≡◌, ◌≢◌, ℕ, suc, ◌+◌, ◌*◌, ◌<◌, ◌≤◌, true, false, eqb, ◌&&◌, List, [], ◌∷◌, length, drop, get_or, refl, sym, ap, ◌∙◌, ⊎_elim, arith, list_any, Contains, false≢true, eqb-true, drop_more, length-drop, list_any_at, is_digit, begins_with, is_hex, hex_value, unquoted}
use Rattle.std.proofs.lemmas.Bool.{eq-eqb}
use Rattle.scan.proofs.Fronts.{which, or_true}

no_backslash : (b : ℕ) → b ≢ 92 → eqb b 92 ≡ false
no_backslash b h = ⊎_elim (λ (e : eqb b 92 ≡ true). absurd (h (eqb-true b 92 e))) (λ (e : eqb b 92 ≡ false). e) (which (eqb b 92))

unquoted-plain : (a : ℕ) (rest : List ℕ) → a ≢ 92 → unquoted (a ∷ rest) ≡ a ∷ unquoted rest
unfolding unquoted
unquoted-plain a [] h = refl
unquoted-plain a (b ∷ []) h = rw (no_backslash a h) refl
unquoted-plain a (b ∷ c ∷ rest) h = rw (no_backslash a h) refl

unquoted-backslash : (rest : List ℕ) → unquoted (92 ∷ 92 ∷ rest) ≡ 92 ∷ unquoted rest
unfolding unquoted
unquoted-backslash [] = refl
unquoted-backslash (c ∷ rest) = refl

no_hex : (b : ℕ) → is_hex b ≡ true → b ≢ 92
unfolding is_hex is_digit
no_hex b h e = false≢true (ap is_hex (sym e) ∙ h)

unquoted-hex : (b c : ℕ) (rest : List ℕ) → is_hex b ≡ true → is_hex c ≡ true → unquoted (92 ∷ b ∷ c ∷ rest) ≡ (16 * hex_value b + hex_value c) ∷ unquoted rest
unfolding unquoted
unquoted-hex b c rest h k = rw (no_backslash b (no_hex b h), h, k) refl

unquoted-other : (rest : List ℕ) → begins_with (λ b. eqb b 92) rest ≡ false → ((b c : ℕ) (tail : List ℕ) → rest ≡ b ∷ c ∷ tail → (is_hex b && is_hex c) ≡ false) → unquoted (92 ∷ rest) ≡ 92 ∷ unquoted rest
unfolding unquoted
unquoted-other [] h k = refl
unquoted-other (b ∷ []) h k = rw h refl
unquoted-other (b ∷ c ∷ rest) h k = rw h (rw (k b c rest refl) refl)

-- ---- what the text begins with

-- the text stands for the byte and what the rest stands for
abbrev pub Reads : List ℕ → ℕ → List ℕ → Type 0
Reads text byte rest = (unquoted text ≡ byte ∷ unquoted rest) × (length rest < length text)

first_is : (text : List ℕ) → 1 ≤ length text → text ≡ get_or text 0 0 ∷ drop 1 text
first_is text h = drop_more text 0 0 h

pub reads_plain : (text : List ℕ) → 1 ≤ length text → get_or text 0 0 ≢ 92 → Reads text (get_or text 0 0) (drop 1 text)
reads_plain text h k = (ap unquoted (first_is text h) ∙ unquoted-plain (get_or text 0 0) (drop 1 text) k, omega (arith, length-drop 1 text))

pub reads_backslash : (text rest : List ℕ) → 1 ≤ length text → get_or text 0 0 ≡ 92 → drop 1 text ≡ 92 ∷ rest → Reads text 92 rest
reads_backslash text rest h k e = (
  ap unquoted (first_is text h ∙ ap (λ (b : ℕ). b ∷ drop 1 text) k ∙ ap (λ (bytes : List ℕ). 92 ∷ bytes) e) ∙ unquoted-backslash rest,
  omega (arith, length-drop 1 text, ap length e),
)

pub reads_hex : (text rest : List ℕ) (b c byte : ℕ) → 1 ≤ length text → get_or text 0 0 ≡ 92 → is_hex b ≡ true → is_hex c ≡ true → drop 1 text ≡ b ∷ c ∷ rest → byte ≡ 16 * hex_value b + hex_value c → Reads text byte rest
reads_hex text rest b c byte h k hex_b hex_c e is = (
  ap unquoted (first_is text h ∙ ap (λ (a : ℕ). a ∷ drop 1 text) k ∙ ap (λ (bytes : List ℕ). 92 ∷ bytes) e) ∙ unquoted-hex b c rest hex_b hex_c ∙ ap (λ (n : ℕ). n ∷ unquoted rest) (sym is),
  omega (arith, length-drop 1 text, ap length e),
)

pub reads_other : (text : List ℕ) → 1 ≤ length text → get_or text 0 0 ≡ 92 → begins_with (λ b. eqb b 92) (drop 1 text) ≡ false → ((b c : ℕ) (rest : List ℕ) → drop 1 text ≡ b ∷ c ∷ rest → (is_hex b && is_hex c) ≡ false) → Reads text 92 (drop 1 text)
reads_other text h k no_second no_hex = (
  ap unquoted (first_is text h ∙ ap (λ (a : ℕ). a ∷ drop 1 text) k) ∙ unquoted-other (drop 1 text) no_second no_hex,
  omega (arith, length-drop 1 text),
)

-- ---- a byte 0 among others

pub no_more : (rest : List ℕ) → rest ≡ [] → list_any (λ b. eqb b 0) (unquoted rest) ≡ false
unfolding unquoted
no_more rest e = ap (λ (bytes : List ℕ). list_any (λ b. eqb b 0) (unquoted bytes)) e

pub zero_contained : (text : List ℕ) → list_any (λ b. eqb b 0) text ≡ true → Contains text 0
zero_contained [] e = absurd (false≢true e)
zero_contained (b ∷ text) e = ⊎_elim
    (λ (h : eqb b 0 ≡ true). (0, omega arith, eqb-true b 0 h))
    (λ (h : list_any (λ b. eqb b 0) text ≡ true). let m = zero_contained text h in (suc m.0, omega (arith, m.1), m.2))
    (or_true (eqb b 0) (list_any (λ b. eqb b 0) text) e)

pub zero_found : (text : List ℕ) → Contains text 0 → list_any (λ b. eqb b 0) text ≡ true
zero_found text h = list_any_at (λ b. eqb b 0) text h.0 0 h.1 (eq-eqb (get_or text h.0 0) 0 h.2)
