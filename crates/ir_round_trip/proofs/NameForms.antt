-- The bytes of a name that is read are from 1 to 255.
use Rattle.ir_round_trip.proofs.Common.{◌≡◌, ◌⊎◌, inl, inr, ℕ, zero, suc, ◌+◌, ◌-◌, ◌*◌, ◌≤◌, leb, Bool, true, false, ◌&&◌, ◌||◌, cond, eqb, List, [], ◌∷◌, ◌++◌, length, take, refl, sym, ap, subst, ◌∙◌, arith, Contains, AllByRecursion, list_all, eqb-true, false≢true, leb-true, length-append, take-append_seam, are_digits, begins_name, begins_with, is_digit, is_letter, is_name_byte, HoldsZero, hex_value, in_quotes, is_hex, is_quoted, unquoted, and_left, and_right, or_true, name_cases, quoted_is, identifier_of, name_of, IsNameText, IsName}
use Rattle.ir_round_trip.proofs.Every.{every_all, every_left}
use Rattle.ir_round_trip.proofs.TokenForms.{CalledFormed}

-- the numbers are bytes
abbrev pub AreBytes : List ℕ → Type 0
AreBytes text = AllByRecursion (λ b. b ≤ 255) text

-- ---- the text between quotes

-- a hexadecimal digit is at most 15
small_digit : (b : ℕ) → (is_digit b ≡ true) ⊎ (((leb 65 b && leb b 70) ≡ true) ⊎ ((leb 97 b && leb b 102) ≡ true)) → (c d : Bool) → leb b 57 ≡ c → leb b 70 ≡ d → cond c (b - 48) (cond d (b - 55) (b - 87)) ≤ 15
unfolding is_digit
small_digit b h true d below below' = let le : b ≤ 57 = leb-true b 57 below in omega arith
small_digit b (inl h) false d above below' = absurd (false≢true (sym above ∙ and_right (leb 48 b) (leb b 57) h))
small_digit b (inr h) false true above below = let le : b ≤ 70 = leb-true b 70 below in omega arith
small_digit b (inr (inl h)) false false above above' = absurd (false≢true (sym above' ∙ and_right (leb 65 b) (leb b 70) h))
small_digit b (inr (inr h)) false false above above' = let le : b ≤ 102 = leb-true b 102 (and_right (leb 97 b) (leb b 102) h) in omega arith

hex_small : (b : ℕ) → is_hex b ≡ true → hex_value b ≤ 15
unfolding is_hex hex_value
hex_small b hex = small_digit b (elim (or_true (is_digit b || (leb 65 b && leb b 70)) (leb 97 b && leb b 102) hex) [
  | inl front ↦ elim (or_true (is_digit b) (leb 65 b && leb b 70) front) [ inl digit ↦ inl digit | inr capital ↦ inr (inl capital) ]
  | inr small ↦ inr (inr small)
]) (leb b 57) (leb b 70) refl refl

-- bytes between quotes stand for bytes
unquoted_bytes : (text : List ℕ) → AreBytes text → AreBytes (unquoted text)
unfolding unquoted
unquoted_bytes [] bytes = tt
unquoted_bytes (a ∷ []) bytes = bytes
unquoted_bytes (a ∷ b ∷ []) bytes = by (eqb a 92 && eqb b 92)
  where
    by : (c : Bool) → AreBytes (cond c (92 ∷ []) (a ∷ b ∷ []))
    by true = (omega arith, tt)
    by false = bytes
unquoted_bytes (a ∷ b ∷ c ∷ rest) bytes =
    by (eqb a 92 && eqb b 92) (eqb a 92 && is_hex b && is_hex c) refl
    (unquoted_bytes (c ∷ rest) bytes.1.1) (unquoted_bytes rest bytes.1.1.1) (unquoted_bytes (b ∷ c ∷ rest) bytes.1)
  where
    by : (d e : Bool) → (eqb a 92 && is_hex b && is_hex c) ≡ e → AreBytes (unquoted (c ∷ rest)) → AreBytes (unquoted rest) → AreBytes (unquoted (b ∷ c ∷ rest))
        → AreBytes (cond d (92 ∷ unquoted (c ∷ rest)) (cond e ((16 * hex_value b + hex_value c) ∷ unquoted rest) (a ∷ unquoted (b ∷ c ∷ rest))))
    by true e is first second third = (omega arith, first)
    by false true is first second third =
        let high : hex_value b ≤ 15 = hex_small b (and_right (eqb a 92) (is_hex b) (and_left (eqb a 92 && is_hex b) (is_hex c) is)) in
        let low : hex_value c ≤ 15 = hex_small c (and_right (eqb a 92 && is_hex b) (is_hex c) is) in
        (omega arith, second)
    by false false is first second third = (bytes.0, third)

-- bytes of which none is 0
positive : (text : List ℕ) → AreBytes text → ¬ Contains text 0 → AllByRecursion (λ b. (1 ≤ b) × (b ≤ 255)) text
positive [] bytes none = tt
positive (zero ∷ text) bytes none = absurd (none (0, omega arith, refl))
positive (suc b ∷ text) bytes none = ((omega arith, bytes.0), positive text bytes.1 (λ (k, lt, is). none (suc k, omega arith, is)))

-- ---- names

name_byte_some : (b : ℕ) → is_name_byte b ≡ true → 1 ≤ b
unfolding is_name_byte begins_name is_letter is_digit
name_byte_some zero e = absurd (false≢true e)
name_byte_some (suc b) e = omega arith

name_bytes : (text : List ℕ) → list_all is_name_byte text ≡ true → AreBytes text → AllByRecursion (λ b. (1 ≤ b) × (b ≤ 255)) text
name_bytes [] all bytes = tt
name_bytes (b ∷ text) all bytes = ((name_byte_some b (and_left (is_name_byte b) (list_all is_name_byte text) all), bytes.0), name_bytes text (and_right (is_name_byte b) (list_all is_name_byte text) all) bytes.1)

plain_name : (text : List ℕ) → (begins_with begins_name text && list_all is_name_byte text) ≡ true → AreBytes text → AllByRecursion (λ b. (1 ≤ b) × (b ≤ 255)) (name_of text)
unfolding name_of begins_name is_letter
plain_name [] plain bytes = absurd (false≢true plain)
plain_name (b ∷ rest) plain bytes = by (eqb b 34) refl
  where
    by : (quote : Bool) → eqb b 34 ≡ quote → AllByRecursion (λ b. (1 ≤ b) × (b ≤ 255)) (cond quote (unquoted (take (length rest - 1) rest)) (b ∷ rest))
    by true is = absurd (false≢true (ap begins_name (sym (eqb-true b 34 is)) ∙ and_left (begins_name b) (list_all is_name_byte (b ∷ rest)) plain))
    by false is = name_bytes (b ∷ rest) (and_right (begins_name b) (list_all is_name_byte (b ∷ rest)) plain) bytes

-- the name of a quoted text is the text between its quotes, with escapes read
quoted_name : (inner : List ℕ) → name_of (34 ∷ (inner ++ 34 ∷ [])) ≡ unquoted inner
unfolding name_of
quoted_name inner =
    let long : length (inner ++ 34 ∷ []) - 1 ≡ length inner = omega (arith, length-append inner (34 ∷ [])) in
    ap (λ (n : ℕ). unquoted (take n (inner ++ 34 ∷ []))) long ∙ ap unquoted (take-append_seam inner (34 ∷ []))

quoted_bytes : (text : List ℕ) → is_quoted text ≡ true → ¬ HoldsZero text → AreBytes text → AllByRecursion (λ b. (1 ≤ b) × (b ≤ 255)) (name_of text)
quoted_bytes text quoted none bytes =
    let is = (quoted_is text quoted).0 in
    let inner : AreBytes (in_quotes text) = every_left (λ b. b ≤ 255) (in_quotes text) (34 ∷ []) (subst AreBytes is bytes).1 in
    subst (AllByRecursion (λ b. (1 ≤ b) × (b ≤ 255))) (sym (ap name_of is ∙ quoted_name (in_quotes text))) (positive (unquoted (in_quotes text)) (unquoted_bytes (in_quotes text) inner) none)

pub called_formed : (written : List ℕ) → IsNameText written → AreBytes written → CalledFormed (identifier_of written)
unfolding identifier_of
called_formed written form bytes = by (are_digits written) refl
  where
    name : are_digits written ≡ false → IsName (name_of written)
    name no_digits = every_all (λ b. (1 ≤ b) × (b ≤ 255)) (name_of written) (elim (name_cases written form.0) [
      | inl plain ↦ plain_name written plain bytes
      | inr (inl digits) ↦ absurd (false≢true (sym no_digits ∙ digits))
      | inr (inr quoted) ↦ quoted_bytes written quoted form.1 bytes
    ])

    by : (digits : Bool) → are_digits written ≡ digits → CalledFormed (identifier_of written)
    by true is = rw is tt
    by false is = rw is (name is)
