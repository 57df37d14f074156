-- Names: their printed text is read as the name.
use Rattle.ir_text.proofs.Common.{◌≡◌, ◌≢◌, ℕ, ◌+◌, ◌/◌, ◌%◌, ◌^◌, ◌<◌, ◌≤◌, ltb, leb, Bool, true, false, not, eqb, ◌&&◌, ◌||◌, decimal, List, [], ◌∷◌, ◌++◌, refl, sym, ap, subst, ◌∙◌, ⊎_elim, eq-eqb, eqb-true, le-leb, leb-true, ltb-false, ltb-true, mod-lt, ne_eqb, arith, AllByRecursion, Contains, list_all, list_any, false≢true, list_all-append, are_digits, begins_with, begins_name, is_digit, is_letter, is_name_byte, is_printable, is_name, is_plain_name, hex_value, in_quotes, is_hex, is_quotable, is_quoted, unquoted, and_both, and_left, and_right, which, in_quotes-quoted, quoted_from, reads_hex, reads_plain, zero_found, Named, Numbered, identifier_of, name_of, decimal_value, IsNameText, escaped, hex_digit, name_text, quoted_text}
use Rattle.std.proofs.Common.{flat_map}
use Rattle.ir_text.proofs.NumberForms.{decimal_digits, decimal_value-decimal, digits_names}
use Rattle.ir_text.proofs.Spelled.{before_last}
use Rattle.ir_text.proofs.Zeros.{names_no_quote, plain_no_zero}

-- a name may have the byte
abbrev pub IsNameByte : ℕ → Type 0
IsNameByte b = (1 ≤ b) × (b ≤ 255)

abbrev pub AreNameBytes : List ℕ → Type 0
AreNameBytes name = AllByRecursion IsNameByte name

-- ---- hexadecimal digits

leb_none : (a b : ℕ) → b < a → leb a b ≡ false
leb_none a b less = ⊎_elim (λ (h : leb a b ≡ true). absurd (let le : a ≤ b = leb-true a b h in omega arith)) (λ (h : leb a b ≡ false). h) (which (leb a b))

record IsHexDigit (d b : ℕ) : Type 0 where
  hex : is_hex b ≡ true
  value : hex_value b ≡ d
  quotable : is_quotable b ≡ true

low_digit : (d : ℕ) → d < 10 → IsHexDigit d (48 + d)
unfolding is_hex hex_value is_quotable is_digit
low_digit d less = record {
  hex = rw (above, below) refl;
  value = rw below (omega arith);
  quotable = rw (no_quote, no_feed) refl;
}
  where
    above : leb 48 (48 + d) ≡ true
    above = le-leb _ _ (omega arith)

    below : leb (48 + d) 57 ≡ true
    below = le-leb _ _ (omega arith)

    no_quote : eqb (48 + d) 34 ≡ false
    no_quote = ne_eqb _ _ (λ e. omega arith)

    no_feed : eqb (48 + d) 10 ≡ false
    no_feed = ne_eqb _ _ (λ e. omega arith)

high_digit : (d : ℕ) → 10 ≤ d → d < 16 → IsHexDigit d (55 + d)
unfolding is_hex hex_value is_quotable is_digit
high_digit d more less = record {
  hex = rw (past, no_digit, above, below) refl;
  value = rw (no_digit, below) (omega arith);
  quotable = rw (no_quote, no_feed) refl;
}
  where
    past : leb 48 (55 + d) ≡ true
    past = le-leb _ _ (omega arith)

    no_digit : leb (55 + d) 57 ≡ false
    no_digit = leb_none _ _ (omega arith)

    above : leb 65 (55 + d) ≡ true
    above = le-leb _ _ (omega arith)

    below : leb (55 + d) 70 ≡ true
    below = le-leb _ _ (omega arith)

    no_quote : eqb (55 + d) 34 ≡ false
    no_quote = ne_eqb _ _ (λ e. omega arith)

    no_feed : eqb (55 + d) 10 ≡ false
    no_feed = ne_eqb _ _ (λ e. omega arith)

a_digit : (d : ℕ) → d < 16 → IsHexDigit d (hex_digit d)
unfolding hex_digit
a_digit d less = ⊎_elim
    (λ (low : ltb d 10 ≡ true). rw low (low_digit d (ltb-true d 10 low)))
    (λ (high : ltb d 10 ≡ false). rw high (high_digit d (ltb-false d 10 high) less))
    (which (ltb d 10))

-- ---- quoted names

-- the text stands for the byte between quotes
record IsEscape (b : ℕ) (text : List ℕ) : Type 0 where
  quotable : list_all is_quotable text ≡ true
  read : (rest : List ℕ) → unquoted (text ++ rest) ≡ b ∷ unquoted rest

shown : (b : ℕ) → (is_printable b && not (eqb b 34 || eqb b 92)) ≡ true → IsEscape b (b ∷ [])
unfolding is_printable is_quotable
shown b e =
    let printable : is_printable b ≡ true = and_left (is_printable b) _ e in
    let low : 32 ≤ b = leb-true 32 b (and_left (leb 32 b) (leb b 126) printable) in
    let others : not (eqb b 34 || eqb b 92) ≡ true = and_right (is_printable b) _ e in
    let no_feed : eqb b 10 ≡ false = ne_eqb b 10 (λ h. omega arith) in
    let no_quote : eqb b 34 ≡ false = none (eqb b 34) (eqb b 92) others in
    let no_backslash : b ≢ 92 = λ h. false≢true (rw (no_quote, eq-eqb b 92 h) at others) in
    record { quotable = rw (no_quote, no_feed) refl; read = λ rest. (reads_plain (b ∷ rest) (omega arith) no_backslash).0 }
  where
    none : (x y : Bool) → not (x || y) ≡ true → x ≡ false
    none true y h = absurd (false≢true h)
    none false y h = refl

hidden : (b : ℕ) → b ≤ 255 → IsEscape b (92 ∷ hex_digit (b / 16) ∷ hex_digit (b % 16) ∷ [])
unfolding is_quotable
hidden b le =
    let high : IsHexDigit (b / 16) (hex_digit (b / 16)) = a_digit (b / 16) (omega arith) in
    let low : IsHexDigit (b % 16) (hex_digit (b % 16)) = a_digit (b % 16) (mod-lt b (omega arith)) in
    record {
      quotable = and_both (is_quotable (hex_digit (b / 16))) _ high.quotable (and_both (is_quotable (hex_digit (b % 16))) true low.quotable refl);
      read = λ rest. (reads_hex (92 ∷ hex_digit (b / 16) ∷ hex_digit (b % 16) ∷ rest) rest (hex_digit (b / 16)) (hex_digit (b % 16)) b (omega arith) refl high.hex low.hex refl
          (omega (arith, high.value, low.value))).0;
    }

escape : (b : ℕ) → b ≤ 255 → IsEscape b (escaped b)
unfolding escaped
escape b le = ⊎_elim
    (λ (h : (is_printable b && not (eqb b 34 || eqb b 92)) ≡ true). rw h (shown b h))
    (λ (h : (is_printable b && not (eqb b 34 || eqb b 92)) ≡ false). rw h (hidden b le))
    (which (is_printable b && not (eqb b 34 || eqb b 92)))

-- the text between the quotes of a printed name
abbrev inner_of : List ℕ → List ℕ
inner_of name = flat_map escaped name

inner_quotable : (name : List ℕ) → AreNameBytes name → list_all is_quotable (inner_of name) ≡ true
inner_quotable [] all = refl
inner_quotable (b ∷ name) all = list_all-append is_quotable (escaped b) (inner_of name)
    ∙ and_both (list_all is_quotable (escaped b)) (list_all is_quotable (inner_of name)) (escape b all.0.1).quotable (inner_quotable name all.1)

inner_read : (name : List ℕ) → AreNameBytes name → unquoted (inner_of name) ≡ name
unfolding unquoted
inner_read [] all = refl
inner_read (b ∷ name) all = (escape b all.0.1).read (inner_of name) ∙ ap (λ (bytes : List ℕ). b ∷ bytes) (inner_read name all.1)

no_zero : (name : List ℕ) → AreNameBytes name → list_any (λ b. eqb b 0) name ≡ false
no_zero [] all = refl
no_zero (b ∷ name) all = rw (ne_eqb b 0 (λ e. let some : 1 ≤ b = all.0.0 in omega arith)) (no_zero name all.1)

-- ---- names

-- no plain name begins with a digit
digit_begins_none : (b : ℕ) → is_digit b ≡ true → begins_name b ≡ false
unfolding is_digit begins_name is_letter
digit_begins_none b e =
    let low : 48 ≤ b = leb-true 48 b (and_left (leb 48 b) (leb b 57) e) in
    let high : b ≤ 57 = leb-true b 57 (and_right (leb 48 b) (leb b 57) e) in
    rw (leb_none 65 b (omega arith), leb_none 97 b (omega arith), ne_eqb b 45 (λ h. omega arith), ne_eqb b 36 (λ h. omega arith), ne_eqb b 46 (λ h. omega arith), ne_eqb b 95 (λ h. omega arith)) refl

plain_no_digits : (name : List ℕ) → is_plain_name name ≡ true → are_digits name ≡ false
unfolding is_plain_name
plain_no_digits [] e = refl
plain_no_digits (b ∷ name) e = ⊎_elim
    (λ (h : is_digit b ≡ true). absurd (false≢true (sym (digit_begins_none b h) ∙ and_left (begins_name b) (list_all is_name_byte (b ∷ name)) e)))
    (λ (h : is_digit b ≡ false). rw h refl)
    (which (is_digit b))

plain_itself : (name : List ℕ) → is_plain_name name ≡ true → name_of name ≡ name
unfolding is_plain_name name_of begins_name is_letter
plain_itself [] e = refl
plain_itself (b ∷ name) e = ⊎_elim
    (λ (h : eqb b 34 ≡ true). absurd (false≢true (sym (ap begins_name (eqb-true b 34 h)) ∙ and_left (begins_name b) (list_all is_name_byte (b ∷ name)) e)))
    (λ (h : eqb b 34 ≡ false). rw h refl)
    (which (eqb b 34))

-- the text has the form of a name and is read as this one
pub record IsNamed (name text : List ℕ) : Type 0 where
  pub form : IsNameText text
  pub calls : identifier_of text ≡ Named name

pub plain : (name : List ℕ) → is_plain_name name ≡ true → IsNamed name name
unfolding is_name identifier_of is_plain_name
plain name e = record {
  form = (rw e refl, plain_no_zero name (names_no_quote name (and_right (begins_with begins_name name) (list_all is_name_byte name) e)));
  calls = rw (plain_no_digits name e) (ap Named (plain_itself name e));
}

quoted : (name : List ℕ) → AreNameBytes name → IsNamed name (quoted_text name)
unfolding quoted_text is_name identifier_of name_of is_digit
quoted name all = record {
  form = (or_last _ (is_quoted text) (quoted_from inner quotable), λ holds. false≢true (sym (no_zero name all) ∙ zero_found name (subst (λ (bytes : List ℕ). Contains bytes 0) read holds)));
  calls = ap Named (ap unquoted (before_last inner 34) ∙ inner_read name all);
}
  where
    inner : List ℕ
    inner = inner_of name

    text : List ℕ
    text = 34 ∷ (inner ++ 34 ∷ [])

    quotable : list_all is_quotable inner ≡ true
    quotable = inner_quotable name all

    read : unquoted (in_quotes text) ≡ name
    read = ap unquoted (in_quotes-quoted inner [] quotable) ∙ inner_read name all

    or_last : (x y : Bool) → y ≡ true → (x || y) ≡ true
    or_last true y e = refl
    or_last false y e = e

named : (name : List ℕ) → AreNameBytes name → IsNamed name (name_text name)
unfolding name_text
named name all = ⊎_elim
    (λ (h : is_plain_name name ≡ true). rw h (plain name h))
    (λ (h : is_plain_name name ≡ false). rw h (quoted name all))
    (which (is_plain_name name))

pub name_text_form : (name : List ℕ) → AreNameBytes name → IsNameText (name_text name)
name_text_form name all = (named name all).form

pub name_text_calls : (name : List ℕ) → AreNameBytes name → identifier_of (name_text name) ≡ Named name
name_text_calls name all = (named name all).calls

-- ---- numbers as names

pub decimal_form : (n : ℕ) → n < 2 ^ 64 → IsNameText (decimal n)
unfolding is_name
decimal_form n less =
    let digits : are_digits (decimal n) ≡ true = decimal_digits n less in
    (digits_name (is_plain_name (decimal n)) (is_quoted (decimal n)) (are_digits (decimal n)) digits, plain_no_zero (decimal n) (names_no_quote (decimal n) (digits_names (decimal n) digits)))
  where
    digits_name : (x y z : Bool) → z ≡ true → (x || z || y) ≡ true
    digits_name true y z e = refl
    digits_name false y z e = rw e refl

pub decimal_calls : (n : ℕ) → n < 2 ^ 64 → identifier_of (decimal n) ≡ Numbered n
unfolding identifier_of
decimal_calls n less = rw (decimal_digits n less) (ap Numbered (let value : decimal_value (decimal n) ≡ n = decimal_value-decimal n less in omega arith))
