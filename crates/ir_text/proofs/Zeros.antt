-- The text between the quotes of a token.
use Rattle.ir_text.proofs.Common.{◌≡◌, ℕ, suc, ◌+◌, Bool, true, false, not, eqb, List, [], ◌∷◌, ◌++◌, drop, refl, sym, ap, subst, ◌∙◌, ⊎_elim, append_assoc, add-one, one-add, eqb-true, arith, Contains, before_first, list_all, prefix_len, false≢true, list_all-append, begins_name, is_digit, is_letter, is_name_byte, HoldsZero, is_name, in_quotes, unquoted, and_both, and_left, and_right, which, list_all-along, in_quotes-quoted}
use Rattle.ir_text.proofs.Shapes.{NameShape, differs, in_pair, name_shape, plain}

-- the byte is no quote
abbrev pub is_no_quote : ℕ → Bool
is_no_quote b = not (eqb b 34)

-- a byte in front that is no quote changes nothing between the quotes
pub in_quotes-behind : (b : ℕ) (bytes : List ℕ) → eqb b 34 ≡ false → in_quotes (b ∷ bytes) ≡ in_quotes bytes
in_quotes-behind b bytes e = rw (e, one-add, add-one) (ap (λ (n : ℕ). before_first (λ c. eqb c 34) (drop n bytes)) next)
  where
    next : suc (prefix_len (λ c. not (eqb c 34)) bytes) ≡ prefix_len (λ c. not (eqb c 34)) bytes + 1
    next = omega arith

no_quote : (b : ℕ) → is_no_quote b ≡ true → eqb b 34 ≡ false
no_quote b e = ⊎_elim (λ (h : eqb b 34 ≡ true). absurd (false≢true (rw h at e))) (λ (h : eqb b 34 ≡ false). h) (which (eqb b 34))

-- nothing is between quotes where there are none
pub in_quotes-plain : (bytes : List ℕ) → list_all is_no_quote bytes ≡ true → in_quotes bytes ≡ []
in_quotes-plain [] all = refl
in_quotes-plain (b ∷ bytes) all =
    in_quotes-behind b bytes (no_quote b (and_left (is_no_quote b) (list_all is_no_quote bytes) all)) ∙ in_quotes-plain bytes (and_right (is_no_quote b) (list_all is_no_quote bytes) all)

-- whether bytes have a byte 0 in quotes depends on the text between the quotes alone
pub same_zeros : (a b : List ℕ) → in_quotes a ≡ in_quotes b → ¬ HoldsZero a → ¬ HoldsZero b
same_zeros a b e none holds = none (subst (λ (inner : List ℕ). Contains (unquoted inner) 0) (sym e) holds)

pub plain_no_zero : (bytes : List ℕ) → list_all is_no_quote bytes ≡ true → ¬ HoldsZero bytes
unfolding unquoted
plain_no_zero bytes all holds =
    let in_none : Contains (unquoted []) 0 = subst (λ (inner : List ℕ). Contains (unquoted inner) 0) (in_quotes-plain bytes all) holds in
    omega (arith, in_none.1)

name_no_quote : (b : ℕ) → is_name_byte b ≡ true → is_no_quote b ≡ true
unfolding is_name_byte begins_name is_letter is_digit
name_no_quote b e = ⊎_elim
    (λ (h : eqb b 34 ≡ true). absurd (differs is_name_byte b 34 e refl (eqb-true b 34 h)))
    (λ (h : eqb b 34 ≡ false). rw h refl)
    (which (eqb b 34))

pub names_no_quote : (bytes : List ℕ) → list_all is_name_byte bytes ≡ true → list_all is_no_quote bytes ≡ true
names_no_quote bytes all = list_all-along is_name_byte is_no_quote bytes name_no_quote all

-- a label has the quoted text of its name
pub in_quotes-label : (name : List ℕ) → is_name name ≡ true → in_quotes (name ++ 58 ∷ []) ≡ in_quotes name
in_quotes-label name e = from name (name_shape name e)
  where
    from : (name : List ℕ) → NameShape name → in_quotes (name ++ 58 ∷ []) ≡ in_quotes name
    from name (plain some all) =
        let none : list_all is_no_quote name ≡ true = names_no_quote name all in
        in_quotes-plain (name ++ 58 ∷ []) (list_all-append is_no_quote name (58 ∷ []) ∙ and_both (list_all is_no_quote name) true none refl) ∙ sym (in_quotes-plain name none)
    from name (in_pair inner is all) =
        ap (λ (text : List ℕ). in_quotes (text ++ 58 ∷ [])) is ∙ ap (λ (text : List ℕ). in_quotes (34 ∷ text)) (append_assoc inner (34 ∷ []) (58 ∷ []))
        ∙ in_quotes-quoted inner (58 ∷ []) all ∙ sym (in_quotes-quoted inner [] all) ∙ ap in_quotes (sym is)
