-- The bytes of a token that has a form are a token of its kind.
use Rattle.ir_text.proofs.Common.{◌≡◌, ℕ, ◌-◌, true, eqb, List, [], ◌∷◌, ◌++◌, length, get_or, take, refl, sym, ap, ◌∙◌, take_at, eqb-true, arith, list_all, get_or-append_seam, false≢true, TokenKind, begins_word, begins_with, is_digit, is_name_byte, is_run, HoldsZero, is_function, is_group, is_label, is_metadata, is_name, is_register, is_word, marks, spells, is_among, is_literal, is_negative, and_both, and_left, and_right, among_begins, digit_name, list_all-along, literal_names, Token, Label, Word, Group, Metadata, Quoted, Mark, token_of, HasForm, IsNameText, bytes_of}
use Rattle.std.proofs.Common.{length-append}
use Rattle.scan.specs.declared.ir.token.TokenKind.TheVariants as kinds
use Rattle.scan.specs.IrTokens as scanned
use Rattle.ir_tokens.specs.Numbers.{is_number}
use Rattle.ir_tokens.specs.Tokens.{Number, Register, Function}
use Rattle.ir_text.proofs.Zeros.{in_quotes-behind, in_quotes-label, is_no_quote, names_no_quote, plain_no_zero, same_zeros}

-- the token extends no further than its bytes, which are a token of this kind
pub record IsSpelled (token : Token) (kind : TokenKind) : Type 0 where
  pub spelled : spells kind (bytes_of token) [] ≡ true
  pub is : token_of kind (bytes_of token) ≡ token
  pub no_zero : ¬ HoldsZero (bytes_of token)

-- the bytes before the last, and the last
pub before_last : (name : List ℕ) (b : ℕ) → take (length (name ++ b ∷ []) - 1) (name ++ b ∷ []) ≡ name
before_last name b = take_at name (b ∷ []) (length (name ++ b ∷ []) - 1) (omega (arith, length-append name (b ∷ [])))

last_is : (name : List ℕ) (b : ℕ) → get_or (name ++ b ∷ []) (length (name ++ b ∷ []) - 1) 0 ≡ b
last_is name b =
    let long : length (name ++ b ∷ []) - 1 ≡ length name = omega (arith, length-append name (b ∷ [])) in
    ap (λ (n : ℕ). get_or (name ++ b ∷ []) n 0) long ∙ get_or-append_seam name b [] 0

pub label_spelled : (name : List ℕ) → IsNameText name → IsSpelled (Label name) kinds.Label
unfolding is_label
label_spelled name h = record {
  spelled = and_both _ _ (ap is_name (before_last name 58) ∙ h.0) (ap (λ (b : ℕ). eqb b 58) (last_is name 58));
  is = ap Label (before_last name 58);
  no_zero = same_zeros name (name ++ 58 ∷ []) (sym (in_quotes-label name h.0)) h.1;
}

pub word_spelled : (text : List ℕ) → is_word text ≡ true → IsSpelled (Word text) kinds.Word
unfolding is_word
word_spelled text h = record {
  spelled = h;
  is = refl;
  no_zero = plain_no_zero text (names_no_quote text (and_right (begins_with begins_word text) (list_all is_name_byte text) h));
}

pub number_spelled : (text : List ℕ) → is_number text ≡ true → IsSpelled (Number text) kinds.Number
unfolding is_number scanned.is_number is_literal is_negative
number_spelled text h = record {
  spelled = and_both _ true h refl;
  is = refl;
  no_zero = plain_no_zero text (names_no_quote text (literal_names text h));
}

pub register_spelled : (name : List ℕ) → IsNameText name → IsSpelled (Register name) kinds.Register
unfolding is_register
register_spelled name h = record { spelled = h.0; is = refl; no_zero = same_zeros name (37 ∷ name) (sym (in_quotes-behind 37 name refl)) h.1 }

pub function_spelled : (name : List ℕ) → IsNameText name → IsSpelled (Function name) kinds.Function
unfolding is_function
function_spelled name h = record { spelled = h.0; is = refl; no_zero = same_zeros name (64 ∷ name) (sym (in_quotes-behind 64 name refl)) h.1 }

pub group_spelled : (text : List ℕ) → is_group text ≡ true → IsSpelled (Group text) kinds.Group
unfolding is_group
group_spelled [] h = absurd (false≢true h)
group_spelled (b ∷ digits) h = record {
  spelled = h;
  is = refl;
  no_zero = plain_no_zero (b ∷ digits) (and_both (is_no_quote b) (list_all is_no_quote digits)
      (ap is_no_quote (eqb-true b 35 (and_left (eqb b 35) (is_run is_digit digits) h)))
      (names_no_quote digits (list_all-along is_digit is_name_byte digits digit_name (and_right (begins_with is_digit digits) (list_all is_digit digits) (and_right (eqb b 35) (is_run is_digit digits) h)))));
}

pub metadata_spelled : (name : List ℕ) → list_all is_name_byte name ≡ true → IsSpelled (Metadata name) kinds.Metadata
unfolding is_metadata
metadata_spelled name h = record { spelled = h; is = refl; no_zero = plain_no_zero (33 ∷ name) (names_no_quote name h) }

pub quoted_spelled : (text : List ℕ) → HasForm (Quoted text) → IsSpelled (Quoted text) kinds.Quoted
quoted_spelled text h = record { spelled = h.0; is = refl; no_zero = h.1 }

pub mark_spelled : (byte : ℕ) → is_among marks (byte ∷ []) ≡ true → IsSpelled (Mark byte) kinds.Mark
mark_spelled byte h = record {
  spelled = h;
  is = refl;
  no_zero = plain_no_zero (byte ∷ []) (and_both (is_no_quote byte) true (among_begins is_no_quote marks (byte ∷ []) refl h) refl);
}
