-- The first `.` of a text, and how names behind `llvm.` are split there.
use Rattle.ir_instructions.proofs.Common.{◌≡◌, ℕ, ◌+◌, ◌-◌, ◌≤◌, ltb, ltb-false, Bool, true, false, cond, eqb, List, [], length, take, drop, Option, Some, None, refl, ap, sym, ◌∙◌, arith, option_and_then, option_map, before_first, after_first, position_or_len, drop_all, take_all, length-drop, Intrinsic, keyword_in, plain_width_in, named_in, type_in}

-- the index of the first `.`, if there is one
abbrev pub IsDot : List ℕ → Option ℕ → Type 0
IsDot text found = found ≡ cond (ltb (position_or_len (λ b. eqb b 46) text) (length text)) (Some (position_or_len (λ b. eqb b 46) text)) None

none_behind : (text : List ℕ) → IsDot text None → after_first (λ b. eqb b 46) text ≡ []
none_behind text is = by (ltb (position_or_len (λ b. eqb b 46) text) (length text)) refl is
  where
    by : (b : Bool) → ltb (position_or_len (λ b. eqb b 46) text) (length text) ≡ b → None ≡ cond b (Some (position_or_len (λ b. eqb b 46) text)) None → after_first (λ b. eqb b 46) text ≡ []
    by true h e = absurd cc
    by false h e =
        let past : length text ≤ position_or_len (λ b. eqb b 46) text = ltb-false (position_or_len (λ b. eqb b 46) text) (length text) h in
        drop_all (position_or_len (λ b. eqb b 46) text + 1) text (omega arith)

-- the intrinsic with the width, if there is one
abbrev at_width : Intrinsic → Option ℕ → Option (Intrinsic × ℕ)
at_width what width = option_map (λ w. (what, w)) width

abbrev at_type : List ℕ → Option Intrinsic → Option (Intrinsic × ℕ)
at_type word found = option_and_then (λ what. at_width what (plain_width_in word)) found

no_width : (word : List ℕ) (found : Option Intrinsic) → word ≡ [] → at_type word found ≡ None
unfolding plain_width_in type_in
no_width word None is = refl
no_width word (Some what) is = rw is refl

pub no_dot : (text : List ℕ) → IsDot text None → named_in text ≡ None
unfolding named_in
no_dot text is = no_width (after_first (λ b. eqb b 46) text) (keyword_in (before_first (λ b. eqb b 46) text)) (none_behind text is)

dot_is : (text : List ℕ) (dot : ℕ) → IsDot text (Some dot) → dot ≡ position_or_len (λ b. eqb b 46) text
dot_is text dot is = by (ltb (position_or_len (λ b. eqb b 46) text) (length text)) is
  where
    by : (b : Bool) → Some dot ≡ cond b (Some (position_or_len (λ b. eqb b 46) text)) None → dot ≡ position_or_len (λ b. eqb b 46) text
    by true e = cc
    by false e = absurd cc

at_dot : (text : List ℕ) (dot : ℕ) → IsDot text (Some dot) → named_in text ≡ at_type (drop (dot + 1) text) (keyword_in (take dot text))
unfolding named_in
at_dot text dot is = let same : dot ≡ position_or_len (λ b. eqb b 46) text = dot_is text dot is in rw same refl

pub no_keyword : (text : List ℕ) (dot : ℕ) → IsDot text (Some dot) → keyword_in (take dot text) ≡ None → named_in text ≡ None
no_keyword text dot is none = at_dot text dot is ∙ ap (at_type (drop (dot + 1) text)) none

keyword_and_type : (what : Intrinsic) (text : List ℕ) (dot : ℕ) → IsDot text (Some dot) → keyword_in (take dot text) ≡ Some what → named_in text ≡ at_width what (plain_width_in (drop (dot + 1) text))
keyword_and_type what text dot is keyword = at_dot text dot is ∙ ap (at_type (drop (dot + 1) text)) keyword

-- taking all that is left behind the `.` leaves it as it is
behind : (text : List ℕ) (n : ℕ) → take (length text - n) (drop n text) ≡ drop n text
behind text n = take_all (length text - n) (drop n text) (omega (arith, length-drop n text))

pub no_type : (what : Intrinsic) (text : List ℕ) (dot : ℕ) → IsDot text (Some dot) → keyword_in (take dot text) ≡ Some what → plain_width_in (take (length text - (dot + 1)) (drop (dot + 1) text)) ≡ None → named_in text ≡ None
no_type what text dot is keyword none =
    keyword_and_type what text dot is keyword
    ∙ ap (at_width what) (ap plain_width_in (sym (behind text (dot + 1))) ∙ none)

pub named_at : (what : Intrinsic) (width : ℕ) (text : List ℕ) (dot : ℕ) → IsDot text (Some dot) → keyword_in (take dot text) ≡ Some what → plain_width_in (take (length text - (dot + 1)) (drop (dot + 1) text)) ≡ Some width
    → named_in text ≡ Some (what, width)
named_at what width text dot is keyword type =
    keyword_and_type what text dot is keyword
    ∙ ap (at_width what) (ap plain_width_in (sym (behind text (dot + 1))) ∙ type)
