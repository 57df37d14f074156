-- Two kinds of fault that are said of one token are the same.
use Rattle.ir_viable_prefixes.proofs.Common.{◌≡◌, ℕ, ◌<◌, ◌^◌, true, false, List, refl, sym, ap, subst, ◌∙◌, pos, arith, codes, IsSome, ints, pow_pos, constant_of, is_in_range, number_of, Token, Placed, End, Word, Number, is_last, IrFaultKind, BadByte, Syntax, LeftOut, Width, ConstRange, type_in, begins_record, begins_type, OutOfRange, Flag, Nuw, Nsw, Exact, NNeg, Disjoint, SameSign, flag_keyword, FitsBehind, AnotherFits, of_mark, of_function, IsLeftOut, mark_of_record, entry, IsRepeated, IsNothingElse, IsWrongWidth, IsWrongNumber, IsMisfit, type}
use Rattle.ir_tokens.specs.Tokens.{Bad as Bad_token}
use Rattle.ir_viable_prefixes.specs.Misfits.{of_word, another}

-- where the text may end, no number fits
abbrev pub EndsHaveNoNumbers : List Placed → Type 0
EndsHaveNoNumbers front = FitsBehind front End → (digits : List ℕ) → FitsBehind front (Number digits) → ⊥

-- ---- 0 is in the range of each width

in_range-zero : (width : ℕ) → is_in_range width (pos 0) ≡ true
unfolding is_in_range
in_range-zero width = let some : 0 < 2 ^ width = pow_pos width in grind (arith, ints)

zero_is : number_of (codes "0") ≡ pos 0
unfolding number_of
zero_is = refl

zero_in : (width : ℕ) → IsSome (constant_of (codes "0") width)
unfolding constant_of
zero_in width = rw (zero_is, in_range-zero width) refl

zero_fits : (front : List Placed) (t : Token) (wrong : IsWrongNumber front t) → FitsBehind front (Number (codes "0"))
zero_fits front t wrong = (wrong.4 (codes "0")).1 (zero_in wrong.1)

-- ---- of a bad byte no other kind is told

bad_number : (front : List Placed) {t : Token} → t ≡ Bad_token → IsWrongNumber front t → ⊥
bad_number front bad wrong = let same : Number wrong.0 ≡ Bad_token = sym wrong.2 ∙ bad in cc

bad_width : (front : List Placed) {t : Token} → t ≡ Bad_token → IsWrongWidth front t → ⊥
bad_width front bad wrong = let same : Word wrong.0 ≡ Bad_token = sym wrong.1 ∙ bad in cc

bad_another : {front : List Placed} {t : Token} → AnotherFits front t → t ≡ Bad_token → ⊥
bad_another (of_word word fits) bad = cc
bad_another (of_mark t begins fits) bad = let none : begins_type Bad_token ≡ true = subst (λ (u : Token). begins_type u ≡ true) bad begins in cc
bad_another (of_function written other other_name fits) bad = cc

bad_left_out : {front : List Placed} {t : Token} → IsLeftOut front t → t ≡ Bad_token → ⊥
bad_left_out (another a) bad = bad_another a bad
bad_left_out (mark_of_record begins ends none) bad = let no_mark : begins_record Bad_token ≡ true = subst (λ (u : Token). begins_record u ≡ true) bad begins in cc
bad_left_out (entry goes fits) bad = let no_entry : is_last Bad_token ≡ false = subst (λ (u : Token). is_last u ≡ false) bad goes in cc

-- ---- a type of a wrong width, and a number out of range

width_number : (front : List Placed) {t : Token} → IsWrongWidth front t → IsWrongNumber front t → ⊥
width_number front wide wrong = let same : Word wide.0 ≡ Number wrong.0 = sym wide.1 ∙ wrong.2 in cc

-- the keyword of a flag is no integer type of a wrong width
flag_no_width : (front : List Placed) {t : Token} (word : List ℕ) → t ≡ Word word → type_in word ≡ OutOfRange → IsRepeated front t → ⊥
unfolding type_in
flag_no_width front {t} word is out (w, same, (before, run, flag, flags, stands, keyword, each), fits) = by flag (subst (λ (v : List ℕ). type_in v ≡ OutOfRange) (sym (word_is w word (sym same ∙ is)) ∙ keyword) out)
  where
    word_is : (v w : List ℕ) → Word v ≡ Word w → v ≡ w
    word_is v w equal = cc

    by : (flag : Flag) → type_in (flag_keyword flag) ≡ OutOfRange → ⊥
    by Nuw wide = cc
    by Nsw wide = cc
    by Exact wide = cc
    by NNeg wide = cc
    by Disjoint wide = cc
    by SameSign wide = cc

width_nothing : (front : List Placed) {t : Token} → IsWrongWidth front t → IsNothingElse front t → ⊥
width_nothing front {t} (word, is, out, (other, width, is_type, fits)) nothing =
    flag_no_width front word is out (nothing.another (subst (AnotherFits front) (sym is) (of_word word (other, type width is_type, fits))))

number_another : {front : List Placed} {t : Token} → AnotherFits front t → (digits : List ℕ) → t ≡ Number digits → ⊥
number_another (of_word word fits) digits is = cc
number_another (of_mark t begins fits) digits is = let none : begins_type (Number digits) ≡ true = subst (λ (u : Token). begins_type u ≡ true) is begins in cc
number_another (of_function written other other_name fits) digits is = cc

number_left_out : {front : List Placed} {t : Token} → EndsHaveNoNumbers front → IsLeftOut front t → IsWrongNumber front t → ⊥
number_left_out none (another a) wrong = number_another a wrong.0 wrong.2
number_left_out none (mark_of_record begins ends no_items) wrong =
    let no_mark : begins_record (Number wrong.0) ≡ true = subst (λ (u : Token). begins_record u ≡ true) wrong.2 begins in cc
number_left_out {front} {t} none (entry goes fits) wrong = none fits (codes "0") (zero_fits front t wrong)

number_nothing : (front : List Placed) (t : Token) → IsWrongNumber front t → IsNothingElse front t → ⊥
number_nothing front t wrong nothing = nothing.number wrong.0 (codes "0") wrong.2 (zero_fits front t wrong)

-- ---- `LeftOut` and `Syntax`

left_out_nothing : {front : List Placed} {t : Token} → IsLeftOut front t → IsNothingElse front t → IsRepeated front t
left_out_nothing (another a) nothing = nothing.another a
left_out_nothing (mark_of_record begins ends none) nothing = absurd (none (nothing.mark_of_record begins ends))
left_out_nothing (entry goes fits) nothing = absurd (nothing.entry goes fits)

-- ---- each pair of kinds

module _ (front : List Placed) (t : Token) (no_numbers : EndsHaveNoNumbers front) where
  one_bad : t ≡ Bad_token → (b : IrFaultKind) → IsMisfit front t b → BadByte ≡ b
  one_bad bad BadByte h = refl
  one_bad bad Width h = absurd (bad_width front bad h)
  one_bad bad ConstRange h = absurd (bad_number front bad h)
  one_bad bad (LeftOut text) h = absurd (bad_left_out h.1 bad)
  one_bad bad Syntax h = absurd (h.no_bad_byte bad)
  one_bad bad b h = absurd h

  one_width : IsWrongWidth front t → (b : IrFaultKind) → IsMisfit front t b → Width ≡ b
  one_width wide BadByte h = absurd (bad_width front h wide)
  one_width wide Width h = refl
  one_width wide ConstRange h = absurd (width_number front wide h)
  one_width wide (LeftOut text) h = absurd (h.2 wide)
  one_width wide Syntax h = absurd (width_nothing front wide h)
  one_width wide b h = absurd h

  one_number : IsWrongNumber front t → (b : IrFaultKind) → IsMisfit front t b → ConstRange ≡ b
  one_number wrong BadByte h = absurd (bad_number front h wrong)
  one_number wrong Width h = absurd (width_number front h wrong)
  one_number wrong ConstRange h = refl
  one_number wrong (LeftOut text) h = absurd (number_left_out no_numbers h.1 wrong)
  one_number wrong Syntax h = absurd (number_nothing front t wrong h)
  one_number wrong b h = absurd h

  one_left_out : (shown : List ℕ) → IsMisfit front t (LeftOut shown) → (b : IrFaultKind) → IsMisfit front t b → LeftOut shown ≡ b
  one_left_out shown left BadByte h = absurd (bad_left_out left.1 h)
  one_left_out shown left Width h = absurd (left.2 h)
  one_left_out shown left ConstRange h = absurd (number_left_out no_numbers left.1 h)
  one_left_out shown left (LeftOut text) h = ap LeftOut (left.0 ∙ sym h.0)
  one_left_out shown left Syntax h = absurd (left.3 (left_out_nothing left.1 h))
  one_left_out shown left b h = absurd h

  one_nothing : IsNothingElse front t → (b : IrFaultKind) → IsMisfit front t b → Syntax ≡ b
  one_nothing nothing BadByte h = absurd (nothing.no_bad_byte h)
  one_nothing nothing Width h = absurd (width_nothing front h nothing)
  one_nothing nothing ConstRange h = absurd (number_nothing front t h nothing)
  one_nothing nothing (LeftOut text) h = absurd (h.3 (left_out_nothing h.1 nothing))
  one_nothing nothing Syntax h = refl
  one_nothing nothing b h = absurd h

  pub one_kind : (a b : IrFaultKind) → IsMisfit front t a → IsMisfit front t b → a ≡ b
  one_kind BadByte b told h = one_bad told b h
  one_kind Width b told h = one_width told b h
  one_kind ConstRange b told h = one_number told b h
  one_kind (LeftOut text) b told h = one_left_out text told b h
  one_kind Syntax b told h = one_nothing told b h
  one_kind a b told h = absurd told
