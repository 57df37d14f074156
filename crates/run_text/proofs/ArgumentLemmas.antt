-- What words spell for parameters.
use Rattle.run_text.proofs.Common.{pow_mono, eqb-true, eqb-false, ltb-true, ltb-false, leb-true, lt-ltb, le-leb, eq-eqb, and_parts, and_from, or_parts, false_from_ne_true, ◌≡◌, ◌≢◌, ℕ, zero, suc, ◌+◌, ◌<◌, ◌≤◌, ◌^◌, Bool, true, false, ◌&&◌, ◌||◌, List, [], ◌∷◌, ◌++◌, Option, Some, None, Result, Ok, length, map, take, get_or, refl, sym, ap, subst, ◌∙◌, arith, Contains, ◌↔◌, IsSome, IfSome, IsSomeAnd, MatchOption, option_map, slice_get, slice_index, nat_lt, nat_le, not, ◌==◌, codes, if◌then◌else◌, Bor, all_ascii_digits, bytes_eq, ParsesUnsigned, digits_value, IsNumeralModel, numerals_by_value, tells_all_ascii_digits, parse_plain, parse_gives, take_more, take_all, map-append, length-map, slice_get_within, slice_get-map, slice_get-get_or, slice_get_read, get_or_from_slice_get, same_Some, OkIff-at_ok, Number, bits, IsValueOf, Value, Poison, Bits, Parameter, AreArguments, number, is_decimal, decimal_said, value_said, values_said, is_true, is_false, AreSaid, begins_as_none}

-- ---- word by word

pub said_at : (parameters : List Parameter) (words : List (List ℕ)) (k : ℕ) (p : Parameter) (word : List ℕ)
    → slice_get parameters k ≡ Some p → slice_get words k ≡ Some word
    → slice_get (values_said parameters words) k ≡ Some (value_said p.width word)
said_at [] words k p word at_p at_w = absurd cc
said_at (q ∷ qs) [] k p word at_p at_w = absurd cc
said_at (q ∷ qs) (v ∷ vs) zero p word at_p at_w =
    let same_p : q ≡ p = same_Some q p at_p in
    let same_w : v ≡ word = same_Some v word at_w in
    rw (same_p, same_w) refl
said_at (q ∷ qs) (v ∷ vs) (suc k) p word at_p at_w = said_at qs vs k p word at_p at_w

pub length-values_said : (parameters : List Parameter) (words : List (List ℕ)) → length words ≡ length parameters → length (values_said parameters words) ≡ length parameters
length-values_said [] words same = refl
length-values_said (p ∷ ps) [] same = absurd (omega arith)
length-values_said (p ∷ ps) (w ∷ ws) same = ap suc (length-values_said ps ws (omega arith))

-- ---- a value that a word spells is of the width

-- where the number is tested to be below 2^N, what is made of it is a value of iN, or nothing
in_width : (width n : ℕ) (d : Bool) (v : Value) → (d ≡ true → n < 2 ^ width) → (if d then Some (bits width n) else None) ≡ Some v → IsValueOf width v
in_width width n true v fits is = subst (IsValueOf width) (same_Some (bits width n) v is) (refl, fits refl)
in_width width n false v fits is = absurd cc

one_bit : (width n : ℕ) (v : Value) → width ≡ 1 → n < 2 → Some (bits 1 n) ≡ Some v → IsValueOf width v
one_bit width n v one fits is = subst (IsValueOf width) (same_Some (bits 1 n) v is) (sym one, rw one fits)

is_said : (width n : ℕ) (v : Value) (a b c d : Bool) → (b ≡ true → width ≡ 1) → (c ≡ true → width ≡ 1) → (d ≡ true → n < 2 ^ width)
    → (if a then Some Poison else (if b then Some (bits 1 1) else (if c then Some (bits 1 0) else (if d then Some (bits width n) else None)))) ≡ Some v
    → IsValueOf width v
is_said width n v true b c d at_b at_c at_d is = subst (IsValueOf width) (same_Some Poison v is) tt
is_said width n v false true c d at_b at_c at_d is = one_bit width 1 v (at_b refl) (omega arith) is
is_said width n v false false true d at_b at_c at_d is = one_bit width 0 v (at_c refl) (omega arith) is
is_said width n v false false false d at_b at_c at_d is = in_width width n d v at_d is

value_fits : (width : ℕ) (word : List ℕ) (v : Value) → value_said width word ≡ Some v → IsValueOf width v
value_fits width word v is =
    is_said width (number word) v (bytes_eq word (codes "poison")) (is_true width word) (is_false width word) (is_decimal word && nat_lt (number word) (2 ^ width))
    (λ e. eqb-true width 1 (and_parts (width == 1) _ e).0)
    (λ e. eqb-true width 1 (and_parts (width == 1) _ e).0)
    (λ e. ltb-true (number word) (2 ^ width) (and_parts (is_decimal word) _ e).1)
    is

arguments_fit : (parameters : List Parameter) (words : List (List ℕ)) (values : List Value) → length words ≡ length parameters
    → values_said parameters words ≡ map (λ v. Some v) values → AreArguments parameters values
arguments_fit [] words [] count said = tt
arguments_fit [] words (v ∷ vs) count said = absurd cc
arguments_fit (p ∷ ps) [] vs count said = absurd (omega arith)
arguments_fit (p ∷ ps) (w ∷ ws) [] count said = absurd cc
arguments_fit (p ∷ ps) (w ∷ ws) (v ∷ vs) count said =
    let here : value_said p.width w ≡ Some v = cc in
    let behind : values_said ps ws ≡ map (λ u. Some u) vs = cc in
    (value_fits p.width w v here, arguments_fit ps ws vs (omega arith) behind)

pub said_fit : (parameters : List Parameter) (words : List (List ℕ)) (values : List Value) → AreSaid parameters words values → AreArguments parameters values
said_fit parameters words values are = arguments_fit parameters words values are.count are.said

-- ---- decimals

own : IsNumeralModel (λ ds. all_ascii_digits ds ≡ true) (digits_value 10)
own = numerals_by_value _ tells_all_ascii_digits

alone : (zero_first longer one : Bool) → (zero_first && longer) ≡ false → (longer ≡ false → one ≡ true) → (not zero_first || one) ≡ true
alone true longer one e h = h e
alone false longer one e h = refl

module _ {E : Type 0} (width : ℕ) (text : List ℕ) (r : Result ℕ E) (parsed : ParsesUnsigned 64 10 text r) (first : begins_as_none text ≡ false) where
  parts : ((slice_index text 0 == 43) ≡ false) × (((slice_index text 0 == 48) && nat_lt 1 (length text)) ≡ false)
  parts = or_parts (slice_index text 0 == 43) _ first

  plain : get_or text 0 0 ≢ 43
  plain = eqb-false (slice_index text 0) 43 parts.0

  decimal_read : (n : ℕ) → r ≡ Ok n → (is_decimal text ≡ true) × (n ≡ number text)
  decimal_read n is =
      let read = OkIff-at_ok r _ _ n (parse_plain own 64 text r parsed plain) is in
      let some : 0 < length text = read.0.1 in
      let zero = alone (slice_index text 0 == 48) (nat_lt 1 (length text)) (length text == 1) parts.1 (λ e. let h = ltb-false 1 (length text) e in eq-eqb (length text) 1 (omega arith)) in
      (and_from _ _ (and_from _ _ read.0.0 (le-leb 1 (length text) (omega arith))) zero, read.1)

  -- a number that fits the width is the value
  pub number_said : (n : ℕ) → r ≡ Ok n → n < 2 ^ width → Some (bits width n) ≡ decimal_said width text
  number_said n is lt =
      let read = decimal_read n is in
      let fits : nat_lt (number text) (2 ^ width) ≡ true = lt-ltb (number text) (2 ^ width) (subst (λ (m : ℕ). m < 2 ^ width) read.1 lt) in
      rw (read.0, fits, read.1) refl

  pub number_large : (n : ℕ) → r ≡ Ok n → (n < 2 ^ width → ⊥) → None ≡ decimal_said width text
  number_large n is large =
      let read = decimal_read n is in
      let past : nat_lt (number text) (2 ^ width) ≡ false = false_from_ne_true _ (λ e. large (subst (λ (m : ℕ). m < 2 ^ width) (sym read.1) (ltb-true (number text) (2 ^ width) e))) in
      rw (read.0, past) refl

  -- what `parse` refuses spells no value
  pub none_said : width ≤ 64 → ((n : ℕ) → r ≡ Ok n → ⊥) → None ≡ decimal_said width text
  none_said most never = nothing (is_decimal text && nat_lt (number text) (2 ^ width)) (λ e.
      let p = and_parts (is_decimal text) (nat_lt (number text) (2 ^ width)) e in
      let q = and_parts (all_ascii_digits text && nat_le 1 (length text)) _ p.0 in
      let d = and_parts (all_ascii_digits text) (nat_le 1 (length text)) q.0 in
      let small : number text < 2 ^ 64 = let below = ltb-true (number text) (2 ^ width) p.1 in let most_of : 2 ^ width ≤ 2 ^ 64 = pow_mono most in omega arith in
      never (number text) (parse_gives own 64 text r parsed d.0 (let l = leb-true 1 (length text) d.1 in omega arith) small))
    where
      nothing : (b : Bool) → (b ≡ true → ⊥) → None ≡ (if b then Some (bits width (number text)) else None)
      nothing true h = absurd (h refl)
      nothing false h = refl

  -- what `Word::new` and `map` make of the number
  pub number_through : (n : ℕ) → r ≡ Ok n → (o : Option Number) (out : Option Value)
      → IsSome o ↔ (n < 2 ^ width) → IfSome o (λ w. w ≡ record { width = width; number = n })
      → MatchOption o (out ≡ None) (λ w. IsSomeAnd out (λ v. v ≡ Bits w))
      → out ≡ decimal_said width text
  number_through n is None out range word out_is = out_is ∙ number_large n is (λ lt. let h : false ≡ true = range.1 lt in cc)
  number_through n is (Some w) None range word out_is = absurd out_is
  number_through n is (Some w) (Some v) range word out_is = ap (λ (u : Value). Some u) (out_is ∙ ap (λ (m : Number). Bits m) word) ∙ number_said n is (range.0 refl)

-- ---- words of a list of references

abbrev pub texts_of : List (Bor (List ℕ)) → List (List ℕ)
texts_of words = map (λ w. w.now) words

module _ (parameters : List Parameter) (words : List (Bor (List ℕ))) (k : ℕ) (p : Parameter) (d : Bor (List ℕ))
    (count : length words ≡ length parameters) (lt : k < length parameters) (at_p : p ≡ get_or parameters k p) where
  here : slice_get (values_said parameters (texts_of words)) k ≡ Some (value_said p.width (get_or words k d).now)
  here = said_at parameters (texts_of words) k p (get_or words k d).now (slice_get_read parameters (length parameters) k p refl lt at_p)
      (slice_get-map (λ w. w.now) words k ∙ ap (option_map (λ (w : Bor (List ℕ)). w.now)) (slice_get-get_or words k d (omega arith)))

  pub said_more : (values : List Value) (v : Value) (o : Option Value) → o ≡ value_said p.width (get_or words k d).now → o ≡ Some v
      → map (λ u. Some u) values ≡ take k (values_said parameters (texts_of words))
      → map (λ u. Some u) (values ++ v ∷ []) ≡ take (k + 1) (values_said parameters (texts_of words))
  said_more values v o is some so_far =
      let all = values_said parameters (texts_of words) in
      let within = slice_get_within all k (value_said p.width (get_or words k d).now) here in
      map-append (λ u. Some u) values (v ∷ [])
      ∙ ap (λ (l : List (Option Value)). l ++ Some v ∷ []) so_far
      ∙ ap (λ (u : Option Value). take k all ++ u ∷ []) (sym some ∙ is ∙ sym (get_or_from_slice_get all k (value_said p.width (get_or words k d).now) None here))
      ∙ sym (take_more all k None within)

  pub said_none : (o : Option Value) → o ≡ value_said p.width (get_or words k d).now → o ≡ None → Contains (values_said parameters (texts_of words)) None
  said_none o is none =
      let all = values_said parameters (texts_of words) in
      (k, slice_get_within all k (value_said p.width (get_or words k d).now) here, get_or_from_slice_get all k (value_said p.width (get_or words k d).now) None here ∙ sym is ∙ none)

pub all_said : (parameters : List Parameter) (words : List (Bor (List ℕ))) (values : List Value) (n : ℕ) → length words ≡ length parameters → length parameters ≤ n
    → map (λ u. Some u) values ≡ take n (values_said parameters (texts_of words)) → AreSaid parameters (texts_of words) values
all_said parameters words values n same past so_far =
    let count : length (texts_of words) ≡ length parameters = length-map words (λ w. w.now) ∙ same in
    let all = length-values_said parameters (texts_of words) count in
    record { count = count; said = sym (so_far ∙ take_all n (values_said parameters (texts_of words)) (omega arith)) }
