-- Which kinds of tokens of a module may begin with a byte.
use Rattle.scan.proofs.Common.{◌≡◌, ℕ, zero, suc, ◌+◌, ◌<◌, ◌≤◌, max, Bool, true, false, eqb, not, ◌&&◌, ◌||◌, List, [], ◌∷◌, length, take, drop, get_or, refl, sym, ap, subst, ◌∙◌, ⊎_elim, ◌⊎◌, inl, inr, arith, list_all, prefix_len, Contains, length-drop, drop_all, at_drop_more, list_all_more, bytes_eq, false≢true, eqb-true, bytes_eq-Decides, max-zero, zero-max, TokenKind, Label, Function, Group, Metadata, Quoted, is_bad, is_digit, is_letter, begins_name, begins_word, is_name_byte, begins_with, is_run, IsLongest, is_quotable, is_quoted, in_quotes, unquoted, is_among, is_negative, is_literal, is_plain_name, is_name, is_behind, is_word, is_number, is_function, is_group, is_metadata, spells, IsLongestFront, BeginsBadly, HoldsZero}
use Rattle.scan.specs.declared.ir.token.TokenKind.TheVariants.{End, Other, Word, Number, Register, Mark}
use Rattle.scan.specs.IrTokens.{is_register, marks}
use Rattle.scan.proofs.Fronts.{which, and_left, and_right, and_both, or_left, or_right, or_true, front_begins, marked_none, begun_none, begun_longest}
use Rattle.scan.proofs.LawLemmas.{is_good, digit_good, among_begins}
use Rattle.scan.proofs.PlaceLemmas.{begins_some}
use Rattle.scan.proofs.NameLemmas.{begins_other, name_longest, name_cases, quoted_none, quoted_is, no_quotes}
use Rattle.scan.proofs.ModuleFronts.{behind_fails, label_none, digit_name, list_all-along, literal_names, number_run}
use Rattle.scan.proofs.ModuleTokens.{IsFound, AtMost, found_as, longest_front, longest_token, short_holds_none}
use Rattle.scan.proofs.ModuleKinds.{no_digit, other_than, name_byte_good}

-- ---- names, and the words and numbers among them

plain_is_name : (bytes : List ℕ) → is_plain_name bytes ≡ true → is_name bytes ≡ true
unfolding is_name
plain_is_name bytes e = or_left (is_plain_name bytes || is_run is_digit bytes) (is_quoted bytes) (or_left (is_plain_name bytes) (is_run is_digit bytes) e)

word_is_name : (bytes : List ℕ) → is_word bytes ≡ true → is_name bytes ≡ true
unfolding is_word is_plain_name begins_word
word_is_name [] e = absurd (false≢true e)
word_is_name (b ∷ bytes) e = plain_is_name (b ∷ bytes) (and_both (begins_name b) (list_all is_name_byte (b ∷ bytes))
    (and_left (begins_name b) (not (eqb b 45)) (and_left (begins_word b) (list_all is_name_byte (b ∷ bytes)) e))
    (and_right (begins_word b) (list_all is_name_byte (b ∷ bytes)) e))

digits_are_name : (bytes : List ℕ) → is_run is_digit bytes ≡ true → is_name bytes ≡ true
unfolding is_name
digits_are_name bytes e = or_left (is_plain_name bytes || is_run is_digit bytes) (is_quoted bytes) (or_right (is_plain_name bytes) (is_run is_digit bytes) e)

number_is_name : (bytes rest : List ℕ) → is_number bytes rest ≡ true → is_name bytes ≡ true
unfolding is_number is_literal is_negative is_plain_name begins_name is_letter
number_is_name bytes rest e =
    let literal : is_literal false bytes ≡ true = and_left (is_literal false bytes) (not (begins_with is_name_byte rest)) e in
    ⊎_elim
    (λ (h : is_run is_digit bytes ≡ true). digits_are_name bytes h)
    (λ (h : is_negative bytes ≡ true). plain_is_name bytes (negative_is_plain bytes h (literal_names bytes literal)))
    (or_true (is_run is_digit bytes) (is_negative bytes) literal)
  where
    negative_is_plain : (bytes : List ℕ) → is_negative bytes ≡ true → list_all is_name_byte bytes ≡ true → is_plain_name bytes ≡ true
    negative_is_plain [] h all = absurd (false≢true h)
    negative_is_plain (b ∷ digits) h all = and_both (begins_name b) (list_all is_name_byte (b ∷ digits)) (ap begins_name (eqb-true b 45 (and_left (eqb b 45) (is_run is_digit digits) h))) all

-- a name whose first byte may stand in a name has only such bytes
name_bytes : (bytes : List ℕ) → begins_with is_name_byte bytes ≡ true → is_name bytes ≡ true → list_all is_name_byte bytes ≡ true
unfolding is_name_byte begins_name is_letter is_digit
name_bytes bytes first e = ⊎_elim
    (λ (i : (begins_with begins_name bytes && list_all is_name_byte bytes) ≡ true). and_right (begins_with begins_name bytes) (list_all is_name_byte bytes) i)
    (λ (o : (is_run is_digit bytes ≡ true) ⊎ (is_quoted bytes ≡ true)). ⊎_elim
    (λ (i : is_run is_digit bytes ≡ true). list_all-along is_digit is_name_byte bytes digit_name (and_right (begins_with is_digit bytes) (list_all is_digit bytes) i))
    (λ (i : is_quoted bytes ≡ true). absurd (false≢true (ap (begins_with is_name_byte) (sym (quoted_is bytes i).0) ∙ first)))
    o)
    (name_cases bytes e)

-- ---- the longest name, by the first byte

begins_no_digit : (text : List ℕ) → begins_with is_digit text ≡ false → prefix_len is_digit text ≡ 0
begins_no_digit [] fails = refl
begins_no_digit (b ∷ text) fails = rw fails refl

-- a digit begins no plain name
no_plain : (b : ℕ) → is_digit b ≡ true → begins_name b ≡ false
unfolding begins_word is_digit
no_plain b digit = ⊎_elim
    (λ (h : begins_name b ≡ true). absurd (false≢true (sym (no_digit b (rw (h, other_than is_digit b 45 refl digit) refl)) ∙ digit)))
    (λ (h : begins_name b ≡ false). h)
    (which (begins_name b))

begins_no_plain : (text : List ℕ) → begins_with is_digit text ≡ true → begins_with begins_name text ≡ false
begins_no_plain [] digit = refl
begins_no_plain (b ∷ text) digit = no_plain b digit

no_plain_name : (text : List ℕ) → begins_with begins_name text ≡ false → IsLongest (λ bytes _. is_plain_name bytes) text 0
unfolding is_plain_name
no_plain_name text fails = begun_none begins_name is_name_byte text fails

pub digits_longest : (text : List ℕ) (n : ℕ) → begins_with is_digit text ≡ true → n ≡ prefix_len is_digit text → IsLongest (λ bytes _. is_name bytes) text n
unfolding is_digit
digits_longest text n digit run = subst (λ (m : ℕ). IsLongest (λ bytes _. is_name bytes) text m) (max-zero (max 0 n) ∙ zero-max n)
    (name_longest text 0 n 0 (no_plain_name text (begins_no_plain text digit)) run (quoted_none text (begins_other is_digit 34 text refl digit)))

pub plain_longest : (text : List ℕ) (n : ℕ) → begins_with is_digit text ≡ false → begins_with begins_name text ≡ true → n ≡ prefix_len is_name_byte text → IsLongest (λ bytes _. is_name bytes) text n
unfolding is_plain_name begins_name is_letter
plain_longest text n no_digits plain run = subst (λ (m : ℕ). IsLongest (λ bytes _. is_name bytes) text m) (max-zero (max n 0) ∙ max-zero n)
    (name_longest text n 0 0
    (subst (λ (m : ℕ). IsLongest (λ bytes _. is_plain_name bytes) text m) (sym run) (begun_longest begins_name is_name_byte text plain))
    (sym (begins_no_digit text no_digits))
    (quoted_none text (begins_other begins_name 34 text refl plain)))

pub quoted_longest : (text : List ℕ) (n : ℕ) → begins_with is_digit text ≡ false → begins_with begins_name text ≡ false → IsLongest (λ bytes _. is_quoted bytes) text n → IsLongest (λ bytes _. is_name bytes) text n
quoted_longest text n no_digits no_plains quoted = subst (λ (m : ℕ). IsLongest (λ bytes _. is_name bytes) text m) (zero-max n)
    (name_longest text 0 0 n (no_plain_name text no_plains) (sym (begins_no_digit text no_digits)) quoted)

-- ---- a text whose first byte is one of names

-- no prefix that is a token of the kind is longer
abbrev pub NoLonger : TokenKind → List ℕ → ℕ → Type 0
NoLonger kind text most = (m : ℕ) → m ≤ length text → spells kind (take m text) (drop m text) ≡ true → m ≤ most

-- no mark begins with a byte of which p holds
no_mark : (p : ℕ → Bool) (text : List ℕ) → list_all (begins_with (λ b. not (p b))) marks ≡ true → begins_with p text ≡ true → IsLongest (spells Mark) text 0
no_mark p text fails first = record {
  within = omega arith;
  found = λ none. absurd (omega arith);
  longest = none;
}
  where
    differ : (text : List ℕ) → begins_with p text ≡ true → begins_with (λ b. not (p b)) text ≡ true → ⊥
    differ [] e f = false≢true e
    differ (b ∷ text) e f = false≢true (rw e at f)

    none : (m : ℕ) → m ≤ length text → is_among marks (take m text) ≡ true → m ≤ 0
    none zero l e = omega arith
    none (suc m) l e = absurd (differ text first (sym (front_begins (λ b. not (p b)) text (suc m) (omega arith)) ∙ among_begins (λ b. not (p b)) marks (take (suc m) text) fails e))

plain_front : (text : List ℕ) (t : TokenKind × ℕ) → begins_with is_name_byte text ≡ true → IsFound text t → NoLonger Label text t.1 → NoLonger Word text t.1 → NoLonger Number text t.1 → IsLongestFront text t.0 t.1
unfolding is_register is_function is_group is_metadata is_name_byte begins_name is_letter is_digit
plain_front text t first h label word number = record { within = h.within; found = h.found; longest = longest }
  where
    other : (c : ℕ) → is_name_byte c ≡ false → begins_with (λ b. eqb b c) text ≡ false
    other c fails = begins_other is_name_byte c text fails first

    none : (passes : List ℕ → List ℕ → Bool) → IsLongest passes text 0 → (m : ℕ) → m ≤ length text → passes (take m text) (drop m text) ≡ true → m ≤ t.1
    none passes k m l e = omega (arith, k.longest m l e)

    longest : (kind : TokenKind) (m : ℕ) → m ≤ length text → spells kind (take m text) (drop m text) ≡ true → m ≤ t.1
    longest End m l e = absurd (false≢true e)
    longest Other m l e = absurd (false≢true e)
    longest Label m l e = label m l e
    longest Word m l e = word m l e
    longest Number m l e = number m l e
    longest Register m l e = none (spells Register) (behind_fails 37 is_name text (other 37 refl)) m l e
    longest Function m l e = none (spells Function) (behind_fails 64 is_name text (other 64 refl)) m l e
    longest Group m l e = none (spells Group) (marked_none 35 is_digit text (other 35 refl)) m l e
    longest Metadata m l e = none (spells Metadata) (behind_fails 33 (list_all is_name_byte) text (other 33 refl)) m l e
    longest Quoted m l e = none (spells Quoted) (quoted_none text (other 34 refl)) m l e
    longest Mark m l e = none (spells Mark) (no_mark is_name_byte text refl first) m l e

pub label_front : (text : List ℕ) (n : ℕ) → begins_with is_name_byte text ≡ true → IsLongest (λ bytes _. is_name bytes) text n → IsLongest (spells Label) text (n + 1) → IsLongestFront text Label (n + 1)
label_front text n first h k = plain_front text (Label, n + 1) first (found_as Label text (n + 1) k) k.longest
    (λ m l e. omega (arith, h.longest m l (word_is_name (take m text) e)))
    (λ m l e. omega (arith, h.longest m l (number_is_name (take m text) (drop m text) e)))

pub word_front : (text : List ℕ) (n : ℕ) → begins_with is_name_byte text ≡ true → begins_with begins_word text ≡ true → IsLongest (λ bytes _. is_name bytes) text n → IsLongest (spells Label) text 0 → IsLongestFront text Word n
unfolding is_word
word_front text n first begins h k = plain_front text (Word, n) first (record { within = h.within; found = found })
    (λ m l e. omega (arith, k.longest m l e))
    (λ m l e. h.longest m l (word_is_name (take m text) e))
    (λ m l e. h.longest m l (number_is_name (take m text) (drop m text) e))
  where
    found : 0 < n → is_word (take n text) ≡ true
    found some = and_both (begins_with begins_word (take n text)) (list_all is_name_byte (take n text))
        (front_begins begins_word text n some ∙ begins)
        (name_bytes (take n text) (front_begins is_name_byte text n some ∙ first) (h.found some))

pub number_front : (text : List ℕ) (n : ℕ) → begins_with is_name_byte text ≡ true → begins_with begins_word text ≡ false → IsLongest (spells Number) text n → IsLongest (spells Label) text 0 → IsLongestFront text Number n
unfolding is_word
number_front text n first begins h k = plain_front text (Number, n) first (found_as Number text n h)
    (λ m l e. omega (arith, k.longest m l e))
    (λ m l e. omega (arith, (begun_none begins_word is_name_byte text begins).longest m l e))
    h.longest

-- bytes of names may stand between quotes
name_quotable : (b : ℕ) → is_name_byte b ≡ true → is_quotable b ≡ true
unfolding is_quotable is_name_byte begins_name is_letter is_digit
name_quotable b e = rw (other_than is_name_byte b 34 refl e, other_than is_name_byte b 10 refl e) refl

pub plain_quotable : (text : List ℕ) (n : ℕ) → begins_with is_name_byte text ≡ true → (0 < n → is_name (take n text) ≡ true) → list_all is_quotable (take n text) ≡ true
plain_quotable text zero first name = refl
plain_quotable text (suc n) first name = list_all-along is_name_byte is_quotable (take (suc n) text) name_quotable
    (name_bytes (take (suc n) text) (front_begins is_name_byte text (suc n) (omega arith) ∙ first) (name (omega arith)))

pub label_quotable : (text : List ℕ) (n : ℕ) → begins_with is_name_byte text ≡ true → IsLongest (λ bytes _. is_name bytes) text n → begins_with (λ b. eqb b 58) (drop n text) ≡ true → list_all is_quotable (take (n + 1) text) ≡ true
unfolding is_quotable
label_quotable text n first h colon =
    let more : n < length text = omega (arith, begins_some (λ b. eqb b 58) (drop n text) colon, length-drop n text) in
    let byte : get_or text n 0 ≡ 58 = eqb-true (get_or text n 0) 58 (sym (at_drop_more (begins_with (λ b. eqb b 58)) text n 0 more) ∙ colon) in
    list_all_more is_quotable text n 0 more ∙ and_both (list_all is_quotable (take n text)) (is_quotable (get_or text n 0)) (plain_quotable text n first h.found) (ap is_quotable byte)

pub number_quotable : (text : List ℕ) (n : ℕ) → begins_with is_name_byte text ≡ true → IsLongest (spells Number) text n → list_all is_quotable (take n text) ≡ true
number_quotable text n first h = plain_quotable text n first (λ some. number_is_name (take n text) (drop n text) (h.found some))

-- bytes that may all stand between quotes hold no quotes, so no byte 0 in quotes
pub quotable_holds_none : (bytes : List ℕ) → list_all is_quotable bytes ≡ true → HoldsZero bytes → ⊥
quotable_holds_none bytes all holds = short_holds_none [] (omega arith) (subst (λ (inner : List ℕ). Contains (unquoted inner) 0) (nothing bytes (no_quotes bytes all)) holds)
  where
    whole : (bytes : List ℕ) → list_all (λ b. not (eqb b 34)) bytes ≡ true → prefix_len (λ b. not (eqb b 34)) bytes ≡ length bytes
    whole [] all = refl
    whole (b ∷ bytes) all = rw (and_left (not (eqb b 34)) (list_all (λ b. not (eqb b 34)) bytes) all) (let more : prefix_len (λ b. not (eqb b 34)) bytes ≡ length bytes = whole bytes (and_right (not (eqb b 34)) (list_all (λ b. not (eqb b 34)) bytes) all) in omega arith)

    nothing : (bytes : List ℕ) → list_all (λ b. not (eqb b 34)) bytes ≡ true → in_quotes bytes ≡ in_quotes []
    nothing bytes all = ap (λ (inner : List ℕ). take (prefix_len (λ b. not (eqb b 34)) inner) inner) (drop_all (prefix_len (λ b. not (eqb b 34)) bytes + 1) bytes (omega (arith, whole bytes all)))

pub names_stand : (text : List ℕ) → begins_with is_name_byte text ≡ true → begins_with is_bad text ≡ false
unfolding is_name_byte is_good
names_stand [] e = refl
names_stand (b ∷ text) e = ⊎_elim
    (λ (h : is_bad b ≡ true). absurd (false≢true (rw h at (good b e))))
    (λ (h : is_bad b ≡ false). h)
    (which (is_bad b))
  where
    good : (b : ℕ) → is_name_byte b ≡ true → is_good b ≡ true
    good b e = ⊎_elim (name_byte_good b) (digit_good b) (or_true (begins_name b) (is_digit b) e)

pub zero_badly : (text : List ℕ) (kind : TokenKind) (n : ℕ) → IsLongestFront text kind n → HoldsZero (take n text) → BeginsBadly text
zero_badly text kind zero h holds = absurd (short_holds_none [] (omega arith) holds)
zero_badly text kind (suc n) h holds = inr (kind, suc n, longest_token text kind (suc n) h (omega arith), holds)

-- ---- a text whose first byte is none of names

pub no_word : (text : List ℕ) → begins_with is_name_byte text ≡ false → IsLongest (spells Word) text 0
unfolding is_word is_name_byte begins_word
no_word text fails = begun_none begins_word is_name_byte text (no_begin text fails)
  where
    no_begin : (text : List ℕ) → begins_with is_name_byte text ≡ false → begins_with begins_word text ≡ false
    no_begin [] fails = refl
    no_begin (b ∷ text) fails = ⊎_elim
        (λ (h : begins_name b ≡ true). absurd (false≢true (sym fails ∙ or_left (begins_name b) (is_digit b) h)))
        (λ (h : begins_name b ≡ false). rw h refl)
        (which (begins_name b))

pub no_number : (text : List ℕ) → begins_with is_name_byte text ≡ false → IsLongest (spells Number) text 0
no_number text fails = record {
  within = omega arith;
  found = λ none. absurd (omega arith);
  longest = λ m l e. omega (arith, (number_run text m l e).0, no_run text fails);
}
  where
    no_run : (text : List ℕ) → begins_with is_name_byte text ≡ false → prefix_len is_name_byte text ≡ 0
    no_run [] fails = refl
    no_run (b ∷ text) fails = rw fails refl

-- a text that begins with the byte c, of which p fails
no_other : (p : ℕ → Bool) (c : ℕ) (text : List ℕ) → p c ≡ false → begins_with (λ b. eqb b c) text ≡ true → begins_with p text ≡ false
no_other p c [] fails e = refl
no_other p c (b ∷ text) fails e = ap p (eqb-true b c e) ∙ fails

pub no_label : (text : List ℕ) → begins_with is_name_byte text ≡ false → begins_with (λ b. eqb b 34) text ≡ false → IsLongest (spells Label) text 0
unfolding is_plain_name is_name_byte
no_label text fails no_quote = label_none text 0 (inl refl) (name_longest text 0 0 0
    (begun_none begins_name is_name_byte text (weaker begins_name text (λ b e. or_left (begins_name b) (is_digit b) e) fails))
    (sym (no_run text (weaker is_digit text (λ b e. or_right (begins_name b) (is_digit b) e) fails)))
    (quoted_none text no_quote))
  where
    weaker : (p : ℕ → Bool) (text : List ℕ) → ((b : ℕ) → p b ≡ true → is_name_byte b ≡ true) → begins_with is_name_byte text ≡ false → begins_with p text ≡ false
    weaker p [] along fails = refl
    weaker p (b ∷ text) along fails = ⊎_elim
        (λ (h : p b ≡ true). absurd (false≢true (sym fails ∙ along b h)))
        (λ (h : p b ≡ false). h)
        (which (p b))

    no_run : (text : List ℕ) → begins_with is_digit text ≡ false → prefix_len is_digit text ≡ 0
    no_run [] fails = refl
    no_run (b ∷ text) fails = rw fails refl

pub quote_front : (text : List ℕ) (t : TokenKind × ℕ) → begins_with (λ b. eqb b 34) text ≡ true → IsFound text t → AtMost (spells Label) text t.1 → AtMost (spells Quoted) text t.1 → IsLongestFront text t.0 t.1
unfolding is_register is_function is_group is_metadata is_name_byte begins_name is_letter is_digit
quote_front text t quote h label quoted =
    let no_name : begins_with is_name_byte text ≡ false = no_other is_name_byte 34 text refl quote in
    longest_front text t h (record {
      label = label;
      word = record { length_of = 0; longest = no_word text no_name; fits = omega arith };
      number = record { length_of = 0; longest = no_number text no_name; fits = omega arith };
      register = record { length_of = 0; longest = behind_fails 37 is_name text (no_other (λ b. eqb b 37) 34 text refl quote); fits = omega arith };
      function = record { length_of = 0; longest = behind_fails 64 is_name text (no_other (λ b. eqb b 64) 34 text refl quote); fits = omega arith };
      group = record { length_of = 0; longest = marked_none 35 is_digit text (no_other (λ b. eqb b 35) 34 text refl quote); fits = omega arith };
      metadata = record { length_of = 0; longest = behind_fails 33 (list_all is_name_byte) text (no_other (λ b. eqb b 33) 34 text refl quote); fits = omega arith };
      quoted = quoted;
      mark = record { length_of = 0; longest = no_mark (λ b. eqb b 34) text refl quote; fits = omega arith };
    })

-- ---- a text whose first byte is neither one of names nor a quote

none_longer : (passes : List ℕ → List ℕ → Bool) (text : List ℕ) (most : ℕ) → IsLongest passes text 0 → AtMost passes text most
none_longer passes text most h = record { length_of = 0; longest = h; fits = omega arith }

pub itself : (passes : List ℕ → List ℕ → Bool) (text : List ℕ) (n : ℕ) → IsLongest passes text n → AtMost passes text n
itself passes text n h = record { length_of = n; longest = h; fits = omega arith }

-- for each kind of token that begins with a mark, none is longer than `most`
record MarkedAtMost (text : List ℕ) (most : ℕ) : Type 0 where
  register : AtMost (spells Register) text most
  function : AtMost (spells Function) text most
  group : AtMost (spells Group) text most
  metadata : AtMost (spells Metadata) text most
  mark : AtMost (spells Mark) text most

marked_front : (text : List ℕ) (t : TokenKind × ℕ) → begins_with is_name_byte text ≡ false → begins_with (λ b. eqb b 34) text ≡ false → IsFound text t → MarkedAtMost text t.1 → IsLongestFront text t.0 t.1
marked_front text t no_name no_quote h marked = longest_front text t h (record {
  label = none_longer (spells Label) text t.1 (no_label text no_name no_quote);
  word = none_longer (spells Word) text t.1 (no_word text no_name);
  number = none_longer (spells Number) text t.1 (no_number text no_name);
  register = marked.register;
  function = marked.function;
  group = marked.group;
  metadata = marked.metadata;
  quoted = none_longer (spells Quoted) text t.1 (quoted_none text no_quote);
  mark = marked.mark;
})

-- of the kinds that begin with another byte than the text, no token is longer
no_register : (text : List ℕ) (most : ℕ) → begins_with (λ b. eqb b 37) text ≡ false → AtMost (spells Register) text most
unfolding is_register
no_register text most e = none_longer (spells Register) text most (behind_fails 37 is_name text e)

no_function : (text : List ℕ) (most : ℕ) → begins_with (λ b. eqb b 64) text ≡ false → AtMost (spells Function) text most
unfolding is_function
no_function text most e = none_longer (spells Function) text most (behind_fails 64 is_name text e)

no_group : (text : List ℕ) (most : ℕ) → begins_with (λ b. eqb b 35) text ≡ false → AtMost (spells Group) text most
unfolding is_group
no_group text most e = none_longer (spells Group) text most (marked_none 35 is_digit text e)

no_metadata : (text : List ℕ) (most : ℕ) → begins_with (λ b. eqb b 33) text ≡ false → AtMost (spells Metadata) text most
unfolding is_metadata
no_metadata text most e = none_longer (spells Metadata) text most (behind_fails 33 (list_all is_name_byte) text e)

pub register_front : (text : List ℕ) (n : ℕ) → begins_with is_name_byte text ≡ false → begins_with (λ b. eqb b 34) text ≡ false → begins_with (λ b. eqb b 37) text ≡ true → IsLongest (spells Register) text n → IsLongestFront text Register n
register_front text n no_name no_quote first h = marked_front text (Register, n) no_name no_quote (found_as Register text n h) (record {
  register = itself (spells Register) text n h;
  function = no_function text n (no_other (λ b. eqb b 64) 37 text refl first);
  group = no_group text n (no_other (λ b. eqb b 35) 37 text refl first);
  metadata = no_metadata text n (no_other (λ b. eqb b 33) 37 text refl first);
  mark = none_longer (spells Mark) text n (no_mark (λ b. eqb b 37) text refl first);
})

pub function_front : (text : List ℕ) (n : ℕ) → begins_with is_name_byte text ≡ false → begins_with (λ b. eqb b 34) text ≡ false → begins_with (λ b. eqb b 64) text ≡ true → IsLongest (spells Function) text n → IsLongestFront text Function n
function_front text n no_name no_quote first h = marked_front text (Function, n) no_name no_quote (found_as Function text n h) (record {
  register = no_register text n (no_other (λ b. eqb b 37) 64 text refl first);
  function = itself (spells Function) text n h;
  group = no_group text n (no_other (λ b. eqb b 35) 64 text refl first);
  metadata = no_metadata text n (no_other (λ b. eqb b 33) 64 text refl first);
  mark = none_longer (spells Mark) text n (no_mark (λ b. eqb b 64) text refl first);
})

pub metadata_front : (text : List ℕ) (n : ℕ) → begins_with is_name_byte text ≡ false → begins_with (λ b. eqb b 34) text ≡ false → begins_with (λ b. eqb b 33) text ≡ true → IsLongest (spells Metadata) text n → IsLongestFront text Metadata n
metadata_front text n no_name no_quote first h = marked_front text (Metadata, n) no_name no_quote (found_as Metadata text n h) (record {
  register = no_register text n (no_other (λ b. eqb b 37) 33 text refl first);
  function = no_function text n (no_other (λ b. eqb b 64) 33 text refl first);
  group = no_group text n (no_other (λ b. eqb b 35) 33 text refl first);
  metadata = itself (spells Metadata) text n h;
  mark = none_longer (spells Mark) text n (no_mark (λ b. eqb b 33) text refl first);
})

pub group_front : (text : List ℕ) (t : TokenKind × ℕ) → begins_with is_name_byte text ≡ false → begins_with (λ b. eqb b 34) text ≡ false → begins_with (λ b. eqb b 35) text ≡ true → IsFound text t → AtMost (spells Group) text t.1 → AtMost (spells Mark) text t.1 → IsLongestFront text t.0 t.1
group_front text t no_name no_quote first h group mark = marked_front text t no_name no_quote h (record {
  register = no_register text t.1 (no_other (λ b. eqb b 37) 35 text refl first);
  function = no_function text t.1 (no_other (λ b. eqb b 64) 35 text refl first);
  group = group;
  metadata = no_metadata text t.1 (no_other (λ b. eqb b 33) 35 text refl first);
  mark = mark;
})

pub mark_front : (text : List ℕ) (n : ℕ) → begins_with is_name_byte text ≡ false → begins_with (λ b. eqb b 34) text ≡ false → begins_with (λ b. eqb b 37) text ≡ false → begins_with (λ b. eqb b 64) text ≡ false → begins_with (λ b. eqb b 33) text ≡ false → begins_with (λ b. eqb b 35) text ≡ false → IsLongest (spells Mark) text n → IsLongestFront text Mark n
mark_front text n no_name no_quote no_37 no_64 no_33 no_35 h = marked_front text (Mark, n) no_name no_quote (found_as Mark text n h) (record {
  register = no_register text n no_37;
  function = no_function text n no_64;
  group = no_group text n no_35;
  metadata = no_metadata text n no_33;
  mark = itself (spells Mark) text n h;
})

-- ---- quotes of a token stand only where one of the first two bytes is a quote

digits_quotable : (bytes : List ℕ) → is_run is_digit bytes ≡ true → list_all is_quotable bytes ≡ true
digits_quotable bytes i = list_all-along is_digit is_quotable bytes (λ b d. name_quotable b (digit_name b d)) (and_right (begins_with is_digit bytes) (list_all is_digit bytes) i)

-- a name that begins with no quote has none
no_quoted_name : (bytes : List ℕ) → begins_with (λ b. eqb b 34) bytes ≡ false → is_name bytes ≡ true → list_all is_quotable bytes ≡ true
no_quoted_name bytes no_quote e = ⊎_elim
    (λ (i : (begins_with begins_name bytes && list_all is_name_byte bytes) ≡ true). list_all-along is_name_byte is_quotable bytes name_quotable (and_right (begins_with begins_name bytes) (list_all is_name_byte bytes) i))
    (λ (o : (is_run is_digit bytes ≡ true) ⊎ (is_quoted bytes ≡ true)). ⊎_elim
    (λ (i : is_run is_digit bytes ≡ true). digits_quotable bytes i)
    (λ (i : is_quoted bytes ≡ true). absurd (false≢true (sym no_quote ∙ ap (begins_with (λ b. eqb b 34)) (quoted_is bytes i).0)))
    o)
    (name_cases bytes e)

-- the byte c, which is no quote, and behind it bytes that pass a test
behind_quotable : (c : ℕ) (test : List ℕ → Bool) (bytes : List ℕ) → is_quotable c ≡ true → begins_with (λ b. eqb b 34) (drop 1 bytes) ≡ false → ((rest : List ℕ) → begins_with (λ b. eqb b 34) rest ≡ false → test rest ≡ true → list_all is_quotable rest ≡ true) → is_behind c test bytes ≡ true → list_all is_quotable bytes ≡ true
behind_quotable c test [] good no_quote along e = refl
behind_quotable c test (b ∷ rest) good no_quote along e = and_both (is_quotable b) (list_all is_quotable rest)
    (ap is_quotable (eqb-true b c (and_left (eqb b c) (test rest) e)) ∙ good)
    (along rest no_quote (and_right (eqb b c) (test rest) e))

group_quotable : (bytes : List ℕ) → is_group bytes ≡ true → list_all is_quotable bytes ≡ true
unfolding is_group is_quotable
group_quotable [] e = refl
group_quotable (b ∷ digits) e = and_both (is_quotable b) (list_all is_quotable digits)
    (ap is_quotable (eqb-true b 35 (and_left (eqb b 35) (is_run is_digit digits) e)))
    (digits_quotable digits (and_right (eqb b 35) (is_run is_digit digits) e))

among_all : (test : List ℕ → Bool) (words : List (List ℕ)) (bytes : List ℕ) → list_all test words ≡ true → is_among words bytes ≡ true → test bytes ≡ true
among_all test [] bytes all e = absurd (false≢true e)
among_all test (word ∷ words) bytes all e = ⊎_elim
    (λ (h : bytes_eq bytes word ≡ true). ap test ((bytes_eq-Decides bytes word).0 h) ∙ and_left (test word) (list_all test words) all)
    (λ (h : is_among words bytes ≡ true). among_all test words bytes (and_right (test word) (list_all test words) all) h)
    (or_true (bytes_eq bytes word) (is_among words bytes) e)

second_taken : (text : List ℕ) (n : ℕ) → begins_with (λ b. eqb b 34) (drop 1 text) ≡ false → begins_with (λ b. eqb b 34) (drop 1 (take (suc n) text)) ≡ false
second_taken [] n e = refl
second_taken (b ∷ text) zero e = refl
second_taken (b ∷ text) (suc n) e = front_begins (λ c. eqb c 34) text (suc n) (omega arith) ∙ e

pub early_quotes : (text : List ℕ) (kind : TokenKind) (n : ℕ) → begins_with is_name_byte text ≡ false → begins_with (λ b. eqb b 34) text ≡ false → begins_with (λ b. eqb b 34) (drop 1 text) ≡ false → IsLongestFront text kind n → HoldsZero (take n text) → ⊥
unfolding is_register is_function is_metadata is_quotable
early_quotes text kind zero no_name first second h holds = short_holds_none [] (omega arith) holds
early_quotes text kind (suc n) no_name first second h holds = quotable_holds_none (take (suc n) text) (quotable kind (h.found (omega arith))) holds
  where
    none : (passes : List ℕ → List ℕ → Bool) → IsLongest passes text 0 → passes (take (suc n) text) (drop (suc n) text) ≡ true → list_all is_quotable (take (suc n) text) ≡ true
    none passes k e = absurd (let le : suc n ≤ 0 = k.longest (suc n) h.within e in omega arith)

    quotable : (kind : TokenKind) → spells kind (take (suc n) text) (drop (suc n) text) ≡ true → list_all is_quotable (take (suc n) text) ≡ true
    quotable End e = absurd (false≢true e)
    quotable Other e = absurd (false≢true e)
    quotable Label e = none (spells Label) (no_label text no_name first) e
    quotable Word e = none (spells Word) (no_word text no_name) e
    quotable Number e = none (spells Number) (no_number text no_name) e
    quotable Register e = behind_quotable 37 is_name (take (suc n) text) refl (second_taken text n second) no_quoted_name e
    quotable Function e = behind_quotable 64 is_name (take (suc n) text) refl (second_taken text n second) no_quoted_name e
    quotable Group e = group_quotable (take (suc n) text) e
    quotable Metadata e = behind_quotable 33 (list_all is_name_byte) (take (suc n) text) refl (second_taken text n second) (λ names _ all. list_all-along is_name_byte is_quotable names name_quotable all) e
    quotable Quoted e = none (spells Quoted) (quoted_none text first) e
    quotable Mark e = among_all (list_all is_quotable) marks (take (suc n) text) refl e

pub no_early_quote : (text : List ℕ) (kind : TokenKind) (n : ℕ) → begins_with is_name_byte text ≡ false → (begins_with (λ b. eqb b 34) text || begins_with (λ b. eqb b 34) (drop 1 text)) ≡ false → IsLongestFront text kind n → HoldsZero (take n text) → ⊥
no_early_quote text kind n no_name no_quote h holds = early_quotes text kind n no_name
    (neither (begins_with (λ b. eqb b 34) text) (begins_with (λ b. eqb b 34) (drop 1 text)) no_quote).0
    (neither (begins_with (λ b. eqb b 34) text) (begins_with (λ b. eqb b 34) (drop 1 text)) no_quote).1
    h holds
  where
    neither : (a b : Bool) → (a || b) ≡ false → (a ≡ false) × (b ≡ false)
    neither true b e = absurd (false≢true (sym e))
    neither false b e = (refl, e)
