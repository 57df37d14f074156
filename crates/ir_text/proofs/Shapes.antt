-- The shapes of tokens; only bytes of names and `:` can continue a token.
use Rattle.ir_text.proofs.Common.{◌≡◌, ◌≢◌, ℕ, suc, ◌-◌, Bool, true, false, not, eqb, ◌&&◌, ◌||◌, List, [], ◌∷◌, ◌++◌, length, get_or, take, refl, sym, ap, subst, ◌∙◌, ◌⊎◌, ⊎_elim, append_assoc, eqb-true, arith, AllByRecursion, list_all, list_any, bytes_eq, false≢true, list_all-append, bytes_eq-Decides, TokenKind, begins_name, begins_with, begins_word, is_digit, is_letter, is_name_byte, is_run, is_behind, is_function, is_group, is_label, is_metadata, is_name, is_register, is_word, marks, spells, in_quotes, is_quotable, is_quoted, is_among, is_literal, and_both, and_left, and_right, or_true, which, digit_name, list_all-along, literal_names, spells-empty, name_cases, quoted_is, goes_on}
use Rattle.scan.specs.declared.ir.token.TokenKind.TheVariants as kinds
use Rattle.scan.specs.IrTokens.{is_number}

-- ---- bytes

-- a byte is among these
abbrev pub is_one_of : List ℕ → ℕ → Bool
is_one_of bytes b = list_any (λ c. eqb b c) bytes

-- the marks that end by themselves
abbrev lone_marks : List ℕ
lone_marks = 61 ∷ 44 ∷ 40 ∷ 41 ∷ 123 ∷ 125 ∷ 91 ∷ 93 ∷ 60 ∷ []

abbrev pub is_lone : ℕ → Bool
is_lone b = is_one_of lone_marks b

-- `%` or `@`
abbrev sigils : List ℕ
sigils = 37 ∷ 64 ∷ []

abbrev pub is_sigil : ℕ → Bool
is_sigil b = is_one_of sigils b

-- a run begins with it: a byte of names, a sigil, `!` or `#`
abbrev pub is_lead : ℕ → Bool
is_lead b = is_name_byte b || is_one_of (33 ∷ 35 ∷ 37 ∷ 64 ∷ []) b

-- a predicate that holds of each of some bytes holds of one of them
of_one_of : (P : ℕ → Type 0) (bytes : List ℕ) (b : ℕ) → AllByRecursion P bytes → is_one_of bytes b ≡ true → P b
of_one_of P [] b all e = absurd (false≢true e)
of_one_of P (c ∷ bytes) b all e = ⊎_elim
    (λ (h : eqb b c ≡ true). subst P (sym (eqb-true b c h)) all.0)
    (λ (h : is_one_of bytes b ≡ true). of_one_of P bytes b all.1 h)
    (or_true (eqb b c) (is_one_of bytes b) e)

pub lone_no_lead : (b : ℕ) → is_lone b ≡ true → is_lead b ≡ false
unfolding is_name_byte begins_name is_letter is_digit
lone_no_lead b e = of_one_of (λ c. is_lead c ≡ false) lone_marks b (refl, (refl, (refl, (refl, (refl, (refl, (refl, (refl, (refl, tt))))))))) e

sigil_is_lead : (b : ℕ) → is_sigil b ≡ true → is_lead b ≡ true
unfolding is_name_byte begins_name is_letter is_digit
sigil_is_lead b e = of_one_of (λ c. is_lead c ≡ true) sigils b (refl, (refl, tt)) e

name_byte_no_sigil : (b : ℕ) → is_name_byte b ≡ true → is_sigil b ≡ false
unfolding is_name_byte begins_name is_letter is_digit
name_byte_no_sigil b e = ⊎_elim
    (λ (h : is_sigil b ≡ true). absurd (false≢true (sym (of_one_of (λ c. is_name_byte c ≡ false) sigils b (refl, (refl, tt)) h) ∙ e)))
    (λ (h : is_sigil b ≡ false). h)
    (which (is_sigil b))

-- two bytes differ if only one of them passes a test
pub differs : (p : ℕ → Bool) (b c : ℕ) → p b ≡ true → p c ≡ false → b ≢ c
differs p b c e fails same = false≢true (sym fails ∙ ap p (sym same) ∙ e)

quote_no_lead : is_lead 34 ≡ false
unfolding is_name_byte begins_name is_letter is_digit
quote_no_lead = refl

pub feed_no_lead : is_lead 10 ≡ false
unfolding is_name_byte begins_name is_letter is_digit
feed_no_lead = refl

pub name_goes_on : (b : ℕ) → is_name_byte b ≡ true → goes_on b ≡ true
name_goes_on b e = rw e refl

pub quote_goes_not_on : goes_on 34 ≡ false
unfolding is_name_byte begins_name is_letter is_digit
quote_goes_not_on = refl

pub feed_goes_not_on : goes_on 10 ≡ false
unfolding is_name_byte begins_name is_letter is_digit
feed_goes_not_on = refl

pub names_go_on : (bytes : List ℕ) → list_all is_name_byte bytes ≡ true → list_all goes_on bytes ≡ true
names_go_on bytes all = list_all-along is_name_byte goes_on bytes name_goes_on all

-- ---- shapes

-- What the bytes of a token look like: a byte and then bytes of names and `:`; one mark; or a quoted text, with a sigil
-- before it, with `:` behind it or with neither.
pub data IsShaped (bytes : List ℕ) : Type 0 where
  run : (b : ℕ) (more : List ℕ) → bytes ≡ b ∷ more → is_lead b ≡ true → list_all goes_on more ≡ true → (more ≡ [] → is_sigil b ≡ false) → IsShaped bytes
  lone : (b : ℕ) → bytes ≡ b ∷ [] → is_lone b ≡ true → IsShaped bytes
  quoted : (inner behind : List ℕ) → bytes ≡ 34 ∷ (inner ++ 34 ∷ behind) → list_all is_quotable inner ≡ true → list_all goes_on behind ≡ true → IsShaped bytes
  sigiled : (b : ℕ) (inner : List ℕ) → bytes ≡ b ∷ 34 ∷ (inner ++ 34 ∷ []) → is_sigil b ≡ true → list_all is_quotable inner ≡ true → IsShaped bytes

head_is : (a b : ℕ) (xs ys : List ℕ) → a ∷ xs ≡ b ∷ ys → a ≡ b
head_is a b xs ys e = cc

tail_is : (a b : ℕ) (xs ys : List ℕ) → a ∷ xs ≡ b ∷ ys → xs ≡ ys
tail_is a b xs ys e = cc

-- what stands behind the first quote of equal texts is equal
until_quote : (a b x y : List ℕ) → list_all is_quotable a ≡ true → list_all is_quotable b ≡ true → a ++ 34 ∷ x ≡ b ++ 34 ∷ y → x ≡ y
unfolding is_quotable
until_quote [] [] x y all every e = cc
until_quote [] (c ∷ b) x y all every e = absurd (differs is_quotable c 34 (and_left (is_quotable c) (list_all is_quotable b) every) refl (cc))
until_quote (c ∷ a) [] x y all every e = absurd (differs is_quotable c 34 (and_left (is_quotable c) (list_all is_quotable a) all) refl (cc))
until_quote (c ∷ a) (d ∷ b) x y all every e =
    until_quote a b x y (and_right (is_quotable c) (list_all is_quotable a) all) (and_right (is_quotable d) (list_all is_quotable b) every) (tail_is c d _ _ e)

-- a token has at least one byte
record HasByte (bytes : List ℕ) : Type 0 where
  first : ℕ
  others : List ℕ
  is : bytes ≡ first ∷ others

has_byte : {bytes : List ℕ} → IsShaped bytes → HasByte bytes
has_byte (run b more e lead all single) = record { first = b; others = more; is = e }
has_byte (lone b e is) = record { first = b; others = []; is = e }
has_byte (quoted inner behind e all on) = record { first = 34; others = inner ++ 34 ∷ behind; is = e }
has_byte (sigiled b inner e sigil all) = record { first = b; others = 34 ∷ (inner ++ 34 ∷ []); is = e }

behind_run : (bytes more others : List ℕ) → bytes ++ more ≡ others → list_all goes_on others ≡ true → list_all goes_on more ≡ true
behind_run bytes more others e all = and_right (list_all goes_on bytes) (list_all goes_on more) (sym (list_all-append goes_on bytes more) ∙ ap (list_all goes_on) e ∙ all)

-- no run begins with a quote, and a token that begins with one ends behind the next
goes_on_quoted : (inner behind bytes more : List ℕ) → bytes ++ more ≡ 34 ∷ (inner ++ 34 ∷ behind) → list_all is_quotable inner ≡ true → list_all goes_on behind ≡ true → IsShaped bytes → list_all goes_on more ≡ true
goes_on_quoted inner behind bytes more whole all on (run b others e lead goes single) =
    absurd (differs is_lead b 34 lead quote_no_lead (head_is b 34 _ _ (ap (λ (front : List ℕ). front ++ more) (sym e) ∙ whole)))
goes_on_quoted inner behind bytes more whole all on (lone b e is) =
    absurd (differs is_lone b 34 is refl (head_is b 34 _ _ (ap (λ (front : List ℕ). front ++ more) (sym e) ∙ whole)))
goes_on_quoted inner behind bytes more whole all on (quoted other past e every goes) =
    behind_run past more behind (until_quote other inner (past ++ more) behind every all
    (tail_is 34 34 _ _ (ap (λ (front : List ℕ). 34 ∷ front) (sym (append_assoc other (34 ∷ past) more)) ∙ ap (λ (front : List ℕ). front ++ more) (sym e) ∙ whole))) on
goes_on_quoted inner behind bytes more whole all on (sigiled b other e sigil every) =
    absurd (differs is_sigil b 34 sigil refl (head_is b 34 _ _ (ap (λ (front : List ℕ). front ++ more) (sym e) ∙ whole)))

goes_on_sigiled : (c : ℕ) (inner bytes more : List ℕ) → bytes ++ more ≡ c ∷ 34 ∷ (inner ++ 34 ∷ []) → is_sigil c ≡ true → list_all is_quotable inner ≡ true → IsShaped bytes → list_all goes_on more ≡ true
goes_on_sigiled c inner bytes more whole sigil all (run b [] e lead goes single) =
    absurd (false≢true (sym (single refl) ∙ ap is_sigil (head_is b c _ _ (ap (λ (front : List ℕ). front ++ more) (sym e) ∙ whole)) ∙ sigil))
goes_on_sigiled c inner bytes more whole sigil all (run b (d ∷ others) e lead goes single) =
    absurd (differs goes_on d 34 (and_left (goes_on d) (list_all goes_on others) goes) quote_goes_not_on (head_is d 34 _ _ (tail_is b c _ _ (ap (λ (front : List ℕ). front ++ more) (sym e) ∙ whole))))
goes_on_sigiled c inner bytes more whole sigil all (lone b e is) =
    absurd (false≢true (sym (lone_no_lead b is) ∙ ap is_lead (head_is b c _ _ (ap (λ (front : List ℕ). front ++ more) (sym e) ∙ whole)) ∙ sigil_is_lead c sigil))
goes_on_sigiled c inner bytes more whole sigil all (quoted other past e every goes) =
    absurd (differs is_sigil c 34 sigil refl (sym (head_is 34 c _ _ (ap (λ (front : List ℕ). front ++ more) (sym e) ∙ whole))))
goes_on_sigiled c inner bytes more whole sigil all (sigiled b other e is every) =
    ap (list_all goes_on) (until_quote other inner more [] every all (tail_is 34 34 _ _ (tail_is b c _ _
    (ap (λ (front : List ℕ). b ∷ 34 ∷ front) (sym (append_assoc other (34 ∷ []) more)) ∙ ap (λ (front : List ℕ). front ++ more) (sym e) ∙ whole))))

-- bytes that make a token a longer token are bytes of names and `:`
pub longer_by : (bytes more : List ℕ) → IsShaped (bytes ++ more) → IsShaped bytes → list_all goes_on more ≡ true
longer_by bytes more (run b others e lead all single) front =
    let h : HasByte bytes = has_byte front in
    behind_run h.others more others (tail_is h.first b _ _ (ap (λ (f : List ℕ). f ++ more) (sym h.is) ∙ e)) all
longer_by bytes more (lone b e is) front =
    let h : HasByte bytes = has_byte front in
    behind_run h.others more [] (tail_is h.first b _ _ (ap (λ (f : List ℕ). f ++ more) (sym h.is) ∙ e)) refl
longer_by bytes more (quoted inner behind e all on) front = goes_on_quoted inner behind bytes more e all on front
longer_by bytes more (sigiled b inner e sigil all) front = goes_on_sigiled b inner bytes more e sigil all front

-- no token of more bytes begins with a mark that ends by itself
pub lone_ends : (b c : ℕ) (more : List ℕ) → is_lone b ≡ true → IsShaped (b ∷ c ∷ more) → ⊥
lone_ends b c more is (run d others e lead all single) = false≢true (sym (lone_no_lead b is) ∙ ap is_lead (head_is b d _ _ e) ∙ lead)
lone_ends b c more is (lone d e other) = absurd (cc)
lone_ends b c more is (quoted inner behind e all on) = differs is_lone b 34 is refl (head_is b 34 _ _ e)
lone_ends b c more is (sigiled d inner e sigil all) = false≢true (sym (lone_no_lead b is) ∙ ap is_lead (head_is b d _ _ e) ∙ sigil_is_lead d sigil)

-- ---- each token has a shape

names_shaped : (bytes : List ℕ) → bytes ≢ [] → list_all is_name_byte bytes ≡ true → IsShaped bytes
names_shaped [] some all = absurd (some refl)
names_shaped (b ∷ bytes) some all =
    let name : is_name_byte b ≡ true = and_left (is_name_byte b) (list_all is_name_byte bytes) all in
    run b bytes refl (rw name refl) (names_go_on bytes (and_right (is_name_byte b) (list_all is_name_byte bytes) all)) (λ none. name_byte_no_sigil b name)

-- a name is bytes of names, or quoted
pub data NameShape (name : List ℕ) : Type 0 where
  plain : name ≢ [] → list_all is_name_byte name ≡ true → NameShape name
  in_pair : (inner : List ℕ) → name ≡ 34 ∷ (inner ++ 34 ∷ []) → list_all is_quotable inner ≡ true → NameShape name

is_some : (p : ℕ → Bool) (bytes : List ℕ) → begins_with p bytes ≡ true → bytes ≢ []
is_some p bytes e none = false≢true (sym (ap (begins_with p) none) ∙ e)

pub name_shape : (name : List ℕ) → is_name name ≡ true → NameShape name
name_shape name e = ⊎_elim
    (λ (h : (begins_with begins_name name && list_all is_name_byte name) ≡ true).
    plain (is_some begins_name name (and_left (begins_with begins_name name) (list_all is_name_byte name) h)) (and_right (begins_with begins_name name) (list_all is_name_byte name) h))
    (λ (o : (is_run is_digit name ≡ true) ⊎ (is_quoted name ≡ true)). ⊎_elim
    (λ (h : is_run is_digit name ≡ true).
    plain (is_some is_digit name (and_left (begins_with is_digit name) (list_all is_digit name) h))
    (list_all-along is_digit is_name_byte name digit_name (and_right (begins_with is_digit name) (list_all is_digit name) h)))
    (λ (h : is_quoted name ≡ true). let q = quoted_is name h in in_pair (in_quotes name) q.0 q.1)
    o)
    (name_cases name e)

named_shaped : (c : ℕ) (bytes : List ℕ) → is_sigil c ≡ true → is_behind c is_name bytes ≡ true → IsShaped bytes
named_shaped c [] sigil e = absurd (false≢true e)
named_shaped c (b ∷ name) sigil e = shaped (name_shape name (and_right (eqb b c) (is_name name) e))
  where
    is : is_sigil b ≡ true
    is = ap is_sigil (eqb-true b c (and_left (eqb b c) (is_name name) e)) ∙ sigil

    shaped : NameShape name → IsShaped (b ∷ name)
    shaped (plain some all) = run b name refl (sigil_is_lead b is) (names_go_on name all) (λ none. absurd (some none))
    shaped (in_pair inner q all) = sigiled b inner (ap (λ (text : List ℕ). b ∷ text) q) is all

-- `!` or `#`, and bytes of names behind it
led_shaped : (c b : ℕ) (bytes : List ℕ) → is_lead c ≡ true → is_sigil c ≡ false → eqb b c ≡ true → list_all is_name_byte bytes ≡ true → IsShaped (b ∷ bytes)
led_shaped c b bytes lead sigil e all = run b bytes refl (ap is_lead (eqb-true b c e) ∙ lead) (names_go_on bytes all) (λ none. ap is_sigil (eqb-true b c e) ∙ sigil)

-- a text is all its bytes but the last, and then that
pub last_byte : (text : List ℕ) (c : ℕ) → eqb (get_or text (length text - 1) 0) c ≡ true → c ≢ 0 → text ≡ take (length text - 1) text ++ c ∷ []
last_byte [] c e some = absurd (some (sym (eqb-true 0 c e)))
last_byte (b ∷ []) c e some = ap (λ (d : ℕ). d ∷ []) (eqb-true b c e)
last_byte (b ∷ d ∷ text) c e some =
    let less : length (b ∷ d ∷ text) - 1 ≡ length (d ∷ text) = omega arith in
    let fewer : length (d ∷ text) ≡ suc (length (d ∷ text) - 1) = omega arith in
    let rest : d ∷ text ≡ take (length (d ∷ text) - 1) (d ∷ text) ++ c ∷ [] = last_byte (d ∷ text) c (ap (λ (n : ℕ). eqb (get_or (b ∷ d ∷ text) n 0) c) (sym (less ∙ fewer)) ∙ e) some in
    ap (λ (bytes : List ℕ). b ∷ bytes) rest ∙ ap (λ (n : ℕ). take n (b ∷ d ∷ text) ++ c ∷ []) (sym (less ∙ fewer))

label_shaped : (name bytes : List ℕ) → bytes ≡ name ++ 58 ∷ [] → NameShape name → IsShaped bytes
unfolding is_name_byte begins_name is_letter is_digit
label_shaped [] bytes e (plain some all) = absurd (some refl)
label_shaped (b ∷ name) bytes e (plain some all) =
    let first : is_name_byte b ≡ true = and_left (is_name_byte b) (list_all is_name_byte name) all in
    run b (name ++ 58 ∷ []) e (rw first refl)
    (list_all-append goes_on name (58 ∷ []) ∙ and_both (list_all goes_on name) true (names_go_on name (and_right (is_name_byte b) (list_all is_name_byte name) all)) refl)
    (λ none. name_byte_no_sigil b first)
label_shaped name bytes e (in_pair inner q all) = quoted inner (58 ∷ []) (e ∙ ap (λ (text : List ℕ). text ++ 58 ∷ []) q ∙ ap (λ (text : List ℕ). 34 ∷ text) (append_assoc inner (34 ∷ []) (58 ∷ []))) all refl

-- a predicate that holds of each of some words holds of one of them
pub of_among : (P : List ℕ → Type 0) (words : List (List ℕ)) (bytes : List ℕ) → AllByRecursion P words → is_among words bytes ≡ true → P bytes
of_among P [] bytes all e = absurd (false≢true e)
of_among P (word ∷ words) bytes all e = ⊎_elim
    (λ (h : bytes_eq bytes word ≡ true). subst P (sym ((bytes_eq-Decides bytes word).0 h)) all.0)
    (λ (h : is_among words bytes ≡ true). of_among P words bytes all.1 h)
    (or_true (bytes_eq bytes word) (is_among words bytes) e)

marks_shaped : AllByRecursion IsShaped marks
unfolding is_name_byte begins_name is_letter is_digit
marks_shaped = (
  lone 61 refl refl,
  (
    lone 44 refl refl,
    (
      lone 40 refl refl,
      (
        lone 41 refl refl,
        (
          lone 123 refl refl,
          (
            lone 125 refl refl,
            (
              lone 91 refl refl,
              (lone 93 refl refl, (lone 60 refl refl, (run 35 [] refl refl refl (λ none. refl), tt))),
            ),
          ),
        ),
      ),
    ),
  ),
)

is_not_empty : (kind : TokenKind) (rest bytes : List ℕ) → spells kind bytes rest ≡ true → bytes ≢ []
is_not_empty kind rest bytes e none = false≢true (sym (spells-empty kind rest) ∙ ap (λ (text : List ℕ). spells kind text rest) (sym none) ∙ e)

pub shape : (kind : TokenKind) (bytes rest : List ℕ) → spells kind bytes rest ≡ true → IsShaped bytes
unfolding is_label is_word is_number is_register is_function is_group is_metadata is_literal is_name_byte begins_name is_letter is_digit
shape kinds.End bytes rest e = absurd (false≢true e)
shape kinds.Other bytes rest e = absurd (false≢true e)
shape kinds.Label bytes rest e =
    let name : is_name (take (length bytes - 1) bytes) ≡ true = and_left (is_name (take (length bytes - 1) bytes)) _ e in
    label_shaped (take (length bytes - 1) bytes) bytes (last_byte bytes 58 (and_right (is_name (take (length bytes - 1) bytes)) _ e) (λ same. cc)) (name_shape _ name)
shape kinds.Word bytes rest e = names_shaped bytes (is_not_empty kinds.Word rest bytes e) (and_right (begins_with begins_word bytes) (list_all is_name_byte bytes) e)
shape kinds.Number bytes rest e =
    names_shaped bytes (is_not_empty kinds.Number rest bytes e) (literal_names bytes (and_left (is_literal false bytes) (not (begins_with is_name_byte rest)) e))
shape kinds.Register bytes rest e = named_shaped 37 bytes refl e
shape kinds.Function bytes rest e = named_shaped 64 bytes refl e
shape kinds.Group [] rest e = absurd (false≢true e)
shape kinds.Group (b ∷ bytes) rest e =
    led_shaped 35 b bytes refl refl (and_left (eqb b 35) (is_run is_digit bytes) e)
    (list_all-along is_digit is_name_byte bytes digit_name (and_right (begins_with is_digit bytes) (list_all is_digit bytes) (and_right (eqb b 35) (is_run is_digit bytes) e)))
shape kinds.Metadata [] rest e = absurd (false≢true e)
shape kinds.Metadata (b ∷ bytes) rest e =
    led_shaped 33 b bytes refl refl (and_left (eqb b 33) (list_all is_name_byte bytes) e) (and_right (eqb b 33) (list_all is_name_byte bytes) e)
shape kinds.Quoted bytes rest e = let q = quoted_is bytes e in quoted (in_quotes bytes) [] q.0 q.1 refl
shape kinds.Mark bytes rest e = of_among IsShaped marks bytes marks_shaped e
