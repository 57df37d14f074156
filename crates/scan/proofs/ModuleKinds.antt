-- No bytes are tokens of two kinds, and the first byte of a token is valid and in no gap.
use Rattle.scan.proofs.Common.{◌≡◌, ℕ, suc, ◌-◌, ◌≤◌, Bool, true, false, cond, eqb, leb, not, ◌&&◌, ◌||◌, List, [], ◌∷◌, ◌++◌, length, take, get_or, refl, sym, ap, ◌∙◌, ⊎_elim, ◌⊎◌, arith, bytes_eq, list_all, AllByRecursion, false≢true, eqb-true, leb-true, bytes_eq-Decides, TokenKind, Label, Function, Group, Metadata, Quoted, is_blank, is_space, is_printable, is_bad, is_digit, is_letter, begins_name, begins_word, is_name_byte, begins_with, is_run, in_quotes, is_quoted, is_name, is_behind, is_label, is_word, is_number, is_function, is_group, is_metadata, spells, is_among, is_negative, is_literal}
use Rattle.scan.specs.declared.ir.token.TokenKind.TheVariants.{End, Other, Word, Number, Register, Mark}
use Rattle.scan.specs.IrTokens.{is_register, marks}
use Rattle.scan.proofs.Fronts.{which, and_left, and_right, or_true}
use Rattle.scan.proofs.NameLemmas.{quoted_is, name_cases}
use Rattle.scan.proofs.ModuleFronts.{literal_names}
use Rattle.scan.proofs.LawLemmas.{is_good, among_begins, letter_good, digit_good, run_good, marked_good, good_front}

pub other_than : (p : ℕ → Bool) (b c : ℕ) → p c ≡ false → p b ≡ true → eqb b c ≡ false
other_than p b c fails e = ⊎_elim
    (λ (h : eqb b c ≡ true). absurd (false≢true (sym fails ∙ ap p (sym (eqb-true b c h)) ∙ e)))
    (λ (h : eqb b c ≡ false). h)
    (which (eqb b c))

-- ---- the last byte

-- the last byte is `:`
abbrev ends_colon : List ℕ → Bool
ends_colon [] = false
ends_colon (b ∷ []) = eqb b 58
ends_colon (b ∷ c ∷ rest) = ends_colon (c ∷ rest)

ends_all : (p : ℕ → Bool) (bytes : List ℕ) → p 58 ≡ false → list_all p bytes ≡ true → ends_colon bytes ≡ false
ends_all p [] fails all = refl
ends_all p (b ∷ []) fails all = other_than p b 58 fails (and_left (p b) true all)
ends_all p (b ∷ c ∷ rest) fails all = ends_all p (c ∷ rest) fails (and_right (p b) (list_all p (c ∷ rest)) all)

ends_push : (bytes : List ℕ) (b : ℕ) → ends_colon (bytes ++ b ∷ []) ≡ eqb b 58
ends_push [] b = refl
ends_push (c ∷ []) b = refl
ends_push (c ∷ d ∷ bytes) b = ends_push (d ∷ bytes) b

ends_behind : (b : ℕ) (rest : List ℕ) → eqb b 58 ≡ false → ends_colon rest ≡ false → ends_colon (b ∷ rest) ≡ false
ends_behind b [] h k = h
ends_behind b (c ∷ rest) h k = k

ends_last : (bytes : List ℕ) → eqb (get_or bytes (length bytes - 1) 0) 58 ≡ true → ends_colon bytes ≡ true
ends_last [] e = absurd (false≢true e)
ends_last (b ∷ []) e = e
ends_last (b ∷ c ∷ rest) e =
    let long : suc (suc (length rest)) - 1 ≡ suc (length rest) = omega arith in
    let less : suc (length rest) - 1 ≡ length rest = omega arith in
    ends_last (c ∷ rest) (ap (λ (n : ℕ). eqb (get_or (c ∷ rest) n 0) 58) less ∙ sym (ap (λ (n : ℕ). eqb (get_or (b ∷ c ∷ rest) n 0) 58) long) ∙ e)

name_end : (bytes : List ℕ) → is_name bytes ≡ true → ends_colon bytes ≡ false
unfolding is_name_byte begins_name is_letter is_digit
name_end bytes e = ⊎_elim
    (λ (i : (begins_with begins_name bytes && list_all is_name_byte bytes) ≡ true). ends_all is_name_byte bytes refl (and_right (begins_with begins_name bytes) _ i))
    (λ (o : (is_run is_digit bytes ≡ true) ⊎ (is_quoted bytes ≡ true)). ⊎_elim
    (λ (i : is_run is_digit bytes ≡ true). ends_all is_digit bytes refl (and_right (begins_with is_digit bytes) _ i))
    (λ (i : is_quoted bytes ≡ true). ap ends_colon (quoted_is bytes i).0 ∙ ends_push (34 ∷ in_quotes bytes) 34)
    o)
    (name_cases bytes e)

-- ---- the kind by the last byte and the first

-- the kind of token that the bytes are, by their last byte and their first
abbrev kind_by_first : List ℕ → TokenKind
kind_by_first [] = Other
kind_by_first (b ∷ rest) =
    cond (eqb b 37) Register
    (cond (eqb b 64) Function
    (cond (eqb b 33) Metadata
    (cond (eqb b 34) Quoted
    (cond (is_digit b) Number
    (cond (eqb b 45) Number
    (cond (begins_name b) Word
    (cond (eqb b 35) (cond (begins_with is_digit rest) Group Mark) Mark)))))))

abbrev kind_by_ends : List ℕ → TokenKind
kind_by_ends bytes = cond (ends_colon bytes) Label (kind_by_first bytes)

by_first : (bytes : List ℕ) (kind : TokenKind) → ends_colon bytes ≡ false → kind_by_first bytes ≡ kind → kind_by_ends bytes ≡ kind
by_first bytes kind e f = rw e f

-- a byte, and a name or a run behind it
named : (c : ℕ) (kind : TokenKind) (bytes : List ℕ) → eqb c 58 ≡ false → ((rest : List ℕ) → kind_by_first (c ∷ rest) ≡ kind) → is_behind c is_name bytes ≡ true → kind_by_ends bytes ≡ kind
named c kind [] no_colon is e = absurd (false≢true e)
named c kind (b ∷ name) no_colon is e =
    let first : b ≡ c = eqb-true b c (and_left (eqb b c) (is_name name) e) in
    by_first (b ∷ name) kind
    (ends_behind b name (ap (λ (d : ℕ). eqb d 58) first ∙ no_colon) (name_end name (and_right (eqb b c) (is_name name) e)))
    (ap (λ (d : ℕ). kind_by_first (d ∷ name)) first ∙ is name)

digits_are : (bytes : List ℕ) → is_run is_digit bytes ≡ true → kind_by_first bytes ≡ Number
unfolding is_digit
digits_are [] e = absurd (false≢true e)
digits_are (b ∷ rest) e =
    let digit : is_digit b ≡ true = and_left (is_digit b) (list_all is_digit (b ∷ rest)) e in
    let e37 : eqb b 37 ≡ false = other_than is_digit b 37 refl digit in
    let e64 : eqb b 64 ≡ false = other_than is_digit b 64 refl digit in
    let e33 : eqb b 33 ≡ false = other_than is_digit b 33 refl digit in
    let e34 : eqb b 34 ≡ false = other_than is_digit b 34 refl digit in
    rw (e37, e64, e33, e34, digit) refl

number_kind : (bytes rest : List ℕ) → is_number bytes rest ≡ true → kind_by_ends bytes ≡ Number
unfolding is_number is_literal is_negative is_name_byte begins_name is_letter is_digit
number_kind bytes rest e =
    let literal : is_literal false bytes ≡ true = and_left (is_literal false bytes) (not (begins_with is_name_byte rest)) e in
    by_first bytes Number (ends_all is_name_byte bytes refl (literal_names bytes literal)) (⊎_elim
    (λ (h : is_run is_digit bytes ≡ true). digits_are bytes h)
    (λ (h : is_negative bytes ≡ true). negative_is bytes h)
    (or_true (is_run is_digit bytes) (is_negative bytes) literal))
  where
    negative_is : (bytes : List ℕ) → is_negative bytes ≡ true → kind_by_first bytes ≡ Number
    negative_is [] h = absurd (false≢true h)
    negative_is (b ∷ digits) h = ap (λ (c : ℕ). kind_by_first (c ∷ digits)) (eqb-true b 45 (and_left (eqb b 45) (is_run is_digit digits) h))

-- a word begins with no digit
pub no_digit : (b : ℕ) → begins_word b ≡ true → is_digit b ≡ false
unfolding begins_word begins_name is_digit is_letter
no_digit b e = ⊎_elim
    (λ (h : is_digit b ≡ true).
    let low : 48 ≤ b = leb-true 48 b (and_left (leb 48 b) (leb b 57) h) in
    let high : b ≤ 57 = leb-true b 57 (and_right (leb 48 b) (leb b 57) h) in
    absurd (⊎_elim
    (λ (i : (is_letter b || eqb b 45 || eqb b 36 || eqb b 46) ≡ true). ⊎_elim
    (λ (j : (is_letter b || eqb b 45 || eqb b 36) ≡ true). ⊎_elim
    (λ (k : (is_letter b || eqb b 45) ≡ true). ⊎_elim
    (λ (l : is_letter b ≡ true). ⊎_elim
    (λ (m : (leb 65 b && leb b 90) ≡ true). let above : 65 ≤ b = leb-true 65 b (and_left (leb 65 b) (leb b 90) m) in omega arith)
    (λ (m : (leb 97 b && leb b 122) ≡ true). let above : 97 ≤ b = leb-true 97 b (and_left (leb 97 b) (leb b 122) m) in omega arith)
    (or_true (leb 65 b && leb b 90) (leb 97 b && leb b 122) l))
    (λ (l : eqb b 45 ≡ true). let is : b ≡ 45 = eqb-true b 45 l in omega arith)
    (or_true (is_letter b) (eqb b 45) k))
    (λ (k : eqb b 36 ≡ true). let is : b ≡ 36 = eqb-true b 36 k in omega arith)
    (or_true (is_letter b || eqb b 45) (eqb b 36) j))
    (λ (j : eqb b 46 ≡ true). let is : b ≡ 46 = eqb-true b 46 j in omega arith)
    (or_true (is_letter b || eqb b 45 || eqb b 36) (eqb b 46) i))
    (λ (i : eqb b 95 ≡ true). let is : b ≡ 95 = eqb-true b 95 i in omega arith)
    (or_true (is_letter b || eqb b 45 || eqb b 36 || eqb b 46) (eqb b 95) (and_left (begins_name b) (not (eqb b 45)) e))))
    (λ (h : is_digit b ≡ false). h)
    (which (is_digit b))

word_first : (b : ℕ) (rest : List ℕ) → eqb b 37 ≡ false → eqb b 64 ≡ false → eqb b 33 ≡ false → eqb b 34 ≡ false → is_digit b ≡ false → eqb b 45 ≡ false → begins_name b ≡ true → kind_by_first (b ∷ rest) ≡ Word
word_first b rest e37 e64 e33 e34 digit e45 name = rw (e37, e64, e33, e34, digit, e45, name) refl

word_kind : (bytes : List ℕ) → is_word bytes ≡ true → kind_by_ends bytes ≡ Word
unfolding is_word is_name_byte begins_word begins_name is_letter is_digit
word_kind [] e = absurd (false≢true e)
word_kind (b ∷ rest) e =
    let word : begins_word b ≡ true = and_left (begins_word b) (list_all is_name_byte (b ∷ rest)) e in
    let e37 : eqb b 37 ≡ false = other_than begins_word b 37 refl word in
    let e64 : eqb b 64 ≡ false = other_than begins_word b 64 refl word in
    let e33 : eqb b 33 ≡ false = other_than begins_word b 33 refl word in
    let e34 : eqb b 34 ≡ false = other_than begins_word b 34 refl word in
    let e45 : eqb b 45 ≡ false = other_than begins_word b 45 refl word in
    let name : begins_name b ≡ true = and_left (begins_name b) (not (eqb b 45)) word in
    by_first (b ∷ rest) Word (ends_all is_name_byte (b ∷ rest) refl (and_right (begins_word b) (list_all is_name_byte (b ∷ rest)) e))
    (word_first b rest e37 e64 e33 e34 (no_digit b word) e45 name)

group_kind : (bytes : List ℕ) → is_group bytes ≡ true → kind_by_ends bytes ≡ Group
unfolding is_group begins_name is_letter is_digit
group_kind [] e = absurd (false≢true e)
group_kind (b ∷ digits) e =
    let first : b ≡ 35 = eqb-true b 35 (and_left (eqb b 35) (is_run is_digit digits) e) in
    let run : is_run is_digit digits ≡ true = and_right (eqb b 35) (is_run is_digit digits) e in
    let begins : begins_with is_digit digits ≡ true = and_left (begins_with is_digit digits) (list_all is_digit digits) run in
    by_first (b ∷ digits) Group
    (ends_behind b digits (ap (λ (c : ℕ). eqb c 58) first) (ends_all is_digit digits refl (and_right (begins_with is_digit digits) (list_all is_digit digits) run)))
    (ap (λ (c : ℕ). kind_by_first (c ∷ digits)) first ∙ ap (λ (t : Bool). cond t Group Mark) begins)

metadata_kind : (bytes : List ℕ) → is_metadata bytes ≡ true → kind_by_ends bytes ≡ Metadata
unfolding is_metadata is_name_byte begins_name is_letter is_digit
metadata_kind [] e = absurd (false≢true e)
metadata_kind (b ∷ name) e =
    let first : b ≡ 33 = eqb-true b 33 (and_left (eqb b 33) (list_all is_name_byte name) e) in
    by_first (b ∷ name) Metadata
    (ends_behind b name (ap (λ (c : ℕ). eqb c 58) first) (ends_all is_name_byte name refl (and_right (eqb b 33) (list_all is_name_byte name) e)))
    (ap (λ (c : ℕ). kind_by_first (c ∷ name)) first)

quoted_kind : (bytes : List ℕ) → is_quoted bytes ≡ true → kind_by_ends bytes ≡ Quoted
quoted_kind bytes e =
    let is : bytes ≡ 34 ∷ (in_quotes bytes ++ 34 ∷ []) = (quoted_is bytes e).0 in
    by_first bytes Quoted (ap ends_colon is ∙ ends_push (34 ∷ in_quotes bytes) 34) (ap kind_by_first is)

-- each of the words is of the kind
words_are : (kind : TokenKind) (words : List (List ℕ)) (bytes : List ℕ) → AllByRecursion (λ word. kind_by_ends word ≡ kind) words → is_among words bytes ≡ true → kind_by_ends bytes ≡ kind
words_are kind [] bytes all e = absurd (false≢true e)
words_are kind (word ∷ words) bytes all e = ⊎_elim
    (λ (h : bytes_eq bytes word ≡ true). ap kind_by_ends ((bytes_eq-Decides bytes word).0 h) ∙ all.0)
    (λ (h : is_among words bytes ≡ true). words_are kind words bytes all.1 h)
    (or_true (bytes_eq bytes word) (is_among words bytes) e)

kind_is : (kind : TokenKind) (bytes rest : List ℕ) → spells kind bytes rest ≡ true → kind_by_ends bytes ≡ kind
unfolding is_label is_register is_function begins_name is_letter is_digit
kind_is End bytes rest e = absurd (false≢true e)
kind_is Other bytes rest e = absurd (false≢true e)
kind_is Label bytes rest e = ap (λ (t : Bool). cond t Label (kind_by_first bytes)) (ends_last bytes (and_right (is_name (take (length bytes - 1) bytes)) _ e))
kind_is Word bytes rest e = word_kind bytes e
kind_is Number bytes rest e = number_kind bytes rest e
kind_is Register bytes rest e = named 37 Register bytes refl (λ rest. refl) e
kind_is Function bytes rest e = named 64 Function bytes refl (λ rest. refl) e
kind_is Group bytes rest e = group_kind bytes e
kind_is Metadata bytes rest e = metadata_kind bytes e
kind_is Quoted bytes rest e = quoted_kind bytes e
kind_is Mark bytes rest e = words_are Mark marks bytes (refl, (refl, (refl, (refl, (refl, (refl, (refl, (refl, (refl, (refl, tt)))))))))) e

pub one_kind : (a b : TokenKind) (bytes rest : List ℕ) → spells a bytes rest ≡ true → spells b bytes rest ≡ true → a ≡ b
one_kind a b bytes rest h k = sym (kind_is a bytes rest h) ∙ kind_is b bytes rest k

-- ---- the first byte of a token is valid and in no gap

pub name_byte_good : (b : ℕ) → begins_name b ≡ true → is_good b ≡ true
unfolding begins_name is_good is_bad is_printable is_space is_blank
name_byte_good b e = ⊎_elim
    (λ (i : (is_letter b || eqb b 45 || eqb b 36 || eqb b 46) ≡ true). ⊎_elim
    (λ (j : (is_letter b || eqb b 45 || eqb b 36) ≡ true). ⊎_elim
    (λ (k : (is_letter b || eqb b 45) ≡ true). ⊎_elim
    (λ (l : is_letter b ≡ true). letter_good b l)
    (λ (l : eqb b 45 ≡ true). ap is_good (eqb-true b 45 l))
    (or_true (is_letter b) (eqb b 45) k))
    (λ (k : eqb b 36 ≡ true). ap is_good (eqb-true b 36 k))
    (or_true (is_letter b || eqb b 45) (eqb b 36) j))
    (λ (j : eqb b 46 ≡ true). ap is_good (eqb-true b 46 j))
    (or_true (is_letter b || eqb b 45 || eqb b 36) (eqb b 46) i))
    (λ (i : eqb b 95 ≡ true). ap is_good (eqb-true b 95 i))
    (or_true (is_letter b || eqb b 45 || eqb b 36 || eqb b 46) (eqb b 95) e)

name_good : (bytes : List ℕ) → is_name bytes ≡ true → begins_with is_good bytes ≡ true
unfolding is_good is_bad is_printable is_space is_blank
name_good bytes e = ⊎_elim
    (λ (i : (begins_with begins_name bytes && list_all is_name_byte bytes) ≡ true). run_good begins_name bytes name_byte_good (and_left (begins_with begins_name bytes) _ i))
    (λ (o : (is_run is_digit bytes ≡ true) ⊎ (is_quoted bytes ≡ true)). ⊎_elim
    (λ (i : is_run is_digit bytes ≡ true). run_good is_digit bytes digit_good (and_left (begins_with is_digit bytes) _ i))
    (λ (i : is_quoted bytes ≡ true). ap (begins_with is_good) (quoted_is bytes i).0)
    o)
    (name_cases bytes e)

behind_good : (c : ℕ) (test : List ℕ → Bool) (bytes : List ℕ) → is_good c ≡ true → is_behind c test bytes ≡ true → begins_with is_good bytes ≡ true
behind_good c test [] good e = absurd (false≢true e)
behind_good c test (b ∷ bytes) good e = ap is_good (eqb-true b c (and_left (eqb b c) (test bytes) e)) ∙ good

pub token_good : (kind : TokenKind) (bytes rest : List ℕ) → spells kind bytes rest ≡ true → begins_with is_good bytes ≡ true
unfolding is_label is_word is_number is_negative begins_word is_register is_function is_group is_metadata is_good is_bad is_printable is_space is_blank
token_good End bytes rest e = absurd (false≢true e)
token_good Other bytes rest e = absurd (false≢true e)
token_good Label bytes rest e = good_front is_good bytes (length bytes - 1) (name_good (take (length bytes - 1) bytes) (and_left (is_name (take (length bytes - 1) bytes)) _ e))
token_good Word bytes rest e = run_good begins_word bytes (λ b h. name_byte_good b (and_left (begins_name b) (not (eqb b 45)) h)) (and_left (begins_with begins_word bytes) (list_all is_name_byte bytes) e)
token_good Number bytes rest e = ⊎_elim
    (λ (h : is_run is_digit bytes ≡ true). run_good is_digit bytes digit_good (and_left (begins_with is_digit bytes) (list_all is_digit bytes) h))
    (λ (h : is_negative bytes ≡ true). marked_good 45 is_digit bytes refl h)
    (or_true (is_run is_digit bytes) (is_negative bytes) (and_left (is_run is_digit bytes || is_negative bytes) (not (begins_with is_name_byte rest)) e))
token_good Register bytes rest e = behind_good 37 is_name bytes refl e
token_good Function bytes rest e = behind_good 64 is_name bytes refl e
token_good Group bytes rest e = marked_good 35 is_digit bytes refl e
token_good Metadata bytes rest e = behind_good 33 (list_all is_name_byte) bytes refl e
token_good Quoted bytes rest e = ap (begins_with is_good) (quoted_is bytes e).0
token_good Mark bytes rest e = among_begins is_good marks bytes refl e
