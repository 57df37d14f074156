-- A token of a module has no line feed.
use Rattle.scan.proofs.Common.{◌≡◌, ℕ, suc, ◌+◌, ◌-◌, Bool, true, false, eqb, not, ◌&&◌, ◌||◌, List, [], ◌∷◌, length, take, drop, get_or, refl, sym, ap, ◌∙◌, ⊎_elim, ◌⊎◌, arith, bytes_eq, list_all, false≢true, eqb-true, bytes_eq-Decides, list_all-append, TokenKind, Label, Function, Group, Metadata, Quoted, is_blank, is_space, is_printable, is_bad, is_digit, is_letter, begins_name, begins_word, is_name_byte, begins_with, is_run, is_quotable, in_quotes, is_quoted, in_gap, between, feeds, is_among, is_literal, is_name, is_behind, is_label, is_word, is_number, is_function, is_group, is_metadata, spells}
use Rattle.scan.specs.declared.ir.token.TokenKind.TheVariants.{End, Other, Word, Number, Register, Mark}
use Rattle.scan.specs.IrTokens.{is_register, marks, IsLongestToken, BeginsNoToken, Begins}
use Rattle.scan.proofs.Fronts.{which, and_left, and_right, and_both, or_true}
use Rattle.scan.proofs.NameLemmas.{name_cases, quoted_is}
use Rattle.scan.proofs.ModuleFronts.{list_all-along, literal_names}
use Rattle.scan.proofs.ModuleKinds.{other_than}
use Rattle.scan.proofs.ModulePlaces.{seen}

-- no line feed
abbrev on_line : List ℕ → Bool
on_line bytes = list_all (λ b. not (eqb b 10)) bytes

no_feeds : (bytes : List ℕ) → on_line bytes ≡ true → feeds bytes ≡ 0
no_feeds [] e = refl
no_feeds (b ∷ bytes) e = ⊎_elim
    (λ (h : eqb b 10 ≡ true). absurd (false≢true (rw h at e)))
    (λ (h : eqb b 10 ≡ false). rw h (no_feeds bytes (rw h at e)))
    (which (eqb b 10))

-- bytes that pass a test which a line feed doesn't pass
passing : (p : ℕ → Bool) (bytes : List ℕ) → p 10 ≡ false → list_all p bytes ≡ true → on_line bytes ≡ true
passing p bytes fails all = list_all-along p (λ b. not (eqb b 10)) bytes (λ b e. ap not (other_than p b 10 fails e)) all

quoted_on_line : (bytes : List ℕ) → is_quoted bytes ≡ true → on_line bytes ≡ true
unfolding is_quotable
quoted_on_line bytes e = ap on_line (quoted_is bytes e).0 ∙ list_all-append (λ b. not (eqb b 10)) (in_quotes bytes) (34 ∷ [])
    ∙ and_both (on_line (in_quotes bytes)) true (passing is_quotable (in_quotes bytes) refl (quoted_is bytes e).1) refl

name_on_line : (bytes : List ℕ) → is_name bytes ≡ true → on_line bytes ≡ true
unfolding is_name_byte begins_name is_letter is_digit
name_on_line bytes e = ⊎_elim
    (λ (i : (begins_with begins_name bytes && list_all is_name_byte bytes) ≡ true). passing is_name_byte bytes refl (and_right (begins_with begins_name bytes) (list_all is_name_byte bytes) i))
    (λ (o : (is_run is_digit bytes ≡ true) ⊎ (is_quoted bytes ≡ true)). ⊎_elim
    (λ (i : is_run is_digit bytes ≡ true). passing is_digit bytes refl (and_right (begins_with is_digit bytes) (list_all is_digit bytes) i))
    (quoted_on_line bytes)
    o)
    (name_cases bytes e)

-- a line without its last byte, and a `:` as the last byte
last_on_line : (bytes : List ℕ) → on_line (take (length bytes - 1) bytes) ≡ true → eqb (get_or bytes (length bytes - 1) 0) 58 ≡ true → on_line bytes ≡ true
last_on_line [] all e = refl
last_on_line (b ∷ []) all e = ap (λ (c : ℕ). not (eqb c 10) && true) (eqb-true b 58 e)
last_on_line (b ∷ c ∷ rest) all e =
    let long : suc (suc (length rest)) - 1 ≡ suc (length rest) = omega arith in
    let less : suc (length rest) - 1 ≡ length rest = omega arith in
    let front : on_line (b ∷ take (length rest) (c ∷ rest)) ≡ true = sym (ap (λ (n : ℕ). on_line (take n (b ∷ c ∷ rest))) long) ∙ all in
    and_both (not (eqb b 10)) (on_line (c ∷ rest)) (and_left (not (eqb b 10)) (on_line (take (length rest) (c ∷ rest))) front)
    (last_on_line (c ∷ rest)
    (ap (λ (n : ℕ). on_line (take n (c ∷ rest))) less ∙ and_right (not (eqb b 10)) (on_line (take (length rest) (c ∷ rest))) front)
    (ap (λ (n : ℕ). eqb (get_or (c ∷ rest) n 0) 58) less ∙ sym (ap (λ (n : ℕ). eqb (get_or (b ∷ c ∷ rest) n 0) 58) long) ∙ e))

-- a byte that is no line feed, and bytes of a form without line feeds behind it
behind_on_line : (c : ℕ) (test : List ℕ → Bool) (bytes : List ℕ) → eqb c 10 ≡ false → ((rest : List ℕ) → test rest ≡ true → on_line rest ≡ true) → is_behind c test bytes ≡ true → on_line bytes ≡ true
behind_on_line c test [] differs along e = absurd (false≢true e)
behind_on_line c test (b ∷ rest) differs along e = and_both (not (eqb b 10)) (on_line rest)
    (ap (λ (d : ℕ). not (eqb d 10)) (eqb-true b c (and_left (eqb b c) (test rest) e)) ∙ ap not differs)
    (along rest (and_right (eqb b c) (test rest) e))

among_on_line : (words : List (List ℕ)) (bytes : List ℕ) → list_all on_line words ≡ true → is_among words bytes ≡ true → on_line bytes ≡ true
among_on_line [] bytes all e = absurd (false≢true e)
among_on_line (word ∷ words) bytes all e = ⊎_elim
    (λ (h : bytes_eq bytes word ≡ true). ap on_line ((bytes_eq-Decides bytes word).0 h) ∙ and_left (on_line word) (list_all on_line words) all)
    (λ (h : is_among words bytes ≡ true). among_on_line words bytes (and_right (on_line word) (list_all on_line words) all) h)
    (or_true (bytes_eq bytes word) (is_among words bytes) e)

token_on_line : (kind : TokenKind) (bytes rest : List ℕ) → spells kind bytes rest ≡ true → on_line bytes ≡ true
unfolding is_label is_word is_number is_literal is_register is_function is_group is_metadata is_name_byte begins_name is_letter is_digit
token_on_line End bytes rest e = absurd (false≢true e)
token_on_line Other bytes rest e = absurd (false≢true e)
token_on_line Label bytes rest e = last_on_line bytes (name_on_line (take (length bytes - 1) bytes) (and_left (is_name (take (length bytes - 1) bytes)) _ e)) (and_right (is_name (take (length bytes - 1) bytes)) _ e)
token_on_line Word bytes rest e = passing is_name_byte bytes refl (and_right (begins_with begins_word bytes) (list_all is_name_byte bytes) e)
token_on_line Number bytes rest e = passing is_name_byte bytes refl (literal_names bytes (and_left (is_literal false bytes) (not (begins_with is_name_byte rest)) e))
token_on_line Register bytes rest e = behind_on_line 37 is_name bytes refl name_on_line e
token_on_line Function bytes rest e = behind_on_line 64 is_name bytes refl name_on_line e
token_on_line Group bytes rest e = group_on_line bytes e
  where
    group_on_line : (bytes : List ℕ) → is_group bytes ≡ true → on_line bytes ≡ true
    group_on_line [] e = absurd (false≢true e)
    group_on_line (b ∷ digits) e = behind_on_line 35 (is_run is_digit) (b ∷ digits) refl (λ rest k. passing is_digit rest refl (and_right (begins_with is_digit rest) (list_all is_digit rest) k)) e
token_on_line Metadata bytes rest e = behind_on_line 33 (list_all is_name_byte) bytes refl (λ rest k. passing is_name_byte rest refl k) e
token_on_line Quoted bytes rest e = quoted_on_line bytes e
token_on_line Mark bytes rest e = among_on_line marks bytes refl e

-- what a text begins with has no line feed
begins_on_line : (text : List ℕ) (kind : TokenKind) (n : ℕ) → Begins text kind n → feeds (take n text) ≡ 0
unfolding is_bad is_printable is_space is_blank
begins_on_line text kind n h = ⊎_elim
    (λ (t : IsLongestToken text kind n). no_feeds (take n text) (token_on_line kind (take n text) (drop n text) t.of_kind))
    (λ (o : ((kind ≡ Other) × BeginsNoToken text × (n ≡ 1)) ⊎ ((kind ≡ End) × (text ≡ []) × (n ≡ 0))). ⊎_elim
    (λ (x : (kind ≡ Other) × BeginsNoToken text × (n ≡ 1)). ap (λ (m : ℕ). feeds (take m text)) x.2 ∙ no_feeds (take 1 text) (other_on_line text x.1.visible))
    (λ (x : (kind ≡ End) × (text ≡ []) × (n ≡ 0)). ap (λ (m : ℕ). feeds (take m text)) x.2)
    o)
    (seen text kind n h)
  where
    other_on_line : (text : List ℕ) → begins_with (λ b. not (is_bad b || in_gap b)) text ≡ true → on_line (take 1 text) ≡ true
    other_on_line [] e = refl
    other_on_line (b ∷ text) e = and_both (not (eqb b 10)) true (ap not (other_than (λ c. not (is_bad c || in_gap c)) b 10 refl e)) refl

pub token_feeds : (text : List ℕ) (start : ℕ) (kind : TokenKind) (n : ℕ) → Begins (drop start text) kind n → feeds (between text start (start + n)) ≡ 0
token_feeds text start kind n h =
    let count : start + n - start ≡ n = omega arith in
    ap (λ (m : ℕ). feeds (take m (drop start text))) count ∙ begins_on_line (drop start text) kind n h
