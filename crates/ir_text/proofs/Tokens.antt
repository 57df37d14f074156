-- Tokens of a printed module, by context.
use Rattle.ir_text.proofs.Common.{◌≡◌, ◌≢◌, ℕ, suc, ◌+◌, eqb, true, false, List, [], ◌∷◌, ◌++◌, Option, Some, None, codes, refl, sym, subst, append_assoc, add-zero, arith, list_all, begins_name, begins_word, is_blank, is_digit, is_letter, is_name_byte, is_space, is_word, is_group, is_quoted, feeds, Section, AtEntry, InHeader, InBody, AreTokens, place_behind, End, Kept, KeptGroup, Label, Word, Group, Quoted, Mark, Part, Is, ◌⨾◌, Comma, takes_line, IsNameText, HasForm, MayStand}
use Rattle.ir_tokens.specs.Numbers.{is_number}
use Rattle.ir_tokens.specs.Tokens.{Number, Register, Function}
use Rattle.ir_instructions.specs.Punctuation as marks
use Rattle.ir_text.proofs.Placing.{itself_in_body, itself_behind_no_word_in_body, itself_in_header, itself_behind_no_word, itself_at_entry, define_begins_none, later_line, same_line, space_stops, feed_stops}
use Rattle.ir_text.proofs.Streams.{Streams, streams_as, behind_gap, with_token}
use Rattle.ir_text.proofs.Prints.{Mode, Fresh, Used, Header, Called, Body, Callee, Stands, TakesGap, Stop, Prints, prints_token, before_space}

-- ---- the context behind what is printed

pub data Inside : Mode → Type 0 where
  in_header : Inside Header
  in_body : Inside Body

-- ---- brackets

-- a token that is no bracket
pub no_bracket : (c : ℕ) (bytes : List ℕ) → eqb c 40 ≡ false → c ∷ bytes ≢ codes "("
no_bracket c bytes other same = let is : c ≡ 40 = cc in let no : true ≡ false = subst (λ (n : ℕ). eqb n 40 ≡ false) is other in absurd cc

word_no_bracket : (word : List ℕ) → is_word word ≡ true → word ≢ codes "("
unfolding is_word begins_word begins_name is_letter
word_no_bracket word form same = let here : is_word (codes "(") ≡ true = subst (λ (w : List ℕ). is_word w ≡ true) same form in absurd cc

number_no_bracket : (digits : List ℕ) → is_number digits ≡ true → digits ≢ codes "("
unfolding is_number is_digit
number_no_bracket digits form same = let here : is_number (codes "(") ≡ true = subst (λ (w : List ℕ). is_number w ≡ true) same form in absurd cc

group_no_bracket : (text : List ℕ) → is_group text ≡ true → text ≢ codes "("
unfolding is_group
group_no_bracket text form same = let here : is_group (codes "(") ≡ true = subst (λ (w : List ℕ). is_group w ≡ true) same form in absurd cc

quoted_no_bracket : (text : List ℕ) → is_quoted text ≡ true → text ≢ codes "("
unfolding is_quoted
quoted_no_bracket text form same = let here : is_quoted (codes "(") ≡ true = subst (λ (w : List ℕ). is_quoted w ≡ true) same form in absurd cc

not_empty : (name : List ℕ) → name ++ 58 ∷ [] ≢ []
not_empty [] same = cc
not_empty (c ∷ name) same = cc

label_no_bracket : (name : List ℕ) → name ++ 58 ∷ [] ≢ codes "("
label_no_bracket [] same = no_bracket 58 [] refl same
label_no_bracket (c ∷ name) same = let none : name ++ 58 ∷ [] ≡ [] = cc in not_empty name none

-- ---- tokens of bodies

pub word_in_body : (word : List ℕ) → is_word word ≡ true → Prints Body Body false (Is (Word word)) word
word_in_body word form = prints_token Body Body false (Word word) form (λ place line (before, is). (Some line, rw is refl))
    (λ place line rest (before, is) stop. (rw is (itself_in_body before line word (word_no_bracket word form)), rw stop refl))

pub number_in_body : (digits : List ℕ) → is_number digits ≡ true → Prints Body Body false (Is (Number digits)) digits
number_in_body digits form = prints_token Body Body false (Number digits) form (λ place line (before, is). (None, rw is refl))
    (λ place line rest (before, is) stop. (rw is (itself_in_body before line digits (number_no_bracket digits form)), rw stop refl))

pub label_in_body : (name : List ℕ) → IsNameText name → Prints Body Body false (Is (Label name)) (name ++ 58 ∷ [])
label_in_body name form = prints_token Body Body false (Label name) form (λ place line (before, is). (None, rw is refl))
    (λ place line rest (before, is) stop. (rw is (itself_in_body before line (name ++ 58 ∷ []) (label_no_bracket name)), rw stop refl))

-- ---- tokens of headers

pub word_in_header : (word : List ℕ) → is_word word ≡ true → Prints Header Header false (Is (Word word)) word
word_in_header word form = prints_token Header Header false (Word word) form (λ place line (before, is). (Some line, rw is refl))
    (λ place line rest (before, is) stop. (rw is (itself_in_header before line word (word_no_bracket word form)), rw stop refl))

pub number_in_header : (digits : List ℕ) → is_number digits ≡ true → Prints Header Header false (Is (Number digits)) digits
number_in_header digits form = prints_token Header Header false (Number digits) form (λ place line (before, is). (None, rw is refl))
    (λ place line rest (before, is) stop. (rw is (itself_in_header before line digits (number_no_bracket digits form)), rw stop refl))

pub group_in_header : (text : List ℕ) → is_group text ≡ true → Prints Header Header false (Is (Group text)) text
group_in_header text form = prints_token Header Header false (Group text) form (λ place line (before, is). (None, rw is refl))
    (λ place line rest (before, is) stop. (rw is (itself_in_header before line text (group_no_bracket text form)), rw stop refl))

pub quoted_in_header : (text : List ℕ) → HasForm (Quoted text) → Prints Header Header false (Is (Quoted text)) text
quoted_in_header text form = prints_token Header Header false (Quoted text) form (λ place line (before, is). (None, rw is refl))
    (λ place line rest (before, is) stop. (rw is (itself_in_header before line text (quoted_no_bracket text form.0)), rw stop refl))

-- a word with a kept group behind it
pub word_and_group : (word group : List ℕ) → is_word word ≡ true → HasForm (KeptGroup group) → Prints Header Header false (Is (Word word) ⨾ Is (KeptGroup group)) (word ++ group)
unfolding is_name_byte begins_name is_letter is_digit
word_and_group word group form (content, balanced, is_group) = record {
  leads = λ place line (before, is). record {
    next_place = InHeader None;
    next_line = line;
    stands = (None, refl);
    streams = λ last rest tokens stop k.
        let here : Streams last (InHeader (Some line)) line (group ++ rest) ((line, KeptGroup group) ∷ tokens) = with_token (KeptGroup group) (content, balanced, is_group) (same_line line line refl) k in
        let behind : place_behind place (line, Word word) ≡ InHeader (Some line) = rw is refl in
        let stops : Stop (group ++ rest) = rw is_group refl in
        let all = with_token {place = place} (Word word) form (rw is (itself_in_header before line word (word_no_bracket word form)), rw stops refl) (subst (λ (p : Section). Streams last p line (group ++ rest) ((line, KeptGroup group) ∷ tokens)) (sym behind) here) in
        ((line, Word word) ∷ (line, KeptGroup group) ∷ tokens, streams_as (append_assoc word group rest) all, ((line, KeptGroup group) ∷ tokens, (line, refl), (line, refl)));
  };
}

-- the name of a function in a header, and the bracket behind it
pub function_in_header : (name : List ℕ) → IsNameText name → Prints Header Called false (Is (Function name)) (64 ∷ name)
function_in_header name form = prints_token Header Called false (Function name) form (λ place line (before, is). rw is refl)
    (λ place line rest (before, is) stop. (rw is (itself_in_header before line (64 ∷ name) (no_bracket 64 name refl)), rw stop refl))

pub bracket_behind_name : Prints Called Header true (Is (Mark marks.open_paren)) (codes "(")
bracket_behind_name = prints_token Called Header true (Mark 40) refl (λ place line is. (None, rw is refl)) (λ place line rest is stop. (rw is (itself_behind_no_word line (codes "(")), refl))

-- the name of a callee in a body, and the brackets of its arguments
pub callee_in_body : (name : List ℕ) → IsNameText name → Prints Body Callee false (Is (Function name)) (64 ∷ name)
callee_in_body name form = prints_token Body Callee false (Function name) form (λ place line (before, is). rw is refl)
    (λ place line rest (before, is) stop. (rw is (itself_in_body before line (64 ∷ name) (no_bracket 64 name refl)), rw stop refl))

pub bracket_behind_callee : Prints Callee Body true (Is (Mark marks.open_paren)) (codes "(")
bracket_behind_callee = prints_token Callee Body true (Mark 40) refl (λ place line is. (None, rw is refl)) (λ place line rest is stop. (rw is (itself_behind_no_word_in_body line (codes "(")), refl))

-- ---- tokens of both

pub register_inside : {mode : Mode} → Inside mode → (name : List ℕ) → IsNameText name → Prints mode mode false (Is (Register name)) (37 ∷ name)
register_inside in_body name form = prints_token Body Body false (Register name) form (λ place line (before, is). (None, rw is refl))
    (λ place line rest (before, is) stop. (rw is (itself_in_body before line (37 ∷ name) (no_bracket 37 name refl)), rw stop refl))
register_inside in_header name form = prints_token Header Header false (Register name) form (λ place line (before, is). (None, rw is refl))
    (λ place line rest (before, is) stop. (rw is (itself_in_header before line (37 ∷ name) (no_bracket 37 name refl)), rw stop refl))

pub word_inside : {mode : Mode} → Inside mode → (word : List ℕ) → is_word word ≡ true → Prints mode mode false (Is (Word word)) word
word_inside in_body word form = word_in_body word form
word_inside in_header word form = word_in_header word form

-- ---- marks

pub comma_in_body : Prints Body Body true (Is (Mark marks.comma)) (codes ",")
comma_in_body = prints_token Body Body true (Mark 44) refl (λ place line (before, is). (None, rw is refl)) (λ place line rest (before, is) stop. (rw is (itself_in_body before line (codes ",") (no_bracket 44 [] refl)), refl))

pub equals_in_body : Prints Body Body true (Is (Mark marks.equals)) (codes "=")
equals_in_body = prints_token Body Body true (Mark 61) refl (λ place line (before, is). (None, rw is refl)) (λ place line rest (before, is) stop. (rw is (itself_in_body before line (codes "=") (no_bracket 61 [] refl)), refl))

pub open_in_body : Prints Body Body true (Is (Mark marks.open_bracket)) (codes "[")
open_in_body = prints_token Body Body true (Mark 91) refl (λ place line (before, is). (None, rw is refl)) (λ place line rest (before, is) stop. (rw is (itself_in_body before line (codes "[") (no_bracket 91 [] refl)), refl))

pub close_in_body : Prints Body Body true (Is (Mark marks.close_bracket)) (codes "]")
close_in_body = prints_token Body Body true (Mark 93) refl (λ place line (before, is). (None, rw is refl)) (λ place line rest (before, is) stop. (rw is (itself_in_body before line (codes "]") (no_bracket 93 [] refl)), refl))

pub comma_in_header : Prints Header Header true (Is (Mark marks.comma)) (codes ",")
comma_in_header = prints_token Header Header true (Mark 44) refl (λ place line (before, is). (None, rw is refl)) (λ place line rest (before, is) stop. (rw is (itself_in_header before line (codes ",") (no_bracket 44 [] refl)), refl))

pub close_in_header : Prints Header Header true (Is (Mark marks.close_paren)) (codes ")")
close_in_header = prints_token Header Header true (Mark 41) refl (λ place line (before, is). (None, rw is refl)) (λ place line rest (before, is) stop. (rw is (itself_in_header before line (codes ")") (no_bracket 41 [] refl)), refl))

pub equals_in_header : Prints Header Header true (Is (Mark marks.equals)) (codes "=")
equals_in_header = prints_token Header Header true (Mark 61) refl (λ place line (before, is). (None, rw is refl)) (λ place line rest (before, is) stop. (rw is (itself_in_header before line (codes "=") (no_bracket 61 [] refl)), refl))

-- the braces of a body
pub body_begins : Prints Header Body true (Is (Mark marks.open_brace)) (codes "{")
body_begins = prints_token Header Body true (Mark 123) refl (λ place line (before, is). (None, rw is refl)) (λ place line rest (before, is) stop. (rw is (itself_in_header before line (codes "{") (no_bracket 123 [] refl)), refl))

pub body_ends : Prints Body Used true (Is (Mark marks.close_brace)) (codes "}")
body_ends = prints_token Body Used true (Mark 125) refl (λ place line (before, is). rw is refl) (λ place line rest (before, is) stop. (rw is (itself_in_body before line (codes "}") (no_bracket 125 [] refl)), refl))

-- ---- tokens between entries

fresh_place : (P : Section → Type 0) (place : Section) (line : ℕ) → Stands Fresh place line → ((before : Option ℕ) → P (AtEntry before)) → P place
fresh_place P (AtEntry before) line stands at = at before
fresh_place P (InHeader word) line stands at = absurd (let no : false ≡ true = stands 0 in cc)
fresh_place P (InBody word) line stands at = absurd (let no : false ≡ true = stands 0 in cc)

pub define_begins : Prints Fresh Header false (Is (Word (codes "define"))) (codes "define")
unfolding is_word begins_word begins_name is_letter is_name_byte
define_begins = prints_token Fresh Header false (Word (codes "define")) refl
    (λ place line stands. fresh_place (λ (p : Section). Stands Header (place_behind p (line, Word (codes "define"))) line) place line stands (λ before. (Some line, refl)))
    (λ place line rest stands stop. fresh_place (λ (p : Section). MayStand p line (Word (codes "define")) rest) place line stands (λ before. (itself_at_entry before line (codes "define") define_begins_none, rw stop refl)))

-- behind the last token of an entry, with a line feed
later : (line n : ℕ) (g : List ℕ) → feeds g ≡ suc n → Stands Fresh (AtEntry (Some line)) (line + feeds g)
later line n g is = λ k. later_line line (line + feeds g + k) (omega (arith, is))

pub ends_line : {from : Mode} {P : Part} {text : List ℕ} (n : ℕ) (g : List ℕ) → list_all is_space g ≡ true → feeds g ≡ suc n → Prints from Used true P text → Prints from Fresh true P (text ++ g)
ends_line {from} {P} {text} n g all is p = record {
  leads = λ place line stands.
      let l = p.leads place line stands in
      record {
        next_place = l.next_place;
        next_line = l.next_line + feeds g;
        stands = rw l.stands (later l.next_line n g is);
        streams = λ last rest tokens stop k.
            let r = l.streams last (g ++ rest) tokens tt (behind_gap g all k) in
            (r.0, streams_as (append_assoc text g rest) r.1, r.2);
      };
}

-- a kept line with its line feed
pub kept_prints : (text : List ℕ) → AreTokens text ((1, Kept text) ∷ (1, End) ∷ []) → Prints Fresh Fresh true (Is (Kept text)) (text ++ codes "\n")
unfolding is_space is_blank
kept_prints text form = record {
  leads = λ place line stands.
      let at_line : takes_line place line ≡ true = subst (λ (n : ℕ). takes_line place n ≡ true) (add-zero line) (stands 0) in
      record {
        next_place = place_behind place (line, Kept text);
        next_line = line + 1;
        stands = fresh_place (λ (p : Section). Stands Fresh (place_behind p (line, Kept text)) (line + 1)) place line stands (λ before. later line 0 (codes "\n") refl);
        streams = λ last rest tokens stop k.
            let all = with_token {place = place} (Kept text) form (at_line, refl) (behind_gap (codes "\n") refl k) in
            ((line, Kept text) ∷ tokens, streams_as (append_assoc text (codes "\n") rest) all, (line, refl));
      };
}

-- ---- spaces behind tokens

pub blank : list_all is_space (codes " ") ≡ true
unfolding is_space is_blank
blank = refl

pub feed : list_all is_space (codes "\n") ≡ true
unfolding is_space is_blank
feed = refl

pub indent : list_all is_space (codes "  ") ≡ true
unfolding is_space is_blank
indent = refl

pub spaced : {from to : Mode} {P : Part} {text : List ℕ} → TakesGap to → Prints from to false P text → Prints from to true P (text ++ codes " ")
spaced takes p = before_space (codes " ") blank (λ rest. space_stops) takes p

pub mark_spaced : {from to : Mode} {P : Part} {text : List ℕ} → TakesGap to → Prints from to true P text → Prints from to true P (text ++ codes " ")
mark_spaced takes p = before_space (codes " ") blank (λ rest. tt) takes p

pub line_ends : {from to : Mode} {P : Part} {text : List ℕ} → TakesGap to → Prints from to false P text → Prints from to true P (text ++ codes "\n")
line_ends takes p = before_space (codes "\n") feed (λ rest. feed_stops) takes p

pub mark_line_ends : {from to : Mode} {P : Part} {text : List ℕ} → TakesGap to → Prints from to true P text → Prints from to true P (text ++ codes "\n")
mark_line_ends takes p = before_space (codes "\n") feed (λ rest. tt) takes p

pub comma_space : Prints Body Body true Comma (codes ", ")
comma_space = mark_spaced tt comma_in_body
