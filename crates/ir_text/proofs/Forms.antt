-- The tokens of a text have the forms of their kinds, in every text and context.
use Rattle.ir_text.proofs.Common.{◌≡◌, ℕ, ◌+◌, ◌-◌, ◌<◌, ◌≤◌, true, false, not, eqb, ◌&&◌, ◌||◌, List, [], ◌∷◌, ◌++◌, codes, length, take, drop, refl, sym, ap, ◌∙◌, ◌⊎◌, ⊎_elim, length-take, take-add, drop-drop, eqb-true, arith, AllByRecursion, list_all, bytes_eq, false≢true, bytes_eq-Decides, TokenKind, Span, are_digits, begins_with, is_name_byte, Begins, BeginsNoToken, HoldsZero, IsLongestToken, is_behind, is_function, is_label, is_metadata, is_name, is_register, marks, spells, IsGroup, between, in_quotes, is_negative, and_left, and_right, which, seen, Section, AtEntry, InHeader, InBody, IsTokenAt, TokensFrom, bad_byte, itself, kept_group, kept_line, last, token, unclosed, begins_kept, extent_of, is_on, Placed, Token, is_last, mark_of, token_of, HasForm, IsGroupText}
use Rattle.std.proofs.Common.{length-append}
use Rattle.scan.specs.declared.ir.token.TokenKind.TheVariants as kinds
use Rattle.scan.specs.IrTokens as scanned
use Rattle.ir_tokens.specs.declared.place.Extent.TheVariants as extents
use Rattle.ir_tokens.specs.Numbers.{is_number}
use Rattle.ir_text.proofs.KeptLines.{is_kept}
use Rattle.ir_text.proofs.Shapes.{last_byte, of_among}
use Rattle.ir_text.proofs.Zeros.{in_quotes-behind, in_quotes-label, same_zeros}

-- ---- tokens by themselves

behind_form : (c : ℕ) (bytes : List ℕ) → eqb c 34 ≡ false → is_behind c is_name bytes ≡ true → ¬ HoldsZero bytes → (is_name (drop 1 bytes) ≡ true) × ¬ HoldsZero (drop 1 bytes)
behind_form c [] no_quote e none = absurd (false≢true e)
behind_form c (b ∷ name) no_quote e none = (
  and_right (eqb b c) (is_name name) e,
  same_zeros (b ∷ name) name (in_quotes-behind b name (ap (λ (d : ℕ). eqb d 34) (eqb-true b c (and_left (eqb b c) (is_name name) e)) ∙ no_quote)) none,
)

form_of : (kind : TokenKind) (bytes rest : List ℕ) → spells kind bytes rest ≡ true → ¬ HoldsZero bytes → HasForm (token_of kind bytes)
unfolding is_label is_register is_function is_metadata is_number scanned.is_number is_negative
form_of kinds.End bytes rest e none = absurd (false≢true e)
form_of kinds.Other bytes rest e none = absurd (false≢true e)
form_of kinds.Label bytes rest e none =
    let name : is_name (take (length bytes - 1) bytes) ≡ true = and_left (is_name (take (length bytes - 1) bytes)) _ e in
    let is : bytes ≡ take (length bytes - 1) bytes ++ 58 ∷ [] = last_byte bytes 58 (and_right (is_name (take (length bytes - 1) bytes)) _ e) (λ same. cc) in
    (name, same_zeros bytes (take (length bytes - 1) bytes) (ap in_quotes is ∙ in_quotes-label (take (length bytes - 1) bytes) name) none)
form_of kinds.Word bytes rest e none = e
form_of kinds.Number bytes rest e none = and_left (are_digits bytes || is_negative bytes) (not (begins_with is_name_byte rest)) e
form_of kinds.Register bytes rest e none = behind_form 37 bytes refl e none
form_of kinds.Function bytes rest e none = behind_form 64 bytes refl e none
form_of kinds.Group bytes rest e none = e
form_of kinds.Metadata [] rest e none = absurd (false≢true e)
form_of kinds.Metadata (b ∷ name) rest e none = and_right (eqb b 33) (list_all is_name_byte name) e
form_of kinds.Quoted bytes rest e none = (e, none)
form_of kinds.Mark bytes rest e none = of_among (λ mark. HasForm (mark_of mark)) marks bytes (refl, (refl, (refl, (refl, (refl, (refl, (refl, (refl, (refl, (refl, tt)))))))))) e

begun_form : (text : List ℕ) (kind : TokenKind) (n : ℕ) → Begins text kind n → ¬ HoldsZero (take n text) → is_last (token_of kind (take n text)) ≡ false → HasForm (token_of kind (take n text))
begun_form text kind n h none more = ⊎_elim
    (λ (t : IsLongestToken text kind n). form_of kind (take n text) (drop n text) t.of_kind none)
    (λ (o : ((kind ≡ kinds.Other) × BeginsNoToken text × (n ≡ 1)) ⊎ ((kind ≡ kinds.End) × (text ≡ []) × (n ≡ 0))). absurd (⊎_elim
    (λ (x : (kind ≡ kinds.Other) × BeginsNoToken text × (n ≡ 1)). false≢true (sym more ∙ ap (λ (k : TokenKind). is_last (token_of k (take n text))) x.0))
    (λ (x : (kind ≡ kinds.End) × (text ≡ []) × (n ≡ 0)). false≢true (sym more ∙ ap (λ (k : TokenKind). is_last (token_of k (take n text))) x.0))
    o))
    (seen text kind n h)

-- ---- kept groups

bracket_is : (place : Section) (line : ℕ) (bytes : List ℕ) → extent_of place line bytes ≡ extents.Group → bytes ≡ 40 ∷ []
unfolding extent_of
bracket_is (AtEntry before) line bytes e = ⊎_elim
    (λ (h : (begins_kept bytes && not (is_on line before)) ≡ true). absurd (let other : extents.Line ≡ extents.Group = rw h at e in cc))
    (λ (h : (begins_kept bytes && not (is_on line before)) ≡ false). absurd (let other : extents.Itself ≡ extents.Group = rw h at e in cc))
    (which (begins_kept bytes && not (is_on line before)))
bracket_is (InHeader word) line bytes e = ⊎_elim
    (λ (h : (bytes_eq bytes (codes "(") && is_on line word) ≡ true). (bytes_eq-Decides bytes (codes "(")).0 (and_left (bytes_eq bytes (codes "(")) (is_on line word) h))
    (λ (h : (bytes_eq bytes (codes "(") && is_on line word) ≡ false). absurd (let other : extents.Itself ≡ extents.Group = rw h at e in cc))
    (which (bytes_eq bytes (codes "(") && is_on line word))
bracket_is (InBody word) line bytes e = ⊎_elim
    (λ (h : (bytes_eq bytes (codes "(") && is_on line word) ≡ true). (bytes_eq-Decides bytes (codes "(")).0 (and_left (bytes_eq bytes (codes "(")) (is_on line word) h))
    (λ (h : (bytes_eq bytes (codes "(") && is_on line word) ≡ false). absurd (let other : extents.Itself ≡ extents.Group = rw h at e in cc))
    (which (bytes_eq bytes (codes "(") && is_on line word))

between_both : (text : List ℕ) (a b c : ℕ) → a ≤ b → b ≤ c → between text a c ≡ between text a b ++ between text b c
between_both text a b c le more =
    let count : c - a ≡ (b - a) + (c - b) = omega arith in
    let there : a + (b - a) ≡ b = omega arith in
    ap (λ (n : ℕ). take n (drop a text)) count ∙ take-add (b - a) (c - b) (drop a text)
    ∙ ap (λ (t : List ℕ). take (b - a) (drop a text) ++ take (c - b) t) (drop-drop (b - a) a text ∙ ap (λ (n : ℕ). drop n text) there)

group_form : (text : List ℕ) (start end : ℕ) (rest : Span) → start ≤ end → between text start end ≡ 40 ∷ [] → IsGroup text end rest → IsGroupText (between text start rest.end)
group_form text start end rest le bracket g =
    let some : 0 < length (between text end rest.end) = omega (arith, ap length g.bytes, length-append g.content (41 ∷ [])) in
    let past : end < rest.end = omega (arith, length-take (rest.end - end) (drop end text)) in
    (g.content, g.balanced, between_both text start end rest.end le (omega arith) ∙ ap (λ (t : List ℕ). t ++ between text end rest.end) bracket ∙ ap (λ (t : List ℕ). 40 ∷ t) g.bytes)

-- ---- tokens of a text

-- the token has the form of its kind, if the grammar allows it somewhere and it is no kept line
abbrev pub HasItsForm : Token → Type 0
HasItsForm t = is_last t ≡ false → is_kept t ≡ false → HasForm t

pub token_form : {text : List ℕ} {place : Section} {at end : ℕ} {t : Placed} → IsTokenAt text place at t end → HasItsForm t.1
token_form {text} (itself t next extent) more other = begun_form (drop t.span.start text) t.kind (t.span.end - t.span.start) next.token next.no_zero more
token_form (kept_line t rest next extent kept) more other = absurd (false≢true (sym other))
token_form {text} {place} (kept_group t rest next extent kept) more other = group_form text t.span.start t.span.end rest next.order.1 (bracket_is place t.line _ extent) kept
token_form (unclosed t next extent none) more other = absurd (false≢true (sym more))
token_form (bad_byte line is) more other = absurd (false≢true (sym more))

pub forms_of : {text : List ℕ} {place : Section} {at : ℕ} {tokens : List Placed} → TokensFrom text place at tokens → AllByRecursion (λ t. HasItsForm t.1) tokens
forms_of (last h e) = (token_form h, tt)
forms_of (token h e behind) = (token_form h, forms_of behind)
