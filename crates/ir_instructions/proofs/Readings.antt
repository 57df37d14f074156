-- Soundness of the parser for single tokens, types, values and attachments: what it gives is spelled so.
use Rattle.ir_instructions.proofs.Common.{◌≡◌, ℕ, suc, length, Bool, true, false, cond, eqb, List, [], ◌∷◌, Option, Some, None, Ok, refl, sym, ap, subst, ◌∙◌, codes, bytes_eq, eqb-true, is_plain_name, identifier_of, constant_of, is_number, Placed, Word, Number, Register, Metadata, Mark, same_word, Syntax, RawOperand, RawValue, TypeWord, SpellsRegister, SpellsTarget, SpellsType, IsValueToken, SpellsOperand, SpellsTyped, IsCaseValue, Attachment, is_metadata, keyword_at, register_at, target_at, type_word, number_value, case_value_at, typed_at, identified, metadata_at, attachment_at, attachments_at, tail_attachment_at, tail_at, SpellsCaseValue, Part, Is, ◌⨾◌, Comma, Repeated, fault, given, or_left_out, type_in, value_in, truth_in}
use Rattle.ops.specs.Number.{Number as Numeral}
use Rattle.ir_tokens.specs.declared.raw.RawValue.TheVariants as values
use Rattle.ir_instructions.specs.declared.word.TypeWord.TheVariants as types
use Rattle.ir_instructions.specs.Grammar.{Tail}
use Rattle.ir_instructions.specs.InstructionReaders.{is_mark, mark_at, type_at, operand_at}
use Rattle.ir_instructions.specs.Punctuation as marks
use Rattle.ir_instructions.proofs.Loops.{repeat-is}
use Rattle.ir_instructions.proofs.Steps.{Reads, bind_ok, read_as, tested, not_left_out}
use Rattle.ir_instructions.proofs.WordLemmas.{type_in-is}

-- ---- one token

pub mark_at-is : (wanted : ℕ) → Reads (mark_at wanted) (λ once. Is (Mark wanted))
unfolding mark_at
mark_at-is wanted ((line, Mark mark) ∷ rest) x e =
    let t = tested (eqb mark wanted) (tt, rest) x (fault line Syntax) e in
    (line, ap (λ (m : ℕ). (line, Mark m) ∷ rest) (eqb-true mark wanted t.0) ∙ ap (λ (y : Unit {0} × List Placed). (line, Mark wanted) ∷ y.1) t.1)
mark_at-is wanted tokens x e = absurd cc

pub keyword_at-is : (wanted : List ℕ) → Reads (keyword_at wanted) (λ once. Is (Word wanted))
unfolding keyword_at
keyword_at-is wanted ((line, Word word) ∷ rest) x e =
    let t = tested (bytes_eq word wanted) (tt, rest) x (fault line Syntax) e in
    (line, ap (λ (w : List ℕ). (line, Word w) ∷ rest) (same_word word wanted t.0) ∙ ap (λ (y : Unit {0} × List Placed). (line, Word wanted) ∷ y.1) t.1)
keyword_at-is wanted tokens x e = absurd cc

pub register_at-is : Reads register_at SpellsRegister
unfolding register_at
register_at-is ((line, Register written) ∷ rest) x e = read_as (λ y. SpellsRegister y.0 ((line, Register written) ∷ rest) y.1) (identified line written, rest) x e (written, refl, refl)
register_at-is tokens x e = absurd cc

pub target_at-is : Reads target_at SpellsTarget
unfolding target_at
target_at-is tokens x e =
    let a = bind_ok (keyword_at (codes "label") tokens) _ _ e in
    (a.0.1, keyword_at-is (codes "label") tokens a.0 a.1, register_at-is a.0.1 x a.2)

type_word-is : (line : ℕ) (word : List ℕ) (found : TypeWord) (rest : List Placed) (x : ℕ × List Placed) → type_in word ≡ found → type_word line word found rest ≡ Ok x → SpellsType x.0 ((line, Word word) ∷ rest) x.1
type_word-is line word (types.Integer width) rest x t e = read_as (λ y. SpellsType y.0 ((line, Word word) ∷ rest) y.1) (width, rest) x e (word, type_in-is word width t, (line, refl))
type_word-is line word found rest x t e = absurd cc

pub type_at-is : Reads type_at SpellsType
unfolding type_at
type_at-is ((line, Word word) ∷ rest) x e = type_word-is line word (type_in word) rest x refl e
type_at-is tokens x e = absurd cc

-- ---- operands

pub number_value-is : (width line : ℕ) (digits : List ℕ) (found : Option Numeral) (rest : List Placed) (x : RawOperand × List Placed) → constant_of digits width ≡ found → given (number_value line found) rest ≡ Ok x → SpellsOperand width x.0 ((line, Number digits) ∷ rest) x.1
number_value-is width line digits (Some number) rest x is e =
    read_as (λ y. SpellsOperand width y.0 ((line, Number digits) ∷ rest) y.1) (record { line = line; value = values.Number number }, rest) x e (Number digits, (digits, is, refl), refl)
number_value-is width line digits None rest x is e = absurd cc

-- a word is the wanted one, and stands for its value, or is one of the others
tried : (P : RawValue → List ℕ → Type 0) (word wanted : List ℕ) (value found : RawValue) (others : Option RawValue) (b : Bool) → bytes_eq word wanted ≡ b → P value wanted → (others ≡ Some found → P found word) → cond b (Some value) others ≡ Some found → P found word
tried P word wanted value found others true h is next e =
    let same : value ≡ found = cc in subst (λ v. P v word) same (subst (P value) (sym (same_word word wanted h)) is)
tried P word wanted value found others false h is next e = next e

-- `true` and `false` are values, also of cases
abbrev IsTruth : RawValue → List ℕ → Type 0
IsTruth value word = IsCaseValue value × ((width : ℕ) → IsValueToken width value (Word word))

pub truth_in-is : (word : List ℕ) (value : RawValue) → truth_in word ≡ Some value → IsTruth value word
unfolding truth_in
truth_in-is word value =
    tried IsTruth word (codes "true") values.True value _ (bytes_eq word (codes "true")) refl (tt, λ width. refl)
    (tried IsTruth word (codes "false") values.False value _ (bytes_eq word (codes "false")) refl (tt, λ width. refl) (λ e. absurd cc))

value_in-is : (width : ℕ) (word : List ℕ) (value : RawValue) → value_in word ≡ Some value → IsValueToken width value (Word word)
unfolding value_in
value_in-is width word value =
    let P : RawValue → List ℕ → Type 0 = λ v w. IsValueToken width v (Word w) in
    tried P word (codes "undef") values.Undef value _ (bytes_eq word (codes "undef")) refl refl
    (tried P word (codes "poison") values.Poison value _ (bytes_eq word (codes "poison")) refl refl (λ e. let t = truth_in-is word value e in t.1 width))

pub operand_at-is : (width : ℕ) → Reads (operand_at width) (SpellsOperand width)
unfolding operand_at
operand_at-is width ((line, Register written) ∷ rest) x e =
    read_as (λ y. SpellsOperand width y.0 ((line, Register written) ∷ rest) y.1) (record { line = line; value = values.Register (identifier_of written) }, rest) x e
    (Register written, (written, refl, refl), refl)
operand_at-is width ((line, Number digits) ∷ rest) x e = number_value-is width line digits (constant_of digits width) rest x refl e
operand_at-is width ((line, Word word) ∷ rest) x e =
    let a = bind_ok (or_left_out line word (value_in word) rest) _ _ e in
    let named = not_left_out line word (value_in word) rest a.0 a.1 in
    read_as (λ y. SpellsOperand width y.0 ((line, Word word) ∷ rest) y.1) (record { line = line; value = a.0.0 }, a.0.1) x a.2
    (Word word, value_in-is width word a.0.0 named.0, ap (λ (ts : List Placed). (line, Word word) ∷ ts) named.1)
operand_at-is width tokens x e = absurd cc

pub number_case-is : (width line : ℕ) (digits : List ℕ) (found : Option Numeral) (rest : List Placed) (x : RawOperand × List Placed) → given (number_value line found) rest ≡ Ok x → IsCaseValue x.0.value
number_case-is width line digits (Some number) rest x e = read_as (λ y. IsCaseValue y.0.value) (record { line = line; value = values.Number number }, rest) x e tt
number_case-is width line digits None rest x e = absurd cc

pub case_value_at-is : (width : ℕ) → Reads (case_value_at width) (SpellsCaseValue width)
unfolding case_value_at
case_value_at-is width ((line, Number digits) ∷ rest) x e =
    (number_case-is width line digits (constant_of digits width) rest x e, number_value-is width line digits (constant_of digits width) rest x refl e)
case_value_at-is width ((line, Word word) ∷ rest) x e =
    let a = bind_ok (or_left_out line word (truth_in word) rest) _ _ e in
    let named = not_left_out line word (truth_in word) rest a.0 a.1 in
    let truth = truth_in-is word a.0.0 named.0 in
    read_as (λ y. SpellsCaseValue width y.0 ((line, Word word) ∷ rest) y.1) (record { line = line; value = a.0.0 }, a.0.1) x a.2
    (truth.0, (Word word, truth.1 width, ap (λ (ts : List Placed). (line, Word word) ∷ ts) named.1))
case_value_at-is width tokens x e = absurd cc

pub typed_at-is : Reads typed_at SpellsTyped
unfolding typed_at
typed_at-is tokens x e =
    let a = bind_ok (type_at tokens) _ _ e in
    let b = bind_ok (operand_at a.0.0 a.0.1) _ _ a.2 in
    read_as (λ y. SpellsTyped y.0 tokens y.1) (record { width = a.0.0; operand = b.0.0 }, b.0.1) x b.2
    (a.0.1, type_at-is tokens a.0 a.1, operand_at-is a.0.0 a.0.1 b.0 b.1)

-- ---- attachments

metadata_at-is : (test : List ℕ → Bool) → Reads (metadata_at test) (λ once tokens rest. (text : List ℕ) × (test text ≡ true) × Is (Metadata text) tokens rest)
unfolding metadata_at
metadata_at-is test ((line, Metadata text) ∷ rest) x e =
    let t = tested (test text) (tt, rest) x (fault line Syntax) e in
    (text, t.0, (line, ap (λ (y : Unit {0} × List Placed). (line, Metadata text) ∷ y.1) t.1))
metadata_at-is test tokens x e = absurd cc

pub attachment_at-is : Reads attachment_at (λ once. Attachment)
unfolding attachment_at
attachment_at-is tokens x e =
    let a = bind_ok (metadata_at is_plain_name tokens) _ _ e in
    let name = metadata_at-is is_plain_name tokens a.0 a.1 in
    let number = metadata_at-is is_number a.0.1 x a.2 in
    (name.0, number.0, name.1, number.1, (a.0.1, name.2, number.2))

pub tail_attachment_at-is : Reads tail_attachment_at (λ once. Comma ⨾ Attachment)
unfolding tail_attachment_at
tail_attachment_at-is tokens x e =
    let a = bind_ok (mark_at marks.comma tokens) _ _ e in
    (a.0.1, mark_at-is marks.comma tokens a.0 a.1, attachment_at-is a.0.1 x a.2)

-- a production once, and then repeated
more_times : (P : Part) (tokens middle rest : List Placed) → P tokens middle → Repeated P middle rest → Repeated P tokens rest
more_times P tokens middle rest once (times, each) = (tt ∷ times, (middle, once, each))

pub attachments_at-is : Reads attachments_at (λ once. Repeated Attachment)
unfolding attachments_at
attachments_at-is tokens x e =
    let r = repeat-is is_metadata (λ before. attachment_at) (λ a ts b rest. Repeated Attachment ts rest) (λ a ts. ([], refl))
    (λ a ts y b rest next one others. more_times Attachment ts y.1 rest (attachment_at-is ts y one) others) (suc (length tokens)) tt tokens x e in
    r.0

pub tail_at-is : Reads tail_at (λ once. Tail)
unfolding tail_at
tail_at-is tokens x e =
    let r = repeat-is (is_mark marks.comma) (λ before. tail_attachment_at) (λ a ts b rest. Tail ts rest) (λ a ts. ([], refl))
    (λ a ts y b rest next one others. more_times (Comma ⨾ Attachment) ts y.1 rest (tail_attachment_at-is ts y one) others) (suc (length tokens)) tt tokens x e in
    r.0
