-- Completeness of the parser for names, values, attachments and items: it gives what is spelled, if what follows may
-- follow.
use Rattle.ir_instructions.proofs.Common.{◌≡◌, ℕ, true, false, eq-eqb, List, ◌∷◌, Ok, refl, codes, Flags, word_is, Token, Placed, Word, Mark, RawIdentifier, TypedOperand, RawOperand, RawValue, SpellsRegister, SpellsTarget, SpellsType, IsValueToken, SpellsOperand, SpellsTyped, IsCaseValue, Attachment, is_metadata, is_keyword, is_flag, keyword_at, register_at, target_at, case_value_at, typed_at, metadata_at, attachment_at, attachments_at, tail_attachment_at, tail_at, Part, Is, ◌⨾◌, Comma, Repeated, value_in, truth_in}
use Rattle.ir_tokens.specs.declared.raw.RawValue.TheVariants as values
use Rattle.ir_instructions.specs.Grammar.{Tail}
use Rattle.ir_instructions.specs.InstructionReaders.{is_mark, mark_at, type_at, operand_at}
use Rattle.ir_instructions.specs.Punctuation as marks
use Rattle.ir_instructions.proofs.Loops.{repeat-of}
use Rattle.ir_instructions.proofs.Takings.{attachment-takes, tail-takes}
use Rattle.ir_instructions.proofs.WordLemmas.{type_in-of, type_is_no_flag, type_is_no_label}

-- ---- one token

pub mark_at-of : (wanted : ℕ) (tokens rest : List Placed) → Is (Mark wanted) tokens rest → mark_at wanted tokens ≡ Ok (tt, rest)
unfolding mark_at
mark_at-of wanted tokens rest (line, is) = rw (is, eq-eqb wanted wanted refl) refl

pub keyword_at-of : (wanted : List ℕ) (tokens rest : List Placed) → Is (Word wanted) tokens rest → keyword_at wanted tokens ≡ Ok (tt, rest)
unfolding keyword_at
keyword_at-of wanted tokens rest (line, is) = rw (is, word_is wanted) refl

pub register_at-of : (r : RawIdentifier) (tokens rest : List Placed) → SpellsRegister r tokens rest → register_at tokens ≡ Ok (r, rest)
unfolding register_at
register_at-of r tokens rest (written, same, is) = rw (is, ← same) refl

pub target_at-of : (r : RawIdentifier) (tokens rest : List Placed) → SpellsTarget r tokens rest → target_at tokens ≡ Ok (r, rest)
unfolding target_at
target_at-of r tokens rest (middle, keyword, register) = rw (keyword_at-of (codes "label") tokens middle keyword) (register_at-of r middle rest register)

pub type_at-of : (width : ℕ) (tokens rest : List Placed) → SpellsType width tokens rest → type_at tokens ≡ Ok (width, rest)
unfolding type_at
type_at-of width tokens rest (word, type, (line, is)) = rw (is, type_in-of word width type) refl

-- no type begins like a flag or is `label`
pub type_begins_no_flag : (taken : Flags) (width : ℕ) (tokens rest : List Placed) → SpellsType width tokens rest → is_flag taken tokens ≡ false
type_begins_no_flag taken width tokens rest (word, type, (line, is)) = rw (is, type_is_no_flag taken word width type) refl

pub type_is_no_keyword : (width : ℕ) (tokens rest : List Placed) → SpellsType width tokens rest → is_keyword (codes "label") tokens ≡ false
type_is_no_keyword width tokens rest (word, type, (line, is)) = rw (is, type_is_no_label word width type) refl

-- ---- operands

value_is_read : (width line : ℕ) (value : RawValue) (token : Token) (rest : List Placed) → IsValueToken width value token → operand_at width ((line, token) ∷ rest) ≡ Ok (record { line = line; value = value }, rest)
unfolding operand_at value_in truth_in
value_is_read width line (values.Register name) token rest (written, same, is) = rw (is, same) refl
value_is_read width line (values.Number number) token rest (digits, constant, is) = rw (is, constant) refl
value_is_read width line values.True token rest is = rw is refl
value_is_read width line values.False token rest is = rw is refl
value_is_read width line values.Undef token rest is = rw is refl
value_is_read width line values.Poison token rest is = rw is refl

pub operand_at-of : (width : ℕ) (a : RawOperand) (tokens rest : List Placed) → SpellsOperand width a tokens rest → operand_at width tokens ≡ Ok (a, rest)
operand_at-of width a tokens rest (token, value, is) = rw is (value_is_read width a.line a.value token rest value)

case_is_read : (width line : ℕ) (value : RawValue) (token : Token) (rest : List Placed) → IsCaseValue value → IsValueToken width value token → case_value_at width ((line, token) ∷ rest) ≡ Ok (record { line = line; value = value }, rest)
unfolding case_value_at truth_in
case_is_read width line (values.Number number) token rest case (digits, constant, is) = rw (is, constant) refl
case_is_read width line values.True token rest case is = rw is refl
case_is_read width line values.False token rest case is = rw is refl
case_is_read width line value token rest case is = absurd case

pub case_value_at-of : (width : ℕ) (a : RawOperand) (tokens rest : List Placed) → IsCaseValue a.value → SpellsOperand width a tokens rest → case_value_at width tokens ≡ Ok (a, rest)
case_value_at-of width a tokens rest case (token, value, is) = rw is (case_is_read width a.line a.value token rest case value)

pub typed_at-of : (t : TypedOperand) (tokens rest : List Placed) → SpellsTyped t tokens rest → typed_at tokens ≡ Ok (t, rest)
unfolding typed_at
typed_at-of t tokens rest (middle, type, operand) = rw (type_at-of t.width tokens middle type, operand_at-of t.width t.operand middle rest operand) refl

-- ---- attachments

attachment_at-of : (tokens rest : List Placed) → Attachment tokens rest → attachment_at tokens ≡ Ok (tt, rest)
unfolding attachment_at metadata_at
attachment_at-of tokens rest (name, number, plain, digits, (middle, (line, is), (next, behind))) = rw (is, plain, behind, digits) refl

pub attachment_is_metadata : (tokens rest : List Placed) → Attachment tokens rest → is_metadata tokens ≡ true
attachment_is_metadata tokens rest (name, number, plain, digits, (middle, (line, is), behind)) = rw is refl

pub attachments_at-of : (tokens rest : List Placed) → Repeated Attachment tokens rest → is_metadata rest ≡ false → attachments_at tokens ≡ Ok (tt, rest)
unfolding attachments_at
attachments_at-of tokens rest (times, each) none = repeat-of is_metadata attachment_at Attachment attachment-takes attachment_is_metadata attachment_at-of times tokens rest each none

tail_attachment_at-of : (tokens rest : List Placed) → (Comma ⨾ Attachment) tokens rest → tail_attachment_at tokens ≡ Ok (tt, rest)
unfolding tail_attachment_at
tail_attachment_at-of tokens rest (middle, comma, attachment) = rw (mark_at-of marks.comma tokens middle comma) (attachment_at-of middle rest attachment)

begins_with_comma : (P : Part) (tokens rest : List Placed) → (Comma ⨾ P) tokens rest → is_mark marks.comma tokens ≡ true
begins_with_comma P tokens rest (middle, (line, is), behind) = rw is refl

pub tail_at-of : (tokens rest : List Placed) → Tail tokens rest → is_mark marks.comma rest ≡ false → tail_at tokens ≡ Ok (tt, rest)
unfolding tail_at
tail_at-of tokens rest (times, each) none = repeat-of (is_mark marks.comma) tail_attachment_at (Comma ⨾ Attachment) tail-takes (begins_with_comma Attachment) tail_attachment_at-of times tokens rest each none
