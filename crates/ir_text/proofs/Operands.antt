-- Types, registers, blocks and operands: their printed text is read as what they are.
use Rattle.ir_text.proofs.Common.{◌≡◌, inl, inr, ℕ, ◌<◌, ◌≤◌, ◌^◌, false, ◌∷◌, Some, codes, refl, sym, ap, subst, ◌∙◌, arith, decimal, cases_eq, begins_name, begins_word, is_letter, is_name_byte, is_word, Word, Operand, IsBlock, OperandHasWidth, Name, place_of, block_place, RawIdentifier, RawOperand, RawValue, SpellsRegister, SpellsTarget, SpellsType, SpellsOperand, IsCaseValue, ◌⨾◌, literal_of, ValueMeans, Thing, Value, name_in, IsWidth, NumberFits, OperandFits, number_text, block_identifier, identifier_text, register_text, block_name_text, target_text, type_text, operand_text, typed_text, Identifies}
use Rattle.ops.specs.Number.{Number}
use Rattle.ir_tokens.specs.Tokens.{Number as NumberToken, Register as RegisterToken}
use Rattle.ir_core.specs.declared.function.Function.{Function}
use Rattle.ir_core.specs.declared.function.Block.{Block as CoreBlock}
use Rattle.ir_core.specs.declared.operand.Operand.TheVariants as operands
use Rattle.ir_core.specs.declared.operand.Register.{Register}
use Rattle.ir_resolve.specs.Identifiers.{identifier_of as core_identifier_of}
use Rattle.ir_tokens.specs.declared.raw.RawValue.TheVariants as values
use Rattle.ir_resolve.specs.Written.{Block}
use Rattle.ir_text.proofs.NumberForms.{decimal_digits, decimal_value-decimal, type_form, number_form, number_reads}
use Rattle.ir_text.proofs.Prints.{Mode, Body, Prints, Reads, prints_as, prints_map, prints_next}
use Rattle.ir_text.proofs.Tokens.{Inside, in_body, word_inside, word_in_body, number_in_body, register_inside, spaced}
use Rattle.ir_text.proofs.Calling.{IsPrintable, IsCalled, is_called, block_named, register_named}

-- ---- types

pub type_prints : {mode : Mode} → Inside mode → (width : ℕ) → IsWidth width → Prints mode mode false (SpellsType width) (type_text width)
unfolding type_text
type_prints inside width ok =
    let small : width < 2 ^ 64 = let most = ok.1 in omega arith in
    prints_map (SpellsType width) (λ tokens rest is. (105 ∷ decimal width, (decimal width, refl, decimal_digits width small, decimal_value-decimal width small, ok.0, ok.1), is)) (word_inside inside (105 ∷ decimal width) (type_form width small))

-- ---- registers and blocks

-- this is written for a thing: its identifier, which is the name if it has one
abbrev pub Calls : Function → Name → RawIdentifier → Thing → Type 0
Calls f name w thing = Identifies f w.identifier thing × (name ≡ name_in w.identifier)

pub register_called : {mode : Mode} → Inside mode → (f : Function) (r : Register) (name : Name) → IsCalled (core_identifier_of f r) name → Prints mode mode false (Reads SpellsRegister (Calls f name) (Value r)) (register_text f r)
unfolding register_text
register_called inside f r name c =
    prints_map (Reads SpellsRegister (Calls f name) (Value r)) (λ tokens rest (line, is). (record { line = line; identifier = c.written }, (identifier_text (core_identifier_of f r), c.reads, is), (c.is_written, c.name_is)))
    (register_inside inside (identifier_text (core_identifier_of f r)) c.form)

pub block_called : (f : Function) (b : ℕ) (name : Name) → IsCalled (block_identifier f b) name → Prints Body Body false (Reads SpellsRegister (Calls f name) (Block b)) (block_name_text f b)
unfolding block_name_text
block_called f b name c =
    prints_map (Reads SpellsRegister (Calls f name) (Block b)) (λ tokens rest (line, is). (record { line = line; identifier = c.written }, (identifier_text (block_identifier f b), c.reads, is), (c.is_written, c.name_is)))
    (register_inside in_body (identifier_text (block_identifier f b)) c.form)

-- this is written for a block where it is named
abbrev pub IsBlockName : Function → RawIdentifier → ℕ → Type 0
IsBlockName f w b = Identifies f w.identifier (Block b)

pub block_name_prints : (f : Function) → IsPrintable f → (b : ℕ) (block : CoreBlock) → IsBlock f b block → Prints Body Body false (Reads SpellsRegister (IsBlockName f) b) (block_name_text f b)
block_name_prints f fits b block at =
    prints_map (Reads SpellsRegister (IsBlockName f) b) (λ tokens rest (w, spells, is). (w, spells, is.0))
    (block_called f b block.name (is_called f fits (block_place f b) block.name (block_named f b block at)))

pub target_prints : (f : Function) → IsPrintable f → (b : ℕ) (block : CoreBlock) → IsBlock f b block → Prints Body Body false (Reads SpellsTarget (IsBlockName f) b) (target_text f b)
unfolding target_text is_word begins_word begins_name is_letter is_name_byte
target_prints f fits b block at =
    prints_map (Reads SpellsTarget (IsBlockName f) b) (λ tokens rest (between, label, (w, spells, is)). (w, (between, label, spells), is))
    (prints_next (spaced tt (word_in_body (codes "label") refl)) (block_name_prints f fits b block at))

-- ---- numbers

-- the literal as written is the number, and may be the value of a case
abbrev pub IsLiteral : RawOperand → Number → Type 0
IsLiteral a n = (literal_of a.value ≡ Some n) × IsCaseValue a.value

the_number : (n : Number) (width number : ℕ) → n.width ≡ width → n.number ≡ number → record { width = width; number = number } ≡ n
the_number n width number w k = ap (λ (x : ℕ). record { width = x; number = number }) (sym w) ∙ ap (λ (x : ℕ). record { width = n.width; number = x }) (sym k)

false_text : (n : Number) → n.width ≡ 1 → n.number ≡ 0 → number_text n ≡ codes "false"
unfolding number_text
false_text n one zero = rw (one, zero) refl

true_text : (n : Number) → n.width ≡ 1 → n.number ≡ 1 → number_text n ≡ codes "true"
unfolding number_text
true_text n one is = rw (one, is) refl

false_prints : (n : Number) → n.width ≡ 1 → n.number ≡ 0 → Prints Body Body false (Reads (SpellsOperand n.width) IsLiteral n) (number_text n)
unfolding is_word begins_word begins_name is_letter is_name_byte
false_prints n one zero = prints_as (false_text n one zero)
    (prints_map (Reads (SpellsOperand n.width) IsLiteral n) (λ tokens rest (line, is). (record { line = line; value = values.False }, (Word (codes "false"), refl, is), (ap Some (the_number n 1 0 one zero), tt)))
    (word_in_body (codes "false") refl))

true_prints : (n : Number) → n.width ≡ 1 → n.number ≡ 1 → Prints Body Body false (Reads (SpellsOperand n.width) IsLiteral n) (number_text n)
unfolding is_word begins_word begins_name is_letter is_name_byte
true_prints n one is_one = prints_as (true_text n one is_one)
    (prints_map (Reads (SpellsOperand n.width) IsLiteral n) (λ tokens rest (line, is). (record { line = line; value = values.True }, (Word (codes "true"), refl, is), (ap Some (the_number n 1 1 one is_one), tt)))
    (word_in_body (codes "true") refl))

truth_prints : (n : Number) → n.width ≡ 1 → n.number < 2 → Prints Body Body false (Reads (SpellsOperand n.width) IsLiteral n) (number_text n)
truth_prints n one small = elim (cases_eq n.number 0) [ inl zero ↦ false_prints n one zero | inr not_zero ↦ true_prints n one (omega arith) ]

wide_prints : (n : Number) → 2 ≤ n.width → n.width ≤ 64 → NumberFits n → Prints Body Body false (Reads (SpellsOperand n.width) IsLiteral n) (number_text n)
wide_prints n least most fits =
    prints_map (Reads (SpellsOperand n.width) IsLiteral n) (λ tokens rest (line, is). (record { line = line; value = values.Number n }, (NumberToken (number_text n), (number_text n, number_reads n least most fits, refl), is), (refl, tt)))
    (number_in_body (number_text n) (number_form n least most fits))

pub number_prints : (n : Number) → IsWidth n.width → NumberFits n → Prints Body Body false (Reads (SpellsOperand n.width) IsLiteral n) (number_text n)
number_prints n ok fits =
    let least = ok.0 in
    elim (cases_eq n.width 1) [ inl one ↦ truth_prints n one (subst (λ (w : ℕ). n.number < 2 ^ w) one fits) | inr not_one ↦ wide_prints n (omega arith) ok.1 fits ]

-- ---- operands

abbrev pub MeansOperand : Function → RawOperand → Operand → Type 0
MeansOperand f a x = ValueMeans (Identifies f) a.value x

literal_means : (f : Function) (value : RawValue) (n : Number) → literal_of value ≡ Some n → ValueMeans (Identifies f) value (operands.Number n)
literal_means f (values.Register x) n is = is
literal_means f (values.Number m) n is = is
literal_means f values.True n is = is
literal_means f values.False n is = is
literal_means f values.Undef n is = is
literal_means f values.Poison n is = is

pub operand_prints : (f : Function) → IsPrintable f → (width : ℕ) (a : Operand) → OperandHasWidth f width a → IsWidth width → OperandFits a → Prints Body Body false (Reads (SpellsOperand width) (MeansOperand f) a) (operand_text f a)
unfolding operand_text is_word begins_word begins_name is_letter is_name_byte
operand_prints f fits width (operands.Register r) has ok number =
    let (name, at) = register_named f r width has in
    prints_map (Reads (SpellsOperand width) (MeansOperand f) (operands.Register r))
    (λ tokens rest (w, (written, is, on), calls). (record { line = w.line; value = values.Register w.identifier }, (RegisterToken written, (written, is, refl), on), calls.0))
    (register_called in_body f r name (is_called f fits (place_of f r) name at))
operand_prints f fits width (operands.Number n) has ok number =
    subst (λ (w : ℕ). Prints Body Body false (Reads (SpellsOperand w) (MeansOperand f) (operands.Number n)) (number_text n)) has
    (prints_map (Reads (SpellsOperand n.width) (MeansOperand f) (operands.Number n)) (λ tokens rest (a, spells, is). (a, spells, literal_means f a.value n is.0)) (number_prints n (subst IsWidth (sym has) ok) number))
operand_prints f fits width operands.Undef has ok number =
    prints_map (Reads (SpellsOperand width) (MeansOperand f) operands.Undef) (λ tokens rest (line, is). (record { line = line; value = values.Undef }, (Word (codes "undef"), refl, is), tt)) (word_in_body (codes "undef") refl)
operand_prints f fits width operands.Poison has ok number =
    prints_map (Reads (SpellsOperand width) (MeansOperand f) operands.Poison) (λ tokens rest (line, is). (record { line = line; value = values.Poison }, (Word (codes "poison"), refl, is), tt)) (word_in_body (codes "poison") refl)

-- an operand with its type before it
pub typed_prints : (f : Function) → IsPrintable f → (width : ℕ) (a : Operand) → OperandHasWidth f width a → IsWidth width → OperandFits a
    → Prints Body Body false (SpellsType width ⨾ Reads (SpellsOperand width) (MeansOperand f) a) (typed_text f width a)
unfolding typed_text
typed_prints f fits width a has ok number = prints_next (spaced tt (type_prints in_body width ok)) (operand_prints f fits width a has ok number)
