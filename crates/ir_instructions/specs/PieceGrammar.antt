-- The grammar of registers, types and values: for each the syntax tree and the tokens that spell it (LLVM Language
-- Reference, "Identifiers", "Type System", "Constants").
use Rattle.std.specs.Prelude.{◌≡◌, ℕ, List, Some, codes}
use Rattle.ir_tokens.specs.Identifiers.{identifier_of}
use Rattle.ir_tokens.specs.Numbers.{constant_of}
use Rattle.ir_tokens.specs.Tokens.{Token, Word, Number, Register}
use Rattle.ir_tokens.specs.declared.raw.RawIdentifier.{RawIdentifier}
use Rattle.ir_tokens.specs.declared.raw.TypedOperand.{TypedOperand}
use Rattle.ir_tokens.specs.declared.raw.RawOperand.{RawOperand}
use Rattle.ir_tokens.specs.declared.raw.RawValue.{RawValue}
use Rattle.ir_tokens.specs.declared.raw.RawValue.TheVariants as values
use Rattle.ir_instructions.specs.Parts.{Part, IsOn, Is, ◌⨾◌}
use Rattle.ir_instructions.specs.Keywords.{IsTypeWord}

-- ---- names, types and values

-- REGISTER
abbrev pub SpellsRegister : RawIdentifier → Part
SpellsRegister r tokens rest = (written : List ℕ) × (r.identifier ≡ identifier_of written) × IsOn r.line (Register written) tokens rest

-- target := 'label' REGISTER
abbrev pub SpellsTarget : RawIdentifier → Part
SpellsTarget target = Is (Word (codes "label")) ⨾ SpellsRegister target

-- type
abbrev pub SpellsType : ℕ → Part
SpellsType width tokens rest = (word : List ℕ) × IsTypeWord word width × Is (Word word) tokens rest

-- val := REGISTER | NUMBER | 'true' | 'false' | 'undef' | 'poison'
abbrev pub IsValueToken : ℕ → RawValue → Token → Type 0
IsValueToken width (values.Register name) token = (written : List ℕ) × (name ≡ identifier_of written) × (token ≡ Register written)
IsValueToken width (values.Number number) token = (digits : List ℕ) × (constant_of digits width ≡ Some number) × (token ≡ Number digits)
IsValueToken width values.True token = token ≡ Word (codes "true")
IsValueToken width values.False token = token ≡ Word (codes "false")
IsValueToken width values.Undef token = token ≡ Word (codes "undef")
IsValueToken width values.Poison token = token ≡ Word (codes "poison")

abbrev pub SpellsOperand : ℕ → RawOperand → Part
SpellsOperand width a tokens rest = (token : Token) × IsValueToken width a.value token × IsOn a.line token tokens rest

-- type val
abbrev pub SpellsTyped : TypedOperand → Part
SpellsTyped t = SpellsType t.width ⨾ SpellsOperand t.width t.operand

-- a case has a number, `true` or `false`
abbrev pub IsCaseValue : RawValue → Type 0
IsCaseValue (values.Number number) = Unit {0}
IsCaseValue values.True = Unit {0}
IsCaseValue values.False = Unit {0}
IsCaseValue value = ⊥
