-- What holds of the parser of each production.
use Rattle.std.specs.Prelude.{◌≡◌, ◌↔◌, ℕ, false, List, Ok}
use Rattle.ir_tokens.specs.Tokens.{Placed, Word, Mark}
use Rattle.ir_tokens.specs.declared.raw.RawOperand.{RawOperand}
use Rattle.ir_instructions.specs.Grammar.{Attachment, IsCaseValue, SpellsInst, SpellsOperand, SpellsRegister, SpellsTarget, SpellsTerminator, SpellsType, SpellsTyped, Tail}
use Rattle.ir_instructions.specs.ItemGrammar.{MayFollowItem}
use Rattle.ir_instructions.specs.InstructionReaders.{attachments_at, case_value_at, insts_at, is_mark, is_metadata, is_register, keyword_at, mark_at, operand_at, register_at, tail_at, target_at, terminator_at, type_at, typed_at}
use Rattle.ir_instructions.specs.Parts.{Part, Is, Each, Repeated}
use Rattle.ir_instructions.specs.Punctuation as marks
use Rattle.ir_instructions.specs.Readers.{Reader}

-- the parser of a production gives a syntax tree and the tokens behind it exactly where the grammar spells that tree
-- between these tokens
abbrev pub IsReadAsSpelled : {A : Type 0} → Reader A → (A → Part) → Type 0
IsReadAsSpelled {A} reader P = (tokens rest : List Placed) (x : A) → (reader tokens ≡ Ok (x, rest)) ↔ P x tokens rest

-- the same for a production that may be continued: what the parser gives is spelled so, and it gives what is spelled if
-- nothing behind it continues it
abbrev pub IsReadAsSpelledBefore : {A : Type 0} → (List Placed → Type 0) → Reader A → (A → Part) → Type 0
IsReadAsSpelledBefore {A} Stops reader P =
    (tokens rest : List Placed) (x : A) → (reader tokens ≡ Ok (x, rest) → P x tokens rest) × (Stops rest → P x tokens rest → reader tokens ≡ Ok (x, rest))

-- a value of a `switch`'s case
abbrev pub SpellsCaseValue : ℕ → RawOperand → Part
SpellsCaseValue width a tokens rest = IsCaseValue a.value × SpellsOperand width a tokens rest

-- no metadata is next; no `,` is; and nothing is that begins an instruction or continues one
abbrev pub HasNoMetadata : List Placed → Type 0
HasNoMetadata rest = is_metadata rest ≡ false

abbrev pub HasNoComma : List Placed → Type 0
HasNoComma rest = is_mark marks.comma rest ≡ false

abbrev pub HasNoInst : List Placed → Type 0
HasNoInst rest = (is_register rest ≡ false) × HasNoComma rest × MayFollowItem rest

pub record PartsAreReadAsSpelled : Type 0 where
  pub mark : (byte : ℕ) → IsReadAsSpelled (mark_at byte) (λ once. Is (Mark byte))
  pub keyword : (word : List ℕ) → IsReadAsSpelled (keyword_at word) (λ once. Is (Word word))
  pub register : IsReadAsSpelled register_at SpellsRegister
  pub target : IsReadAsSpelled target_at SpellsTarget
  pub type_of : IsReadAsSpelled type_at SpellsType
  pub operand : (width : ℕ) → IsReadAsSpelled (operand_at width) (SpellsOperand width)
  pub case_value : (width : ℕ) → IsReadAsSpelled (case_value_at width) (SpellsCaseValue width)
  pub typed : IsReadAsSpelled typed_at SpellsTyped
  pub attachments : IsReadAsSpelledBefore HasNoMetadata attachments_at (λ once. Repeated Attachment)
  pub tail : IsReadAsSpelledBefore HasNoComma tail_at (λ once. Tail)
  pub insts : IsReadAsSpelledBefore HasNoInst insts_at (Each SpellsInst)
  pub terminator : IsReadAsSpelled terminator_at (λ end. SpellsTerminator end.0 end.1)
