-- Which forms the parts of a module have, so that its printed text reads as the module (LLVM Language Reference,
-- "Identifiers", "Module Structure", "Functions", "Parameter Attributes", "Integer Type").
use Rattle.std.specs.Prelude.{ℕ, ◌<◌, ◌≤◌, ◌^◌, List, [], ◌∷◌, None, Some, All, Contains}
use Rattle.ops.specs.Number.{Number}
use Rattle.ir_core.specs.declared.module.Module.{Module}
use Rattle.ir_core.specs.declared.module.Entry.{Entry}
use Rattle.ir_core.specs.declared.module.Entry.TheVariants as entries
use Rattle.ir_core.specs.declared.function.Function.{Function}
use Rattle.ir_core.specs.declared.function.Parameter.{Parameter}
use Rattle.ir_core.specs.declared.function.Block.{Block}
use Rattle.ir_core.specs.declared.instruction.Inst.{Inst}
use Rattle.ir_core.specs.declared.operand.Operand.{Operand}
use Rattle.ir_core.specs.declared.operand.Operand.TheVariants as operands
use Rattle.ir_core.specs.declared.terminator.Terminator.{Terminator}
use Rattle.ir_core.specs.declared.terminator.Terminator.TheVariants as terminators
use Rattle.ir_core.specs.Blocks.{IsBlock}
use Rattle.ir_core.specs.Checks.{IsInst}
use Rattle.ir_core.specs.Names.{names_of}
use Rattle.ir_core.specs.Reads.{Read, IsRead}
use Rattle.ir_tokens.specs.declared.place.Section.TheVariants.{InHeader}
use Rattle.ir_tokens.specs.Order.{AreTokens, TokensFrom}
use Rattle.ir_tokens.specs.Tokens.{Placed, End, Kept}
use Rattle.ir_instructions.specs.Parts.{Is, ◌⨾◌}
use Rattle.ir_instructions.specs.ItemGrammar.{SpellsItem}

-- ---- texts

-- a name may have every byte but 0, since each byte can be escaped in quotes
abbrev pub IsName : List ℕ → Type 0
IsName name = All (λ b. (1 ≤ b) × (b ≤ 255)) name

-- the text is exactly one item of a function's header
abbrev pub IsItem : List ℕ → Type 0
IsItem item = (tokens rest : List Placed) × TokensFrom item (InHeader None) 0 tokens × (SpellsItem item ⨾ Is End) tokens rest

-- the text is exactly one kept line
abbrev pub IsKeptText : List ℕ → Type 0
IsKeptText text = AreTokens text ((1, Kept text) ∷ (1, End) ∷ [])

-- ---- numbers

-- the width of an integer type
abbrev pub IsWidth : ℕ → Type 0
IsWidth width = (1 ≤ width) × (width ≤ 64)

-- the number is one of its width
abbrev pub NumberFits : Number → Type 0
NumberFits n = n.number < 2 ^ n.width

-- if the operand is a literal number, it is one of its width
abbrev pub OperandFits : Operand → Type 0
OperandFits (operands.Number n) = NumberFits n
OperandFits (operands.Register r) = Unit {0}
OperandFits operands.Undef = Unit {0}
OperandFits operands.Poison = Unit {0}

-- the read is at the width of an integer type, and if its operand is a literal number, it is one of its width
pub record ReadHasForms (r : Read) : Type 0 where
  pub width : IsWidth r.width
  pub operand : OperandFits r.operand

-- the cases of a switch are numbers of their width
abbrev pub CasesHaveForms : Terminator → Type 0
CasesHaveForms (terminators.Switch a width other cases) = All (λ c. NumberFits c.0) cases
CasesHaveForms (terminators.Return a) = Unit {0}
CasesHaveForms (terminators.Jump b) = Unit {0}
CasesHaveForms (terminators.Branch a b other) = Unit {0}
CasesHaveForms terminators.Unreachable = Unit {0}

-- ---- functions and modules

pub record ParameterHasForms (p : Parameter) : Type 0 where
  pub width : IsWidth p.width
  pub items : All IsItem p.items

pub record FunctionHasForms (f : Function) : Type 0 where
  pub name : IsName f.name
  pub before : All IsItem f.before
  pub width : IsWidth f.width
  pub parameters : All ParameterHasForms f.parameters
  pub after : All IsItem f.after
  -- of parameters, blocks and results
  pub names : (name : List ℕ) → Contains (names_of f) (Some name) → IsName name
  pub insts : (b k : ℕ) (inst : Inst) → IsInst f b k inst → IsWidth inst.width
  pub reads : (b k i : ℕ) (r : Read) → IsRead f b k i r → ReadHasForms r
  pub cases : (b : ℕ) (block : Block) → IsBlock f b block → CasesHaveForms block.end

abbrev pub EntryHasForms : Entry → Type 0
EntryHasForms (entries.Kept text) = IsKeptText text
EntryHasForms (entries.Function f) = FunctionHasForms f

abbrev pub ModuleHasForms : Module → Type 0
ModuleHasForms m = All EntryHasForms m.entries
