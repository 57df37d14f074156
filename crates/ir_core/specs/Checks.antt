-- What each function and each module that is read meets, check by check (LangRef, "Well-Formedness", "Identifiers",
-- "phi", "switch", and the types that each instruction asks for).
use Rattle.std.specs.Prelude.{◌≡◌, ℕ, ◌<◌, ◌↔◌, List, length, Option, Some, IsSome, All, Contains, slice_get}
use Rattle.ops.specs.Conversion.{CastFits}
use Rattle.ops.specs.Flags.{FlagsFit, CastFlagsFit}
use Rattle.ops.specs.Truths.{TruthFits}
use Rattle.ops.specs.Number.{Number}
use Rattle.ir_core.specs.declared.module.Module.{Module}
use Rattle.ir_core.specs.declared.module.Entry.TheVariants as entries
use Rattle.ir_core.specs.declared.function.Function.{Function}
use Rattle.ir_core.specs.declared.function.Block.{Block}
use Rattle.ir_core.specs.declared.instruction.Inst.{Inst}
use Rattle.ir_core.specs.declared.instruction.Op.{Op}
use Rattle.ir_core.specs.declared.instruction.Op.TheVariants.{Binary, Compare, Unary, Select, Convert, Freeze, Phi}
use Rattle.ir_core.specs.declared.operand.Operand.{Operand}
use Rattle.ir_core.specs.declared.operand.Operand.TheVariants as operands
use Rattle.ir_core.specs.declared.terminator.Terminator.{Terminator}
use Rattle.ir_core.specs.declared.terminator.Terminator.TheVariants as terminators
use Rattle.ir_core.specs.Assigned.{ReadsAreAssigned}
use Rattle.ir_core.specs.Blocks.{IsBlock, Names}
use Rattle.ir_core.specs.Names.{names_of, width_of}
use Rattle.ir_core.specs.Reads.{Read, IsRead}

-- instruction k of block b is this one
pub record IsInst (f : Function) (b k : ℕ) (inst : Inst) : Type 0 where
  pub block : Block
  pub is_block : IsBlock f b block
  pub is_inst : slice_get block.insts k ≡ Some inst

-- no name is given twice: parameters, blocks and results share their names
abbrev pub NamesDiffer : List (Option (List ℕ)) → Type 0
NamesDiffer names = (i j : ℕ) (name : List ℕ) → slice_get names i ≡ Some (Some name) → slice_get names j ≡ Some (Some name) → i ≡ j

-- no two cases of a switch have one value
abbrev pub CasesDiffer : List (Number × ℕ) → Type 0
CasesDiffer cases = (i j : ℕ) (c d : Number × ℕ) → slice_get cases i ≡ Some c → slice_get cases j ≡ Some d → c.0.number ≡ d.0.number → i ≡ j

-- a register that is read is one of the function
abbrev pub IsKnown : Function → Operand → Type 0
IsKnown f (operands.Register r) = IsSome (width_of f r)
IsKnown f (operands.Number n) = Unit {0}
IsKnown f operands.Undef = Unit {0}
IsKnown f operands.Poison = Unit {0}

-- a register or a number that is read has the width at which it is read
abbrev pub OperandHasWidth : Function → ℕ → Operand → Type 0
OperandHasWidth f width (operands.Register r) = width_of f r ≡ Some width
OperandHasWidth f width (operands.Number n) = n.width ≡ width
OperandHasWidth f width operands.Undef = Unit {0}
OperandHasWidth f width operands.Poison = Unit {0}

-- the types that an instruction asks for beyond those of its operands, and which flags and truth value it may have
abbrev pub IsTyped : ℕ → Op → Type 0
IsTyped width (Binary op flags x y) = FlagsFit op flags
IsTyped width (Compare pred samesign compared x y) = width ≡ 1
IsTyped width (Unary op truth x) = TruthFits op truth
IsTyped width (Select c x y) = Unit {0}
IsTyped width (Convert cast flags from x) = CastFlagsFit cast flags × CastFits cast from width
IsTyped width (Freeze x) = Unit {0}
IsTyped width (Phi entries) = Unit {0}

-- the cases of a switch have different values, all of its operand's width
abbrev pub CasesFit : Terminator → Type 0
CasesFit (terminators.Switch a width other cases) = CasesDiffer cases × All (λ c. c.0.width ≡ width) cases
CasesFit (terminators.Return a) = Unit {0}
CasesFit (terminators.Jump b) = Unit {0}
CasesFit (terminators.Branch a b other) = Unit {0}
CasesFit terminators.Unreachable = Unit {0}

abbrev pub IsPhi : Op → Type 0
IsPhi (Phi entries) = Unit {0}
IsPhi (Binary op flags x y) = ⊥
IsPhi (Compare pred samesign width x y) = ⊥
IsPhi (Unary op truth x) = ⊥
IsPhi (Select c x y) = ⊥
IsPhi (Convert cast flags from x) = ⊥
IsPhi (Freeze x) = ⊥

-- A phi has an entry, one for each block that names this one and for no other block, and one operand only for each; a
-- block may have several entries of one operand.
pub record EntriesFit (f : Function) (b : ℕ) (entries : List (Operand × ℕ)) : Type 0 where
  pub some : 0 < length entries
  pub from : (c : ℕ) → ((a : Operand) × Contains entries (a, c)) ↔ Names f c b
  pub one : (x y : Operand) (c : ℕ) → Contains entries (x, c) → Contains entries (y, c) → x ≡ y

-- The checks of a function but the last. Above each stands the kind of fault that it refuses.
pub record IsFormed (f : Function) : Type 0 where
  pub some_block : 0 < length f.blocks
  -- Duplicate
  pub names : NamesDiffer (names_of f)
  -- Unknown
  pub registers : (b k i : ℕ) (r : Read) → IsRead f b k i r → IsKnown f r.operand
  pub blocks : (b c : ℕ) → Names f b c → c < length f.blocks
  -- TypeClash, and Duplicate of cases
  pub operands : (b k i : ℕ) (r : Read) → IsRead f b k i r → OperandHasWidth f r.width r.operand
  pub insts : (b k : ℕ) (inst : Inst) → IsInst f b k inst → IsTyped inst.width inst.op
  pub cases : (b : ℕ) (block : Block) → IsBlock f b block → CasesFit block.end
  -- BadPhi: phis stand first, and have the entries that they need
  pub phis_first : (b j k : ℕ) (earlier later : Inst) → IsInst f b j earlier → IsInst f b k later → j < k → IsPhi later.op → IsPhi earlier.op
  pub phis : (b k : ℕ) (inst : Inst) (entries : List (Operand × ℕ)) → IsInst f b k inst → inst.op ≡ Phi entries → EntriesFit f b entries
  -- EntryPred: no terminator names the first block
  pub entry : (b : ℕ) → ¬ Names f b 0

-- all checks of a function; Unassigned is the last
pub record MeetsChecks (f : Function) : Type 0 where
  pub formed : IsFormed f
  pub assigned : ReadsAreAssigned f

-- each function meets its checks, and no two have one name
pub record ModuleMeetsChecks (m : Module) : Type 0 where
  pub functions : (k : ℕ) (f : Function) → slice_get m.entries k ≡ Some (entries.Function f) → MeetsChecks f
  pub names : (j k : ℕ) (f g : Function) → slice_get m.entries j ≡ Some (entries.Function f) → slice_get m.entries k ≡ Some (entries.Function g) → f.name ≡ g.name → j ≡ k
