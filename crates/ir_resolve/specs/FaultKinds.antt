-- The kinds of faults that a function as written may have before it is resolved, each with the lines on which it has
-- one.
use Rattle.std.specs.Prelude.{◌≡◌, ◌≢◌, ◌⊎◌, ℕ, ◌==◌, Bool, false, List, take, Option, Some, None, Contains, slice_get}
use Rattle.ops.specs.Number.{Number}
use Rattle.ops.specs.Conversion.{CastFits}
use Rattle.ir_tokens.specs.declared.called.Identifier.{Identifier}
use Rattle.ir_tokens.specs.declared.called.Identifier.TheVariants.{Named, Numbered}
use Rattle.ir_core.specs.declared.operand.Register.{Register}
use Rattle.ir_core.specs.declared.operand.Register.TheVariants as registers
use Rattle.ir_tokens.specs.declared.raw.RawFunction.{RawFunction}
use Rattle.ir_tokens.specs.declared.raw.RawParameter.{RawParameter}
use Rattle.ir_tokens.specs.declared.raw.RawBlock.{RawBlock}
use Rattle.ir_tokens.specs.declared.raw.RawInst.{RawInst}
use Rattle.ir_tokens.specs.declared.raw.RawOp.{RawOp}
use Rattle.ir_tokens.specs.declared.raw.RawOp.TheVariants as ops
use Rattle.ir_tokens.specs.declared.raw.RawArguments.{RawArguments}
use Rattle.ir_tokens.specs.declared.raw.RawArguments.TheVariants as arguments
use Rattle.ir_tokens.specs.declared.raw.RawCall.{RawCall}
use Rattle.ir_tokens.specs.declared.raw.TypedOperand.{TypedOperand}
use Rattle.ir_tokens.specs.declared.raw.RawTerminator.{RawTerminator}
use Rattle.ir_tokens.specs.declared.raw.RawTerminator.TheVariants as terminators
use Rattle.ir_tokens.specs.declared.raw.RawValue.{RawValue}
use Rattle.ir_tokens.specs.declared.raw.RawValue.TheVariants as values
use Rattle.ir_tokens.specs.declared.raw.RawIdentifier.{RawIdentifier}
use Rattle.ir_tokens.specs.declared.raw.RawCase.{RawCase}
use Rattle.ir_resolve.specs.FirstLines.{SomeAt}
use Rattle.ir_resolve.specs.Written.{Thing, Value, Block, written_names, called_in, IsWrittenInst, Calls}
use Rattle.ir_resolve.specs.TypedReads.{Typed, reads_of, targets_of, cases_of}

-- ---- Numbering

-- A number is written on the line for a definition whose identifier is another one.
abbrev pub IsMisnumbered : Option RawIdentifier → Identifier → ℕ → Type 0
IsMisnumbered written identifier line = (w : RawIdentifier) × (n : ℕ)
    × (written ≡ Some w) × (w.identifier ≡ Numbered n) × (identifier ≢ Numbered n) × (w.line ≡ line)

-- the same for definition p of those for which this is written
abbrev pub MisnumbersHere : List (Option RawIdentifier) → ℕ → ℕ → Type 0
MisnumbersHere written p line = (w : Option RawIdentifier) × (i : Identifier)
    × (slice_get written p ≡ Some w) × (slice_get (called_in written) p ≡ Some i) × IsMisnumbered w i line

abbrev pub NumberingAt : RawFunction → ℕ → Type 0
NumberingAt raw line = (p : ℕ) × MisnumbersHere (written_names raw) p line

-- ---- Duplicate

-- one of these has k
abbrev pub SomeHas : {X K : Type 0} → (X → K → Type 0) → List X → K → Type 0
SomeHas {X} Has xs k = (x : X) × Contains xs x × Has x k

-- item j, which is on the line, has something that an item before it has too
abbrev pub RepeatsHere : {X K : Type 0} → (X → K → Type 0) → (X → ℕ → Type 0) → List X → ℕ → ℕ → Type 0
RepeatsHere {X} {K} Has StandsOn xs j line = (x : X) × (k : K) × (slice_get xs j ≡ Some x) × Has x k × SomeHas Has (take j xs) k × StandsOn x line

abbrev pub Repeats : {X K : Type 0} → (X → K → Type 0) → (X → ℕ → Type 0) → List X → ℕ → Type 0
Repeats Has StandsOn xs line = (j : ℕ) × RepeatsHere Has StandsOn xs j line

-- what is written is this name; it is on this line
abbrev pub HasName : Option RawIdentifier → List ℕ → Type 0
HasName written name = (w : RawIdentifier) × (written ≡ Some w) × (w.identifier ≡ Named name)

abbrev pub IsWrittenOn : Option RawIdentifier → ℕ → Type 0
IsWrittenOn written line = (w : RawIdentifier) × (written ≡ Some w) × (w.line ≡ line)

-- the number that a literal spells, with its width; `true` and `false` are the numbers of i1
abbrev pub literal_of : RawValue → Option Number
literal_of (values.Number n) = Some n
literal_of values.True = Some (record { width = 1; number = 1 })
literal_of values.False = Some (record { width = 1; number = 0 })
literal_of (values.Register x) = None
literal_of values.Undef = None
literal_of values.Poison = None

-- the number is 1
abbrev pub is_one : Option Number → Bool
is_one (Some n) = n.number == 1
is_one None = false

-- the truth value of a call: false if none is written
abbrev pub truth_of : Option TypedOperand → Bool
truth_of None = false
truth_of (Some truth) = is_one (literal_of truth.operand.value)

-- the value of a case has this number; it is on this line
abbrev pub HasNumber : RawCase → ℕ → Type 0
HasNumber c number = (n : Number) × (literal_of c.value.value ≡ Some n) × (n.number ≡ number)

abbrev pub IsCaseOn : RawCase → ℕ → Type 0
IsCaseOn c line = c.value.line ≡ line

-- one of the functions has the name
abbrev pub HasNameOf : List RawFunction → List ℕ → Type 0
HasNameOf functions name = (k : ℕ) × (other : RawFunction) × (slice_get functions k ≡ Some other) × (other.name ≡ name)

-- an earlier function has the function's name, a name is given twice, or a switch has two cases of one number
abbrev pub DuplicateAt : List RawFunction → RawFunction → ℕ → Type 0
DuplicateAt earlier raw line =
    (HasNameOf earlier raw.name × (raw.line ≡ line))
    ⊎ (Repeats HasName IsWrittenOn (written_names raw) line
    ⊎ SomeAt raw.blocks (λ block. Repeats HasNumber IsCaseOn (cases_of block.end)) line)

-- ---- Unknown

-- Given what identifiers refer to: the value is written as a register, and its identifier refers to none
abbrev pub IsUnknownValue : (Identifier → Thing → Type 0) → RawValue → Type 0
IsUnknownValue CallsThing value = (x : Identifier) × (value ≡ values.Register x) × ((r : Register) → ¬ CallsThing x (Value r))

-- the identifier refers to no block
abbrev pub IsUnknownBlock : (Identifier → Thing → Type 0) → Identifier → Type 0
IsUnknownBlock CallsThing x = (b : ℕ) → ¬ CallsThing x (Block b)

-- one of these operands is a register that is not defined, or one of these identifiers refers to no block
abbrev pub UnknownIn : (Identifier → Thing → Type 0) → List Typed → List RawIdentifier → ℕ → Type 0
UnknownIn CallsThing reads targets line =
    SomeAt reads (λ t at. IsUnknownValue CallsThing t.operand.value × (t.operand.line ≡ at)) line
    ⊎ SomeAt targets (λ w at. IsUnknownBlock CallsThing w.identifier × (w.line ≡ at)) line

abbrev pub UnknownAt : RawFunction → ℕ → Type 0
UnknownAt raw = UnknownIn (Calls raw) (reads_of raw) (targets_of raw)

-- ---- TypeClash

-- the width of an instruction's result, as written; for a select that of its second operand
abbrev pub result_width : RawOp → ℕ
result_width (ops.Binary op flags width a b) = width
result_width (ops.Compare pred samesign width a b) = 1
result_width (ops.Call call) = call.width
result_width (ops.Select c a b) = a.width
result_width (ops.Convert cast flags from a to) = to
result_width (ops.Freeze width a) = width
result_width (ops.Phi width incoming) = width

-- a register has the width
abbrev pub RegisterHasWidth : RawFunction → Register → ℕ → Type 0
RegisterHasWidth raw (registers.Parameter k) width = (p : RawParameter) × (slice_get raw.parameters k ≡ Some p) × (p.width ≡ width)
RegisterHasWidth raw (registers.Result d j) width = (inst : RawInst) × IsWrittenInst raw d j inst × (result_width inst.op ≡ width)

-- the identifier refers to the register, which has the width
abbrev pub CallsRegister : RawFunction → Identifier → Register → ℕ → Type 0
CallsRegister raw x r width = Calls raw x (Value r) × RegisterHasWidth raw r width

-- the value is a literal of another width
abbrev pub LiteralClashes : ℕ → RawValue → Type 0
LiteralClashes width value = (n : Number) × (literal_of value ≡ Some n) × (n.width ≢ width)

-- Given what registers of which widths identifiers refer to: the value is a literal or a register of another width than
-- the one that is written for it
abbrev pub ValueClashes : (Identifier → Register → ℕ → Type 0) → ℕ → RawValue → Type 0
ValueClashes CallsThis width value =
    LiteralClashes width value
    ⊎ ((x : Identifier) × (r : Register) × (other : ℕ) × (value ≡ values.Register x) × CallsThis x r other × (other ≢ width))

-- one of these operands has another width than the one that is written for it
abbrev pub ReadClashesIn : (Identifier → Register → ℕ → Type 0) → List Typed → ℕ → Type 0
ReadClashesIn CallsThis reads = SomeAt reads (λ t at. ValueClashes CallsThis t.width t.operand.value × (t.operand.line ≡ at))

-- the truth value of a call, if there is one, is a number of i1
abbrev pub TruthIsBit : Option TypedOperand → Type 0
TruthIsBit None = Unit {0}
TruthIsBit (Some truth) = (truth.width ≡ 1) × ¬ LiteralClashes 1 truth.operand.value

-- the types in a call agree: operands, and the name of the intrinsic, have the width of the result
abbrev pub ArgumentsFit : ℕ → RawArguments → Type 0
ArgumentsFit width (arguments.Binary op a b) = (a.width ≡ width) × (b.width ≡ width)
ArgumentsFit width (arguments.Unary op a truth) = (a.width ≡ width) × TruthIsBit truth

abbrev pub CallFits : RawCall → Type 0
CallFits call = (call.named ≡ call.width) × ArgumentsFit call.width call.arguments

-- the types that are written in an instruction don't agree: the condition of a select is no i1, its other operands have
-- two types, a cast is not to a strictly smaller or larger type, or a call is of another width; on the line of the
-- condition, of the last operand, of what is cast, or of the word `call`
abbrev pub OpClashesAt : RawOp → ℕ → Type 0
OpClashesAt (ops.Select c a b) line = ((c.width ≢ 1) × (c.operand.line ≡ line)) ⊎ ((a.width ≢ b.width) × (b.operand.line ≡ line))
OpClashesAt (ops.Convert cast flags from a to) line = ¬ CastFits cast from to × (a.line ≡ line)
OpClashesAt (ops.Call call) line = ¬ CallFits call × (call.line ≡ line)
OpClashesAt (ops.Binary op flags width a b) line = ⊥
OpClashesAt (ops.Compare pred samesign width a b) line = ⊥
OpClashesAt (ops.Freeze width a) line = ⊥
OpClashesAt (ops.Phi width incoming) line = ⊥

-- a case has another type than the switch, or its value is no number, or one of another type
abbrev pub CaseClashes : ℕ → RawCase → Type 0
CaseClashes width c = (c.width ≢ width) ⊎ ((literal_of c.value.value ≡ None) ⊎ LiteralClashes c.width c.value.value)

-- the same for a terminator in a function that returns this width: the returned value has another type, a condition is
-- no i1, or a case clashes
abbrev pub EndClashesAt : ℕ → RawTerminator → ℕ → Type 0
EndClashesAt returned (terminators.Return width a) line = (width ≢ returned) × (a.line ≡ line)
EndClashesAt returned (terminators.Branch width c to other) line = (width ≢ 1) × (c.line ≡ line)
EndClashesAt returned (terminators.Switch width a other cases) line = SomeAt cases (λ c at. CaseClashes width c × (c.value.line ≡ at)) line
EndClashesAt returned terminators.Unreachable line = ⊥
EndClashesAt returned (terminators.Jump to) line = ⊥

-- the same for a block
abbrev pub BlockClashesAt : ℕ → RawBlock → ℕ → Type 0
BlockClashesAt returned block line = SomeAt block.insts (λ i. OpClashesAt i.op) line ⊎ EndClashesAt returned block.end line

abbrev pub TypeClashAt : RawFunction → ℕ → Type 0
TypeClashAt raw line = ReadClashesIn (CallsRegister raw) (reads_of raw) line ⊎ SomeAt raw.blocks (BlockClashesAt raw.width) line
