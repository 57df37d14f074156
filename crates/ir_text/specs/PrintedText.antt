-- The printed text of a module, as a function of the module. Each line ends with a line feed (LLVM Language Reference,
-- "Module Structure", "Functions", "Identifiers", "Instruction Reference").
use Rattle.std.specs.Prelude.{ℕ, ◌==◌, Bool, if◌then◌else◌, List, [], ◌∷◌, ◌++◌, Option, None, Some, slice_get, codes, decimal}
use Rattle.std.specs.List.{flat_map, enumerate_from, join_by}
use Rattle.ops.specs.Number.{Number}
use Rattle.ops.specs.declared.opcode.Flags.{Flags}
use Rattle.ops.specs.declared.keywords.flag.Flag.{Flag}
use Rattle.ops.specs.Flags.{icmp_flags}
use Rattle.ops.specs.FlagKeywords.{flag_keyword, every_flag, has_flag}
use Rattle.ops.specs.declared.opcode.Opcode.{Opcode}
use Rattle.ops.specs.declared.opcode.Unary.{Unary as UnaryOp}
use Rattle.ops.specs.Intrinsics.{is_intrinsic}
use Rattle.ops.specs.Truths.{has_truth}
use Rattle.ops.specs.Keywords.{opcode_keyword, unary_keyword, predicate_keyword, cast_keyword}
use Rattle.ir_text.specs.NameText.{name_text}
use Rattle.ir_text.specs.NumberText.{number_text}
use Rattle.ir_core.specs.Names.{Name, block_place}
use Rattle.ir_tokens.specs.declared.called.Identifier.{Identifier}
use Rattle.ir_tokens.specs.declared.called.Identifier.TheVariants.{Named, Numbered}
use Rattle.ir_resolve.specs.Identifiers.{identifiers_of, identifier_of}
use Rattle.ir_core.specs.declared.module.Module.{Module}
use Rattle.ir_core.specs.declared.module.Entry.{Entry}
use Rattle.ir_core.specs.declared.module.Entry.TheVariants as entries
use Rattle.ir_core.specs.declared.function.Function.{Function}
use Rattle.ir_core.specs.declared.function.Parameter.{Parameter}
use Rattle.ir_core.specs.declared.function.Block.{Block}
use Rattle.ir_core.specs.declared.instruction.Inst.{Inst}
use Rattle.ir_core.specs.declared.instruction.Op.{Op}
use Rattle.ir_core.specs.declared.instruction.Op.TheVariants.{Binary, Compare, Unary, Select, Convert, Freeze, Phi}
use Rattle.ir_core.specs.declared.operand.Operand.{Operand}
use Rattle.ir_core.specs.declared.operand.Operand.TheVariants as operands
use Rattle.ir_core.specs.declared.operand.Register.{Register}
use Rattle.ir_core.specs.declared.operand.Register.TheVariants as registers
use Rattle.ir_core.specs.declared.terminator.Terminator.{Terminator}
use Rattle.ir_core.specs.declared.terminator.Terminator.TheVariants.{Return, Jump, Branch, Switch, Unreachable}

-- ---- names

-- the identifier of a block, if the function has it
abbrev pub block_identifier : Function → ℕ → Option Identifier
block_identifier f b = slice_get (identifiers_of f) (block_place f b)

-- an identifier: a name, plain or quoted, or a number of the series
unfoldable pub identifier_text : Option Identifier → List ℕ
identifier_text None = []
identifier_text (Some (Named name)) = name_text name
identifier_text (Some (Numbered n)) = decimal n

-- a register, a block where it is named, and a block as the target of a terminator
unfoldable pub register_text : Function → Register → List ℕ
register_text f r = codes "%" ++ identifier_text (identifier_of f r)

unfoldable pub block_name_text : Function → ℕ → List ℕ
block_name_text f b = codes "%" ++ identifier_text (block_identifier f b)

unfoldable pub target_text : Function → ℕ → List ℕ
target_text f b = codes "label " ++ block_name_text f b

-- the name of a function
unfoldable pub function_name_text : List ℕ → List ℕ
function_name_text name = codes "@" ++ name_text name

-- the line of a label
unfoldable pub label_text : Option Identifier → List ℕ
label_text identifier = identifier_text identifier ++ codes ":\n"

-- ---- types and operands

-- the integer type of a width
unfoldable pub type_text : ℕ → List ℕ
type_text width = codes "i" ++ decimal width

unfoldable pub operand_text : Function → Operand → List ℕ
operand_text f (operands.Register r) = register_text f r
operand_text f (operands.Number n) = number_text n
operand_text f operands.Undef = codes "undef"
operand_text f operands.Poison = codes "poison"

-- an operand with its type before it
unfoldable pub typed_text : Function → ℕ → Operand → List ℕ
typed_text f width a = type_text width ++ codes " " ++ operand_text f a

-- ---- instructions and terminators

-- a flag with a space before it, if it is among these
abbrev pub flag_text : Flags → Flag → List ℕ
flag_text flags flag = if has_flag flags flag then codes " " ++ flag_keyword flag else []

-- the flags behind an opcode, each with a space before it, in the order of their list
unfoldable pub flags_text : Flags → List ℕ
flags_text flags = flat_map (flag_text flags) every_flag

-- an incoming value of a phi with its block
unfoldable pub incoming_text : Function → Operand × ℕ → List ℕ
incoming_text f entry = codes "[ " ++ operand_text f entry.0 ++ codes ", " ++ block_name_text f entry.1 ++ codes " ]"

-- the truth value behind the operand, if the intrinsic takes one
unfoldable pub truth_text : UnaryOp → Bool → List ℕ
truth_text op truth = if has_truth op then codes ", i1 " ++ (if truth then codes "true" else codes "false") else []

-- a call of the intrinsic with this keyword, up to the arguments
unfoldable pub callee_text : List ℕ → ℕ → List ℕ
callee_text keyword width = codes "call " ++ type_text width ++ codes " @llvm." ++ keyword ++ codes "." ++ type_text width

-- a binary operation, or a call of an intrinsic with two operands
unfoldable pub binary_text : Function → ℕ → Opcode → Flags → Operand → Operand → List ℕ
binary_text f width op flags a b =
    if is_intrinsic op
    then callee_text (opcode_keyword op) width ++ codes "(" ++ typed_text f width a ++ codes ", " ++ typed_text f width b ++ codes ")"
    else opcode_keyword op ++ flags_text flags ++ codes " " ++ typed_text f width a ++ codes ", " ++ operand_text f b

-- an operation, as it stands behind the `=` of an instruction
unfoldable pub op_text : Function → ℕ → Op → List ℕ
op_text f width (Binary op flags a b) = binary_text f width op flags a b
op_text f width (Unary op truth a) = callee_text (unary_keyword op) width ++ codes "(" ++ typed_text f width a ++ truth_text op truth ++ codes ")"
op_text f width (Compare pred samesign compared a b) =
    codes "icmp" ++ flags_text (icmp_flags samesign) ++ codes " " ++ predicate_keyword pred ++ codes " " ++ typed_text f compared a
    ++ codes ", " ++ operand_text f b
op_text f width (Select c a b) = codes "select " ++ typed_text f 1 c ++ codes ", " ++ typed_text f width a ++ codes ", " ++ typed_text f width b
op_text f width (Convert cast flags from a) = cast_keyword cast ++ flags_text flags ++ codes " " ++ typed_text f from a ++ codes " to " ++ type_text width
op_text f width (Freeze a) = codes "freeze " ++ typed_text f width a
op_text f width (Phi entries) = codes "phi " ++ type_text width ++ codes " " ++ join_by (incoming_text f) (codes ", ") entries

-- the line of instruction i.0 of block b
unfoldable pub inst_text : Function → ℕ → ℕ × Inst → List ℕ
inst_text f b i = codes "  " ++ register_text f (registers.Result b i.0) ++ codes " = " ++ op_text f i.1.width i.1.op ++ codes "\n"

-- the line of a case
unfoldable pub case_text : Function → Number × ℕ → List ℕ
case_text f c = codes "    " ++ type_text c.0.width ++ codes " " ++ number_text c.0 ++ codes ", " ++ target_text f c.1 ++ codes "\n"

unfoldable pub end_text : Function → Terminator → List ℕ
end_text f (Return a) = codes "ret " ++ typed_text f f.width a
end_text f (Jump to) = codes "br " ++ target_text f to
end_text f (Branch c to other) = codes "br " ++ typed_text f 1 c ++ codes ", " ++ target_text f to ++ codes ", " ++ target_text f other
end_text f (Switch a width other cases) =
    codes "switch " ++ typed_text f width a ++ codes ", " ++ target_text f other ++ codes " [\n" ++ flat_map (case_text f) cases ++ codes "  ]"
end_text f Unreachable = codes "unreachable"

-- ---- blocks

-- the head of the first block: its label, if it has a name
unfoldable pub first_head_text : Name → List ℕ
first_head_text None = []
first_head_text (Some name) = label_text (Some (Named name))

-- the head of block b: its label, and, if it is not the first block, an empty line before that
unfoldable pub head_text : Function → ℕ → Name → List ℕ
head_text f b name = if b == 0 then first_head_text name else codes "\n" ++ label_text (block_identifier f b)

-- the lines of block b.0
unfoldable pub block_text : Function → ℕ × Block → List ℕ
block_text f b =
    head_text f b.0 b.1.name
    ++ flat_map (inst_text f b.0) (enumerate_from 0 b.1.insts)
    ++ codes "  " ++ end_text f b.1.end ++ codes "\n"

-- ---- functions

-- an item of a header, with a space before it
unfoldable pub item_text : List ℕ → List ℕ
item_text item = codes " " ++ item

-- parameter p.0
unfoldable pub parameter_text : Function → ℕ × Parameter → List ℕ
parameter_text f p = type_text p.1.width ++ flat_map item_text p.1.items ++ codes " " ++ register_text f (registers.Parameter p.0)

-- the header of a function, up to the `{`
unfoldable pub header_text : Function → List ℕ
header_text f =
    codes "define" ++ flat_map item_text f.before ++ codes " " ++ type_text f.width ++ codes " " ++ function_name_text f.name
    ++ codes "(" ++ join_by (parameter_text f) (codes ", ") (enumerate_from 0 f.parameters) ++ codes ")"
    ++ flat_map item_text f.after ++ codes " {\n"

unfoldable pub function_text : Function → List ℕ
function_text f = header_text f ++ flat_map (block_text f) (enumerate_from 0 f.blocks) ++ codes "}\n"

-- ---- modules

-- a kept line is printed as it was kept
unfoldable pub entry_text : Entry → List ℕ
entry_text (entries.Kept line) = line ++ codes "\n"
entry_text (entries.Function f) = function_text f

-- what is printed between two entries: an empty line, but nothing between kept lines
unfoldable pub between_text : Entry → Entry → List ℕ
between_text (entries.Kept line) (entries.Kept next) = []
between_text entry next = codes "\n"

abbrev pub entries_text : List Entry → List ℕ
entries_text [] = []
entries_text (e ∷ []) = entry_text e
entries_text (e ∷ d ∷ es) = entry_text e ++ between_text e d ++ entries_text (d ∷ es)

-- the text of a module
abbrev pub text_of : Module → List ℕ
text_of m = entries_text m.entries
