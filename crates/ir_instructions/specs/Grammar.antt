-- The grammar of instructions and terminators: for each production the syntax tree and the tokens that spell it (LLVM
-- Language Reference, "Instruction Reference", "Metadata"). Attachments of metadata are dropped.
use Rattle.std.specs.Prelude.{◌≡◌, ℕ, false, List, IsTrue, codes}
use Rattle.ops.specs.declared.opcode.Flags.{Flags}
use Rattle.ops.specs.declared.opcode.Opcode.{Opcode}
use Rattle.ops.specs.Flags.{no_flags, flags_of, flags_of_cast, flags_of_icmp, icmp_flags}
use Rattle.ops.specs.declared.keywords.flag.Flag.{Flag}
use Rattle.ops.specs.Intrinsics.{is_intrinsic}
use Rattle.ops.specs.Keywords.{opcode_keyword, cast_keyword, predicate_keyword}
use Rattle.ops.specs.FlagKeywords.{AddsFlags, flag_keyword}
use Rattle.scan.specs.IrTokens.{is_plain_name}
use Rattle.ir_tokens.specs.Numbers.{is_number}
use Rattle.ir_tokens.specs.Tokens.{Word, Metadata, Mark}
use Rattle.ir_tokens.specs.declared.raw.RawInst.{RawInst}
use Rattle.ir_tokens.specs.declared.raw.RawOp.{RawOp}
use Rattle.ir_tokens.specs.declared.raw.RawOp.TheVariants.{Binary, Compare, Call, Select, Convert, Freeze, Phi}
use Rattle.ir_tokens.specs.declared.raw.RawValue.{RawValue}
use Rattle.ir_tokens.specs.declared.raw.RawValue.TheVariants as values
use Rattle.ir_tokens.specs.declared.raw.RawIncoming.{RawIncoming}
use Rattle.ir_tokens.specs.declared.raw.RawTerminator.{RawTerminator}
use Rattle.ir_tokens.specs.declared.raw.RawTerminator.TheVariants.{Return, Unreachable, Jump, Branch, Switch}
use Rattle.ir_tokens.specs.declared.raw.RawCase.{RawCase}
use Rattle.ir_instructions.specs.Parts.{Part, IsOn, Is, ◌⨾◌, Each, Comma, Separated, Repeated}
use Rattle.ir_instructions.specs.Punctuation as marks
pub use Rattle.ir_instructions.specs.PieceGrammar.{SpellsRegister, SpellsTarget, SpellsType, IsValueToken, SpellsOperand, SpellsTyped, IsCaseValue}
use Rattle.ir_instructions.specs.CallGrammar.{SpellsCall}

-- ---- attachments

-- attachment := '!'name '!'number
abbrev pub Attachment : Part
Attachment tokens rest = (name number : List ℕ) × IsTrue (is_plain_name name) × IsTrue (is_number number) × (Is (Metadata name) ⨾ Is (Metadata number)) tokens rest

-- tail := (',' attachment)*
abbrev pub Tail : Part
Tail = Repeated (Comma ⨾ Attachment)

-- ---- instructions

-- flag*, each one that the instruction takes, each once, in any order
abbrev pub SpellsFlags : Flags → Flags → Part
SpellsFlags taken flags tokens rest = (written : List Flag) × AddsFlags taken no_flags written flags × Each (λ flag. Is (Word (flag_keyword flag))) written tokens rest

-- incoming := '[' val ',' REGISTER ']'
abbrev pub SpellsIncoming : ℕ → RawIncoming → Part
SpellsIncoming width i = Is (Mark marks.open_bracket) ⨾ SpellsOperand width i.value ⨾ Comma ⨾ SpellsRegister i.block ⨾ Is (Mark marks.close_bracket)

-- binop: an intrinsic has no opcode of its own
abbrev pub IsOpcode : Opcode → Part
IsOpcode op tokens rest = (is_intrinsic op ≡ false) × Is (Word (opcode_keyword op)) tokens rest

-- op := binop flag* type val ',' val
--     | 'icmp' flag* pred type val ',' val
--     | 'select' type val ',' type val ',' type val
--     | ('trunc' | 'zext' | 'sext') flag* type val 'to' type
--     | 'freeze' type val
--     | 'phi' type incoming (',' incoming)*
--     | call
abbrev pub SpellsOp : RawOp → Part
SpellsOp (Binary op flags width a b) = IsOpcode op ⨾ SpellsFlags (flags_of op) flags ⨾ SpellsType width ⨾ SpellsOperand width a ⨾ Comma ⨾ SpellsOperand width b
SpellsOp (Call call) = SpellsCall call
SpellsOp (Compare pred samesign width a b) =
    Is (Word (codes "icmp")) ⨾ SpellsFlags flags_of_icmp (icmp_flags samesign) ⨾ Is (Word (predicate_keyword pred)) ⨾ SpellsType width ⨾ SpellsOperand width a ⨾ Comma ⨾ SpellsOperand width b
SpellsOp (Select condition if_true if_false) = Is (Word (codes "select")) ⨾ SpellsTyped condition ⨾ Comma ⨾ SpellsTyped if_true ⨾ Comma ⨾ SpellsTyped if_false
SpellsOp (Convert cast flags from a to) =
    Is (Word (cast_keyword cast)) ⨾ SpellsFlags (flags_of_cast cast) flags ⨾ SpellsType from ⨾ SpellsOperand from a ⨾ Is (Word (codes "to")) ⨾ SpellsType to
SpellsOp (Freeze width a) = Is (Word (codes "freeze")) ⨾ SpellsType width ⨾ SpellsOperand width a
SpellsOp (Phi width incomings) = Is (Word (codes "phi")) ⨾ SpellsType width ⨾ Separated (SpellsIncoming width) incomings

-- inst := REGISTER '=' op tail
abbrev pub SpellsInst : RawInst → Part
SpellsInst i = SpellsRegister i.result ⨾ Is (Mark marks.equals) ⨾ SpellsOp i.op ⨾ Tail

-- ---- terminators

-- case := type (NUMBER | 'true' | 'false') ',' target
abbrev pub SpellsCase : RawCase → Part
SpellsCase c tokens rest = IsCaseValue c.value.value × (SpellsType c.width ⨾ SpellsOperand c.width c.value ⨾ Comma ⨾ SpellsTarget c.target) tokens rest

-- cases := '[' case* ']'
abbrev pub SpellsCases : List RawCase → Part
SpellsCases cases = Is (Mark marks.open_bracket) ⨾ Each SpellsCase cases ⨾ Is (Mark marks.close_bracket)

-- term := 'ret' type val
--     | 'unreachable'
--     | 'br' target
--     | 'br' type val ',' target ',' target
--     | 'switch' type val ',' target cases
-- of which the first word is on this line
abbrev pub SpellsTerminator : ℕ → RawTerminator → Part
SpellsTerminator line (Return width a) = IsOn line (Word (codes "ret")) ⨾ SpellsType width ⨾ SpellsOperand width a
SpellsTerminator line Unreachable = IsOn line (Word (codes "unreachable"))
SpellsTerminator line (Jump target) = IsOn line (Word (codes "br")) ⨾ SpellsTarget target
SpellsTerminator line (Branch width a if_true if_false) =
    IsOn line (Word (codes "br")) ⨾ SpellsType width ⨾ SpellsOperand width a ⨾ Comma ⨾ SpellsTarget if_true ⨾ Comma ⨾ SpellsTarget if_false
SpellsTerminator line (Switch width a default cases) =
    IsOn line (Word (codes "switch")) ⨾ SpellsType width ⨾ SpellsOperand width a ⨾ Comma ⨾ SpellsTarget default ⨾ SpellsCases cases
