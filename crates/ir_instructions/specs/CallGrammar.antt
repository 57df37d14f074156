-- The grammar of calls of integer intrinsics: for each production the syntax tree and the tokens that spell it (LLVM
-- Language Reference, "'call' Instruction"). The items in them, `tail` and `notail` are dropped: without them there is
-- no more poison and no more undefined behaviour.
use Rattle.std.specs.Prelude.{◌≡◌, ℕ, false, true, List, [], ◌∷◌, ◌++◌, Option, None, Some, codes}
use Rattle.std.specs.List.{AllByRecursion}
use Rattle.ops.specs.declared.opcode.Unary.{Unary}
use Rattle.ops.specs.Truths.{has_truth}
use Rattle.ir_tokens.specs.declared.called.Identifier.TheVariants.{Named}
use Rattle.ir_tokens.specs.Identifiers.{identifier_of}
use Rattle.ir_tokens.specs.Tokens.{Placed, Word, Function, Mark}
use Rattle.ir_tokens.specs.declared.raw.RawArguments.{RawArguments}
use Rattle.ir_tokens.specs.declared.raw.RawArguments.TheVariants as arguments
use Rattle.ir_tokens.specs.declared.raw.RawCall.{RawCall}
use Rattle.ir_tokens.specs.declared.raw.TypedOperand.{TypedOperand}
use Rattle.ir_instructions.specs.declared.intrinsic.Intrinsic.{Intrinsic}
use Rattle.ir_instructions.specs.declared.intrinsic.Intrinsic.TheVariants as intrinsics
use Rattle.ir_instructions.specs.Intrinsics.{IsIntrinsicName}
use Rattle.ir_instructions.specs.CallReaders.{begins_late_item}
use Rattle.ir_instructions.specs.ItemGrammar.{SpellsItem}
use Rattle.ir_instructions.specs.Parts.{Part, IsOn, Is, Nothing, ◌⨾◌, Each, Comma}
use Rattle.ir_instructions.specs.PieceGrammar.{IsCaseValue, SpellsOperand, SpellsType}
use Rattle.ir_instructions.specs.Punctuation as marks

-- item*, dropped
abbrev pub Items : Part
Items tokens rest = (items : List (List ℕ)) × Each SpellsItem items tokens rest

-- the same, with all its tokens on this line
abbrev pub ItemsOn : ℕ → Part
ItemsOn line tokens rest =
    (items : List (List ℕ)) × (taken : List Placed) × Each SpellsItem items tokens rest
    × (tokens ≡ taken ++ rest) × AllByRecursion (λ (t : Placed). t.0 ≡ line) taken

-- argument := type item* val
abbrev pub SpellsArgument : TypedOperand → Part
SpellsArgument t = SpellsType t.width ⨾ Items ⨾ SpellsOperand t.width t.operand

-- truth := type item* (NUMBER | 'true' | 'false')
abbrev pub SpellsTruth : TypedOperand → Part
SpellsTruth t tokens rest = IsCaseValue t.operand.value × SpellsArgument t tokens rest

-- ',' truth, if the intrinsic takes a truth value
abbrev pub SpellsTruthOf : Unary → Option TypedOperand → Part
SpellsTruthOf op None tokens rest = (has_truth op ≡ false) × Nothing tokens rest
SpellsTruthOf op (Some truth) tokens rest = (has_truth op ≡ true) × (Comma ⨾ SpellsTruth truth) tokens rest

-- arguments := argument ',' argument | argument [',' truth]
abbrev pub SpellsArguments : RawArguments → Part
SpellsArguments (arguments.Binary op a b) = SpellsArgument a ⨾ Comma ⨾ SpellsArgument b
SpellsArguments (arguments.Unary op a truth) = SpellsArgument a ⨾ SpellsTruthOf op truth

abbrev pub intrinsic_of : RawArguments → Intrinsic
intrinsic_of (arguments.Binary op a b) = intrinsics.Binary op
intrinsic_of (arguments.Unary op a truth) = intrinsics.Unary op

-- FUNCTION, whose name is that of the intrinsic at the width
abbrev pub SpellsCallee : Intrinsic × ℕ → Part
SpellsCallee named tokens rest =
    (written : List ℕ) × (name : List ℕ) × (identifier_of written ≡ Named name) × IsIntrinsicName name named × Is (Function written) tokens rest

-- there is a token, and it begins no item on this line
abbrev pub StopsOn : ℕ → List Placed → Type 0
StopsOn line [] = ⊥
StopsOn line (t ∷ rest) = begins_late_item line (t ∷ rest) ≡ false

-- ')' item*, where the items are all that stand on the line of the ')'
abbrev pub SpellsClose : Part
SpellsClose tokens rest = (line : ℕ) × StopsOn line rest × (IsOn line (Mark marks.close_paren) ⨾ ItemsOn line) tokens rest

-- 'tail' | 'notail' | nothing
pub data SpellsMarker (tokens rest : List Placed) : Type 0 where
  unmarked : Nothing tokens rest → SpellsMarker tokens rest
  tail : Is (Word (codes "tail")) tokens rest → SpellsMarker tokens rest
  notail : Is (Word (codes "notail")) tokens rest → SpellsMarker tokens rest

-- call := ['tail' | 'notail'] 'call' item* type FUNCTION '(' arguments ')' item*
abbrev pub SpellsCall : RawCall → Part
SpellsCall call =
    SpellsMarker ⨾ IsOn call.line (Word (codes "call")) ⨾ Items ⨾ SpellsType call.width
    ⨾ SpellsCallee (intrinsic_of call.arguments, call.named)
    ⨾ Is (Mark marks.open_paren) ⨾ SpellsArguments call.arguments ⨾ SpellsClose
