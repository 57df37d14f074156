-- The operands of a function as written, each with the width that is written for it, and the blocks that it names, in
-- text order.
use Rattle.std.specs.Prelude.{ℕ, List, [], ◌∷◌, ◌++◌, map}
use Rattle.std.specs.List.{flat_map}
use Rattle.ir_tokens.specs.declared.raw.RawFunction.{RawFunction}
use Rattle.ir_tokens.specs.declared.raw.RawBlock.{RawBlock}
use Rattle.ir_tokens.specs.declared.raw.RawOp.{RawOp}
use Rattle.ir_tokens.specs.declared.raw.RawOp.TheVariants as ops
use Rattle.ir_tokens.specs.declared.raw.RawArguments.{RawArguments}
use Rattle.ir_tokens.specs.declared.raw.RawArguments.TheVariants as arguments
use Rattle.ir_tokens.specs.declared.raw.RawTerminator.{RawTerminator}
use Rattle.ir_tokens.specs.declared.raw.RawTerminator.TheVariants as terminators
use Rattle.ir_tokens.specs.declared.raw.RawOperand.{RawOperand}
use Rattle.ir_tokens.specs.declared.raw.RawIdentifier.{RawIdentifier}
use Rattle.ir_tokens.specs.declared.raw.RawCase.{RawCase}

-- an operand and the width that is written for it
pub record Typed : Type 0 where
  pub width : ℕ
  pub operand : RawOperand

abbrev pub typed : ℕ → RawOperand → Typed
typed width operand = record { width = width; operand = operand }

-- the operands of a call; its truth value is none, as it is part of the operation
abbrev pub read_by_call : RawArguments → List Typed
read_by_call (arguments.Binary op a b) = typed a.width a.operand ∷ typed b.width b.operand ∷ []
read_by_call (arguments.Unary op a truth) = typed a.width a.operand ∷ []

-- the operands of an instruction
abbrev pub read_by : RawOp → List Typed
read_by (ops.Binary op flags width a b) = typed width a ∷ typed width b ∷ []
read_by (ops.Compare pred samesign width a b) = typed width a ∷ typed width b ∷ []
read_by (ops.Call call) = read_by_call call.arguments
read_by (ops.Select c a b) = typed c.width c.operand ∷ typed a.width a.operand ∷ typed b.width b.operand ∷ []
read_by (ops.Convert cast flags from a to) = typed from a ∷ []
read_by (ops.Freeze width a) = typed width a ∷ []
read_by (ops.Phi width incoming) = map (λ i. typed width i.value) incoming

-- the blocks that an instruction names
abbrev pub named_by : RawOp → List RawIdentifier
named_by (ops.Binary op flags width a b) = []
named_by (ops.Compare pred samesign width a b) = []
named_by (ops.Call call) = []
named_by (ops.Select c a b) = []
named_by (ops.Convert cast flags from a to) = []
named_by (ops.Freeze width a) = []
named_by (ops.Phi width incoming) = map (λ i. i.block) incoming

-- the operands of a terminator, and the blocks that it names
abbrev pub read_at_end : RawTerminator → List Typed
read_at_end (terminators.Return width a) = typed width a ∷ []
read_at_end terminators.Unreachable = []
read_at_end (terminators.Jump to) = []
read_at_end (terminators.Branch width c to other) = typed width c ∷ []
read_at_end (terminators.Switch width a other cases) = typed width a ∷ []

abbrev pub named_at_end : RawTerminator → List RawIdentifier
named_at_end (terminators.Return width a) = []
named_at_end terminators.Unreachable = []
named_at_end (terminators.Jump to) = to ∷ []
named_at_end (terminators.Branch width c to other) = to ∷ other ∷ []
named_at_end (terminators.Switch width a other cases) = other ∷ map (λ c. c.target) cases

-- the cases of a terminator
abbrev pub cases_of : RawTerminator → List RawCase
cases_of (terminators.Return width a) = []
cases_of terminators.Unreachable = []
cases_of (terminators.Jump to) = []
cases_of (terminators.Branch width c to other) = []
cases_of (terminators.Switch width a other cases) = cases

-- the operands of a block, the blocks that it names, and the same for a function
abbrev pub read_in : RawBlock → List Typed
read_in block = flat_map (λ i. read_by i.op) block.insts ++ read_at_end block.end

abbrev pub named_in : RawBlock → List RawIdentifier
named_in block = flat_map (λ i. named_by i.op) block.insts ++ named_at_end block.end

abbrev pub reads_of : RawFunction → List Typed
reads_of raw = flat_map read_in raw.blocks

abbrev pub targets_of : RawFunction → List RawIdentifier
targets_of raw = flat_map named_in raw.blocks
