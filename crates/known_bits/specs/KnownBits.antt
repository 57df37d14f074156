-- What is known of the bits of an operand at a place of a block, by the instructions that stand before the place there.
-- The bits are a list, the lowest first. Nothing is known of a phi, of a parameter, of a register of another block, of
-- `undef` and `poison`, and of what the table doesn't name: a `freeze` may give any number.
use Rattle.std.specs.Prelude.{ℕ, ◌-◌, ◌==◌, nat_lt, if◌then◌else◌, List, [], ◌∷◌, ◌++◌, fold, map, replicate, take, option_map, slice_get, unwrap_or}
use Rattle.ops.specs.Counts.{binary_digits}
use Rattle.ops.specs.declared.opcode.Opcode.TheVariants.{Add, Sub, Shl, LShr, AShr, And, Or, Xor}
use Rattle.ops.specs.declared.conversion.Cast.TheVariants.{Trunc, ZExt, SExt}
use Rattle.circuits.specs.declared.known_bit.KnownBit.{KnownBit}
use Rattle.circuits.specs.declared.known_bit.KnownBit.TheVariants.{Zero, One}
use Rattle.circuits.specs.declared.shift.Direction.TheVariants.{Up, Down}
use Rattle.circuits.specs.Kleene.{certain, known_not, known_and, known_or, known_xor, known_agreed}
use Rattle.circuits.specs.KnownSum.{known_sum}
use Rattle.circuits.specs.Move.{moved}
use Rattle.ir_core.specs.declared.function.Function.{Function}
use Rattle.ir_core.specs.declared.instruction.Inst.{Inst}
use Rattle.ir_core.specs.declared.instruction.Op.{Op}
use Rattle.ir_core.specs.declared.instruction.Op.TheVariants.{Binary, Select, Convert}
use Rattle.ir_core.specs.declared.operand.Operand.{Operand}
use Rattle.ir_core.specs.declared.operand.Operand.TheVariants as operands
use Rattle.ir_core.specs.declared.operand.Register.TheVariants as registers
use Rattle.known_bits.specs.Words.{unknown, bit_by_bit, top_of}

-- a shift by a number below the width N; of one by another amount nothing is known
abbrev pub shifted : ℕ → Operand → (ℕ → List KnownBit) → List KnownBit
shifted N (operands.Number n) by = if nat_lt n.number N then by n.number else unknown N
shifted N amount by = unknown N

-- The table: the result of an instruction of width N, where `known M x` is known of an operand x read at width M.
abbrev pub known_result : (ℕ → Operand → List KnownBit) → ℕ → Op → List KnownBit
known_result known N (Binary And flags x y) = bit_by_bit known_and (known N x) (known N y)
known_result known N (Binary Or flags x y) = bit_by_bit known_or (known N x) (known N y)
known_result known N (Binary Xor flags x y) = bit_by_bit known_xor (known N x) (known N y)
known_result known N (Binary Add flags x y) = known_sum Zero (known N x) (known N y)
known_result known N (Binary Sub flags x y) = known_sum One (known N x) (map known_not (known N y))
known_result known N (Binary Shl flags x y) = shifted N y (λ n. moved Up Zero n (known N x))
known_result known N (Binary LShr flags x y) = shifted N y (λ n. moved Down Zero n (known N x))
known_result known N (Binary AShr flags x y) = shifted N y (λ n. moved Down (top_of (known N x)) n (known N x))
known_result known N (Convert Trunc flags M x) = take N (known M x)
known_result known N (Convert ZExt flags M x) = known M x ++ replicate (N - M) Zero
known_result known N (Convert SExt flags M x) = known M x ++ replicate (N - M) (top_of (known M x))
known_result known N (Select condition x y) = bit_by_bit known_agreed (known N x) (known N y)
known_result known N op = unknown N

-- an operand of width N, where `results` are known of the results of block b before the place
abbrev pub known_operand : ℕ → List (List KnownBit) → ℕ → Operand → List KnownBit
known_operand b results N (operands.Number n) = map certain (binary_digits n.width n.number)
known_operand b results N (operands.Register (registers.Result c k)) =
    if c == b then unwrap_or (slice_get results k) (unknown N) else unknown N
known_operand b results N x = unknown N

-- the results of these instructions of block b, each by those before it
unfoldable pub known_results : ℕ → List Inst → List (List KnownBit)
known_results b insts =
    fold (λ before inst. before ++ known_result (known_operand b before) inst.width inst.op ∷ []) [] insts

-- the instructions of block b
abbrev pub insts_of : Function → ℕ → List Inst
insts_of f b = unwrap_or (option_map (λ block. block.insts) (slice_get f.blocks b)) []

-- an operand of width N at place k of block b
abbrev pub known_at : Function → ℕ → ℕ → ℕ → Operand → List KnownBit
known_at f b k N x = known_operand b (known_results b (take k (insts_of f b))) N x
