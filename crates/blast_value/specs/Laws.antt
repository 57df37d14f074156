-- Laws of the circuits of instructions.
use Rattle.std.specs.Prelude.{ℕ, ◌+◌, ◌*◌, ◌≤◌, max}
use Rattle.ops.specs.declared.opcode.Opcode.TheVariants.{Mul, UDiv, SDiv, URem, SRem}
use Rattle.blast_value.specs.declared.instruction.Instruction.{Instruction}
use Rattle.blast_value.specs.declared.instruction.Instruction.TheVariants.{Binary}
use Rattle.blast_value.specs.Gates.{gates_of}

-- the bound: 64 gates for each bit of the greatest width, and 64 for each pair of bits of a product, a quotient or a
-- remainder
abbrev pub bound : Instruction → ℕ → ℕ
bound (Binary Mul flags) N = 64 * N + 64 * N * N
bound (Binary UDiv flags) N = 64 * N + 64 * N * N
bound (Binary SDiv flags) N = 64 * N + 64 * N * N
bound (Binary URem flags) N = 64 * N + 64 * N * N
bound (Binary SRem flags) N = 64 * N + 64 * N * N
bound what N = 64 * N

-- the circuit of an instruction whose widths are from 1 to 64 has no more gates than the bound
abbrev pub GatesAreFew : Type 0
GatesAreFew = (what : Instruction) (N M : ℕ) → 1 ≤ N → N ≤ 64 → 1 ≤ M → M ≤ 64 → gates_of what N M ≤ bound what (max N M)
