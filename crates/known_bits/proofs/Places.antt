-- What is known at different places of a block, and what that says of numbers.
use Rattle.known_bits.proofs.Common.{◌≡◌, ℕ, ◌^◌, ◌<◌, ◌≤◌, List, [], length, take, Some, refl, sym, ap, subst, ◌∙◌, arith, bit_and, eq-eqb, and_assoc, and_comm, and_le_l, slice_get, unwrap_or, option_map, slice_get_within, Number, Bits, KnownBit, Block, Function, Inst, Operand, IsInst, unknown, known_of, known_at, known_result, known_results, insts_of, HasBits}
use Rattle.ir_core.specs.declared.operand.Operand.TheVariants as operands
use Rattle.ir_core.specs.declared.operand.Register.TheVariants as registers
use Rattle.known_bits.proofs.BlockResults.{among, length_results, operand_cases, result_at}
use Rattle.known_bits.proofs.KnownNumbers.{numbers_have}

-- the function's instructions are those of the block
pub inst_there : (f : Function) (b j : ℕ) (inst : Inst) → IsInst f b j inst → slice_get (insts_of f b) j ≡ Some inst
inst_there f b j inst is = ap (λ o. slice_get (unwrap_or (option_map (λ (block : Block). block.insts) o) []) j) is.is_block ∙ is.is_inst

-- what is known of a result before a place is what the table says by what is known before its instruction
pub result_before : (f : Function) (b p k N : ℕ) (inst : Inst) → IsInst f b p inst → p < k → known_at f b k N (operands.Register (registers.Result b p)) ≡ known_result (known_at f b p) inst.width inst.op
result_before f b p k N inst is before =
    let entry : slice_get (known_results b (take k (insts_of f b))) p ≡ Some (known_result (known_at f b p) inst.width inst.op) = result_at b (insts_of f b) p k inst (inst_there f b p inst is) before in
    rw (eq-eqb b b refl, entry) refl

-- what is known of an operand before a place is known behind it too, or nothing is known of it before
pub known_earlier : (P : List KnownBit → Type 0) (f : Function) (b p k N : ℕ) (x : Operand) → p ≤ k → P (unknown N) → P (known_at f b k N x) → P (known_at f b p N x)
known_earlier P f b p k N x le none all =
    operand_cases P b (known_results b (take p (insts_of f b))) N x (λ n is. subst (λ y. P (known_at f b k N y)) is all) of_result none
  where
    of_result : (j : ℕ) (bits : List KnownBit) → x ≡ operands.Register (registers.Result b j) → slice_get (known_results b (take p (insts_of f b))) j ≡ Some bits → P bits
    of_result j bits is at =
        let inside : j < length (take p (insts_of f b)) = subst (λ n. j < n) (length_results b (take p (insts_of f b))) (slice_get_within (known_results b (take p (insts_of f b))) j bits at) in
        let found = among (insts_of f b) p j inside in
        let before : slice_get (known_results b (take k (insts_of f b))) j ≡ Some bits =
        result_at b (insts_of f b) j k found.0 found.1 (omega (arith, found.2)) ∙ sym (result_at b (insts_of f b) j p found.0 found.1 found.2) ∙ at in
        let same : known_at f b k N (operands.Register (registers.Result b j)) ≡ bits = rw (eq-eqb b b refl, before) refl in
        subst P same (subst (λ y. P (known_at f b k N y)) is all)

-- ---- numbers with bits that are known

-- a mask each of whose bits is known to be 0 has none in common with the number
pub masked_number : (x : List KnownBit) (n : Number) (mask : ℕ) → n.number < 2 ^ n.width → HasBits x (Bits n) → bit_and mask (known_of x).zeros ≡ mask → bit_and n.number mask ≡ 0
masked_number x n mask below has within =
    let none : bit_and n.number (known_of x).zeros ≡ 0 = (numbers_have x n below has).0 in
    let zero : bit_and 0 mask ≤ 0 = and_le_l 0 mask in
    ap (bit_and n.number) (sym within ∙ and_comm mask (known_of x).zeros) ∙ sym (and_assoc mask n.number (known_of x).zeros) ∙ ap (λ m. bit_and m mask) none ∙ omega (arith, zero)

-- a number of which a bit is known to be 1 isn't 0
pub non_zero_number : (x : List KnownBit) (n : Number) → n.number < 2 ^ n.width → HasBits x (Bits n) → ¬ ((known_of x).ones ≡ 0) → ¬ (n.number ≡ 0)
non_zero_number x n below has some is =
    let all : bit_and n.number (known_of x).ones ≡ (known_of x).ones = (numbers_have x n below has).1 in
    let none : bit_and n.number (known_of x).ones ≤ n.number = and_le_l n.number (known_of x).ones in
    some (omega (arith, all, none, is))
