-- What the table says of an instruction stays the same where its operands are renamed, if as much is known of these.
use Rattle.draft_bits.proofs.Common.{◌≡◌, ℕ, List, Some, refl, sym, ap, ap₂, if◌then◌else◌, nat_lt, slice_get, Function, IsPhi, Read, read, reads_of, Op, Operand, Register, KnownBit, HaveWidths, bit_by_bit, known_result, length, shifted, top_of, unknown, ◌∙◌, Substitution, substituted_op, substituted_operand}
use Rattle.ops.specs.declared.opcode.Opcode.TheVariants.{Add, Sub, Mul, UDiv, SDiv, URem, SRem, Shl, LShr, AShr, And, Or, Xor, UMin, UMax, SMin, SMax}
use Rattle.ops.specs.declared.conversion.Cast.TheVariants.{Trunc, ZExt, SExt}
use Rattle.circuits.specs.Kleene.{known_not, known_and, known_or, known_xor, known_agreed}
use Rattle.circuits.specs.KnownSum.{known_sum}
use Rattle.circuits.specs.Move.{moved}
use Rattle.circuits.specs.declared.known_bit.KnownBit.TheVariants.{Zero, One}
use Rattle.circuits.specs.declared.shift.Direction.TheVariants.{Up, Down}
use Rattle.std.specs.Prelude.{map, replicate, take, ◌++◌, ◌-◌}
use Rattle.ir_core.specs.declared.instruction.Op.TheVariants as ops
use Rattle.ir_core.specs.declared.operand.Operand.TheVariants as operands

-- registers stand for registers
abbrev pub Renames : Substitution → Type 0
Renames to = (r : Register) → (s : Register) × (to r ≡ operands.Register s)

shifted_same : (to : Substitution) → Renames to → (N : ℕ) (y : Operand) (by by' : ℕ → List KnownBit) → ((n : ℕ) → by n ≡ by' n) → shifted N y by ≡ shifted N (substituted_operand to y) by'
shifted_same to renames N (operands.Number n) by by' same = ap (λ word. if nat_lt n.number N then word else unknown N) (same n.number)
shifted_same to renames N (operands.Register r) by by' same = let (s, is) = renames r in ap (λ (y : Operand). shifted N y by') (sym is)
shifted_same to renames N operands.Undef by by' same = refl
shifted_same to renames N operands.Poison by by' same = refl

module _ (known known' : ℕ → Operand → List KnownBit) (to : Substitution) (renames : Renames to) (f : Function) (b p N : ℕ) where
  -- as much is known of what the instruction reads
  abbrev pub ReadsAlike : Op → Type 0
  ReadsAlike op = ¬ IsPhi op → (i : ℕ) (r : Read) → slice_get (reads_of f b p N op) i ≡ Some r → known r.width r.operand ≡ known' r.width (substituted_operand to r.operand)

  pub result_renamed : (op : Op) → ReadsAlike op → known_result known N op ≡ known_result known' N (substituted_op to op)
  result_renamed (ops.Binary And flags x y) alike = ap₂ (bit_by_bit known_and) (alike (λ phi. phi) 0 (read b p N x) refl) (alike (λ phi. phi) 1 (read b p N y) refl)
  result_renamed (ops.Binary Or flags x y) alike = ap₂ (bit_by_bit known_or) (alike (λ phi. phi) 0 (read b p N x) refl) (alike (λ phi. phi) 1 (read b p N y) refl)
  result_renamed (ops.Binary Xor flags x y) alike = ap₂ (bit_by_bit known_xor) (alike (λ phi. phi) 0 (read b p N x) refl) (alike (λ phi. phi) 1 (read b p N y) refl)
  result_renamed (ops.Binary Add flags x y) alike = ap₂ (known_sum Zero) (alike (λ phi. phi) 0 (read b p N x) refl) (alike (λ phi. phi) 1 (read b p N y) refl)
  result_renamed (ops.Binary Sub flags x y) alike = ap₂ (λ q r. known_sum One q (map known_not r)) (alike (λ phi. phi) 0 (read b p N x) refl) (alike (λ phi. phi) 1 (read b p N y) refl)
  result_renamed (ops.Binary Shl flags x y) alike =
      shifted_same to renames N y (λ n. moved Up Zero n (known N x)) (λ n. moved Up Zero n (known' N (substituted_operand to x))) (λ n. ap (λ word. moved Up Zero n word) (alike (λ phi. phi) 0 (read b p N x) refl))
  result_renamed (ops.Binary LShr flags x y) alike =
      shifted_same to renames N y (λ n. moved Down Zero n (known N x)) (λ n. moved Down Zero n (known' N (substituted_operand to x))) (λ n. ap (λ word. moved Down Zero n word) (alike (λ phi. phi) 0 (read b p N x) refl))
  result_renamed (ops.Binary AShr flags x y) alike =
      shifted_same to renames N y (λ n. moved Down (top_of (known N x)) n (known N x)) (λ n. moved Down (top_of (known' N (substituted_operand to x))) n (known' N (substituted_operand to x))) (λ n. ap (λ word. moved Down (top_of word) n word) (alike (λ phi. phi) 0 (read b p N x) refl))
  result_renamed (ops.Binary Mul flags x y) alike = refl
  result_renamed (ops.Binary UDiv flags x y) alike = refl
  result_renamed (ops.Binary SDiv flags x y) alike = refl
  result_renamed (ops.Binary URem flags x y) alike = refl
  result_renamed (ops.Binary SRem flags x y) alike = refl
  result_renamed (ops.Binary UMin flags x y) alike = refl
  result_renamed (ops.Binary UMax flags x y) alike = refl
  result_renamed (ops.Binary SMin flags x y) alike = refl
  result_renamed (ops.Binary SMax flags x y) alike = refl
  result_renamed (ops.Convert Trunc flags M x) alike = ap (take N) (alike (λ phi. phi) 0 (read b p M x) refl)
  result_renamed (ops.Convert ZExt flags M x) alike = ap (λ word. word ++ replicate (N - M) Zero) (alike (λ phi. phi) 0 (read b p M x) refl)
  result_renamed (ops.Convert SExt flags M x) alike = ap (λ word. word ++ replicate (N - M) (top_of word)) (alike (λ phi. phi) 0 (read b p M x) refl)
  result_renamed (ops.Select c x y) alike = ap₂ (bit_by_bit known_agreed) (alike (λ phi. phi) 1 (read b p N x) refl) (alike (λ phi. phi) 2 (read b p N y) refl)
  result_renamed (ops.Compare pred samesign M x y) alike = refl
  result_renamed (ops.Unary op truth x) alike = refl
  result_renamed (ops.Freeze x) alike = refl
  result_renamed (ops.Phi entries) alike = refl

  -- the words have the widths of the operands if those of the renamed ones have them
  pub widths_renamed : (op : Op) → ReadsAlike op → HaveWidths known' N (substituted_op to op) → HaveWidths known N op
  widths_renamed (ops.Binary opcode flags x y) alike widths = (ap length (alike (λ phi. phi) 0 (read b p N x) refl) ∙ widths.0, ap length (alike (λ phi. phi) 1 (read b p N y) refl) ∙ widths.1)
  widths_renamed (ops.Select c x y) alike widths = (ap length (alike (λ phi. phi) 1 (read b p N x) refl) ∙ widths.0, ap length (alike (λ phi. phi) 2 (read b p N y) refl) ∙ widths.1)
  widths_renamed (ops.Convert cast flags M x) alike widths = (ap length (alike (λ phi. phi) 0 (read b p M x) refl) ∙ widths.0, widths.1)
  widths_renamed (ops.Compare pred samesign M x y) alike widths = widths
  widths_renamed (ops.Unary op truth x) alike widths = widths
  widths_renamed (ops.Freeze x) alike widths = widths
  widths_renamed (ops.Phi entries) alike widths = widths
