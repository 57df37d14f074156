-- In every run operands hold poison, or numbers with the bits that are known of them.
use Rattle.known_bits.proofs.Common.{◌≡◌, ℕ, zero, suc, ◌<◌, ◌≤◌, ◌^◌, ◌⊎◌, inl, inr, List, map, length, take, Some, refl, sym, subst, ◌∙◌, ⊎_elim, arith, slice_get, cases_lt, same_Some, slice_get_within, Number, binary_digits, HasWidth, IsValueOf, Value, KnownBit, certain, Function, Inst, Op, Operand, IsFormed, IsInst, IsPhi, OperandHasWidth, Read, reads_of, Registers, AnyNumber, OperandGives, OpGives, EquationHolds, HoldWidths, NumbersFit, reads_inst, width_known, equations_here, held_widths, known_at, known_result, known_operand, known_results, insts_of, HasBits, GivesBits, OperandsHaveKnownBits}
use Rattle.ops.specs.declared.value.Effect.TheVariants as effects
use Rattle.ir_core.specs.declared.instruction.Op.TheVariants as ops
use Rattle.ir_core.specs.declared.operand.Operand.TheVariants as operands
use Rattle.ir_core.specs.declared.operand.Register.TheVariants as registers
use Rattle.known_bits.proofs.Having.{has_certain}
use Rattle.known_bits.proofs.Values.{has_unknown_bits, width_of_value, has_nothing}
use Rattle.known_bits.proofs.Results.{results_have}
use Rattle.known_bits.proofs.BlockResults.{result_at, among, operand_cases, length_results, is_inst, operand_width}

-- a number that is written is one of its width
abbrev NumberFits : Operand → Type 0
NumberFits x = (n : Number) → x ≡ operands.Number n → n.number < 2 ^ n.width

value_fits : (f : Function) (held : Registers) → HoldWidths f held → (N : ℕ) (x : Operand) (v : Value) → OperandHasWidth f N x → NumberFits x → OperandGives AnyNumber held N x v → IsValueOf N v
value_fits f held widths N (operands.Register r) v has fits h = widths r N v has h
value_fits f held widths N (operands.Number n) v has fits h = subst (IsValueOf N) (sym h) (has, subst (λ m. n.number < 2 ^ m) has (fits n refl))
value_fits f held widths N operands.Undef v has fits h = subst (IsValueOf N) (sym h.2) (refl, h.1)
value_fits f held widths N operands.Poison v has fits h = subst (IsValueOf N) (sym h) tt

value_width : (f : Function) (held : Registers) → HoldWidths f held → (N : ℕ) (x : Operand) (v : Value) → OperandHasWidth f N x → OperandGives AnyNumber held N x v → HasWidth v N
value_width f held widths N (operands.Register r) v has h = width_of_value N v (widths r N v has h)
value_width f held widths N (operands.Number n) v has h = subst (λ u. HasWidth u N) (sym h) has
value_width f held widths N operands.Undef v has h = subst (λ u. HasWidth u N) (sym h.2) refl
value_width f held widths N operands.Poison v has h = subst (λ u. HasWidth u N) (sym h) tt

phi_or_not : (op : Op) → ((entries : List (Operand × ℕ)) × (op ≡ ops.Phi entries)) ⊎ (¬ IsPhi op)
phi_or_not (ops.Binary op flags x y) = inr (λ h. h)
phi_or_not (ops.Compare pred samesign M x y) = inr (λ h. h)
phi_or_not (ops.Unary op truth x) = inr (λ h. h)
phi_or_not (ops.Select c x y) = inr (λ h. h)
phi_or_not (ops.Convert cast flags M x) = inr (λ h. h)
phi_or_not (ops.Freeze x) = inr (λ h. h)
phi_or_not (ops.Phi entries) = inl (entries, refl)

-- What registers hold where a run may come to place `end` of block b: values of their widths, by which the equation of
-- each instruction of the block before that place holds that is no phi.
module _ (f : Function) (formed : IsFormed f) (fit : NumbersFit f) (held : Registers) (widths : HoldWidths f held) (b end : ℕ)
    (equations : (j : ℕ) (inst : Inst) → j < end → IsInst f b j inst → ¬ IsPhi inst.op → EquationHolds held b j inst) where
  -- what is known at place k of the block
  abbrev at_place : ℕ → ℕ → Operand → List KnownBit
  at_place k = known_operand b (known_results b (take k (insts_of f b)))

  -- the results of the first k instructions hold what has the bits that are known of them
  abbrev HoldTo : ℕ → Type 0
  HoldTo k = (j : ℕ) (inst : Inst) (v : Value) → j < k → slice_get (insts_of f b) j ≡ Some inst → held (registers.Result b j) ≡ Some v
      → HasBits (known_result (at_place j) inst.width inst.op) v

  operand_has : (k : ℕ) → HoldTo k → (N : ℕ) (x : Operand) (v : Value) → OperandHasWidth f N x → OperandGives AnyNumber held N x v → HasBits (at_place k N x) v
  operand_has k so_far N x v has h =
      operand_cases (λ bits. HasBits bits v) b (known_results b (take k (insts_of f b))) N x
      (λ n is. subst (HasBits (map certain (binary_digits n.width n.number))) (sym (subst (λ y. OperandGives AnyNumber held N y v) is h)) (has_certain (binary_digits n.width n.number)))
      (λ j bits is at. of_result j bits at (subst (λ y. OperandGives AnyNumber held N y v) is h))
      (has_unknown_bits N v (value_width f held widths N x v has h))
    where
      of_result : (j : ℕ) (bits : List KnownBit) → slice_get (known_results b (take k (insts_of f b))) j ≡ Some bits → held (registers.Result b j) ≡ Some v → HasBits bits v
      of_result j bits at holds =
          let inside : j < length (take k (insts_of f b)) = subst (λ n. j < n) (length_results b (take k (insts_of f b))) (slice_get_within (known_results b (take k (insts_of f b))) j bits at) in
          let found = among (insts_of f b) k j inside in
          let is_bits : known_result (at_place j) found.0.width found.0.op ≡ bits = same_Some _ bits (sym (result_at b (insts_of f b) j k found.0 found.1 found.2) ∙ at) in
          subst (λ p. HasBits p v) is_bits (so_far j found.0 v found.2 found.1 holds)

  gives_bits : (k : ℕ) → HoldTo k → (N : ℕ) (x : Operand) → OperandHasWidth f N x → NumberFits x → GivesBits (at_place k) held N x
  gives_bits k so_far N x has fits =
      (operand_width f formed b k N x has, λ v h. (value_fits f held widths N x v has fits h, operand_has k so_far N x v has h))

  result_has : (k : ℕ) → k < end → HoldTo k → (inst : Inst) (v : Value) → slice_get (insts_of f b) k ≡ Some inst → held (registers.Result b k) ≡ Some v
      → HasBits (known_result (at_place k) inst.width inst.op) v
  result_has k passed so_far inst v at holds = by (phi_or_not inst.op)
    where
      here : IsInst f b k inst
      here = is_inst f b k inst at

      is_value : IsValueOf inst.width v
      is_value = widths (registers.Result b k) inst.width v (width_known f b k here.block inst here.is_block here.is_inst) holds

      operands_have : (i : ℕ) (r : Read) → slice_get (reads_of f b k inst.width inst.op) i ≡ Some r → GivesBits (at_place k) held r.width r.operand
      operands_have i r e =
          let is_read = reads_inst f b k here.block inst here.is_block here.is_inst i r e in
          gives_bits k so_far r.width r.operand (formed.operands b k i r is_read) (λ n is. fit b k i r n is_read is)

      by : ((entries : List (Operand × ℕ)) × (inst.op ≡ ops.Phi entries)) ⊎ (¬ IsPhi inst.op) → HasBits (known_result (at_place k) inst.width inst.op) v
      by (inl phi) = rw phi.1 (has_nothing inst.width v is_value)
      by (inr other) =
          let equation = equations k inst passed here other in
          let same : v ≡ equation.0 = same_Some v equation.0 (sym holds ∙ equation.1) in
          results_have (at_place k) f b k held inst.width inst.op v (formed.insts b k inst here) operands_have
          (subst (λ u. OpGives AnyNumber held inst.width inst.op (effects.Gives u)) (sym same) equation.2) is_value

  hold_to : (k : ℕ) → k ≤ end → HoldTo k
  hold_to zero few j inst v lt at holds = absurd (omega arith)
  hold_to (suc k) few j inst v lt at holds =
      ⊎_elim
      (λ (h : j < k). hold_to k (omega arith) j inst v h at holds)
      (λ (h : k ≤ j).
      let same : k ≡ j = omega arith in
      let at_k : slice_get (insts_of f b) k ≡ Some inst = subst (λ n. slice_get (insts_of f b) n ≡ Some inst) (sym same) at in
      let holds_k : held (registers.Result b k) ≡ Some v = subst (λ n. held (registers.Result b n) ≡ Some v) (sym same) holds in
      subst (λ n. HasBits (known_result (at_place n) inst.width inst.op) v) same (result_has k (omega arith) (hold_to k (omega arith)) inst v at_k holds_k))
      (cases_lt j k)

  -- so what an operand gives has the bits that are known of it at any place up to that one
  pub held_has : (k : ℕ) → k ≤ end → (N : ℕ) (x : Operand) (v : Value) → OperandHasWidth f N x → OperandGives AnyNumber held N x v → HasBits (known_at f b k N x) v
  held_has k few N x v has h = operand_has k (hold_to k few) N x v has h

pub operands_have_known_bits : OperandsHaveKnownBits
operands_have_known_bits f args m before checked fit are history width x v has h =
    held_has f checked.formed fit m.held (held_widths f args m before checked.formed fit are history).0 m.block m.place
    (λ j inst passed here other. equations_here f args m before checked.assigned history j inst passed here other)
    m.place (omega arith) width x v has h
