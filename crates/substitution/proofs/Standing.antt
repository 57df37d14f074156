-- Substitutes have the widths of the operands that they replace, and literal numbers stay of theirs.
use Rattle.substitution.proofs.Common.{◌≡◌, ◌≢◌, ℕ, ◌+◌, ◌^◌, ◌<◌, inl, inr, length, Some, sym, ap, subst, ◌∙◌, slice_get, option_map, option_and_then, same_Some, Number, IsValueOf, Value, IsAssigned, IsInst, OperandHasWidth, width_of, Registers, Function, Block, Inst, Operand, HoldWidths, substituted_operand, substituted_inst, IsDefinite, value_of, pulled_back, Rewrite, root_of, moved_place, stands_for, rewritten_function, Fits, IsOfItsWidth, IsOld, MayBeRead, not_both_assigned}
use Rattle.ops.specs.declared.value.Value.TheVariants as values
use Rattle.ir_core.specs.declared.operand.Operand.TheVariants as operands
use Rattle.ir_core.specs.declared.operand.Register.TheVariants as registers
use Rattle.substitution.proofs.Pieces.{mapped, chained}
use Rattle.substitution.proofs.Arriving.{same_or_other}
use Rattle.substitution.proofs.Placing.{IsTheRoot, stands_root, stands_other, inst_on, put_on}

pub width_at : (f : Function) (b k : ℕ) (inst : Inst) → IsInst f b k inst → width_of f (registers.Result b k) ≡ Some inst.width
width_at f b k inst at = ap (option_and_then (λ (block : Block). option_map (λ (i : Inst). i.width) (slice_get block.insts k))) at.is_block ∙ ap (option_map (λ (i : Inst). i.width)) at.is_inst

-- a result that has a width is that of an instruction of the function
pub inst_of_width : (f : Function) (b k width : ℕ) → width_of f (registers.Result b k) ≡ Some width → (inst : Inst) × IsInst f b k inst × (inst.width ≡ width)
inst_of_width f b k width e =
    let block : (block : Block) × (slice_get f.blocks b ≡ Some block) × (option_map (λ (i : Inst). i.width) (slice_get block.insts k) ≡ Some width) = chained (λ (block : Block). option_map (λ (i : Inst). i.width) (slice_get block.insts k)) (slice_get f.blocks b) width e in
    let inst : (i : Inst) × (slice_get block.0.insts k ≡ Some i) × (i.width ≡ width) = mapped (λ (i : Inst). i.width) (slice_get block.0.insts k) width block.2 in
    (inst.0, record { block = block.0; is_block = block.1; is_inst = inst.1 }, inst.2)

number_below : (n : Number) (width : ℕ) → n.width ≡ width → n.number < 2 ^ n.width → n.number < 2 ^ width
number_below n width e h = subst (λ k. n.number < 2 ^ k) e h

pub other_register : (w : Rewrite) (d j : ℕ) → operands.Register (registers.Result d j) ≢ operands.Register (root_of w) → ¬ IsTheRoot w d j
other_register w d j ne h = ne (let p = h.0 in let q = h.1 in cc)

module _ (f : Function) (w : Rewrite) (root : Inst) (fits : Fits f w root) where
  abbrev new : Function
  new = rewritten_function w f

  -- an old operand that may be read isn't the root's register, since that isn't assigned at the root
  pub old_other : (width : ℕ) (a : Operand) (o : IsOld f w width a) → o.old ≢ operands.Register (root_of w)
  old_other width a o e = let there : IsAssigned f (root_of w) w.block w.place = o.assigned (root_of w) e in not_both_assigned f w.block w.place w.block w.place fits.reached there there

  pub definite : IsDefinite (stands_for w)
  definite (registers.Parameter p) e = absurd cc
  definite (registers.Result d j) e =
      elim (same_or_other d j w.block w.place) [
        | inl here ↦ fits.definite (sym (stands_root w d j here) ∙ e)
        | inr other ↦ let is = stands_other w d j other in absurd cc
      ]

  -- ---- widths

  other_width : (width : ℕ) (a : Operand) → a ≢ operands.Register (root_of w) → OperandHasWidth f width a → OperandHasWidth new width (substituted_operand (stands_for w) a)
  other_width width (operands.Register (registers.Parameter p)) other h = h
  other_width width (operands.Register (registers.Result d j)) other h =
      let not_root : ¬ IsTheRoot w d j = other_register w d j other in
      let inst : (inst : Inst) × IsInst f d j inst × (inst.width ≡ width) = inst_of_width f d j width h in
      subst (λ (x : Operand). OperandHasWidth new width x) (sym (stands_other w d j not_root)) (width_at new d (moved_place w d j) (substituted_inst (stands_for w) inst.0) (inst_on w f d j inst.0 inst.1 not_root) ∙ ap (λ n. Some n) inst.2)
  other_width width (operands.Number n) other h = h
  other_width width operands.Undef other h = h
  other_width width operands.Poison other h = h

  -- an operand that may be read at a width has it
  pub read_width : (i width : ℕ) (a : Operand) → MayBeRead f w i width a → OperandHasWidth new width a
  read_width i width a (inl o) = subst (λ (x : Operand). OperandHasWidth new width x) (sym o.stands) (other_width width o.old (old_other width a o) o.fits)
  read_width i width a (inr p) =
      subst (λ (x : Operand). OperandHasWidth new width x) (sym p.stands) (width_at new w.block (w.place + p.place) p.inst (put_on w f root p.place p.inst fits.is_root p.is_put) ∙ ap (λ n. Some n) p.fits)

  root_width : (d j width : ℕ) → IsTheRoot w d j → width_of f (registers.Result d j) ≡ Some width → OperandHasWidth new width w.result
  root_width d j width here h =
      let there : width_of f (registers.Result w.block w.place) ≡ Some width = subst (λ n. width_of f (registers.Result w.block n) ≡ Some width) here.1 (subst (λ n. width_of f (registers.Result n j) ≡ Some width) here.0 h) in
      let is : root.width ≡ width = same_Some root.width width (sym (width_at f w.block w.place root fits.is_root) ∙ there) in
      read_width (length w.put) width w.result (subst (λ n. MayBeRead f w (length w.put) n w.result) is fits.result)

  pub width_on : (width : ℕ) (a : Operand) → OperandHasWidth f width a → OperandHasWidth new width (substituted_operand (stands_for w) a)
  width_on width (operands.Register (registers.Parameter p)) h = h
  width_on width (operands.Register (registers.Result d j)) h =
      elim (same_or_other d j w.block w.place) [
        | inl here ↦ subst (λ (x : Operand). OperandHasWidth new width x) (sym (stands_root w d j here)) (root_width d j width here h)
        | inr other ↦ other_width width (operands.Register (registers.Result d j)) (λ e. other (let same : registers.Result d j ≡ root_of w = cc in (cc, cc))) h
      ]
  width_on width (operands.Number n) h = h
  width_on width operands.Undef h = h
  width_on width operands.Poison h = h

  -- ---- literal numbers

  other_number : (a : Operand) → a ≢ operands.Register (root_of w) → IsOfItsWidth a → IsOfItsWidth (substituted_operand (stands_for w) a)
  other_number (operands.Register (registers.Parameter p)) other h = tt
  other_number (operands.Register (registers.Result d j)) other h = subst (λ (x : Operand). IsOfItsWidth x) (sym (stands_other w d j (other_register w d j other))) tt
  other_number (operands.Number n) other h = h
  other_number operands.Undef other h = tt
  other_number operands.Poison other h = tt

  pub read_number : (i width : ℕ) (a : Operand) → MayBeRead f w i width a → IsOfItsWidth a
  read_number i width a (inl o) = subst (λ (x : Operand). IsOfItsWidth x) (sym o.stands) (other_number o.old (old_other width a o) o.number)
  read_number i width a (inr p) = subst (λ (x : Operand). IsOfItsWidth x) (sym p.stands) tt

  pub number_on : (a : Operand) → IsOfItsWidth a → IsOfItsWidth (substituted_operand (stands_for w) a)
  number_on (operands.Register (registers.Parameter p)) h = tt
  number_on (operands.Register (registers.Result d j)) h =
      elim (same_or_other d j w.block w.place) [
        | inl here ↦ subst (λ (x : Operand). IsOfItsWidth x) (sym (stands_root w d j here)) (read_number (length w.put) root.width w.result fits.result)
        | inr other ↦ subst (λ (x : Operand). IsOfItsWidth x) (sym (stands_other w d j other)) tt
      ]
  number_on (operands.Number n) h = h
  number_on operands.Undef h = tt
  number_on operands.Poison h = tt

  -- ---- what registers hold

  value_keeps : (held : Registers) (width : ℕ) (a : Operand) (v : Value) → HoldWidths new held → OperandHasWidth new width a → IsOfItsWidth a → value_of held a ≡ Some v → IsValueOf width v
  value_keeps held width (operands.Register r) v widths has number h = widths r width v has h
  value_keeps held width (operands.Number n) v widths has number h = subst (IsValueOf width) (same_Some (values.Bits n) v h) (has, number_below n width has number)
  value_keeps held width operands.Undef v widths has number h = absurd cc
  value_keeps held width operands.Poison v widths has number h = subst (IsValueOf width) (same_Some values.Poison v h) tt

  -- if the new function's registers hold values of their widths, so do the old function's, pulled back
  pub widths_back : (held : Registers) → HoldWidths new held → HoldWidths f (pulled_back (stands_for w) held)
  widths_back held widths r width v has h = value_keeps held width (stands_for w r) v widths (width_on width (operands.Register r) has) (number_on (operands.Register r) tt) h
