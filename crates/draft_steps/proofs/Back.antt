-- Different instructions have different positions, so positions can be renamed back to numbers.
use Rattle.draft_steps.proofs.Common.{◌≡◌, ℕ, suc, List, [], ◌∷◌, get_or, map, Some, refl, ap, ◌∙◌, slice_get, get_or_from_slice_get, Read, read, end_of, reads_of, Function, Inst, Op, Binary, Compare, Unary, Select, Convert, Freeze, Phi, Operand, Register, Substitution, substituted_inst, substituted_op, substituted_operand, substituted_entries, placed, row_of}
use Rattle.ir_core.specs.declared.operand.Operand.TheVariants as operands
use Rattle.ir_core.specs.declared.operand.Register.TheVariants as registers
use Rattle.places.specs.Orders.{place_in}
use Rattle.draft_steps.proofs.Places.{IsStanding}
use Rattle.draft_steps.proofs.Rows.{number_there}

-- names a result by its number in the arena, in place of its position
abbrev pub numbered : List (List ℕ) → Substitution
numbered rows (registers.Parameter p) = operands.Register (registers.Parameter p)
numbered rows (registers.Result b k) = operands.Register (registers.Result b (get_or (row_of rows b) k 0))

module _ (rows : List (List ℕ)) where
  register_back : (r : Register) → IsStanding rows r → substituted_operand (numbered rows) (placed rows r) ≡ operands.Register r
  register_back (registers.Parameter p) stands = refl
  register_back (registers.Result b n) stands =
      ap (λ (m : ℕ). operands.Register (registers.Result b m)) (get_or_from_slice_get (row_of rows b) (place_in (row_of rows b) n) n 0 (number_there (row_of rows b) n stands))

  -- the operand is no result, or one of an instruction that stands
  abbrev pub Stands : Operand → Type 0
  Stands a = (r : Register) → a ≡ operands.Register r → IsStanding rows r

  operand_back : (a : Operand) → Stands a → substituted_operand (numbered rows) (substituted_operand (placed rows) a) ≡ a
  operand_back (operands.Register r) stands = register_back r (stands r refl)
  operand_back (operands.Number n) stands = refl
  operand_back operands.Undef stands = refl
  operand_back operands.Poison stands = refl

  abbrev EachStands : List Read → Type 0
  EachStands reads = (i : ℕ) (r : Read) → slice_get reads i ≡ Some r → Stands r.operand

  entries_back : (f : Function) (w : ℕ) (entries : List (Operand × ℕ)) → EachStands (map (λ (e : Operand × ℕ). read e.1 (end_of f e.1) w e.0) entries)
      → substituted_entries (numbered rows) (substituted_entries (placed rows) entries) ≡ entries
  entries_back f w [] each = refl
  entries_back f w (e ∷ entries) each =
      ap (λ (a : Operand). (a, e.1) ∷ substituted_entries (numbered rows) (substituted_entries (placed rows) entries)) (operand_back e.0 (each 0 (read e.1 (end_of f e.1) w e.0) refl))
      ∙ ap (λ (l : List (Operand × ℕ)). (e.0, e.1) ∷ l) (entries_back f w entries (λ i r at. each (suc i) r at))

  op_back : (f : Function) (b k w : ℕ) (op : Op) → EachStands (reads_of f b k w op) → substituted_op (numbered rows) (substituted_op (placed rows) op) ≡ op
  op_back f b k w (Binary opcode flags x y) each = (let a = operand_back x (each 0 (read b k w x) refl) in let d = operand_back y (each 1 (read b k w y) refl) in cc)
  op_back f b k w (Compare pred samesign n x y) each = (let a = operand_back x (each 0 (read b k n x) refl) in let d = operand_back y (each 1 (read b k n y) refl) in cc)
  op_back f b k w (Unary op truth x) each = (let a = operand_back x (each 0 (read b k w x) refl) in cc)
  op_back f b k w (Select c x y) each =
      (let z = operand_back c (each 0 (read b k 1 c) refl) in let a = operand_back x (each 1 (read b k w x) refl) in let d = operand_back y (each 2 (read b k w y) refl) in cc)
  op_back f b k w (Convert cast flags from x) each = (let a = operand_back x (each 0 (read b k from x) refl) in cc)
  op_back f b k w (Freeze x) each = (let a = operand_back x (each 0 (read b k w x) refl) in cc)
  op_back f b k w (Phi entries) each = ap Phi (entries_back f w entries each)

  pub inst_back : (f : Function) (b k : ℕ) (inst : Inst) → EachStands (reads_of f b k inst.width inst.op) → substituted_inst (numbered rows) (substituted_inst (placed rows) inst) ≡ inst
  inst_back f b k inst each = (let put : Op → Inst = λ op. record { name = inst.name; width = inst.width; op = op } in ap put (op_back f b k inst.width inst.op each))
