-- Reads at a place: which of them are of registers that are kept and assigned.
use Rattle.needed.proofs.Common.{◌≡◌, ℕ, zero, suc, true, cond, List, [], ◌∷◌, length, Option, Some, refl, sym, ap, subst, ◌∙◌, arith, slice_get, option_map, unwrap_or, eq-eqb, slice_get_past, slice_get_within, same_Some, Function, Block, Inst, Op, Binary, Compare, Unary, Select, Convert, Freeze, Phi, Operand, Register, IsAssigned, ReadIsAssigned, IsBlock, HasInst, IsPhi, MeetsChecks, Read, read, IsRead, end_of, reads_of, reads_at_end, reads_by, reads_in, reads_at, IsNeeded, KeptMarks, KeepsNeeded}
use Rattle.ir_core.specs.declared.operand.Operand.TheVariants as operands
use Rattle.ir_core.specs.declared.operand.Register.TheVariants as registers

pub reads_at-inst : (f : Function) (b k : ℕ) (block : Block) (inst : Inst) → IsBlock f b block → slice_get block.insts k ≡ Some inst → reads_at f b k ≡ reads_of f b k inst.width inst.op
reads_at-inst f b k block inst at here = ap (reads_in f b k) at ∙ ap (reads_by f b k block) here

pub reads_at-end : (f : Function) (b : ℕ) (block : Block) → IsBlock f b block → reads_at f b (length block.insts) ≡ reads_at_end f b (length block.insts) block.end
reads_at-end f b block at =
    let n = length block.insts in
    ap (reads_in f b n) at ∙ ap (reads_by f b n block) (slice_get_past block.insts n (omega arith)) ∙ ap (λ c. cond c (reads_at_end f b n block.end) []) (eq-eqb n n refl)

pub end_of-is : (f : Function) (b : ℕ) (block : Block) → IsBlock f b block → end_of f b ≡ length block.insts
end_of-is f b block at = ap (λ (o : Option Block). unwrap_or (option_map (λ (block : Block). length block.insts) o) 0) at

pub has_inst : (f : Function) (b k : ℕ) (block : Block) (inst : Inst) → IsBlock f b block → slice_get block.insts k ≡ Some inst → HasInst f b k
has_inst f b k block inst at here = (block, at, slice_get_within block.insts k inst here)

-- a predicate that holds of the first item and of each other
pub each_none : {A : Type 0} (P : A → Type 0) (i : ℕ) (y : A) → slice_get [] i ≡ Some y → P y
each_none P i y e = absurd cc

pub each_first : {A : Type 0} (P : A → Type 0) (x : A) (xs : List A) → P x → ((i : ℕ) (y : A) → slice_get xs i ≡ Some y → P y) → (i : ℕ) (y : A) → slice_get (x ∷ xs) i ≡ Some y → P y
each_first P x xs p rest zero y e = subst P (same_Some x y e) p
each_first P x xs p rest (suc i) y e = rest i y e

-- the read is at the place
abbrev pub IsThere : ℕ → ℕ → Read → Type 0
IsThere b k r = (r.block ≡ b) × (r.place ≡ k)

one_there : (b k w : ℕ) (x : Operand) → (i : ℕ) (r : Read) → slice_get (read b k w x ∷ []) i ≡ Some r → IsThere b k r
one_there b k w x = each_first (IsThere b k) (read b k w x) [] (refl, refl) (each_none (IsThere b k))

two_there : (b k w : ℕ) (x y : Operand) → (i : ℕ) (r : Read) → slice_get (read b k w x ∷ read b k w y ∷ []) i ≡ Some r → IsThere b k r
two_there b k w x y = each_first (IsThere b k) (read b k w x) (read b k w y ∷ []) (refl, refl) (one_there b k w y)

-- an instruction that is no phi reads its operands at its own place
pub own_place : (f : Function) (b k w : ℕ) (op : Op) → ¬ IsPhi op → (i : ℕ) (r : Read) → slice_get (reads_of f b k w op) i ≡ Some r → IsThere b k r
own_place f b k w (Binary op flags x y) other = two_there b k w x y
own_place f b k w (Compare pred samesign compared x y) other = two_there b k compared x y
own_place f b k w (Select c x y) other = each_first (IsThere b k) (read b k 1 c) (read b k w x ∷ read b k w y ∷ []) (refl, refl) (two_there b k w x y)
own_place f b k w (Convert cast flags from x) other = one_there b k from x
own_place f b k w (Unary op truth x) other = one_there b k w x
own_place f b k w (Freeze x) other = one_there b k w x
own_place f b k w (Phi entries) other = absurd (other tt)

-- ---- what is kept

-- the register stays: a parameter, or the result of an instruction that is kept
abbrev pub Stays : KeptMarks → Register → Type 0
Stays kept (registers.Parameter p) = Unit {0}
Stays kept (registers.Result b k) = kept b k ≡ true

abbrev pub OperandStays : KeptMarks → Operand → Type 0
OperandStays kept (operands.Register r) = Stays kept r
OperandStays kept (operands.Number n) = Unit {0}
OperandStays kept operands.Undef = Unit {0}
OperandStays kept operands.Poison = Unit {0}

-- each register among the reads stays
abbrev pub ReadsStay : KeptMarks → List Read → Type 0
ReadsStay kept reads = (i : ℕ) (r : Read) → slice_get reads i ≡ Some r → OperandStays kept r.operand

module _ (f : Function) (m : MeetsChecks f) (kept : KeptMarks) (needed : KeepsNeeded f kept) where
  register_stays : (r : Register) (b k : ℕ) → IsNeeded f r → IsAssigned f r b k → Stays kept r
  register_stays (registers.Parameter p) b k n a = tt
  register_stays (registers.Result d j) b k n a = (needed d j a.0).1 n

  operand_stays : (a : Operand) (b k : ℕ) → ((r : Register) → a ≡ operands.Register r → IsNeeded f r) → ((r : Register) → a ≡ operands.Register r → IsAssigned f r b k) → OperandStays kept a
  operand_stays (operands.Register r) b k n a = register_stays r b k (n r refl) (a r refl)
  operand_stays (operands.Number x) b k n a = tt
  operand_stays operands.Undef b k n a = tt
  operand_stays operands.Poison b k n a = tt

  -- the registers that a kept instruction reads stay
  pub inst_reads_stay : (b k : ℕ) (block : Block) (inst : Inst) → IsBlock f b block → slice_get block.insts k ≡ Some inst → kept b k ≡ true → ReadsStay kept (reads_of f b k inst.width inst.op)
  inst_reads_stay b k block inst at here keep i r h =
      let is : IsRead f b k i r = ap (λ l. slice_get l i) (reads_at-inst f b k block inst at here) ∙ h in
      let n : IsNeeded f (registers.Result b k) = (needed b k (has_inst f b k block inst at here)).0 keep in
      operand_stays r.operand r.block r.place (λ register e. IsNeeded.by_inst b k n (record { operand = i; read = r; is_read = is; reads = e })) (m.assigned b k i r is)

  -- the register that a terminator reads stays
  pub end_reads_stay : (b : ℕ) (block : Block) → IsBlock f b block → ReadsStay kept (reads_at_end f b (length block.insts) block.end)
  end_reads_stay b block at i r h =
      let is : IsRead f b (length block.insts) i r = ap (λ l. slice_get l i) (reads_at-end f b block at) ∙ h in
      let is_end : IsRead f b (end_of f b) i r = subst (λ k. IsRead f b k i r) (sym (end_of-is f b block at)) is in
      operand_stays r.operand r.block r.place (λ register e. IsNeeded.by_end b (record { operand = i; read = r; is_read = is_end; reads = e })) (m.assigned b (length block.insts) i r is)

  -- the registers that an instruction reads are assigned where it reads them
  pub inst_reads_assigned : (b k : ℕ) (block : Block) (inst : Inst) → IsBlock f b block → slice_get block.insts k ≡ Some inst → (i : ℕ) (r : Read) → slice_get (reads_of f b k inst.width inst.op) i ≡ Some r → ReadIsAssigned f r
  inst_reads_assigned b k block inst at here i r h = m.assigned b k i r (ap (λ l. slice_get l i) (reads_at-inst f b k block inst at here) ∙ h)
