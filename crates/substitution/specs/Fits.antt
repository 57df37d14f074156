-- When the instructions that are put in the root's place fit the function, so that the new one meets the checks too.
use Rattle.std.specs.Prelude.{◌≡◌, ◌≢◌, ℕ, ◌+◌, ◌<◌, ◌^◌, ◌⊎◌, List, length, map, Some, slice_get}
use Rattle.ir_core.specs.Assigned.{IsAssigned}
use Rattle.ir_core.specs.Checks.{IsInst, IsPhi, IsTyped, NamesDiffer, OperandHasWidth}
use Rattle.ir_core.specs.Reads.{Read, reads_of}
use Rattle.ir_core.specs.Walks.{IsReached}
use Rattle.ir_core.specs.declared.function.Function.{Function}
use Rattle.ir_core.specs.declared.instruction.Inst.{Inst}
use Rattle.ir_core.specs.declared.operand.Operand.{Operand}
use Rattle.ir_core.specs.declared.operand.Operand.TheVariants as operands
use Rattle.ir_core.specs.declared.operand.Register.{Register}
use Rattle.ir_core.specs.declared.operand.Register.TheVariants as registers
use Rattle.substitution.specs.Substitution.{substituted_operand}
use Rattle.substitution.specs.Rewritten.{Rewrite, stands_for}

-- if the operand is a literal number, it is one of its width
abbrev pub IsOfItsWidth : Operand → Type 0
IsOfItsWidth (operands.Number n) = n.number < 2 ^ n.width
IsOfItsWidth (operands.Register r) = Unit {0}
IsOfItsWidth operands.Undef = Unit {0}
IsOfItsWidth operands.Poison = Unit {0}

-- the operand is a literal of the width, or the substitute for a register of that width that is assigned at the root
pub record IsOld (f : Function) (w : Rewrite) (width : ℕ) (a : Operand) : Type 0 where
  pub old : Operand
  pub stands : a ≡ substituted_operand (stands_for w) old
  pub fits : OperandHasWidth f width old
  pub number : IsOfItsWidth old
  pub assigned : (r : Register) → old ≡ operands.Register r → IsAssigned f r w.block w.place

-- the operand is the result, of this width, of one of the first i instructions that are put
pub record IsPutBefore (w : Rewrite) (i width : ℕ) (a : Operand) : Type 0 where
  pub place : ℕ
  pub inst : Inst
  pub before : place < i
  pub is_put : slice_get w.put place ≡ Some inst
  pub fits : inst.width ≡ width
  pub stands : a ≡ operands.Register (registers.Result w.block (w.place + place))

-- the i-th instruction that is put may read the operand at this width
abbrev pub MayBeRead : Function → Rewrite → ℕ → ℕ → Operand → Type 0
MayBeRead f w i width a = IsOld f w width a ⊎ IsPutBefore w i width a

pub record Fits (f : Function) (w : Rewrite) (root : Inst) : Type 0 where
  pub is_root : IsInst f w.block w.place root
  pub no_phi : ¬ IsPhi root.op
  pub reached : IsReached f w.block
  pub no_phis_put : (i : ℕ) (inst : Inst) → slice_get w.put i ≡ Some inst → ¬ IsPhi inst.op
  pub typed : (i : ℕ) (inst : Inst) → slice_get w.put i ≡ Some inst → IsTyped inst.width inst.op
  -- each instruction that is put has no name or the root's, and no two of them have one name
  pub named_once : NamesDiffer (map (λ i. i.name) w.put)
  pub names : (i : ℕ) (inst : Inst) (name : List ℕ) → slice_get w.put i ≡ Some inst → inst.name ≡ Some name → root.name ≡ Some name
  pub reads : (i j : ℕ) (inst : Inst) (r : Read) → slice_get w.put i ≡ Some inst → slice_get (reads_of f w.block w.place inst.width inst.op) j ≡ Some r → MayBeRead f w i r.width r.operand
  pub result : MayBeRead f w (length w.put) root.width w.result
  pub definite : w.result ≢ operands.Undef
