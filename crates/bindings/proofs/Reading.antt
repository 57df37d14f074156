-- What instructions read, and which operands of a rule it stands for.
use Rattle.bindings.proofs.Common.{◌≡◌, inl, inr, ℕ, zero, suc, ◌<◌, ◌≤◌, List, length, Option, None, Some, refl, sym, ap, subst, ◌∙◌, arith, Bor, slice_get, option_and_then, option_map, IfNone, IfSome, IsItemAt, same_Some, slice_get_cases, slice_get_within, HasInst, IsBlock, IsInst, width_of, Read, IsRead, read, reads_of, reads_by, reads_in, reads_at, Block, Function, Inst, Op, operands_of, IsSameOperation}
use Rattle.ir_core.specs.declared.instruction.Op.TheVariants as ops
use Rattle.ir_core.specs.declared.operand.Register.TheVariants as registers
use Rattle.rule_core.specs.declared.rule.Op.{Op as RuleOp}
use Rattle.rule_core.specs.declared.rule.Op.TheVariants as rule_ops
use Rattle.rule_core.specs.declared.rule.Operand.{Operand as RuleOperand}
use Rattle.bindings.proofs.Lists.{lent}

-- what is read at the index of an instruction is what the instruction reads
pub reads_at_inst : (f : Function) (b k : ℕ) (inst : Inst) → IsInst f b k inst → reads_at f b k ≡ reads_of f b k inst.width inst.op
reads_at_inst f b k inst is =
    ap (reads_in f b k) is.is_block ∙ ap (reads_by f b k is.block) is.is_inst

-- an instruction is there
pub has_inst_at : (f : Function) (b k : ℕ) (inst : Inst) → IsInst f b k inst → HasInst f b k
has_inst_at f b k inst is = (is.block, is.is_block, slice_get_within is.block.insts k inst is.is_inst)

-- the instruction of a block that a borrow refers to
pub lent_inst : (f : Function) (b k : ℕ) (block : Block) (insts : List Inst) (found : Option (Bor Inst)) → IsBlock f b block → insts ≡ block.insts → IsItemAt insts k found → IfSome found (λ inst. IsInst f b k inst.now)
lent_inst f b k block insts None is same item = tt
lent_inst f b k block insts (Some inst) is same item =
    record { block = block; is_block = is; is_inst = lent insts block.insts k inst.now same item.3.0 item.3.1 }

pub not_lent : (f : Function) (b k : ℕ) (block : Block) (insts : List Inst) (found : Option (Bor Inst)) → IsBlock f b block → insts ≡ block.insts → IsItemAt insts k found → IfNone found (¬ HasInst f b k)
not_lent f b k block insts (Some inst) is same item = tt
not_lent f b k block insts None is same item = λ has.
    let within : k < length block.insts = subst (λ (x : Block). k < length x.insts) (same_Some has.0 block (sym has.1 ∙ is)) has.2 in
    let past : length insts ≤ k = item.3 in
    omega (arith, ap length same)

-- there is none behind the last block
pub no_block : (f : Function) (b k : ℕ) (blocks : List Block) → blocks ≡ f.blocks → length blocks ≤ b → ¬ HasInst f b k
no_block f b k blocks same past has = let within : b < length f.blocks = slice_get_within f.blocks b has.0 has.1 in omega (arith, ap length same)

-- there is one instruction at a place
pub same_inst : (f : Function) (b k : ℕ) (x y : Inst) → IsInst f b k x → IsInst f b k y → x ≡ y
same_inst f b k x y is_x is_y =
    let block : is_x.block ≡ is_y.block = same_Some is_x.block is_y.block (sym is_x.is_block ∙ is_y.is_block) in
    same_Some x y (sym is_x.is_inst ∙ ap (λ b. slice_get b.insts k) block ∙ is_y.is_inst)

-- an operation has at most three operands
pub at_most_three : (op : RuleOp) (i : ℕ) (o : RuleOperand) → slice_get (operands_of op) i ≡ Some o → i < 3
at_most_three op zero o at = omega arith
at_most_three op (suc zero) o at = omega arith
at_most_three op (suc (suc zero)) o at = omega arith
at_most_three (rule_ops.Binary opcode flags a b) (suc (suc (suc i))) o at = absurd cc
at_most_three (rule_ops.Compare pred samesign a b) (suc (suc (suc i))) o at = absurd cc
at_most_three (rule_ops.Unary op truth a) (suc (suc (suc i))) o at = absurd cc
at_most_three (rule_ops.Select c a b) (suc (suc (suc i))) o at = absurd cc
at_most_three (rule_ops.Convert cast flags a to) (suc (suc (suc i))) o at = absurd cc
at_most_three (rule_ops.Freeze a j) (suc (suc (suc i))) o at = absurd cc
at_most_three (rule_ops.Copy a) (suc (suc (suc i))) o at = absurd cc

-- an instruction of the same operation reads as many operands
pub reads_too : (f : Function) (b k N : ℕ) (s : RuleOp) (op : Op) → IsSameOperation s op → (i : ℕ) (o : RuleOperand) → slice_get (operands_of s) i ≡ Some o → (r : Read) × (slice_get (reads_of f b k N op) i ≡ Some r)
reads_too f b k N (rule_ops.Binary opcode flags a c) (ops.Binary opcode' flags' x y) same zero o at = (read b k N x, refl)
reads_too f b k N (rule_ops.Binary opcode flags a c) (ops.Binary opcode' flags' x y) same (suc zero) o at = (read b k N y, refl)
reads_too f b k N (rule_ops.Binary opcode flags a c) (ops.Binary opcode' flags' x y) same (suc (suc i)) o at = absurd cc
reads_too f b k N (rule_ops.Compare pred samesign a c) (ops.Compare pred' samesign' M x y) same zero o at = (read b k M x, refl)
reads_too f b k N (rule_ops.Compare pred samesign a c) (ops.Compare pred' samesign' M x y) same (suc zero) o at = (read b k M y, refl)
reads_too f b k N (rule_ops.Compare pred samesign a c) (ops.Compare pred' samesign' M x y) same (suc (suc i)) o at = absurd cc
reads_too f b k N (rule_ops.Unary op truth a) (ops.Unary op' truth' x) same zero o at = (read b k N x, refl)
reads_too f b k N (rule_ops.Unary op truth a) (ops.Unary op' truth' x) same (suc i) o at = absurd cc
reads_too f b k N (rule_ops.Select z a c) (ops.Select w x y) same zero o at = (read b k 1 w, refl)
reads_too f b k N (rule_ops.Select z a c) (ops.Select w x y) same (suc zero) o at = (read b k N x, refl)
reads_too f b k N (rule_ops.Select z a c) (ops.Select w x y) same (suc (suc zero)) o at = (read b k N y, refl)
reads_too f b k N (rule_ops.Select z a c) (ops.Select w x y) same (suc (suc (suc i))) o at = absurd cc
reads_too f b k N (rule_ops.Convert cast flags a to) (ops.Convert cast' flags' M x) same zero o at = (read b k M x, refl)
reads_too f b k N (rule_ops.Convert cast flags a to) (ops.Convert cast' flags' M x) same (suc i) o at = absurd cc
reads_too f b k N (rule_ops.Freeze a j) (ops.Freeze x) same zero o at = (read b k N x, refl)
reads_too f b k N (rule_ops.Freeze a j) (ops.Freeze x) same (suc i) o at = absurd cc
reads_too f b k N s op same i o at = absurd same

-- an instruction of the same operation reads an operand for each of the rule's
pub is_read : (f : Function) (b k : ℕ) (inst : Inst) (s : RuleOp) → IsInst f b k inst → IsSameOperation s inst.op → (i : ℕ) (o : RuleOperand) → slice_get (operands_of s) i ≡ Some o → (r : Read) × IsRead f b k i r
is_read f b k inst s is same i o at =
    let (r, at_r) = reads_too f b k inst.width s inst.op same i o at in
    (r, ap (λ rs. slice_get rs i) (reads_at_inst f b k inst is) ∙ at_r)

-- the width of the result of an instruction
pub width_of_inst : (f : Function) (b k : ℕ) (inst : Inst) → IsInst f b k inst → width_of f (registers.Result b k) ≡ Some inst.width
width_of_inst f b k inst is =
    ap (λ o. option_and_then (λ (block : Block). option_map (λ (i : Inst). i.width) (slice_get block.insts k)) o) is.is_block
    ∙ ap (λ o. option_map (λ (i : Inst). i.width) o) is.is_inst

pub no_width : (f : Function) (b k : ℕ) → ¬ HasInst f b k → width_of f (registers.Result b k) ≡ None
no_width f b k none = elim (slice_get_cases f.blocks b).1 [
  | inl (block, lt, at, is) ↦ elim (slice_get_cases block.insts k).1 [
    | inl (inst, within, at_inst, is_inst) ↦ absurd (none (block, at, within))
    | inr (past, no_inst) ↦
        ap (λ o. option_and_then (λ (x : Block). option_map (λ (i : Inst). i.width) (slice_get x.insts k)) o) at ∙ ap (λ o. option_map (λ (i : Inst). i.width) o) no_inst
  ]
  | inr (past, no_block) ↦ ap (λ o. option_and_then (λ (x : Block). option_map (λ (i : Inst). i.width) (slice_get x.insts k)) o) no_block
]
