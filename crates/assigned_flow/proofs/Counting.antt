-- The operands at one place are counted in 32 bits.
use Rattle.assigned_flow.proofs.Common.{ℕ, zero, suc, ◌<◌, ◌^◌, Bool, true, false, if◌then◌else◌, List, [], ◌∷◌, Option, None, Some, IfSome, length, arith, All, slice_get, length-map, All-head, All-tail, Function, Block, Inst, Op, Binary, Compare, Unary, Select, Convert, Freeze, Phi, Terminator, Read, reads_of, reads_at_end, reads_by, reads_in, reads_at, HasFewEntries}
use Rattle.ir_core.specs.declared.terminator.Terminator.TheVariants as terminators

pub All_at : {X : Type 0} (P : X → Type 0) (xs : List X) (k : ℕ) → All P xs → IfSome (slice_get xs k) P
All_at P [] k all = tt
All_at P (x ∷ xs) zero all = All-head P x xs all
All_at P (x ∷ xs) (suc k) all = All_at P xs k (All-tail P x xs all)

few_of : (f : Function) (b k width : ℕ) (op : Op) → HasFewEntries op → length (reads_of f b k width op) < 2 ^ 32
few_of f b k width (Binary op flags x y) few = omega arith
few_of f b k width (Compare pred samesign compared x y) few = omega arith
few_of f b k width (Select c x y) few = omega arith
few_of f b k width (Convert cast flags from x) few = omega arith
few_of f b k width (Unary op truth x) few = omega arith
few_of f b k width (Freeze x) few = omega arith
few_of f b k width (Phi entries) few = simp length-map few

few_at_end : (f : Function) (b k : ℕ) (end : Terminator) → length (reads_at_end f b k end) < 2 ^ 32
few_at_end f b k (terminators.Return a) = omega arith
few_at_end f b k (terminators.Jump to) = omega arith
few_at_end f b k (terminators.Branch c to other) = omega arith
few_at_end f b k (terminators.Switch a width other cases) = omega arith
few_at_end f b k terminators.Unreachable = omega arith

few_if : (test : Bool) (reads : List Read) → length reads < 2 ^ 32 → length (if test then reads else []) < 2 ^ 32
few_if true reads few = few
few_if false reads few = omega arith

few_by : (f : Function) (b k : ℕ) (block : Block) (o : Option Inst) → IfSome o (λ i. HasFewEntries i.op) → length (reads_by f b k block o) < 2 ^ 32
few_by f b k block (Some inst) few = few_of f b k inst.width inst.op few
few_by f b k block None few = few_if _ _ (few_at_end f b k block.end)

few_in : (f : Function) (b k : ℕ) (o : Option Block) → IfSome o (λ block. All (λ i. HasFewEntries i.op) block.insts) → length (reads_in f b k o) < 2 ^ 32
few_in f b k None few = omega arith
few_in f b k (Some block) few = few_by f b k block (slice_get block.insts k) (All_at (λ i. HasFewEntries i.op) block.insts k few)

pub few_reads : (f : Function) → All (λ block. All (λ i. HasFewEntries i.op) block.insts) f.blocks → (b k : ℕ) → length (reads_at f b k) < 2 ^ 32
few_reads f few b k = few_in f b k (slice_get f.blocks b) (All_at (λ block. All (λ i. HasFewEntries i.op) block.insts) f.blocks b few)
