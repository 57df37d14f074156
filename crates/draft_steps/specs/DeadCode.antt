-- Dead code elimination in a draft, on its way: what is left, and which registers are still on the worklist.
use Rattle.std.specs.Prelude.{◌≡◌, ◌⊎◌, ◌≤◌, ℕ, Bool, true, List, [], length, Option, None, Some, Contains, option_map, slice_get, slice_index_or, sum_by}
use Rattle.std.specs.List.{filter, filter_map}
use Rattle.ir_core.specs.Blocks.{HasInst}
use Rattle.ir_core.specs.Reads.{end_of}
use Rattle.ir_core.specs.declared.function.Block.{Block}
use Rattle.ir_core.specs.declared.function.Function.{Function}
use Rattle.ir_core.specs.declared.instruction.Inst.{Inst}
use Rattle.ir_core.specs.declared.operand.Register.{Register}
use Rattle.ir_core.specs.declared.operand.Register.TheVariants as registers
use Rattle.needed.specs.Needed.{IsNeeded, ReadsRegister}
use Rattle.needed.specs.Operands.{operands_of}
use Rattle.readers.specs.Counts.{register_of, times_in_function}
use Rattle.draft.specs.Drafts.{Stands}
use Rattle.draft.specs.declared.draft.Draft.{Draft}

-- A register is live (needed), or would be if these registers were.
pub data IsNeededWith (f : Function) (roots : List Register) : Register → Type 0 where
  ends : (b : ℕ) {register : Register} → ReadsRegister f b (end_of f b) register → IsNeededWith f roots register
  reads : (b k : ℕ) {register : Register} → IsNeededWith f roots (registers.Result b k) → ReadsRegister f b k register → IsNeededWith f roots register
  is_one : {register : Register} → Contains roots register → IsNeededWith f roots register

-- the block, in which each kept instruction is as it was
pub record IsBlockLeft (keep : ℕ → Bool) (old new : Block) : Type 0 where
  pub name : new.name ≡ old.name
  pub end : new.end ≡ old.end
  pub kept : (n : ℕ) (i : Inst) → keep n ≡ true → slice_get old.insts n ≡ Some i → slice_get new.insts n ≡ Some i

-- at one index both functions have a block, whose kept instructions are as they were, or neither has one
abbrev pub AreLeft : (ℕ → Bool) → Option Block → Option Block → Type 0
AreLeft keep None None = Unit {0}
AreLeft keep None (Some new) = ⊥
AreLeft keep (Some old) None = ⊥
AreLeft keep (Some old) (Some new) = IsBlockLeft keep old new

-- The arena and its rows once all that isn't kept is removed.
pub record IsLeft (keep : ℕ → ℕ → Bool) (old : Function) (rows : List (List ℕ)) (new : Function) (left : List (List ℕ)) : Type 0 where
  pub name : new.name ≡ old.name
  pub before : new.before ≡ old.before
  pub width : new.width ≡ old.width
  pub parameters : new.parameters ≡ old.parameters
  pub after : new.after ≡ old.after
  pub blocks : (b : ℕ) → AreLeft (keep b) (slice_get old.blocks b) (slice_get new.blocks b)
  pub row : (b : ℕ) → slice_get left b ≡ option_map (filter (keep b)) (slice_get rows b)

-- Only dead instructions were removed from the old arena and its rows; the same registers are live; and each
-- instruction that is left is live, or would be if these registers, which are still on the worklist, were.
pub record IsEliminating (old : Function) (rows : List (List ℕ)) (new : Function) (left : List (List ℕ)) (roots : List Register) : Type 0 where
  pub keep : ℕ → ℕ → Bool
  pub is_left : IsLeft keep old rows new left
  pub keeps : (b n : ℕ) → IsNeeded old (registers.Result b n) → keep b n ≡ true
  pub needed : (r : Register) → IsNeeded old r → IsNeeded new r
  pub was_needed : (r : Register) → IsNeeded new r → IsNeeded old r
  pub waits : (b n : ℕ) → Contains (slice_index_or left b []) n → IsNeededWith new roots (registers.Result b n)

-- the register of each instruction that stands has as many uses as before, or more, or is on the worklist
abbrev pub KeepsUses : Draft → Draft → List Register → Type 0
KeepsUses was now waits = (b n : ℕ) → Stands now b n
    → (times_in_function (registers.Result b n) was.arena ≤ times_in_function (registers.Result b n) now.arena) ⊎ Contains waits (registers.Result b n)

-- how many operands of instructions are registers
abbrev pub registers_read : Function → ℕ
registers_read f = sum_by (λ block. sum_by (λ inst. length (filter_map register_of (operands_of inst.op))) block.insts) f.blocks

-- each of these results is that of an instruction of the arena
abbrev pub HaveInsts : Draft → List Register → Type 0
HaveInsts d these = (b n : ℕ) → Contains these (registers.Result b n) → HasInst d.arena b n

-- each instruction that stands has a use, or its register is on the worklist
abbrev pub AreRead : Draft → List Register → Type 0
AreRead d waits = (b n : ℕ) → Stands d b n → ((c : ℕ) × (k : ℕ) × ReadsRegister d.arena c k (registers.Result b n)) ⊎ Contains waits (registers.Result b n)

-- each result that is read is that of an instruction that stands
abbrev pub ReadsStand : Draft → Type 0
ReadsStand d = (b k c n : ℕ) → ReadsRegister d.arena b k (registers.Result c n) → Stands d c n

-- every instruction of the function is live
abbrev pub AllNeeded : Function → Type 0
AllNeeded f = (b n : ℕ) → HasInst f b n → IsNeeded f (registers.Result b n)

-- every instruction that stands is live
abbrev pub HasNoDeadCode : Draft → Type 0
HasNoDeadCode d = (b n : ℕ) → Stands d b n → IsNeeded d.arena (registers.Result b n)
