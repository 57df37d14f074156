-- The walk to the blocks that are reached once branches and switches on numbers are jumps.
use Rattle.std.specs.Prelude.{◌≡◌, ℕ, ◌+◌, ◌⊎◌, true, false, if◌then◌else◌, List, ◌++◌, length, count_by, Contains}
use Rattle.ir_core.specs.Blocks.{Names}
use Rattle.ir_core.specs.Walks.{IsReached}
use Rattle.ir_core.specs.declared.function.Function.{Function}
use Rattle.fold_branch.specs.Choices.{decided}
use Rattle.fold_branch.specs.Marks.{IsMarked}
use Rattle.fold_branch.specs.declared.walk.Walk.{Walk}

-- to how many blocks the walk has not come
abbrev pub unmarked : Walk → ℕ
unmarked w = count_by (λ mark. if mark then false else true) w.reached.items

-- A walk has come to these blocks too: they are marked, and each that was not marked before is work.
pub record ComesTo (blocks : List ℕ) (old new : Walk) : Type 0 where
  pub count : length new.reached.items ≡ length old.reached.items
  pub more : List ℕ
  pub work : new.work.items ≡ old.work.items ++ more
  pub among : (b : ℕ) → Contains more b → Contains blocks b
  pub stays : (b : ℕ) → IsMarked old.reached.items b → IsMarked new.reached.items b
  pub new_marks : (b : ℕ) → IsMarked new.reached.items b → IsMarked old.reached.items b ⊎ Contains more b
  pub marks : (b : ℕ) → Contains blocks b → IsMarked new.reached.items b
  pub fewer : unmarked new + length more ≡ unmarked old

-- How far a walk has come: to the first block, and from each block that is no work to those to which it leads.
pub record IsWalked (f : Function) (w : Walk) : Type 0 where
  pub count : length w.reached.items ≡ length f.blocks
  pub entry : IsMarked w.reached.items 0
  pub sound : (b : ℕ) → IsMarked w.reached.items b → IsReached (decided f) b
  pub work : (b : ℕ) → Contains w.work.items b → IsMarked w.reached.items b
  pub followed : (b c : ℕ) → IsMarked w.reached.items b → Contains w.work.items b ⊎ (Names (decided f) b c → IsMarked w.reached.items c)
