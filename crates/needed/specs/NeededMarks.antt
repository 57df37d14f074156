-- How live instructions are marked by a worklist.
use Rattle.std.specs.Prelude.{◌≡◌, ℕ, ◌+◌, Bool, true, false, if◌then◌else◌, ◌⊎◌, List, ◌++◌, length, count_by, take, Contains, slice_get, slice_index_or, Some, ◌<◌}
use Rattle.ir_core.specs.declared.function.Function.{Function}
use Rattle.ir_core.specs.declared.operand.Operand.{Operand}
use Rattle.ir_core.specs.declared.operand.Operand.TheVariants as operands
use Rattle.ir_core.specs.declared.operand.Register.TheVariants as registers
use Rattle.ir_core.specs.Blocks.{HasInst}
use Rattle.ir_core.specs.Reads.{end_of}
use Rattle.needed.specs.Needed.{IsNeeded, ReadsRegister}
use Rattle.needed.specs.declared.search.Search.{Search}
use Rattle.needed.specs.InstNumbers.{number_of}

-- the instruction with the number is marked
abbrev pub IsMarked : Search → ℕ → Type 0
IsMarked s number = slice_index_or s.marks.items number false ≡ true

-- how many instructions are not marked
abbrev pub unmarked : Search → ℕ
unmarked s = count_by (λ mark. if mark then false else true) s.marks.items

-- The instructions that define these operands are marked, and those that were not marked before were appended to the
-- worklist.
pub record Marked (firsts : List ℕ) (reads : List Operand) (old new : Search) : Type 0 where
  pub count : length new.marks.items ≡ length old.marks.items
  pub more : List (ℕ × ℕ)
  pub work : new.work.items ≡ old.work.items ++ more
  pub read : (x : ℕ × ℕ) → Contains more x → Contains reads (operands.Register (registers.Result x.0 x.1))
  pub stays : (i : ℕ) → IsMarked old i → IsMarked new i
  pub new_marks : (i : ℕ) → IsMarked new i → IsMarked old i ⊎ ((x : ℕ × ℕ) × Contains more x × (number_of firsts x.0 x.1 ≡ i))
  pub marks : (b k : ℕ) → Contains reads (operands.Register (registers.Result b k)) → IsMarked new (number_of firsts b k)
  pub unmarked_less : unmarked new + length more ≡ unmarked old

-- for each number, how many smaller ones are marked
pub record AreCounts (marks : List Bool) (counts : List ℕ) : Type 0 where
  pub count : length counts ≡ length marks
  pub at : (i : ℕ) → i < length marks → slice_get counts i ≡ Some (count_by (λ mark. mark) (take i marks))

-- Marked instructions are live, and so are those on the worklist.
pub record IsSound (f : Function) (firsts : List ℕ) (count : ℕ) (s : Search) : Type 0 where
  pub size : length s.marks.items ≡ count
  pub work : (x : ℕ × ℕ) → Contains s.work.items x → HasInst f x.0 x.1 × IsNeeded f (registers.Result x.0 x.1)
  pub needed : (b k : ℕ) → HasInst f b k → IsMarked s (number_of firsts b k) → IsNeeded f (registers.Result b k)

-- the instructions that define operands of the first blocks' terminators are marked
abbrev pub EndsAreMarked : Function → List ℕ → ℕ → Search → Type 0
EndsAreMarked f firsts blocks s = (b d j : ℕ) → b < blocks → ReadsRegister f b (end_of f b) (registers.Result d j) → IsMarked s (number_of firsts d j)

-- a marked instruction is on the worklist, or those that define its operands are marked
abbrev pub IsFollowed : Function → List ℕ → Search → Type 0
IsFollowed f firsts s = (b k d j : ℕ) → HasInst f b k → IsMarked s (number_of firsts b k)
    → Contains s.work.items (b, k) ⊎ (ReadsRegister f b k (registers.Result d j) → IsMarked s (number_of firsts d j))

-- a state of the search in which the terminators of the first blocks were looked at
pub record IsSearched (f : Function) (firsts : List ℕ) (count blocks : ℕ) (s : Search) : Type 0 where
  pub sound : IsSound f firsts count s
  pub ends : EndsAreMarked f firsts blocks s
  pub followed : IsFollowed f firsts s
