-- Dead code elimination of functions and modules: of a function's instructions those alone are kept whose results are
-- needed (live).
use Rattle.std.specs.Prelude.{◌≡◌, ℕ, IsTrue, ◌↔◌, List, [], ◌∷◌}
use Rattle.ir_core.specs.declared.module.Module.{Module}
use Rattle.ir_core.specs.declared.module.Entry.{Entry}
use Rattle.ir_core.specs.declared.module.Entry.TheVariants as entries
use Rattle.ir_core.specs.declared.function.Function.{Function}
use Rattle.ir_core.specs.declared.operand.Register.TheVariants as registers
use Rattle.ir_core.specs.Blocks.{HasInst}
use Rattle.needed.specs.Needed.{IsNeeded}
use Rattle.needed.specs.KeptFunction.{KeptMarks, kept_function}

-- exactly the instructions whose results are needed are kept
abbrev pub KeepsNeeded : Function → KeptMarks → Type 0
KeepsNeeded f kept = (b k : ℕ) → HasInst f b k → IsTrue (kept b k) ↔ IsNeeded f (registers.Result b k)

-- the new function is the old one with exactly the needed instructions
abbrev pub IsCleaned : Function → Function → Type 0
IsCleaned old new = (kept : KeptMarks) × KeepsNeeded old kept × (new ≡ kept_function kept old)

-- a kept line is unchanged, and a function is cleaned
abbrev pub EntryCleaned : Entry → Entry → Type 0
EntryCleaned (entries.Kept old) (entries.Kept new) = new ≡ old
EntryCleaned (entries.Function old) (entries.Function new) = IsCleaned old new
EntryCleaned (entries.Kept old) (entries.Function new) = ⊥
EntryCleaned (entries.Function old) (entries.Kept new) = ⊥

-- the same entries in order, each cleaned
abbrev pub EntriesCleaned : List Entry → List Entry → Type 0
EntriesCleaned [] [] = Unit {0}
EntriesCleaned [] (e ∷ es) = ⊥
EntriesCleaned (d ∷ ds) [] = ⊥
EntriesCleaned (d ∷ ds) (e ∷ es) = EntryCleaned d e × EntriesCleaned ds es

abbrev pub ModuleCleaned : Module → Module → Type 0
ModuleCleaned old new = EntriesCleaned old.entries new.entries
