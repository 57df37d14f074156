-- Which blocks a terminator names, and from which a block may be entered (LangRef, "Terminator Instructions",
-- "Well-Formedness").
use Rattle.std.specs.Prelude.{◌≡◌, ℕ, ◌<◌, List, [], ◌∷◌, length, map, Some, Contains, slice_get}
use Rattle.ir_core.specs.declared.function.Function.{Function}
use Rattle.ir_core.specs.declared.function.Block.{Block}
use Rattle.ir_core.specs.declared.terminator.Terminator.{Terminator}
use Rattle.ir_core.specs.declared.terminator.Terminator.TheVariants.{Return, Jump, Branch, Switch, Unreachable}

-- the blocks that a terminator names: its successors
abbrev pub targets_of : Terminator → List ℕ
targets_of (Return a) = []
targets_of (Jump b) = b ∷ []
targets_of (Branch a b c) = b ∷ c ∷ []
targets_of (Switch a width other cases) = other ∷ map (λ c. c.1) cases
targets_of Unreachable = []

-- block b of the function is this one
abbrev pub IsBlock : Function → ℕ → Block → Type 0
IsBlock f b block = slice_get f.blocks b ≡ Some block

-- the terminator of block b names block c: b is a predecessor of c, whether a run comes to b or not
abbrev pub Names : Function → ℕ → ℕ → Type 0
Names f b c = (block : Block) × IsBlock f b block × Contains (targets_of block.end) c

-- the function has an instruction at place j of block d
abbrev pub HasInst : Function → ℕ → ℕ → Type 0
HasInst f d j = (block : Block) × IsBlock f d block × (j < length block.insts)
