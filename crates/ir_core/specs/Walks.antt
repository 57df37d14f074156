-- Walks through the control-flow graph of a function.
use Rattle.std.specs.Prelude.{◌≡◌, ℕ, List, [], ◌∷◌}
use Rattle.ir_core.specs.declared.function.Function.{Function}
use Rattle.ir_core.specs.Blocks.{Names}

-- a walk from the first block, the last block first: each block is named by the terminator of the one before it
abbrev pub IsWalk : Function → List ℕ → Type 0
IsWalk f [] = ⊥
IsWalk f (b ∷ []) = b ≡ 0
IsWalk f (c ∷ b ∷ before) = Names f b c × IsWalk f (b ∷ before)

-- a walk ends in the block
abbrev pub IsReached : Function → ℕ → Type 0
IsReached f b = (before : List ℕ) × IsWalk f (b ∷ before)
