-- Paths through a function, instruction by instruction. At place k of a block its first k instructions have run and
-- instruction k is next; where k is their number, the terminator is.
use Rattle.std.specs.Prelude.{◌≡◌, ℕ, suc, ◌⊎◌, List, [], ◌∷◌}
use Rattle.ir_core.specs.declared.function.Function.{Function}
use Rattle.ir_core.specs.Blocks.{Names, HasInst}
use Rattle.ir_core.specs.Reads.{end_of}

-- a block, and a place there
abbrev pub Place : Type 0
Place = ℕ × ℕ

-- behind an instruction comes the next place of its block, and behind a terminator the first place of each successor
abbrev pub ComesNext : Function → Place → Place → Type 0
ComesNext f p q = (HasInst f p.0 p.1 × (q.0 ≡ p.0) × (q.1 ≡ suc p.1)) ⊎ ((p.1 ≡ end_of f p.0) × Names f p.0 q.0 × (q.1 ≡ 0))

-- a path from the function's entry, the last place first
abbrev pub IsPath : Function → List Place → Type 0
IsPath f [] = ⊥
IsPath f (p ∷ []) = (p.0 ≡ 0) × (p.1 ≡ 0)
IsPath f (q ∷ p ∷ before) = ComesNext f p q × IsPath f (p ∷ before)
