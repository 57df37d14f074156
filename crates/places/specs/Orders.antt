-- The order of the instructions in a block.
use Rattle.std.specs.Prelude.{ℕ, suc, ◌==◌, if◌then◌else◌, List, [], ◌∷◌}

-- how many of the numbers stand before this one
abbrev pub place_in : List ℕ → ℕ → ℕ
place_in [] n = 0
place_in (m ∷ numbers) n = if m == n then 0 else suc (place_in numbers n)

-- the numbers with n inserted before `at`
abbrev pub put_before : List ℕ → ℕ → ℕ → List ℕ
put_before [] at n = []
put_before (m ∷ numbers) at n = if m == at then n ∷ m ∷ numbers else m ∷ put_before numbers at n

-- the number that stands for none, and in a place for the terminator
abbrev pub none : ℕ
none = 4294967295
