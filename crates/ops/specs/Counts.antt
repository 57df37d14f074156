-- `llvm.ctpop`, `llvm.ctlz` and `llvm.cttz` over iN (LLVM Language Reference, "Bit Manipulation Intrinsics").
use Rattle.std.specs.Prelude.{ℕ, zero, suc, ◌/◌, ◌%◌, ◌==◌, Bool, not, List, [], ◌∷◌, length, filter, reverse}
use Rattle.std.specs.List.{prefix_len}

-- the N lowest bits of a, the lowest first: whether each is 1
abbrev pub binary_digits : ℕ → ℕ → List Bool
binary_digits zero a = []
binary_digits (suc n) a = (a % 2 == 1) ∷ binary_digits n (a / 2)

-- "llvm.ctpop": how many bits are 1
unfoldable pub ctpop : ℕ → ℕ → ℕ
ctpop N a = length (filter (λ (one : Bool). one) (binary_digits N a))

-- "llvm.ctlz": how many bits are 0 from the highest down to the first that is 1; of 0 all N
unfoldable pub ctlz : ℕ → ℕ → ℕ
ctlz N a = prefix_len not (reverse (binary_digits N a))

-- "llvm.cttz": how many bits are 0 from the lowest up to the first that is 1; of 0 all N
unfoldable pub cttz : ℕ → ℕ → ℕ
cttz N a = prefix_len not (binary_digits N a)
