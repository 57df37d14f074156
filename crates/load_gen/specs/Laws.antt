-- Laws of generated modules.
use Rattle.std.specs.Prelude.{◌≡◌, ℕ, ◌≤◌, ◌<◌, ◌^◌, [], ◌∷◌, length, map, Some, All, slice_get}
use Rattle.ops.specs.Number.{Number}
use Rattle.ir_core.specs.declared.module.Entry.{Entry}
use Rattle.ir_core.specs.declared.module.Entry.TheVariants as entries
use Rattle.ir_core.specs.declared.function.Function.{Function}
use Rattle.ir_core.specs.declared.operand.Operand.TheVariants as operands
use Rattle.ir_core.specs.Checks.{ModuleMeetsChecks}
use Rattle.ir_core.specs.Reads.{Read, IsRead}
use Rattle.load_gen.specs.Generated.{generated}

-- function f is entry k of the module that the number stands for
abbrev pub IsGenerated : ℕ → ℕ → ℕ → Function → Type 0
IsGenerated number count k f = slice_get (generated number count).entries k ≡ Some (entries.Function f)

-- a generated module meets the checks of a module, if the count of its functions fits 32 bits
abbrev pub GeneratedModulesMeetChecks : Type 0
GeneratedModulesMeetChecks = (number count : ℕ) → count < 2 ^ 32 → ModuleMeetsChecks (generated number count)

-- each number that is written in its functions is one of its width
abbrev pub GeneratedNumbersFit : Type 0
GeneratedNumbersFit = (number count k : ℕ) (f : Function) → IsGenerated number count k f
    → (b place i : ℕ) (r : Read) (n : Number) → IsRead f b place i r → r.operand ≡ operands.Number n → n.number < 2 ^ n.width

-- the entry is a function of three blocks, and 20 instructions, which are all in the second
abbrev pub IsOfTwenty : Entry → Type 0
IsOfTwenty (entries.Kept line) = ⊥
IsOfTwenty (entries.Function f) = map (λ block. length block.insts) f.blocks ≡ 0 ∷ 20 ∷ 0 ∷ []

-- each entry is such a function, and there are as many as were asked for
abbrev pub GeneratedEntriesAreOfTwenty : Type 0
GeneratedEntriesAreOfTwenty = (number count : ℕ) → All IsOfTwenty (generated number count).entries

abbrev pub GeneratedEntriesAreCounted : Type 0
GeneratedEntriesAreCounted = (number count : ℕ) → length (generated number count).entries ≡ count

-- so each of its functions has three blocks, and no more than 20 instructions in each
abbrev pub GeneratedFunctionsAreSmall : Type 0
GeneratedFunctionsAreSmall = (number count k : ℕ) (f : Function) → IsGenerated number count k f
    → (length f.blocks ≡ 3) × All (λ block. length block.insts ≤ 20) f.blocks
