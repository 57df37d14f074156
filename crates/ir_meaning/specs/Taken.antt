-- The values that phis take when their block is entered.
use Rattle.std.specs.Prelude.{ℕ, suc, List, [], ◌∷◌, Option}
use Rattle.ops.specs.Value.{IsValueOf}
use Rattle.ops.specs.declared.value.Value.{Value}
use Rattle.ir_core.specs.Checks.{IsPhi}
use Rattle.ir_core.specs.Run.{Registers, holding, IfPhi, OnlyZero, PhiGives}
use Rattle.ir_core.specs.declared.instruction.Inst.{Inst}

-- the phis at the head of the list may take these values, each of its width
abbrev pub AreTaken : Registers → Option ℕ → List Inst → List Value → Type 0
AreTaken held from [] [] = Unit {0}
AreTaken held from [] (v ∷ vs) = ⊥
AreTaken held from (i ∷ insts) [] = ¬ IsPhi i.op
AreTaken held from (i ∷ insts) (v ∷ vs) =
    IfPhi (λ entries. PhiGives OnlyZero held from i.width entries v × IsValueOf i.width v × AreTaken held from insts vs) ⊥ i.op

-- the registers after these values were stored as the results of the instructions of block b from k on
abbrev pub holding_all : Registers → ℕ → ℕ → List Value → Registers
holding_all held b k [] = held
holding_all held b k (v ∷ vs) = holding_all (holding held b k v) b (suc k) vs
