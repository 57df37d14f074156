-- What allows what: registers that are read or assigned, endings of a pass, and what is put in the root's place.
use Rattle.std.specs.Prelude.{◌≡◌, ℕ, List, Option, None, Some, slice_get}
use Rattle.ops.specs.Value.{AllowsValue}
use Rattle.ops.specs.declared.value.Value.{Value}
use Rattle.ops.specs.declared.value.Effect.{Effect}
use Rattle.ops.specs.declared.value.Effect.TheVariants as effects
use Rattle.ir_core.specs.Assigned.{IsAssigned}
use Rattle.ir_core.specs.Reads.{Read}
use Rattle.ir_core.specs.Run.{Registers, Ending, Undefines, Returns, Goes}
use Rattle.ir_core.specs.declared.function.Function.{Function}
use Rattle.ir_core.specs.declared.operand.Operand.TheVariants as operands
use Rattle.ir_core.specs.declared.operand.Register.{Register}
use Rattle.substitution.specs.Substitution.{pulled_back}
use Rattle.substitution.specs.Rewritten.{Rewrite, root_of, stands_for}

-- where a register that is read holds a value in the second registers, it holds one in the first that allows it
abbrev pub ReadsAllow : Registers → Registers → List Read → Type 0
ReadsAllow held held' reads = (i : ℕ) (r : Read) (register : Register) (v' : Value)
    → slice_get reads i ≡ Some r → r.operand ≡ operands.Register register → held' register ≡ Some v' → (v : Value) × (held register ≡ Some v) × AllowsValue v v'

-- one ending of a pass through a block allows another: undefined behaviour allows every ending, a return what its value
-- allows, and a pass that goes on one that goes on at the same block, with registers related by R
abbrev pub AllowsEnding : (Registers → Registers → Type 0) → Ending → Ending → Type 0
AllowsEnding R Undefines end' = Unit {0}
AllowsEnding R (Returns v) (Returns v') = AllowsValue v v'
AllowsEnding R (Goes b held) (Goes b' held') = (b' ≡ b) × R held held'
AllowsEnding R (Returns v) Undefines = ⊥
AllowsEnding R (Returns v) (Goes b' held') = ⊥
AllowsEnding R (Goes b held) Undefines = ⊥
AllowsEnding R (Goes b held) (Returns v') = ⊥

-- for each register that is assigned in f at place k of block b: where its substitute holds a value in the new
-- function, the register holds one that allows it
abbrev pub AssignedAllow : Function → Rewrite → ℕ → ℕ → Registers → Registers → Type 0
AssignedAllow f w b k held new = (r : Register) (v' : Value)
    → IsAssigned f r b k → pulled_back (stands_for w) new r ≡ Some v' → (v : Value) × (held r ≡ Some v) × AllowsValue v v'

-- the root's effect allows what comes of the instructions in its place: the registers behind them, or undefined
-- behaviour (None)
abbrev pub AllowsPut : Rewrite → Effect → Option Registers → Type 0
AllowsPut w effects.Undefined after = Unit {0}
AllowsPut w (effects.Gives v) None = ⊥
AllowsPut w (effects.Gives v) (Some new) = (v' : Value) → pulled_back (stands_for w) new (root_of w) ≡ Some v' → AllowsValue v v'
