-- What registers may hold when a run comes to a place.
use Rattle.std.specs.Prelude.{◌≡◌, ℕ, List, ◌∷◌, Some}
use Rattle.ops.specs.declared.value.Value.{Value}
use Rattle.ir_core.specs.Assigned.{IsAssigned}
use Rattle.ir_core.specs.Checks.{IsInst, IsPhi}
use Rattle.ir_core.specs.Run.{Registers}
use Rattle.ir_core.specs.declared.function.Function.{Function}
use Rattle.ir_core.specs.declared.instruction.Inst.{Inst}
use Rattle.ir_core.specs.declared.operand.Register.{Register}
use Rattle.ir_core.specs.declared.operand.Register.TheVariants as registers
use Rattle.ir_meaning.specs.Laws.{HoldWidths}
use Rattle.ir_meaning.specs.Histories.{Moment, place_of, IsHistory}
use Rattle.ir_meaning.specs.HistoryLaws.{EquationHolds}

-- some run at these arguments comes to place k of block b, and its registers hold this there
abbrev pub ComesTo : Function → List Value → ℕ → ℕ → Registers → Type 0
ComesTo f args b k held = (m : Moment) × (before : List Moment) × IsHistory f args (m ∷ before) × (place_of m ≡ (b, k)) × (m.held ≡ held)

-- Registers may hold this at place k of block b: each value has its register's width, each register that is assigned
-- there holds one, and the result of an instruction other than a phi one that it gives on what its operands hold now.
pub record MayHold (f : Function) (b k : ℕ) (held : Registers) : Type 0 where
  pub widths : HoldWidths f held
  pub assigned : (r : Register) → IsAssigned f r b k → (v : Value) × (held r ≡ Some v)
  pub equations : (d j : ℕ) (inst : Inst) → IsInst f d j inst → ¬ IsPhi inst.op → IsAssigned f (registers.Result d j) b k → EquationHolds held d j inst
