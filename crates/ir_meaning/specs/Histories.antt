-- Histories, the traces of runs: the moments before each instruction and terminator, with what registers hold there.
use Rattle.std.specs.Prelude.{◌≡◌, ℕ, suc, ◌⊎◌, List, [], ◌∷◌, length, Option, None, Some}
use Rattle.ops.specs.declared.value.Value.{Value}
use Rattle.ops.specs.declared.value.Effect.{Effect}
use Rattle.ops.specs.declared.value.Effect.TheVariants as effects
use Rattle.ir_core.specs.declared.function.Function.{Function}
use Rattle.ir_core.specs.declared.function.Block.{Block}
use Rattle.ir_core.specs.declared.instruction.Inst.{Inst}
use Rattle.ir_core.specs.declared.outcome.Outcome.{Outcome}
use Rattle.ir_core.specs.declared.outcome.Outcome.TheVariants as outcomes
use Rattle.ir_core.specs.Blocks.{IsBlock}
use Rattle.ir_core.specs.Checks.{IsInst}
use Rattle.ir_core.specs.Run.{Registers, arguments, holding, AnyNumber, OpGives, PhiGives, IfPhi, Ending, Undefines, Returns, Goes, EndGives}
use Rattle.ir_meaning.specs.Paths.{Place}

-- A moment of a run: control is at a place of a block, and the registers hold this. The phis of the block read the
-- registers `entered`, as they were when control came from the block `from`, which is None at the function's entry.
pub record Moment : Type 0 where
  pub from : Option ℕ
  pub entered : Registers
  pub block : ℕ
  pub place : ℕ
  pub held : Registers

abbrev pub place_of : Moment → Place
place_of m = (m.block, m.place)

-- the moment at which block b is entered with these registers
abbrev pub entering : Option ℕ → ℕ → Registers → Moment
entering from b held = record { from = from; entered = held; block = b; place = 0; held = held }

-- the moment after this one when the instruction there has given a value
abbrev pub once_held : Moment → Value → Moment
once_held m v = record { from = m.from; entered = m.entered; block = m.block; place = suc m.place; held = holding m.held m.block m.place v }

-- An instruction may have this effect at a moment. A phi reads the registers as they were when its block was entered,
-- any other instruction as they are at the moment.
abbrev pub InstGives : Moment → Inst → Effect → Type 0
InstGives m inst e =
    IfPhi (λ entries. (v : Value) × PhiGives AnyNumber m.entered m.from inst.width entries v × (e ≡ effects.Gives v))
    (OpGives AnyNumber m.held inst.width inst.op e)
    inst.op

-- the terminator at the moment's place may end the pass through the block so
pub record TerminatorGives (f : Function) (m : Moment) (end : Ending) : Type 0 where
  pub block : Block
  pub is_block : IsBlock f m.block block
  pub behind : m.place ≡ length block.insts
  pub gives : EndGives AnyNumber m.held f block.end end

-- the instruction at the moment's place gives a value, and the next moment is behind it
pub record Runs (f : Function) (m n : Moment) : Type 0 where
  pub inst : Inst
  pub is_inst : IsInst f m.block m.place inst
  pub value : Value
  pub gives : InstGives m inst (effects.Gives value)
  pub next : n ≡ once_held m value

-- the terminator at the moment's place goes to a block, and the next moment is at its head
pub record Leaves (f : Function) (m n : Moment) : Type 0 where
  pub to : ℕ
  pub held : Registers
  pub gives : TerminatorGives f m (Goes to held)
  pub next : n ≡ entering (Some m.block) to held

-- one step of a run
abbrev pub IsStep : Function → Moment → Moment → Type 0
IsStep f m n = Runs f m n ⊎ Leaves f m n

-- the moments that a run at these arguments has passed, the last one first
abbrev pub IsHistory : Function → List Value → List Moment → Type 0
IsHistory f args [] = ⊥
IsHistory f args (m ∷ []) = m ≡ entering None 0 (arguments args)
IsHistory f args (n ∷ m ∷ before) = IsStep f m n × IsHistory f args (m ∷ before)

-- A run that has come to the moment may have the outcome there: the block that it would enter is the moment's, or the
-- instruction there has undefined behaviour, or the terminator has, or returns.
abbrev pub EndsAt : Function → Moment → Outcome → Type 0
EndsAt f m outcomes.Undefined = ((inst : Inst) × IsInst f m.block m.place inst × InstGives m inst effects.Undefined) ⊎ TerminatorGives f m Undefines
EndsAt f m (outcomes.Return v) = TerminatorGives f m (Returns v)
EndsAt f m (outcomes.Running b) = (m.block ≡ b) × (m.place ≡ 0)
