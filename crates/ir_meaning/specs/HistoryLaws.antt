-- Laws of histories, and of what registers hold at their moments.
use Rattle.std.specs.Prelude.{◌≡◌, ℕ, ◌<◌, ◌^◌, false, List, ◌∷◌, ◌++◌, map, Some, Contains}
use Rattle.ops.specs.Number.{Number}
use Rattle.ops.specs.declared.value.Value.{Value}
use Rattle.ops.specs.declared.value.Effect.TheVariants as effects
use Rattle.ir_core.specs.declared.function.Function.{Function}
use Rattle.ir_core.specs.declared.instruction.Inst.{Inst}
use Rattle.ir_core.specs.declared.operand.Operand.TheVariants as operands
use Rattle.ir_core.specs.declared.operand.Register.{Register}
use Rattle.ir_core.specs.declared.operand.Register.TheVariants as registers
use Rattle.ir_core.specs.declared.outcome.Outcome.{Outcome}
use Rattle.ir_core.specs.Assigned.{IsAssigned, ReadsAreAssigned}
use Rattle.ir_core.specs.Blocks.{HasInst}
use Rattle.ir_core.specs.Checks.{IsFormed, IsInst, IsPhi}
use Rattle.ir_core.specs.Reads.{Read, IsRead, end_of}
use Rattle.ir_core.specs.Refines.{AreArguments}
use Rattle.ir_core.specs.Run.{Registers, AnyNumber, OpGives, HasOutcome, breaks_noundef}
use Rattle.ir_core.specs.Walks.{IsReached}
use Rattle.ir_meaning.specs.Laws.{HoldWidths}
use Rattle.ir_meaning.specs.Paths.{IsPath}
use Rattle.ir_meaning.specs.Histories.{Moment, place_of, InstGives, IsHistory, EndsAt}

-- ---- outcomes, places and blocks

-- the places of a history are a path
abbrev pub HistoriesArePaths : Type 0
HistoriesArePaths = (f : Function) (args : List Value) (history : List Moment)
    → IsHistory f args history → IsPath f (map place_of history)

-- runs come only to blocks that are reached by walks
abbrev pub MomentsAreReached : Type 0
MomentsAreReached = (f : Function) (args : List Value) (m : Moment) (before : List Moment)
    → IsHistory f args (m ∷ before) → IsReached f m.block

-- where control came from another block, the phis read the registers as they were at that block's end
abbrev pub BlocksAreEnteredFromEnds : Type 0
BlocksAreEnteredFromEnds = (f : Function) (args : List Value) (m : Moment) (before : List Moment) (c : ℕ)
    → IsHistory f args (m ∷ before) → m.from ≡ Some c
    → (n : Moment) × (earlier : List Moment) × IsHistory f args (n ∷ earlier)
    × (place_of n ≡ (c, end_of f c)) × (n.held ≡ m.entered)

-- Each outcome comes at the last moment of some history. The one exception is the undefined behaviour of poison for a
-- `noundef` parameter, which comes before any moment.
abbrev pub OutcomesHaveHistories : Type 0
OutcomesHaveHistories = (f : Function) (args : List Value) (n : ℕ) (o : Outcome)
    → breaks_noundef f.parameters args ≡ false → HasOutcome f args n o
    → (m : Moment) × (before : List Moment) × IsHistory f args (m ∷ before) × EndsAt f m o

-- ---- what registers hold

-- each literal number in the function is one of its width
abbrev pub NumbersFit : Function → Type 0
NumbersFit f = (b k i : ℕ) (r : Read) (n : Number) → IsRead f b k i r → r.operand ≡ operands.Number n → n.number < 2 ^ n.width

-- if so, and if the arguments are of their widths, registers of a function that is formed hold values of their
-- widths
abbrev pub HeldHaveWidths : Type 0
HeldHaveWidths = (f : Function) (args : List Value) (m : Moment) (before : List Moment)
    → IsFormed f → NumbersFit f → AreArguments f.parameters args → IsHistory f args (m ∷ before)
    → HoldWidths f m.held × HoldWidths f m.entered

-- The instruction at place j of block d ran at the moment `last`, and at none of the moments `later` behind it.
pub record LastRan (d j : ℕ) (before later : List Moment) (last : Moment) (earlier : List Moment) : Type 0 where
  pub split : before ≡ later ++ last ∷ earlier
  pub there : place_of last ≡ (d, j)
  pub not_since : (n : Moment) → Contains later n → ¬ (place_of n ≡ (d, j))

-- where a result is assigned, its instruction has run, so that there is a last time that it did
abbrev pub AssignedHasRun : Type 0
AssignedHasRun = (f : Function) (args : List Value) (d j : ℕ) (m : Moment) (before : List Moment)
    → IsHistory f args (m ∷ before) → IsAssigned f (registers.Result d j) m.block m.place
    → (later : List Moment) × (last : Moment) × (earlier : List Moment) × LastRan d j before later last earlier

-- a result holds what its instruction gave when it ran last
abbrev pub ResultsAreHeld : Type 0
ResultsAreHeld = (f : Function) (args : List Value) (d j : ℕ) (m : Moment)
    (before later : List Moment) (last : Moment) (earlier : List Moment)
    → HasInst f d j → IsHistory f args (m ∷ before) → LastRan d j before later last earlier
    → (inst : Inst) × (v : Value) × IsInst f d j inst × InstGives last inst (effects.Gives v)
    × (m.held (registers.Result d j) ≡ Some v)

-- where r is assigned, a register that is assigned at r's instruction holds what it held when that ran last
abbrev pub OperandsAreHeld : Type 0
OperandsAreHeld = (f : Function) (args : List Value) (o : Register) (d j : ℕ) (m : Moment)
    (before later : List Moment) (last : Moment) (earlier : List Moment)
    → IsHistory f args (m ∷ before) → LastRan d j before later last earlier
    → IsAssigned f o d j → IsAssigned f (registers.Result d j) m.block m.place
    → m.held o ≡ last.held o

-- In one visit of a block, that is where no block is entered behind moment t, the instruction at t ran only once, and a
-- register that is assigned at it still holds what it held then.
abbrev pub NothingNamedChangesInOneVisit : Type 0
NothingNamedChangesInOneVisit = (f : Function) (args : List Value) (o : Register)
    (m : Moment) (later : List Moment) (t : Moment) (earlier : List Moment)
    → IsHistory f args (m ∷ later ++ t ∷ earlier) → ((n : Moment) → Contains (m ∷ later) n → 0 < n.place)
    → IsAssigned f o t.block t.place
    → LastRan t.block t.place (later ++ t ∷ earlier) later t earlier × (m.held o ≡ t.held o)

-- the result holds a value that its instruction may give on what its operands hold in the same registers
abbrev pub EquationHolds : Registers → ℕ → ℕ → Inst → Type 0
EquationHolds held d j inst =
    (v : Value) × (held (registers.Result d j) ≡ Some v) × OpGives AnyNumber held inst.width inst.op (effects.Gives v)

-- the equation of each result that is no phi's holds wherever the result is assigned
abbrev pub EquationsHoldWhereAssigned : Type 0
EquationsHoldWhereAssigned = (f : Function) (args : List Value) (m : Moment) (before : List Moment)
    → ReadsAreAssigned f → IsHistory f args (m ∷ before)
    → (d j : ℕ) (inst : Inst) → IsInst f d j inst → ¬ IsPhi inst.op → IsAssigned f (registers.Result d j) m.block m.place
    → EquationHolds m.held d j inst

-- and so does that of each result before the place in its block
abbrev pub EquationsHoldInOneVisit : Type 0
EquationsHoldInOneVisit = (f : Function) (args : List Value) (m : Moment) (before : List Moment)
    → ReadsAreAssigned f → IsHistory f args (m ∷ before)
    → (j : ℕ) (inst : Inst) → j < m.place → IsInst f m.block j inst → ¬ IsPhi inst.op
    → EquationHolds m.held m.block j inst
