-- What a run of a function may do: operands, instructions, blocks, outcomes. Each is a relation, since a number may be
-- left open. Registers are identified by where they are defined.
use Rattle.std.specs.Prelude.{◌≡◌, ℕ, zero, suc, ◌^◌, ◌<◌, ◌==◌, Bool, false, true, ◌&&◌, ◌||◌, if◌then◌else◌, List, [], ◌∷◌, Contains, Option, None, Some, slice_get, codes}
use Rattle.std.specs.List.{list_any}
use Rattle.std.specs.Str.{bytes_eq}
use Rattle.ops.specs.Number.{Number}
use Rattle.ops.specs.Instruction.{instruction}
use Rattle.ops.specs.Comparison.{comparison, selection}
use Rattle.ops.specs.Conversion.{conversion}
use Rattle.ops.specs.Unary.{unary}
use Rattle.ops.specs.declared.value.Value.{Value}
use Rattle.ops.specs.declared.value.Value.TheVariants as values
use Rattle.ops.specs.declared.value.Effect.{Effect}
use Rattle.ops.specs.declared.value.Effect.TheVariants as effects
use Rattle.ir_core.specs.declared.function.Function.{Function}
use Rattle.ir_core.specs.declared.function.Parameter.{Parameter}
use Rattle.ir_core.specs.declared.function.Block.{Block}
use Rattle.ir_core.specs.declared.instruction.Inst.{Inst}
use Rattle.ir_core.specs.declared.instruction.Op.{Op}
use Rattle.ir_core.specs.declared.instruction.Op.TheVariants.{Binary, Compare, Unary, Select, Convert, Freeze, Phi}
use Rattle.ir_core.specs.declared.operand.Operand.{Operand}
use Rattle.ir_core.specs.declared.operand.Operand.TheVariants as operands
use Rattle.ir_core.specs.declared.operand.Register.{Register}
use Rattle.ir_core.specs.declared.operand.Register.TheVariants as registers
use Rattle.ir_core.specs.declared.terminator.Terminator.{Terminator}
use Rattle.ir_core.specs.declared.terminator.Terminator.TheVariants as terminators
use Rattle.ir_core.specs.declared.outcome.Outcome.{Outcome}
use Rattle.ir_core.specs.declared.outcome.Outcome.TheVariants as outcomes
use Rattle.ir_core.specs.Blocks.{IsBlock}

-- ---- registers

-- what each register holds, if it holds something
abbrev pub Registers : Type 0
Registers = Register → Option Value

-- at the start the parameters hold the arguments, and results hold nothing
abbrev pub arguments : List Value → Registers
arguments args (registers.Parameter k) = slice_get args k
arguments args (registers.Result b k) = None

-- the registers after the result of instruction k of block b was set to a value
abbrev pub holding : Registers → ℕ → ℕ → Value → Registers
holding held b k v (registers.Parameter p) = held (registers.Parameter p)
holding held b k v (registers.Result c j) = if (c == b) && (j == k) then Some v else held (registers.Result c j)

-- ---- undefined behaviour that comes of poison and `undef`

-- the item `noundef` is among these (LangRef, "Parameter Attributes")
abbrev pub has_noundef : List (List ℕ) → Bool
has_noundef items = list_any (bytes_eq (codes "noundef")) items

abbrev pub is_poison : Value → Bool
is_poison values.Poison = true
is_poison (values.Bits n) = false

-- a parameter with `noundef` is given poison
abbrev pub breaks_noundef : List Parameter → List Value → Bool
breaks_noundef (p ∷ ps) (v ∷ vs) = (has_noundef p.items && is_poison v) || breaks_noundef ps vs
breaks_noundef ps vs = false

-- the operand gave no definite number: it is the literal `undef`, or gave poison
abbrev pub is_indefinite : Operand → Value → Bool
is_indefinite operands.Undef v = true
is_indefinite a v = is_poison v

-- ---- how a block ends

-- how a pass through a block ends: undefined behaviour, a return, or the next block with what is held
pub data Ending : Type 0 where
  Undefines : Ending
  Returns : (v : Value) → Ending
  Goes : (to : ℕ) (held : Registers) → Ending

-- a return of what the operand gave: undefined behaviour where that is indefinite and the return value is `noundef`
abbrev pub returning : Bool → Operand → Value → Ending
returning noundef a v = if noundef && is_indefinite a v then Undefines else Returns v

-- a jump to the block for the number that the operand gave: undefined behaviour where that is indefinite
abbrev pub going_by : (ℕ → ℕ) → Registers → Operand → Value → Ending
going_by to held operands.Undef v = Undefines
going_by to held a values.Poison = Undefines
going_by to held a (values.Bits n) = Goes (to n.number) held

-- the first block where the number of i1 is 1, and else the other
abbrev pub branch_target : ℕ → ℕ → ℕ → ℕ
branch_target to other n = if n == 1 then to else other

-- the block of the case with the number, and else the default block
abbrev pub switch_target : List (Number × ℕ) → ℕ → ℕ → ℕ
switch_target [] other n = other
switch_target (c ∷ cases) other n = if c.0.number == n then c.1 else switch_target cases other n

-- after an instruction: undefined behaviour ends the pass, a value is held and the pass goes on
abbrev pub GoesOn : (Value → Type 0) → Effect → Ending → Type 0
GoesOn next effects.Undefined end = end ≡ Undefines
GoesOn next (effects.Gives v) end = next v

-- after a block: undefined behaviour and a return are the outcome, else the run goes on from the next block
abbrev pub Leads : (ℕ → Registers → Outcome → Type 0) → Ending → Outcome → Type 0
Leads next Undefines o = o ≡ outcomes.Undefined
Leads next (Returns v) o = o ≡ outcomes.Return v
Leads next (Goes b held) o = next b held o

-- P of the entries of a phi, and Q where the instruction is no phi
abbrev pub IfPhi : (List (Operand × ℕ) → Type 0) → Type 0 → Op → Type 0
IfPhi P Q (Phi entries) = P entries
IfPhi P Q op = Q

-- ---- runs

-- MayChoose width n: a number that is left open at a width may be n
module _ (MayChoose : ℕ → ℕ → Type 0) where
  -- a number of the width that is left open
  abbrev pub IsChosen : ℕ → Value → Type 0
  IsChosen width v = (n : ℕ) × MayChoose width n × (v ≡ values.Bits (record { width = width; number = n }))

  -- A register gives what it holds, a literal itself. The literal undef gives one value each time its instruction runs:
  -- narrower than LangRef, "Undefined Values", where each use of a result may see another.
  abbrev pub OperandGives : Registers → ℕ → Operand → Value → Type 0
  OperandGives held width (operands.Register r) v = held r ≡ Some v
  OperandGives held width (operands.Number n) v = v ≡ values.Bits n
  OperandGives held width operands.Undef v = IsChosen width v
  OperandGives held width operands.Poison v = v ≡ values.Poison

  -- "freeze": the value, and some number of the width where that is poison
  abbrev pub Freezes : ℕ → Value → Value → Type 0
  Freezes width values.Poison v = IsChosen width v
  Freezes width (values.Bits n) v = v ≡ values.Bits n

  -- An instruction has its effect on what its operands give (LangRef, "Binary Operations", "Bitwise Binary Operations",
  -- "Conversion Operations", "Other Operations"). A phi has none of its own: it takes its value where its block is
  -- entered.
  abbrev pub OpGives : Registers → ℕ → Op → Effect → Type 0
  OpGives held width (Binary op flags a b) e = (x : Value) × (y : Value) × OperandGives held width a x × OperandGives held width b y × (e ≡ instruction op flags width x y)
  OpGives held width (Compare pred samesign compared a b) e = (x : Value) × (y : Value) × OperandGives held compared a x × OperandGives held compared b y × (e ≡ effects.Gives (comparison pred samesign compared x y))
  OpGives held width (Unary op truth a) e = (x : Value) × OperandGives held width a x × (e ≡ effects.Gives (unary op truth width x))
  OpGives held width (Select c a b) e = (z : Value) × (x : Value) × (y : Value) × OperandGives held 1 c z × OperandGives held width a x × OperandGives held width b y × (e ≡ effects.Gives (selection z x y))
  OpGives held width (Convert cast flags from a) e = (x : Value) × OperandGives held from a x × (e ≡ effects.Gives (conversion cast flags from width x))
  OpGives held width (Freeze a) e = (x : Value) × (v : Value) × OperandGives held width a x × Freezes width x v × (e ≡ effects.Gives v)
  OpGives held width (Phi entries) e = ⊥

  -- a phi takes what its entry for the block from which control comes gives ("phi")
  abbrev pub PhiGives : Registers → Option ℕ → ℕ → List (Operand × ℕ) → Value → Type 0
  PhiGives held from width entries v = (b : ℕ) × (a : Operand) × (from ≡ Some b) × Contains entries (a, b) × OperandGives held width a v

  -- a terminator of the function ends the pass (LangRef, "Terminator Instructions")
  abbrev pub EndGives : Registers → Function → Terminator → Ending → Type 0
  EndGives held f (terminators.Return a) end = (v : Value) × OperandGives held f.width a v × (end ≡ returning (has_noundef f.before) a v)
  EndGives held f (terminators.Jump b) end = end ≡ Goes b held
  EndGives held f (terminators.Branch c to other) end = (v : Value) × OperandGives held 1 c v × (end ≡ going_by (branch_target to other) held c v)
  EndGives held f (terminators.Switch a width other cases) end = (v : Value) × OperandGives held width a v × (end ≡ going_by (switch_target cases other) held a v)
  EndGives held f terminators.Unreachable end = end ≡ Undefines

  -- the instructions of block b from place k on follow in order, each result held, and then the terminator
  abbrev pub Follows : Function → ℕ → ℕ → List Inst → Terminator → Registers → Ending → Type 0
  Follows f b k [] t held end = EndGives held f t end
  Follows f b k (i ∷ insts) t held end = (e : Effect) × OpGives held i.width i.op e × GoesOn (λ v. Follows f b (suc k) insts t (holding held b k v) end) e end

  -- Block b is entered, and its phis before place k have taken their values: the phis from there on take theirs, all
  -- from the registers as they were at the entry (`old`), and behind them the instructions follow.
  abbrev pub Enters : Function → Option ℕ → Registers → ℕ → ℕ → List Inst → Terminator → Registers → Ending → Type 0
  Enters f from old b k [] t held end = Follows f b k [] t held end
  Enters f from old b k (i ∷ insts) t held end =
      IfPhi (λ entries. (v : Value) × PhiGives old from i.width entries v × Enters f from old b (suc k) insts t (holding held b k v) end)
      (Follows f b k (i ∷ insts) t held end)
      i.op

  -- one pass through block b, where `from` is the block that control comes from, None at the entry
  abbrev pub Passes : Function → Option ℕ → ℕ → Registers → Ending → Type 0
  Passes f from b held end = (block : Block) × IsBlock f b block × Enters f from held b 0 block.insts block.end held end

  -- the outcome from block b on, after at most n blocks entered
  abbrev pub RunsFrom : Function → ℕ → Option ℕ → ℕ → Registers → Outcome → Type 0
  RunsFrom f zero from b held o = o ≡ outcomes.Running b
  RunsFrom f (suc n) from b held o = (end : Ending) × Passes f from b held end × Leads (RunsFrom f n (Some b)) end o

  -- the first step of a run, before it enters a block: poison that breaks a `noundef` is undefined behaviour
  abbrev pub Starts : Bool → Function → List Value → ℕ → Outcome → Type 0
  Starts true f args n o = o ≡ outcomes.Undefined
  Starts false f args n o = RunsFrom f n None 0 (arguments args) o

-- any number of the width
abbrev pub AnyNumber : ℕ → ℕ → Type 0
AnyNumber width n = n < 2 ^ width

-- the number 0
abbrev pub OnlyZero : ℕ → ℕ → Type 0
OnlyZero width n = n ≡ 0

-- o is an outcome of the function at these arguments, after at most n blocks entered
abbrev pub HasOutcome : Function → List Value → ℕ → Outcome → Type 0
HasOutcome f args n o = Starts AnyNumber (breaks_noundef f.parameters args) f args n o

-- the same with each number that is left open being 0
abbrev pub HasZeroOutcome : Function → List Value → ℕ → Outcome → Type 0
HasZeroOutcome f args n o = Starts OnlyZero (breaks_noundef f.parameters args) f args n o
