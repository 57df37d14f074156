-- Laws of substitution, and of functions that are rewritten in one place.
use Rattle.std.specs.Prelude.{◌≡◌, ◌↔◌, ℕ, List, Option}
use Rattle.ops.specs.Value.{AllowsEffect}
use Rattle.ops.specs.declared.value.Value.{Value}
use Rattle.ops.specs.declared.value.Effect.{Effect}
use Rattle.ir_core.specs.Checks.{MeetsChecks}
use Rattle.ir_core.specs.Reads.{reads_of, reads_at_end}
use Rattle.ir_core.specs.Refines.{AreArguments, Refines}
use Rattle.ir_core.specs.Run.{Registers, Ending, AnyNumber, OpGives, PhiGives, EndGives}
use Rattle.ir_core.specs.declared.function.Function.{Function}
use Rattle.ir_core.specs.declared.instruction.Inst.{Inst}
use Rattle.ir_core.specs.declared.instruction.Op.{Op}
use Rattle.ir_core.specs.declared.operand.Operand.{Operand}
use Rattle.ir_core.specs.declared.terminator.Terminator.{Terminator}
use Rattle.ir_meaning.specs.Laws.{HoldWidths, OperandsHaveWidths}
use Rattle.ir_meaning.specs.HistoryLaws.{NumbersFit}
use Rattle.substitution.specs.Substitution.{Substitution, substituted_entries, substituted_op, substituted_end, IsDefinite, pulled_back, ending_back}
use Rattle.substitution.specs.Rewritten.{Rewrite, stands_for, rewritten_function, RunsThrough}
use Rattle.substitution.specs.Fits.{Fits}
use Rattle.substitution.specs.Allows.{ReadsAllow, AllowsEnding, AssignedAllow, AllowsPut}
use Rattle.substitution.specs.Held.{ComesTo, MayHold}

-- ---- substitution

-- an instruction in which operands are substituted for registers gives what it gave where each register held the value
-- of its substitute
abbrev pub SubstitutedInstructionsGive : Type 0
SubstitutedInstructionsGive = (to : Substitution) (held : Registers) (width : ℕ) (op : Op) (e : Effect)
    → IsDefinite to → OpGives AnyNumber held width (substituted_op to op) e ↔ OpGives AnyNumber (pulled_back to held) width op e

-- the same of phis, and of terminators
abbrev pub SubstitutedPhisGive : Type 0
SubstitutedPhisGive = (to : Substitution) (held : Registers) (from : Option ℕ) (width : ℕ) (entries : List (Operand × ℕ)) (v : Value)
    → IsDefinite to → PhiGives AnyNumber held from width (substituted_entries to entries) v ↔ PhiGives AnyNumber (pulled_back to held) from width entries v

abbrev pub SubstitutedTerminatorsEnd : Type 0
SubstitutedTerminatorsEnd = (to : Substitution) (f : Function) (held : Registers) (t : Terminator) (old : Ending)
    → IsDefinite to
    → ((end : Ending) × EndGives AnyNumber held f (substituted_end to t) end × (ending_back to end ≡ old)) ↔ EndGives AnyNumber (pulled_back to held) f t old

-- ---- registers that are read hold values that allow others

-- Where the registers that are read hold values that allow those of the second registers, an instruction may have an
-- effect that allows each that it has on the second.
abbrev pub InstructionsAreMonotoneInReads : Type 0
InstructionsAreMonotoneInReads = (f : Function) (held held' : Registers) (b k width : ℕ) (op : Op) (e' : Effect)
    → OperandsHaveWidths f width op → HoldWidths f held' → ReadsAllow held held' (reads_of f b k width op)
    → OpGives AnyNumber held' width op e'
    → (e : Effect) × OpGives AnyNumber held width op e × AllowsEffect e e'

-- and a terminator may end the pass in a way that allows each in which it ends it there, leaving registers as they are
abbrev pub TerminatorsAreMonotoneInReads : Type 0
TerminatorsAreMonotoneInReads = (f : Function) (held held' : Registers) (b k : ℕ) (t : Terminator) (end' : Ending)
    → ReadsAllow held held' (reads_at_end f b k t)
    → EndGives AnyNumber held' f t end'
    → (end : Ending) × EndGives AnyNumber held f t end × AllowsEnding (λ x x'. (x ≡ held) × (x' ≡ held')) end end'

-- ---- places to which runs come

-- wherever a run comes to, registers hold only what they may hold there
abbrev pub RunsHoldWhatIsAssigned : Type 0
RunsHoldWhatIsAssigned = (f : Function) (args : List Value) (b k : ℕ) (held : Registers)
    → MeetsChecks f → NumbersFit f → AreArguments f.parameters args → ComesTo f args b k held → MayHold f b k held

-- ---- rewriting

-- a function that is rewritten by instructions that fit it meets the checks too
abbrev pub RewrittenFunctionsMeetChecks : Type 0
RewrittenFunctionsMeetChecks = (f : Function) (w : Rewrite) (root : Inst) → MeetsChecks f → Fits f w root → MeetsChecks (rewritten_function w f)

-- and its literal numbers are of their widths
abbrev pub RewrittenNumbersFit : Type 0
RewrittenNumbersFit = (f : Function) (w : Rewrite) (root : Inst) → NumbersFit f → Fits f w root → NumbersFit (rewritten_function w f)

-- Wherever runs of both functions come to the root, with registers that allow those of the new function, each execution
-- of the instructions that are put is allowed by an effect of the root.
abbrev pub RootAllowsPut : Function → Rewrite → Inst → Type 0
RootAllowsPut f w root = (args : List Value) (held held' : Registers) (after : Option Registers)
    → AreArguments f.parameters args
    → ComesTo f args w.block w.place held
    → ComesTo (rewritten_function w f) args w.block w.place held'
    → AssignedAllow f w w.block w.place held held'
    → RunsThrough w.block w.place w.put held' after
    → (e : Effect) × OpGives AnyNumber held root.width root.op e × AllowsPut w e after

-- if so, the new function refines the old one
abbrev pub RewrittenFunctionsRefine : Type 0
RewrittenFunctionsRefine = (f : Function) (w : Rewrite) (root : Inst)
    → MeetsChecks f → NumbersFit f → Fits f w root → RootAllowsPut f w root
    → Refines f (rewritten_function w f)

-- The same for one choice of registers: for whatever registers of the new function hold, if each register of the old
-- one may hold its substitute's value there, each execution of the instructions that are put is allowed by an effect
-- that the root has on these values.
abbrev pub PutIsAllowed : Function → Rewrite → Inst → Type 0
PutIsAllowed f w root = (held : Registers) (after : Option Registers)
    → MayHold f w.block w.place (pulled_back (stands_for w) held)
    → RunsThrough w.block w.place w.put held after
    → (e : Effect) × OpGives AnyNumber (pulled_back (stands_for w) held) root.width root.op e × AllowsPut w e after

-- This is enough, since the root is monotone in the registers that it reads, and these are assigned.
abbrev pub RewrittenFunctionsRefineWherePutIsAllowed : Type 0
RewrittenFunctionsRefineWherePutIsAllowed = (f : Function) (w : Rewrite) (root : Inst)
    → MeetsChecks f → NumbersFit f → Fits f w root → PutIsAllowed f w root
    → Refines f (rewritten_function w f)
