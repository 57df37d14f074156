-- What is put to the error stream and the output, and the status then.
use Rattle.std.specs.Prelude.{◌≡◌, ◌⊎◌, ℕ, List}
use Rattle.outside.specs.Sink.{SinkState}
use Rattle.alive_top.specs.declared.hindrance.Hindrance.{Hindrance}
use Rattle.alive_top.specs.declared.hindrance.Hindrance.TheVariants.{Rules, Module, Argument, Logs, Read, Memory}
use Rattle.alive_top.specs.declared.status.Status.{Status}
use Rattle.alive_top.specs.declared.status.Status.TheVariants as statuses
use Rattle.error_lines.specs.Lines.{rules_line, module_line, read_fault_line, argument_line, logs_line, memory_line}
use Rattle.alive_top.specs.Work.{Work}
use Rattle.alive_top.specs.Written.{Took, WroteAll, WroteSome}

-- the line is put, and the status is this one
abbrev pub Says : SinkState → SinkState → Status → List ℕ → Status → Type 0
Says err err' status line given = (given ≡ status) × Took err err' line

-- the line on want of memory is put, and the status is `NoMemory`
abbrev pub SaysMemory : SinkState → SinkState → Status → Type 0
SaysMemory err err' given = Says err err' statuses.NoMemory memory_line given

-- how a refusal ends: with its line, or with that on memory where there was no memory for its own
abbrev pub RefusedAs : Hindrance → SinkState → SinkState → Status → Type 0
RefusedAs (Rules fault) err err' given = Says err err' statuses.RuleRefused (rules_line fault) given ⊎ SaysMemory err err' given
RefusedAs (Module fault) err err' given = Says err err' statuses.ModuleRefused (module_line fault) given ⊎ SaysMemory err err' given
RefusedAs Argument err err' given = Says err err' statuses.Argument argument_line given
RefusedAs (Logs fault) err err' given = Says err err' statuses.LogRefused (logs_line fault) given ⊎ SaysMemory err err' given
RefusedAs (Read name) err err' given = Says err err' statuses.ReadFault (read_fault_line name.now) given ⊎ SaysMemory err err' given
RefusedAs Memory err err' given = SaysMemory err err' given

-- how the writing of a work ends
abbrev pub WrittenAs : Work → SinkState → SinkState → SinkState → SinkState → Status → Type 0
WrittenAs work out out' err err' given =
    ((given ≡ work.status) × WroteAll out out' err err' work.text work.report)
    ⊎ ((given ≡ statuses.WriteFault) × WroteSome out out' err err' work.text work.report)
