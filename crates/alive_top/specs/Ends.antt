-- When a call ends with which status: what was read, what was written and which counts of faults rose.
use Rattle.std.specs.Prelude.{◌≡◌, ℕ, false, ◌⊎◌, List, []}
use Rattle.outside.specs.Files.{FilesState}
use Rattle.outside.specs.Sink.{SinkState}
use Rattle.command_line.specs.Usage.{HasBadList, refusal_of_list}
use Rattle.command_line.specs.Words.{are_taken}
use Rattle.alive_top.specs.declared.status.Ended.{Ended}
use Rattle.alive_top.specs.declared.status.Status.{Status}
use Rattle.alive_top.specs.declared.status.Status.TheVariants.{Done, NotAll, Usage, RuleRefused, ModuleRefused, ReadFault, WriteFault, NoMemory, Argument, LogRefused}
use Rattle.alive_top.specs.Cause.{TextIsRefused, ReadFails, MemoryIsRefused, ArgumentIsRefused, LogsAreRefused}
use Rattle.alive_top.specs.File.{files_of}
use Rattle.error_lines.specs.Lines.{read_fault_line, argument_line, logs_line, memory_line}
use Rattle.refusal.specs.declared.fault.Fault.{Fault}
use Rattle.stored_logs.specs.LogFaultKind.{LogFaultKind}
use Rattle.alive_top.specs.Request.{AsksNone, AsksAll}
use Rattle.alive_top.specs.Task.{Task, Asks}
use Rattle.alive_top.specs.Texts.{AreTaken}
use Rattle.alive_top.specs.Work.{Work, IsWorkOf}
use Rattle.alive_top.specs.Written.{Took, WroteAll, WroteSome}

-- The work of the task was done: all its files were read and are what they are read for, the table and the proofs are
-- those of the work, and its text and report were written as `Wrote` says.
pub record Worked (task : Task) (files files' : FilesState) (ended : Ended) (Wrote : Work → Type 0) : Type 0 where
  pub asks : AsksAll files files' (files_of task)
  pub texts : List (List ℕ)
  pub taken : AreTaken files (files_of task) texts
  pub work : Work
  pub is_work : IsWorkOf task texts work
  pub table : ended.table ≡ work.table
  pub proofs : ended.proofs ≡ work.proofs
  pub wrote : Wrote work

-- nothing was written but a line on the error stream, and the call gives no verdicts and no proofs
pub record Refused (out out' err err' : SinkState) (ended : Ended) (line : List ℕ) : Type 0 where
  pub out_stays : out' ≡ out
  pub takes_line : Took err err' line
  pub no_verdicts : ended.table ≡ []
  pub no_proofs : ended.proofs ≡ []

-- when a task ends with which status; the first cause decides
abbrev pub EndsWith : Task → FilesState → FilesState → SinkState → SinkState → SinkState → SinkState → Ended → Status → Type 0
EndsWith task files files' out out' err err' ended Usage = ⊥
EndsWith task files files' out out' err err' ended ReadFault =
    (name : List ℕ) × ReadFails files files' (files_of task) name × Refused out out' err err' ended (read_fault_line name)
EndsWith task files files' out out' err err' ended RuleRefused =
    (line : List ℕ) × TextIsRefused files files' (files_of task) RuleRefused line × Refused out out' err err' ended line
EndsWith task files files' out out' err err' ended ModuleRefused =
    (line : List ℕ) × TextIsRefused files files' (files_of task) ModuleRefused line × Refused out out' err err' ended line
EndsWith task files files' out out' err err' ended Argument =
    ArgumentIsRefused files files' task × Refused out out' err err' ended argument_line
EndsWith task files files' out out' err err' ended LogRefused =
    (fault : Fault LogFaultKind) × LogsAreRefused files files' task fault × Refused out out' err err' ended (logs_line fault)
EndsWith task files files' out out' err err' ended Done =
    Worked task files files' ended (λ work. (work.status ≡ Done) × WroteAll out out' err err' work.text work.report)
EndsWith task files files' out out' err err' ended NotAll =
    Worked task files files' ended (λ work. (work.status ≡ NotAll) × WroteAll out out' err err' work.text work.report)
EndsWith task files files' out out' err err' ended WriteFault =
    Worked task files files' ended (λ work. WroteSome out out' err err' work.text work.report)
EndsWith task files files' out out' err err' ended NoMemory =
    MemoryIsRefused files files' (files_of task) × Refused out out' err err' ended memory_line

-- the words are no command: `clap` does not take them, or the list of widths is malformed
abbrev pub IsNoCommand : List (List ℕ) → Type 0
IsNoCommand words = (are_taken words ≡ false) ⊎ ((list : List ℕ) × HasBadList words list)

-- the text on such words: `clap`'s where it does not take them, and else one that names the list
abbrev pub IsUsage : List (List ℕ) → List ℕ → Type 0
IsUsage words text = (are_taken words ≡ false) ⊎ ((list : List ℕ) × HasBadList words list × (text ≡ refusal_of_list list))

-- when a call ends with which status before any task: the words are no command, or memory was refused for them
abbrev pub EndsAtWords : List (List ℕ) → SinkState → SinkState → SinkState → SinkState → Ended → Status → Type 0
EndsAtWords words out out' err err' ended Usage = (text : List ℕ) × IsUsage words text × Refused out out' err err' ended text
EndsAtWords words out out' err err' ended NoMemory = Refused out out' err err' ended memory_line
EndsAtWords words out out' err err' ended status = ⊥

-- how a call ends
abbrev pub Ends : List (List ℕ) → FilesState → FilesState → SinkState → SinkState → SinkState → SinkState → Ended → Type 0
Ends words files files' out out' err err' ended =
    (AsksNone files files' × EndsAtWords words out out' err err' ended ended.status)
    ⊎ ((task : Task) × Asks words task × EndsWith task files files' out out' err err' ended ended.status)
