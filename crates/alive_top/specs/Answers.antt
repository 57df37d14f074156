-- What the steps of a command's work answer: a result, or why there is none.
use Rattle.std.specs.Prelude.{◌≡◌, ℕ, ◌⊎◌, List, option_map, Result, Ok, Err}
use Rattle.outside.specs.Faults.{Rose}
use Rattle.outside.specs.Files.{FilesState}
use Rattle.alive_top.specs.declared.hindrance.Hindrance.{Hindrance}
use Rattle.alive_top.specs.declared.hindrance.Hindrance.TheVariants.{Rules, Module, Argument, Logs, Read, Memory}
use Rattle.alive_top.specs.declared.status.Status.TheVariants as statuses
use Rattle.alive_top.specs.declared.work.Work.{Work as Stored}
use Rattle.alive_top.specs.Cause.{TextIsRefused, ReadFails, MemoryIsRefused, ArgumentIsRefused, LogsAreRefused}
use Rattle.run_text.specs.Runs.{IsMisnamed}
use Rattle.stored_logs.specs.Faults.{IsFault}
use Rattle.verdict.specs.Rule.{Rule}
use Rattle.alive_top.specs.File.{File, FileKind, files_of}
use Rattle.error_lines.specs.Lines.{rules_line, module_line}
use Rattle.alive_top.specs.Request.{AsksNone, AsksOne, AsksAll}
use Rattle.alive_top.specs.Taken.{Refuses}
use Rattle.alive_top.specs.Task.{Task}
use Rattle.alive_top.specs.Texts.{IsTextOf, AreTaken}
use Rattle.alive_top.specs.Work.{Work, IsWorkOf}

-- a read of a file's bytes
abbrev pub ReadOf : {T : Type 0} → FilesState → FilesState → List ℕ → (T → Type 0) → Result T Hindrance → Type 0
ReadOf old new name P (Ok x) = P x × AsksOne old new name
ReadOf old new name P (Err (Read n)) = Rose old.faults new.faults × (n.now ≡ name) × AsksOne old new name
ReadOf old new name P (Err Memory) = AsksNone old new
ReadOf old new name P (Err (Rules fault)) = ⊥
ReadOf old new name P (Err (Module fault)) = ⊥
ReadOf old new name P (Err Argument) = ⊥
ReadOf old new name P (Err (Logs fault)) = ⊥

-- what may hinder although the text was taken: nothing; below, that a run's arguments do not fit it, and that it has a
-- fault, given the rules
abbrev pub Fits : Hindrance → Type 0
Fits refusal = ⊥

abbrev pub MisfitsRun : List ℕ → List ℕ → List (List ℕ) → Hindrance → Type 0
MisfitsRun text name arguments Argument = IsMisnamed text name arguments
MisfitsRun text name arguments refusal = ⊥

abbrev pub MisfitsRules : List Rule → List ℕ → Hindrance → Type 0
MisfitsRules rules text (Logs fault) = IsFault rules text fault
MisfitsRules rules text refusal = ⊥

-- what reading a text for its purpose answers: what it gives, or a refusal of the text, or that it does not fit
abbrev pub TextOf : {T : Type 0} → FileKind → List ℕ → (T → Type 0) → (Hindrance → Type 0) → Result T Hindrance → Type 0
TextOf kind text P Misfits (Ok x) = P x
TextOf kind text P Misfits (Err (Rules fault)) = Refuses kind text statuses.RuleRefused (rules_line fault)
TextOf kind text P Misfits (Err (Module fault)) = Refuses kind text statuses.ModuleRefused (module_line fault)
TextOf kind text P Misfits (Err Argument) = Misfits Argument
TextOf kind text P Misfits (Err (Logs fault)) = Misfits (Logs fault)
TextOf kind text P Misfits (Err Memory) = Unit {0}
TextOf kind text P Misfits (Err (Read n)) = ⊥

-- the file was asked for, and P holds of its text
pub record IsReadAs (old new : FilesState) (file : File) (P : List ℕ → Type 0) : Type 0 where
  pub asks : AsksOne old new file.name
  pub text : List ℕ
  pub is_text : IsTextOf old file text
  pub holds : P text

-- why a file gave nothing: it could not be read, its text was refused or does not fit, or memory was refused
abbrev pub FileRefused : FilesState → FilesState → File → (List ℕ → Hindrance → Type 0) → Hindrance → Type 0
FileRefused old new file Misfits (Rules fault) = IsReadAs old new file (λ text. Refuses file.kind text statuses.RuleRefused (rules_line fault))
FileRefused old new file Misfits (Module fault) = IsReadAs old new file (λ text. Refuses file.kind text statuses.ModuleRefused (module_line fault))
FileRefused old new file Misfits Argument = IsReadAs old new file (λ text. Misfits text Argument)
FileRefused old new file Misfits (Logs fault) = IsReadAs old new file (λ text. Misfits text (Logs fault))
FileRefused old new file Misfits (Read n) = Rose old.faults new.faults × (n.now ≡ file.name) × AsksOne old new file.name
FileRefused old new file Misfits Memory = AsksNone old new ⊎ AsksOne old new file.name

-- what reading a file answers, from what its text gives
abbrev pub FileOf : {T : Type 0} → FilesState → FilesState → File → (List ℕ → T → Type 0) → (List ℕ → Hindrance → Type 0) → Result T Hindrance → Type 0
FileOf old new file P Misfits (Ok x) = IsReadAs old new file (λ text. P text x)
FileOf old new file P Misfits (Err refusal) = FileRefused old new file Misfits refusal

-- the work as the code holds it, with bytes in place of references
abbrev pub seen_work : Stored → Work
seen_work work = record { text = work.text.items; report = option_map (λ report. report.items) work.report; table = work.table; proofs = work.proofs; status = work.status }

-- why the work of a task was not done
abbrev pub RefusedFor : FilesState → FilesState → Task → Hindrance → Type 0
RefusedFor old new task (Rules fault) = TextIsRefused old new (files_of task) statuses.RuleRefused (rules_line fault)
RefusedFor old new task (Module fault) = TextIsRefused old new (files_of task) statuses.ModuleRefused (module_line fault)
RefusedFor old new task Argument = ArgumentIsRefused old new task
RefusedFor old new task (Logs fault) = LogsAreRefused old new task fault
RefusedFor old new task (Read n) = ReadFails old new (files_of task) n.now
RefusedFor old new task Memory = MemoryIsRefused old new (files_of task)

-- the work of a task was done
pub record IsDoneFor (old new : FilesState) (task : Task) (work : Work) : Type 0 where
  pub asks : AsksAll old new (files_of task)
  pub texts : List (List ℕ)
  pub taken : AreTaken old (files_of task) texts
  pub is_work : IsWorkOf task texts work

-- how the work of a task ends, before anything is written
abbrev pub TaskOf : FilesState → FilesState → Task → Result Stored Hindrance → Type 0
TaskOf old new task (Ok work) = IsDoneFor old new task (seen_work work)
TaskOf old new task (Err refusal) = RefusedFor old new task refusal
