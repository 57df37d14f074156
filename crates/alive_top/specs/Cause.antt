-- Why the work of a task was not done, and how far it came with its files.
use Rattle.std.specs.Prelude.{◌≡◌, ℕ, ◌+◌, ◌⊎◌, List, take, Some, slice_get}
use Rattle.outside.specs.Faults.{Rose}
use Rattle.outside.specs.Files.{FilesState}
use Rattle.alive_top.specs.declared.status.Status.{Status}
use Rattle.alive_top.specs.File.{File, files_of}
use Rattle.refusal.specs.declared.fault.Fault.{Fault}
use Rattle.stored_logs.specs.LogFaultKind.{LogFaultKind}
use Rattle.alive_top.specs.LogFaults.{HasLogFault}
use Rattle.alive_top.specs.NoRun.{NamesNoRun}
use Rattle.alive_top.specs.Request.{AsksFirst, AsksAll}
use Rattle.alive_top.specs.Taken.{Refuses}
use Rattle.alive_top.specs.Task.{Task}
use Rattle.alive_top.specs.Texts.{IsTextOf, AreTaken}

-- the files before this one are what they are read for; this one was asked for last
pub record ComesTo (old new : FilesState) (files : List File) (file : File) : Type 0 where
  pub place : ℕ
  pub is : slice_get files place ≡ Some file
  pub texts : List (List ℕ)
  pub before : AreTaken old (take place files) texts
  pub asks : AsksFirst old new files (place + 1)

-- a file's text is refused, with this status and this line
pub record TextIsRefused (old new : FilesState) (files : List File) (status : Status) (line : List ℕ) : Type 0 where
  pub file : File
  pub comes : ComesTo old new files file
  pub text : List ℕ
  pub is_text : IsTextOf old file text
  pub refuses : Refuses file.kind text status line

-- a file could not be read, and the files' count of faults rose
pub record ReadFails (old new : FilesState) (files : List File) (name : List ℕ) : Type 0 where
  pub file : File
  pub comes : ComesTo old new files file
  pub named : name ≡ file.name
  pub rose : Rose old.faults new.faults

-- all files are what they are read for, and the run's name or arguments were refused
pub record ArgumentIsRefused (old new : FilesState) (task : Task) : Type 0 where
  pub asks : AsksAll old new (files_of task)
  pub texts : List (List ℕ)
  pub taken : AreTaken old (files_of task) texts
  pub names_none : NamesNoRun task texts

-- all files are what they are read for, and the proofs have this fault, given the rules
pub record LogsAreRefused (old new : FilesState) (task : Task) (fault : Fault LogFaultKind) : Type 0 where
  pub asks : AsksAll old new (files_of task)
  pub texts : List (List ℕ)
  pub taken : AreTaken old (files_of task) texts
  pub has_fault : HasLogFault task texts fault

-- memory was refused, after `count` files that are what they are read for, and maybe one more that was asked for
pub record MemoryIsRefused (old new : FilesState) (files : List File) : Type 0 where
  pub count : ℕ
  pub texts : List (List ℕ)
  pub before : AreTaken old (take count files) texts
  pub asks : AsksFirst old new files count ⊎ AsksFirst old new files (count + 1)
