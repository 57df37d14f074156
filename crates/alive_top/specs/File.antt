-- The files that a task reads.
use Rattle.std.specs.Prelude.{ℕ, List, [], ◌∷◌, Option, None, Some}
use Rattle.ir_reader.specs.Text as modules
use Rattle.rule_reader.specs.Limits as rule_files
use Rattle.stored_logs.specs.Limits as proofs
use Rattle.alive_top.specs.Task.{Task, Verify, Optimise, Run, Load, Recheck}

-- what a file is read for: rules, a module or proofs
pub data FileKind : Type 0 where
  Rules : FileKind
  Source : FileKind
  Logs : FileKind

-- a file that is read: its name, and what for
pub record File : Type 0 where
  pub name : List ℕ
  pub kind : FileKind

-- a file of proofs, where one is named
abbrev pub logs_named : Option (List ℕ) → List File
logs_named None = []
logs_named (Some logs) = record { name = logs; kind = Logs } ∷ []

-- the files of a task, in the order in which they are read
abbrev pub files_of : Task → List File
files_of (Verify rules options) = record { name = rules; kind = Rules } ∷ []
files_of (Optimise rules source logs options) = record { name = rules; kind = Rules } ∷ record { name = source; kind = Source } ∷ logs_named logs
files_of (Run source name arguments options) = record { name = source; kind = Source } ∷ []
files_of (Load number) = []
files_of (Recheck rules logs options) = record { name = rules; kind = Rules } ∷ record { name = logs; kind = Logs } ∷ []

-- the most bytes of a file
abbrev pub limit_of : FileKind → ℕ
limit_of Rules = rule_files.most_bytes
limit_of Source = modules.most_bytes
limit_of Logs = proofs.most_bytes
