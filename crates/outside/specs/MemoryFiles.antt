-- Files in memory, some of whose reads fail.
use Rattle.std.specs.Prelude.{◌≡◌, ℕ, List, [], ◌∷◌, ◌++◌, length, take, Some, Result, Ok, Err, Contains, IsNone}
use Rattle.outside.specs.Faults.{raised}
use Rattle.outside.specs.StoredFiles.{bytes_of}
use Rattle.outside.specs.declared.stored_file.StoredFile.{StoredFile}
use Rattle.outside.specs.declared.errors.ReadError.{ReadError}
use Rattle.outside.specs.declared.errors.ReadError.TheVariants.{Failed, NoMemory}

pub record MemoryFilesState : Type 0 where
  pub held : List StoredFile
  -- the reads that fail, numbered from 0; a read that is refused memory has no number
  pub failing : List ℕ
  -- the names asked for so far; how many they are is the number of the next read
  pub asked : List (List ℕ)
  pub faults : ℕ

-- The next read is one that was listed to fail.
abbrev pub IsListed : MemoryFilesState → Type 0
IsListed files = Contains files.failing (length files.asked)

-- Nothing is held under the name.
abbrev pub IsMissing : MemoryFilesState → List ℕ → Type 0
IsMissing files name = IsNone (bytes_of files.held name)

-- The next read gives these bytes: the first `most` of those under the name.
pub record IsReadOf (files : MemoryFilesState) (name : List ℕ) (most : ℕ) (bytes : List ℕ) : Type 0 where
  pub unlisted : ¬ IsListed files
  pub held : List ℕ
  pub found : bytes_of files.held name ≡ Some held
  pub bytes_are : bytes ≡ take most held

-- the files after a read of the name that returned this
abbrev pub files_after : {T : Type 0} → Result T ReadError → MemoryFilesState → List ℕ → MemoryFilesState
files_after (Ok _) files name = record files { asked = files.asked ++ name ∷ [] }
files_after (Err Failed) files name = record files { asked = files.asked ++ name ∷ []; faults = raised files.faults }
files_after (Err NoMemory) files name = files
