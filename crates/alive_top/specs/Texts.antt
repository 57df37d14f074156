-- The texts that are read of files, one for each file, in order.
use Rattle.std.specs.Prelude.{◌≡◌, ℕ, ◌+◌, List, take, Some, IfSome, slice_get}
use Rattle.std.specs.List.{AllZip}
use Rattle.outside.specs.Files.{FilesState}
use Rattle.alive_top.specs.File.{File, files_of, limit_of}
use Rattle.alive_top.specs.Taken.{Takes}
use Rattle.alive_top.specs.Task.{Task}

-- The text of a file is its bytes, where these are known; of a file that is longer than the limit, the first bytes, one
-- more than the limit.
abbrev pub IsTextOf : FilesState → File → List ℕ → Type 0
IsTextOf known file text = IfSome (known.told file.name) (λ told. text ≡ take (limit_of file.kind + 1) told)

-- one text for each of the files
abbrev pub AreTexts : FilesState → List File → List (List ℕ) → Type 0
AreTexts known files texts = AllZip (IsTextOf known) files texts

-- the same, where each text is what its file is read for
abbrev pub AreTaken : FilesState → List File → List (List ℕ) → Type 0
AreTaken known files texts = AllZip (λ file text. IsTextOf known file text × Takes file.kind text) files texts

-- P holds of some texts of the task's files
abbrev pub OfSomeTexts : FilesState → Task → (List (List ℕ) → Type 0) → Type 0
OfSomeTexts known task P = (texts : List (List ℕ)) × AreTexts known (files_of task) texts × P texts

-- the bytes of all files of the task are known, and P holds of them
abbrev pub OfToldTexts : FilesState → Task → (List (List ℕ) → Type 0) → Type 0
OfToldTexts known task P = (texts : List (List ℕ)) × AllZip (λ file text. known.told file.name ≡ Some text) (files_of task) texts × P texts

-- each text is what its file is read for
abbrev pub TakesEach : Task → List (List ℕ) → Type 0
TakesEach task texts = AllZip (λ file text. Takes file.kind text) (files_of task) texts

-- the bytes of a file of the task are known, and are not what it is read for
pub record HasBadFile (known : FilesState) (task : Task) : Type 0 where
  pub place : ℕ
  pub file : File
  pub is : slice_get (files_of task) place ≡ Some file
  pub bytes : List ℕ
  pub told : known.told file.name ≡ Some bytes
  pub bad : ¬ Takes file.kind bytes
