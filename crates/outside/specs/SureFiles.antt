-- Files in memory whose reads never fail.
use Rattle.std.specs.Prelude.{ℕ, List}
use Rattle.outside.specs.declared.stored_file.StoredFile.{StoredFile}

pub record SureFilesState : Type 0 where
  pub held : List StoredFile
  pub asked : List (List ℕ)
