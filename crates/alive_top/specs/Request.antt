-- Which files are asked for.
use Rattle.std.specs.Prelude.{◌≡◌, ℕ, List, [], ◌∷◌, take, length, Option}
use Rattle.outside.specs.Files.{FilesState, with_name}
use Rattle.alive_top.specs.File.{File}

-- no file is asked for
abbrev pub AsksNone : FilesState → FilesState → Type 0
AsksNone old new = new.asked ≡ old.asked

-- the file of this name is asked for, and no other
abbrev pub AsksOne : FilesState → FilesState → List ℕ → Type 0
AsksOne old new name = new.asked ≡ with_name old.asked name

-- the names of before, where they are known, with those of these files behind them
abbrev pub with_names : Option (List (List ℕ)) → List File → Option (List (List ℕ))
with_names names [] = names
with_names names (file ∷ files) = with_names (with_name names file.name) files

-- the first `count` files are asked for, in order, and no other
abbrev pub AsksFirst : FilesState → FilesState → List File → ℕ → Type 0
AsksFirst old new files count = new.asked ≡ with_names old.asked (take count files)

-- all files are asked for, in order, and no other
abbrev pub AsksAll : FilesState → FilesState → List File → Type 0
AsksAll old new files = AsksFirst old new files (length files)
