-- Files in memory, by name.
use Rattle.std.specs.Prelude.{ℕ, List, [], Option, Some, option_map, unwrap_or, find, bytes_eq}
use Rattle.outside.specs.declared.stored_file.StoredFile.{StoredFile}

-- the bytes of the first file of this name
abbrev pub bytes_of : List StoredFile → List ℕ → Option (List ℕ)
bytes_of held name = option_map (λ file. file.bytes) (find (λ file. bytes_eq file.name name) held)

-- the same, but a name that nothing is held under has no bytes
abbrev pub bytes_or_none : List StoredFile → List ℕ → Option (List ℕ)
bytes_or_none held name = Some (unwrap_or (bytes_of held name) [])
