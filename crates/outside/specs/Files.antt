-- What contracts know of files, and what a call of `read` does to it.
use Rattle.std.specs.Prelude.{◌≡◌, ℕ, ◌≤◌, List, [], ◌∷◌, ◌++◌, Option, option_map, Result, Ok, Err}
use Rattle.outside.specs.declared.errors.ReadError.{ReadError}
use Rattle.outside.specs.declared.errors.ReadError.TheVariants.{Failed, NoMemory}

pub record FilesState : Type 0 where
  -- the bytes under each name, where the implementation tells them
  pub told : List ℕ → Option (List ℕ)
  -- the names asked for so far, in order, where the implementation tells them
  pub asked : Option (List (List ℕ))
  -- how many faults there were; the count saturates at 2 ^ 64 - 1
  pub faults : ℕ

-- The bytes that are told under each name stay the same, and the count of faults does not fall.
pub record FilesFollow (old new : FilesState) : Type 0 where
  pub told : new.told ≡ old.told
  pub faults : old.faults ≤ new.faults

-- the names asked for, where they are told, with one more at the end
abbrev pub with_name : Option (List (List ℕ)) → List ℕ → Option (List (List ℕ))
with_name names name = option_map (λ told. told ++ name ∷ []) names

-- The names asked for after a read that returned this: each read that isn't refused memory adds its name.
abbrev pub names_after : {T : Type 0} → Result T ReadError → Option (List (List ℕ)) → List ℕ → Option (List (List ℕ))
names_after (Ok _) names name = with_name names name
names_after (Err Failed) names name = with_name names name
names_after (Err NoMemory) names name = names
