-- Words, strings of bytes that are added at the end, and what they are read as.
use Rattle.std.specs.Prelude.{◌≡◌, ℕ, List, ◌++◌}
use Rattle.packed_log.specs.Numbers.{first_number, behind_number, behind_list}
use Rattle.packed_log.specs.Steps.{first_hints, HintsFit}

-- a word with the property P is added at the end
abbrev pub Adds : (List ℕ → Type 0) → List ℕ → List ℕ → Type 0
Adds P old new = (word : List ℕ) × (new ≡ old ++ word) × P word

-- the word is read as exactly this number, whatever bytes follow it
pub record IsNumber (number : ℕ) (word : List ℕ) : Type 0 where
  pub first : (rest : List ℕ) → first_number (word ++ rest) ≡ number
  pub behind : (rest : List ℕ) → behind_number (word ++ rest) ≡ rest

-- the word is read as exactly these hints, whatever bytes follow it
pub record AreHints (hints word : List ℕ) : Type 0 where
  pub first : (rest : List ℕ) → first_hints (word ++ rest) ≡ hints
  pub behind : (rest : List ℕ) → behind_list (word ++ rest) ≡ rest
  pub fit : (rest : List ℕ) → HintsFit (word ++ rest)
