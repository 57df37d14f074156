-- The gaps between tokens, in modules and in rule files alike.
use Rattle.std.specs.Prelude.{◌≡◌, ◌≢◌, ℕ, true, ◌⊎◌, List, [], ◌∷◌, ◌++◌}
use Rattle.std.specs.List.{AllByRecursion}
use Rattle.scan.specs.Bytes.{is_space}

-- the text has no line feed
abbrev pub IsInLine : List ℕ → Type 0
IsInLine text = AllByRecursion (λ b. b ≢ 10) text

-- what may stand between two tokens: blanks, line feeds, and comments, which go from `;` to the end of their line
pub data IsGap : List ℕ → Type 0 where
  nothing : IsGap []
  space : {b : ℕ} {bytes : List ℕ} → is_space b ≡ true → IsGap bytes → IsGap (b ∷ bytes)
  comment : {bytes : List ℕ} (text rest : List ℕ) → bytes ≡ text ++ 10 ∷ rest → IsInLine text → IsGap rest → IsGap (59 ∷ bytes)

-- what may stand behind the last token: the same, and the text may end in a comment
abbrev pub IsLastGap : List ℕ → Type 0
IsLastGap bytes = IsGap bytes ⊎ ((gap : List ℕ) × (text : List ℕ) × IsGap gap × IsInLine text × (bytes ≡ gap ++ 59 ∷ text))
