-- Text that is kept as it is written: the rest of a line, and what brackets hold.
use Rattle.std.specs.Prelude.{◌≡◌, ℕ, ◌+◌, ◌-◌, ◌≤◌, ◌==◌, Bool, true, not, ◌||◌, List, [], ◌∷◌, ◌++◌, length, drop, take_while}
use Rattle.std.specs.List.{list_all}
use Rattle.scan.specs.declared.span.Span.{Span}
use Rattle.scan.specs.Lines.{between}
use Rattle.scan.specs.Names.{blanks_behind}
use Rattle.scan.specs.Quoted.{is_quotable}

-- ---- lines

-- the rest of the line from a place on, its comment with it
abbrev pub rest_to_feed : List ℕ → ℕ → List ℕ
rest_to_feed text place = take_while (λ b. not (b == 10)) (drop place text)

-- The kept line goes from the place to the last byte of the line that is no blank. If all are blanks it is empty.
pub record IsKeptLine (text : List ℕ) (place : ℕ) (line : Span) : Type 0 where
  pub start : line.start ≡ place
  pub end : line.end ≡ place + (length (rest_to_feed text place) - blanks_behind (rest_to_feed text place))

-- ---- groups

-- neither a bracket, a quote nor a line feed
unfoldable pub is_plain : ℕ → Bool
is_plain b = not ((b == 40) || (b == 41) || (b == 34) || (b == 10))

-- The bytes have `(` and `)` in pairs, outside quoted texts, and no line feed: nothing; or a byte that is no bracket, a
-- quoted text, or such bytes between brackets, and such bytes behind it.
pub data IsBalanced : List ℕ → Type 0 where
  nothing : IsBalanced []
  byte : {b : ℕ} {rest : List ℕ} → is_plain b ≡ true → IsBalanced rest → IsBalanced (b ∷ rest)
  quoted : {bytes : List ℕ} (inner rest : List ℕ) → bytes ≡ inner ++ 34 ∷ rest → list_all is_quotable inner ≡ true → IsBalanced rest → IsBalanced (34 ∷ bytes)
  group : {bytes : List ℕ} (content rest : List ℕ) → bytes ≡ content ++ 41 ∷ rest → IsBalanced content → IsBalanced rest → IsBalanced (40 ∷ bytes)

-- The span begins at the place, which is behind a `(`, and its bytes are balanced ones and the `)` that closes it.
pub record IsGroup (text : List ℕ) (place : ℕ) (span : Span) : Type 0 where
  pub start : span.start ≡ place
  pub within : span.end ≤ length text
  pub content : List ℕ
  pub balanced : IsBalanced content
  pub bytes : between text place span.end ≡ content ++ 41 ∷ []

-- no `)` on the line closes the `(` before the place
abbrev pub HasNoGroup : List ℕ → ℕ → Type 0
HasNoGroup text place = (span : Span) → ¬ IsGroup text place span
