-- The first line of which something holds.
use Rattle.std.specs.Prelude.{ℕ, ◌≤◌, nat_le, if◌then◌else◌, List, Option, None, Some, Contains}

-- the least line of which something holds
abbrev pub IsFirstLine : (ℕ → Type 0) → ℕ → Type 0
IsFirstLine Holds line = Holds line × ((other : ℕ) → Holds other → line ≤ other)

-- the least line of which something holds, if there is one
abbrev pub IsFirst : (ℕ → Type 0) → Option ℕ → Type 0
IsFirst Holds None = (line : ℕ) → ¬ Holds line
IsFirst Holds (Some line) = IsFirstLine Holds line

-- for one of these items it holds of the line
abbrev pub SomeAt : {X : Type 0} → List X → (X → ℕ → Type 0) → ℕ → Type 0
SomeAt {X} xs Holds line = (x : X) × Contains xs x × Holds x line

-- the lesser of two lines if both are there, and else the one that is there
abbrev pub lesser : Option ℕ → Option ℕ → Option ℕ
lesser None other = other
lesser (Some line) None = Some line
lesser (Some line) (Some other) = Some (if nat_le line other then line else other)
