-- The gap at the start of a text, as functions on lists.
use Rattle.std.specs.Prelude.{ℕ, ◌==◌, ◌||◌, Bool, true, false, if◌then◌else◌, List, [], ◌∷◌}
use Rattle.scan.specs.Bytes.{is_space}

-- a gap, or a comment in it, may begin with this byte
abbrev pub in_gap : ℕ → Bool
in_gap b = is_space b || (b == 59)

-- what follows the blanks, line feeds and comments at the start of the text; a comment is open there or not
abbrev pub behind_gap : Bool → List ℕ → List ℕ
behind_gap in_comment [] = []
behind_gap true (b ∷ bytes) = if b == 10 then behind_gap false bytes else behind_gap true bytes
behind_gap false (b ∷ bytes) =
    if b == 59 then behind_gap true bytes else (if is_space b then behind_gap false bytes else b ∷ bytes)
