-- Words (lists of literals) of the widths of integer types.
use Rattle.std.specs.Prelude.{◌≤◌, List, length}

-- the word has from 1 to 64 bits
abbrev pub IsWide : {L : Type 0} → List L → Type 0
IsWide word = (1 ≤ length word) × (length word ≤ 64)
