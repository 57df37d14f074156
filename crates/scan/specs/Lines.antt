-- Parts of a text, and its lines. A place is a byte offset: the number of bytes before it.
use Rattle.std.specs.Prelude.{ℕ, ◌==◌, ◌+◌, ◌-◌, Bool, if◌then◌else◌, List, length, take, drop, slice_index}
use Rattle.std.specs.List.{count_by}

-- the bytes from one place to another
abbrev pub between : List ℕ → ℕ → ℕ → List ℕ
between text start end = take (end - start) (drop start text)

-- how many line feeds there are
abbrev pub feeds : List ℕ → ℕ
feeds text = count_by (λ b. b == 10) text

-- the line of a place: the number of line feeds before it, and one
abbrev pub line_of : List ℕ → ℕ → ℕ
line_of text place = feeds (take place text) + 1

-- the last byte is a line feed
abbrev pub ends_line : List ℕ → Bool
ends_line text = slice_index text (length text - 1) == 10

-- the last line, which is that of the end: a line feed at the end of the text ends the last line and begins none
abbrev pub last_line : List ℕ → ℕ
last_line text = if ends_line text then feeds text else feeds text + 1
