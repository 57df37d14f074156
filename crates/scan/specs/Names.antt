-- The rest of a line, as the name of a rule is written.
use Rattle.std.specs.Prelude.{◌≡◌, ℕ, ◌+◌, ◌-◌, ◌==◌, Bool, false, true, not, ◌||◌, List, length, drop, max, take_while}
use Rattle.std.specs.List.{list_any, prefix_len, suffix_len}
use Rattle.scan.specs.declared.span.Span.{Span}
use Rattle.scan.specs.Bytes.{is_blank, is_bad}
use Rattle.scan.specs.Lines.{line_of}

-- the byte is neither a line feed nor the `;` of a comment, so that the rest of the line goes on behind it
unfoldable pub is_in_rest : ℕ → Bool
is_in_rest b = not ((b == 10) || (b == 59))

-- the rest of the line from a place on, without its comment
abbrev pub rest_of_line : List ℕ → ℕ → List ℕ
rest_of_line text place = take_while is_in_rest (drop place text)

-- how many blanks a text begins with, and ends with
abbrev pub blanks_before : List ℕ → ℕ
blanks_before text = prefix_len is_blank text

abbrev pub blanks_behind : List ℕ → ℕ
blanks_behind text = suffix_len is_blank text

-- The name is the rest of the line without the blanks at its ends. If that is empty, it stands behind the blanks.
pub record IsNameNext (text : List ℕ) (place : ℕ) (name : Span) : Type 0 where
  pub printable : list_any is_bad (rest_of_line text place) ≡ false
  pub start : name.start ≡ place + blanks_before (rest_of_line text place)
  pub end : name.end ≡ max name.start (place + (length (rest_of_line text place) - blanks_behind (rest_of_line text place)))

-- the rest of the line has an invalid byte
pub record IsBadInRest (text : List ℕ) (place line : ℕ) : Type 0 where
  pub bad : list_any is_bad (rest_of_line text place) ≡ true
  pub line_is : line ≡ line_of text place
