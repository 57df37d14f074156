-- Tokens that depend on their context: kept lines between the entries of a module, and kept groups in functions.
use Rattle.std.specs.Prelude.{ℕ, ◌==◌, Bool, false, not, ◌&&◌, ◌||◌, if◌then◌else◌, List, [], ◌∷◌, Option, Some, None, codes}
use Rattle.std.specs.List.{list_any}
use Rattle.std.specs.Str.{bytes_eq}
use Rattle.scan.specs.Bytes.{begins_with}
use Rattle.ir_tokens.specs.declared.place.Section.{Section}
use Rattle.ir_tokens.specs.declared.place.Section.TheVariants.{AtEntry, InHeader, InBody}
use Rattle.ir_tokens.specs.declared.place.Extent.{Extent}
use Rattle.ir_tokens.specs.declared.place.Extent.TheVariants.{Itself, Line, Group}
use Rattle.ir_tokens.specs.Tokens.{Placed, Word, Mark}

-- the words that begin a kept line
abbrev pub kept_words : List (List ℕ)
kept_words = codes "source_filename" ∷ codes "target" ∷ codes "attributes" ∷ codes "declare" ∷ []

-- a token with these bytes may begin a kept line: it is one of those words, or begins with `!` or `$`
unfoldable pub begins_kept : List ℕ → Bool
begins_kept bytes = list_any (bytes_eq bytes) kept_words || begins_with (λ b. (b == 33) || (b == 36)) bytes

-- there is a token before, and it is on this line
abbrev pub is_on : ℕ → Option ℕ → Bool
is_on line None = false
is_on line (Some before) = before == line

-- How far the token extends that stands on a line and has these bytes by itself. Between entries, a token that is the
-- first on its line and may begin a kept line is that whole line. In a function, a `(` behind a word on the same line
-- is the group in these brackets.
unfoldable pub extent_of : Section → ℕ → List ℕ → Extent
extent_of (AtEntry before) line bytes = if begins_kept bytes && not (is_on line before) then Line else Itself
extent_of (InHeader word) line bytes = if bytes_eq bytes (codes "(") && is_on line word then Group else Itself
extent_of (InBody word) line bytes = if bytes_eq bytes (codes "(") && is_on line word then Group else Itself

-- The context behind a token. The word `define` between entries begins a header, `{` ends the header and begins the
-- body, and `}` ends the body.
abbrev pub place_behind : Section → Placed → Section
place_behind (AtEntry before) (line, Word text) = if bytes_eq text (codes "define") then InHeader (Some line) else AtEntry (Some line)
place_behind (AtEntry before) (line, token) = AtEntry (Some line)
place_behind (InHeader word) (line, Word text) = InHeader (Some line)
place_behind (InHeader word) (line, Mark byte) = if byte == 123 then InBody None else InHeader None
place_behind (InHeader word) (line, token) = InHeader None
place_behind (InBody word) (line, Word text) = InBody (Some line)
place_behind (InBody word) (line, Mark byte) = if byte == 125 then AtEntry (Some line) else InBody None
place_behind (InBody word) (line, token) = InBody None
