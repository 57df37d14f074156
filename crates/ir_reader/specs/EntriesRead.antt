-- How far a text is read, entry by entry.
use Rattle.std.specs.Prelude.{◌↔◌, ℕ, Bool, true, false, List, [], ◌∷◌, ◌++◌}
use Rattle.ir_tokens.specs.declared.reader.TokenReader.{TokenReader}
use Rattle.ir_tokens.specs.declared.raw.RawEntry.{RawEntry}
use Rattle.ir_tokens.specs.Order.{AreTokens}
use Rattle.ir_tokens.specs.ReaderPlaces.{HasPassed}
use Rattle.ir_tokens.specs.Tokens.{Placed}
use Rattle.ir_instructions.specs.Parts.{Each}
use Rattle.ir_parse.specs.Grammar.{SpellsEntry}
use Rattle.ir_parse.specs.Text.{IsRaw}
use Rattle.ir_resolve.specs.FaultKinds.{HasNameOf}
use Rattle.ir_reader.specs.declared.reading.Reading.{Reading}
use Rattle.ir_reader.specs.declared.reading.Reading.TheVariants as readings
use Rattle.ir_reader.specs.Faults.{functions_of, AreEntriesOf, IsFaultOfEntries}
use Rattle.ir_reader.specs.RepeatedNames.{HasText}

-- the reader has passed these entries, which stand in front of the text, whatever follows them
pub record HasRead (text : List ℕ) (front : List RawEntry) (reader : TokenReader) : Type 0 where
  pub tokens : List Placed
  pub passed : HasPassed text tokens reader
  pub spelled : (rest : List Placed) → Each SpellsEntry front (tokens ++ rest) rest

-- the text begins with these entries, and behind them these tokens are left
pub record HasLeft (text : List ℕ) (front : List RawEntry) (left : List Placed) : Type 0 where
  pub tokens : List Placed
  pub are_tokens : AreTokens text tokens
  pub spelled : Each SpellsEntry front tokens left

-- the entries as written mean the entries that were read, and these are the names of their functions; or the fault is
-- their first
abbrev pub IsReadingOf : List RawEntry → Reading → Type 0
IsReadingOf written (readings.Faultless read names) =
    AreEntriesOf written read × ((name : List ℕ) → HasText names name ↔ HasNameOf (functions_of written) name)
IsReadingOf written (readings.Faulty fault) = IsFaultOfEntries written fault

-- if these tokens are one entry, it was read behind those in front; if not, nothing was
abbrev pub Continues : List RawEntry → List Placed → Bool → Reading → Type 0
Continues front tokens true read = (e : RawEntry) × SpellsEntry e tokens [] × IsReadingOf (front ++ e ∷ []) read
Continues front tokens false read = IsReadingOf front read

-- the text spells entries as written, of which this is the reading
abbrev pub IsReadingOfText : List ℕ → Reading → Type 0
IsReadingOfText text reading = (written : List RawEntry) × IsRaw text (record { entries = written }) × IsReadingOf written reading
