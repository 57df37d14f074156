-- Tokens of the code as contracts see them, without where their bytes lie in memory.
use Rattle.std.specs.Prelude.{List, map}
use Rattle.ir_tokens.specs.declared.token.Token.{Token as Scanned}
use Rattle.ir_tokens.specs.declared.token.Token.TheVariants as scanned
use Rattle.ir_tokens.specs.declared.token.Placed.{Placed as ScannedPlaced}
use Rattle.ir_tokens.specs.Tokens.{Token, Placed, End, Other, Bad, Kept, KeptGroup, Label, Word, Number, Register, Function, Group, Metadata, Quoted, Mark}

abbrev pub seen_token : Scanned → Token
seen_token scanned.End = End
seen_token scanned.Other = Other
seen_token scanned.Bad = Bad
seen_token (scanned.Kept text) = Kept text.now
seen_token (scanned.KeptGroup text) = KeptGroup text.now
seen_token (scanned.Label text) = Label text.now
seen_token (scanned.Word text) = Word text.now
seen_token (scanned.Number text) = Number text.now
seen_token (scanned.Register text) = Register text.now
seen_token (scanned.Function text) = Function text.now
seen_token (scanned.Group text) = Group text.now
seen_token (scanned.Metadata text) = Metadata text.now
seen_token (scanned.Quoted text) = Quoted text.now
seen_token (scanned.Mark byte) = Mark byte

-- a token with its line
abbrev pub seen_placed : ScannedPlaced → Placed
seen_placed placed = (placed.line, seen_token placed.token)

-- a list of tokens
abbrev pub seen : List ScannedPlaced → List Placed
seen tokens = map seen_placed tokens
