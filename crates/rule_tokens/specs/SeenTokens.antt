-- Tokens of the code, with their bytes in place of references into the text.
use Rattle.std.specs.Prelude.{List, map}
use Rattle.rule_tokens.specs.declared.token.Token.{Token as Scanned}
use Rattle.rule_tokens.specs.declared.token.Token.TheVariants as scanned
use Rattle.rule_tokens.specs.Tokens.{Token, Line, Head, Name, Register, Word, Opcode, Fact, Number, Arrow, Mark, Other, Bad, Excess}

abbrev pub seen_token : Scanned → Token
seen_token (scanned.Line number) = Line number
seen_token (scanned.Head text) = Head text.now
seen_token (scanned.Name text) = Name text.now
seen_token (scanned.Register name) = Register name.now
seen_token (scanned.Word text) = Word text.now
seen_token (scanned.Opcode text) = Opcode text.now
seen_token (scanned.Fact fact) = Fact fact
seen_token (scanned.Number text) = Number text.now
seen_token scanned.Arrow = Arrow
seen_token (scanned.Mark text) = Mark text.now
seen_token scanned.Other = Other
seen_token scanned.Bad = Bad
seen_token scanned.Excess = Excess

-- a list of them
abbrev pub seen : List Scanned → List Token
seen tokens = map seen_token tokens
