-- What holds of each token of a text: its bytes have the form of its kind.
use Rattle.ir_round_trip.proofs.Common.{◌≡◌, true, List, [], ◌∷◌, HoldsZero, is_group, is_word, is_quoted, Identifier, Named, Numbered, identifier_of, Placed, Token, End, Other, Bad, Kept, KeptGroup, Label, Word, Group, Metadata, Quoted, Mark, IsGroupText, IsName, IsKeptText}
use Rattle.ir_tokens.specs.Numbers.{is_number}
use Rattle.ir_tokens.specs.Tokens.{Number, Register, Function}

-- if the identifier is a name, it has its form
abbrev pub CalledFormed : Identifier → Type 0
CalledFormed (Named name) = IsName name
CalledFormed (Numbered n) = Unit {0}

abbrev pub TokenFormed : Token → Type 0
TokenFormed End = Unit {0}
TokenFormed Other = Unit {0}
TokenFormed Bad = Unit {0}
TokenFormed (Kept text) = IsKeptText text
TokenFormed (KeptGroup text) = IsGroupText text
TokenFormed (Label written) = CalledFormed (identifier_of written)
TokenFormed (Word text) = is_word text ≡ true
TokenFormed (Number text) = is_number text ≡ true
TokenFormed (Register written) = CalledFormed (identifier_of written)
TokenFormed (Function written) = CalledFormed (identifier_of written)
TokenFormed (Group text) = is_group text ≡ true
TokenFormed (Metadata text) = Unit {0}
TokenFormed (Quoted text) = (is_quoted text ≡ true) × ¬ HoldsZero text
TokenFormed (Mark byte) = Unit {0}

-- each of these tokens has its form
abbrev pub Formed : List Placed → Type 0
Formed [] = Unit {0}
Formed (t ∷ tokens) = TokenFormed t.1 × Formed tokens
