-- What a word of literals stands for.
use Rattle.std.specs.Prelude.{Bool, List, length}
use Rattle.ops.specs.Number.{Number}
use Rattle.ops.specs.Integer.{bits}
use Rattle.ops.specs.declared.value.Value.{Value}
use Rattle.circuits.specs.Word.{number_of}

-- the number of a word, at the word's width
abbrev pub number_held : {L : Type 0} → (L → Bool) → List L → Number
number_held value word = record { width = length word; number = number_of value word }

-- the value of a word that isn't poison
abbrev pub word_value : {L : Type 0} → (L → Bool) → List L → Value
word_value value word = bits (length word) (number_of value word)
