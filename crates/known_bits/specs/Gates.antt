-- Gates and shifts as the code names them.
use Rattle.std.specs.Prelude.{List}
use Rattle.circuits.specs.declared.known_bit.KnownBit.{KnownBit}
use Rattle.circuits.specs.declared.known_bit.KnownBit.TheVariants.{Zero}
use Rattle.circuits.specs.declared.shift.Direction.{Direction}
use Rattle.circuits.specs.declared.shift.Direction.TheVariants.{Up, Down}
use Rattle.circuits.specs.Kleene.{known_and, known_or, known_xor, known_agreed}
use Rattle.known_bits.specs.declared.bits.Gate.{Gate}
use Rattle.known_bits.specs.declared.bits.Gate.TheVariants.{And, Or, Xor, Agreed}
use Rattle.known_bits.specs.declared.instruction.Shift.{Shift}
use Rattle.known_bits.specs.declared.instruction.Shift.TheVariants.{Left, Right, SignedRight}
use Rattle.known_bits.specs.Words.{top_of}

abbrev pub gate_of : Gate → KnownBit → KnownBit → KnownBit
gate_of And = known_and
gate_of Or = known_or
gate_of Xor = known_xor
gate_of Agreed = known_agreed

abbrev pub direction_of : Shift → Direction
direction_of Left = Up
direction_of Right = Down
direction_of SignedRight = Down

-- what comes in at the places of a word that become free
abbrev pub fill_of : Shift → List KnownBit → KnownBit
fill_of Left word = Zero
fill_of Right word = Zero
fill_of SignedRight word = top_of word
