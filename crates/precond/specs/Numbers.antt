-- Values that are numbers.
use Rattle.std.specs.Prelude.{◌≡◌, ℕ, List, Option, None, Some, slice_get}
use Rattle.ops.specs.Number.{Number}
use Rattle.ops.specs.declared.value.Value.{Value}
use Rattle.ops.specs.declared.value.Value.TheVariants.{Poison, Bits}
use Rattle.rule_core.specs.Terms.{HasNumber}

-- the number that a value is, if it is one
abbrev pub number_in : Value → Option Number
number_in Poison = None
number_in (Bits a) = Some a

-- each of the values is a number
abbrev pub HaveNumbers : List Value → Type 0
HaveNumbers values = (n : ℕ) (v : Value) → slice_get values n ≡ Some v → HasNumber v
