-- What the literals of an operand and of an effect stand for, once each literal has a value.
use Rattle.std.specs.Prelude.{ℕ, Bool, if◌then◌else◌, List, length, map}
use Rattle.std.specs.List.{All}
use Rattle.ops.specs.declared.value.Value.{Value}
use Rattle.ops.specs.declared.value.Value.TheVariants.{Poison}
use Rattle.ops.specs.declared.value.Effect.{Effect}
use Rattle.ops.specs.declared.value.Effect.TheVariants.{Undefined, Gives}
use Rattle.ops.specs.Integer.{bits}
use Rattle.circuits.specs.Word.{number_of}
use Rattle.blast_value.specs.declared.held.Held.{Held}
use Rattle.blast_value.specs.declared.held.Blasted.{Blasted}

-- an operand's value: poison where its poison bit is true, and else the number of its bits, at their width
abbrev pub held_value : {L : Type 0} → (L → Bool) → Held L → Value
held_value value held = if value held.poison then Poison else bits (length held.bits) (number_of value held.bits)

-- an effect: undefined behaviour where its undefined bit is true, and else the value of its other two parts
abbrev pub effect_of : {L : Type 0} → (L → Bool) → Blasted L → Effect
effect_of value made =
    if value made.undefined then Undefined else Gives (held_value value (record { bits = made.bits; poison = made.poison }))

-- the widths of operands
abbrev pub widths_of : {L : Type 0} → List (Held L) → List ℕ
widths_of operands = map (λ held. length held.bits) operands

-- the literals of an operand, or of an effect, are a circuit's own
pub record IsOwn {L : Type 0} (has_literal : L → Type 0) (held : Held L) : Type 0 where
  pub bits : All has_literal held.bits
  pub poison : has_literal held.poison

pub record IsOwnEffect {L : Type 0} (has_literal : L → Type 0) (made : Blasted L) : Type 0 where
  pub bits : All has_literal made.bits
  pub poison : has_literal made.poison
  pub undefined : has_literal made.undefined
