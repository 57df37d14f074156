-- Which operands instructions take, and their effects.
use Rattle.std.specs.Prelude.{◌≡◌, ◌≤◌, ℕ, List, [], ◌∷◌}
use Rattle.ops.specs.declared.value.Value.{Value}
use Rattle.ops.specs.declared.value.Effect.{Effect}
use Rattle.ops.specs.declared.value.Effect.TheVariants.{Gives}
use Rattle.ops.specs.Value.{HasWidth}
use Rattle.ops.specs.Instruction.{instruction}
use Rattle.ops.specs.Comparison.{comparison, selection}
use Rattle.ops.specs.Conversion.{CastFits, conversion}
use Rattle.ops.specs.Unary.{unary}
use Rattle.blast_value.specs.declared.instruction.Instruction.{Instruction}
use Rattle.blast_value.specs.declared.instruction.Instruction.TheVariants.{Binary, Compare, Select, Convert, Unary}

-- an instruction with a result of iN takes operands of these widths
abbrev pub Takes : Instruction → ℕ → List ℕ → Type 0
Takes (Binary op flags) N widths = widths ≡ N ∷ N ∷ []
Takes (Compare pred samesign) N widths = (M : ℕ) × (1 ≤ M) × (widths ≡ M ∷ M ∷ []) × (N ≡ 1)
Takes Select N widths = widths ≡ 1 ∷ N ∷ N ∷ []
Takes (Convert cast flags) N widths = (M : ℕ) × (1 ≤ M) × (widths ≡ M ∷ []) × CastFits cast M N
Takes (Unary op truth) N widths = widths ≡ N ∷ []

-- An instruction with a result of iN has this effect on operands of these values; of a comparison or a cast, at each
-- width M that the values of its operands may have (poison has every width).
abbrev pub HasEffect : Instruction → ℕ → List Value → Effect → Type 0
HasEffect (Binary op flags) N (a ∷ b ∷ []) e = e ≡ instruction op flags N a b
HasEffect (Compare pred samesign) N (a ∷ b ∷ []) e =
    (M : ℕ) → HasWidth a M → HasWidth b M → e ≡ Gives (comparison pred samesign M a b)
HasEffect Select N (c ∷ a ∷ b ∷ []) e = e ≡ Gives (selection c a b)
HasEffect (Convert cast flags) N (a ∷ []) e = (M : ℕ) → HasWidth a M → e ≡ Gives (conversion cast flags M N a)
HasEffect (Unary op truth) N (a ∷ []) e = e ≡ Gives (unary op truth N a)
HasEffect what N values e = ⊥
