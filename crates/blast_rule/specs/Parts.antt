-- What the literals of a rule's circuit are and stand for.
use Rattle.std.specs.Prelude.{◌≡◌, ℕ, List, length}
use Rattle.std.specs.List.{All}
use Rattle.ops.specs.Number.{Number}
use Rattle.ops.specs.declared.value.Effect.{Effect}
use Rattle.rule_core.specs.declared.rule.Rule.{Rule}
use Rattle.rule_core.specs.Valid.{Setting, IsCounterexample}
use Rattle.blast_value.specs.Effect.{IsOwnEffect}
use Rattle.blast_rule.specs.declared.rule_bits.RuleBits.{RuleBits}
-- the number that a word of literals stands for, of the word's width
pub use Rattle.blast_value.specs.Words.{number_held}

-- the setting is a counterexample, for some choices of `Wit:` and some effects of the two halves
abbrev pub Refutes : Rule → List ℕ → Setting → Type 0
Refutes rule typing setting =
    (choices : List Number) × (source : Effect) × (target : Effect) × IsCounterexample rule typing setting choices source target

-- all the literals are a circuit's own
pub record AreOwn {L : Type 0} (has_literal : L → Type 0) (made : RuleBits L) : Type 0 where
  pub bad : has_literal made.bad
  pub choices : All (All has_literal) made.choices
  pub source : IsOwnEffect has_literal made.source
  pub target : IsOwnEffect has_literal made.target

-- the words of both effects have this width
pub record HaveWidth {L : Type 0} (N : ℕ) (made : RuleBits L) : Type 0 where
  pub source : length made.source.bits ≡ N
  pub target : length made.target.bits ≡ N
