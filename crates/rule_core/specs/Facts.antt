-- What members of `Pre:` say of the bits of registers. It is known where a rule is applied, and a premise where a rule
-- is decided.
use Rattle.std.specs.Prelude.{ℕ, Bool, true, not, ◌==◌, bit_and, IsTrue, List, map, slice_index}
use Rattle.std.specs.List.{list_all}
use Rattle.std.specs.Option.{unwrap_or}
use Rattle.ops.specs.Number.{Number}
use Rattle.ops.specs.declared.value.Value.{Value}
use Rattle.ops.specs.declared.value.Value.TheVariants.{Poison, Bits}
use Rattle.rule_core.specs.declared.rule.Rule.{Rule}
use Rattle.rule_core.specs.declared.rule.Formula.{Formula}
use Rattle.rule_core.specs.declared.rule.Formula.TheVariants as formulas
use Rattle.rule_core.specs.Run.{Held, Holds, value_of, TemporariesEnd}
use Rattle.rule_core.specs.Terms.{number_or_zero, constant_values}

-- no bit is set that is set in the mask; poison has none
abbrev pub has_no_bit_of : ℕ → Value → Bool
has_no_bit_of mask Poison = true
has_no_bit_of mask (Bits a) = bit_and a.number mask == 0

-- the value isn't 0, which poison isn't
abbrev pub is_not_zero : Value → Bool
is_not_zero Poison = true
is_not_zero (Bits a) = not (a.number == 0)

-- what the node says of a register's bits, where registers hold these values and terms have these numbers; other nodes
-- say nothing of bits
abbrev pub fact_holds : Held → List ℕ → Formula → Bool
fact_holds held numbers (formulas.MaskedValueIsZero r a) = has_no_bit_of (slice_index numbers a) (unwrap_or (value_of held r) Poison)
fact_holds held numbers (formulas.IsKnownNonZero r) = is_not_zero (unwrap_or (value_of held r) Poison)
fact_holds held numbers formula = true

abbrev pub facts_hold : Held → List ℕ → List Formula → Bool
facts_hold held numbers precondition = list_all (fact_holds held numbers) precondition

-- On these constants and inputs the source's temporaries keep what `Pre:` says of bits. Where one of them is undefined
-- behaviour the source is, and there is nothing to keep.
abbrev pub KeepsFacts : Rule → List ℕ → List Number → List Value → Type 0
KeepsFacts rule typing constants inputs =
    (held : Held) → TemporariesEnd typing constants rule inputs (Holds held)
    → IsTrue (facts_hold held (map number_or_zero (constant_values typing constants rule)) rule.precondition)
