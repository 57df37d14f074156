-- What is known of bits where a rule may match, and what `Pre:` asks to be known of them.
use Rattle.std.specs.Prelude.{◌≡◌, ℕ, List, Contains, Option, None, Some, bit_and, map, option_map, slice_get, slice_index}
use Rattle.ir_core.specs.declared.function.Function.{Function}
use Rattle.ir_core.specs.declared.operand.Operand.{Operand}
use Rattle.ir_core.specs.declared.operand.Operand.TheVariants as operands
use Rattle.rule_core.specs.Terms.{number_or_zero, constant_values}
use Rattle.rule_core.specs.declared.rule.Formula.{Formula}
use Rattle.rule_core.specs.declared.rule.Formula.TheVariants as formulas
use Rattle.rule_core.specs.declared.rule.Register.{Register as Name}
use Rattle.rule_core.specs.declared.rule.Register.TheVariants as names
use Rattle.rule_core.specs.declared.rule.Rule.{Rule}
use Rattle.known_bits.specs.KnownBits.{known_at, known_operand}
use Rattle.known_bits.specs.Words.{known_of}
use Rattle.known_bits.specs.declared.facts.Facts.{Facts}
use Rattle.known_bits.specs.declared.words.Known.{Known}
use Rattle.bindings.specs.declared.binding.Binding.{Binding}

-- what is known of the bits of an operand at instruction k of block b
abbrev pub Knowledge : Type 0
Knowledge = ℕ → ℕ → Operand → Known

-- It is known by the instructions that stand before the place in its block. Where nothing is known, the width at which
-- the operand is read makes no difference to these two numbers.
abbrev pub known_in : Function → Knowledge
known_in f b k x = known_of (known_at f b k 0 x)

-- what is known by the results of one block
abbrev pub known_by : Facts → Knowledge
known_by facts b k x = known_of (known_operand facts.block facts.results 0 x)

-- what a register of the source stands for
abbrev pub operand_for : Binding → Name → Option Operand
operand_for binding (names.Input i) = slice_get binding.inputs i
operand_for binding (names.Source j) = option_map operands.Register (slice_get binding.statements j)
operand_for binding (names.Target j) = None

-- the number of a constant term, 0 where it has none
abbrev pub number_of_term : Rule → Binding → ℕ → ℕ
number_of_term rule binding n = slice_index (map number_or_zero (constant_values binding.typing binding.constants rule)) n

-- What a member of `Pre:` says of a register's bits follows from what is known of what the register stands for: each
-- bit of the mask is known to be 0; some bit is known to be 1. Other nodes say nothing of bits.
abbrev pub FactFollows : (Operand → Known) → Rule → Binding → Formula → Type 0
FactFollows known rule binding (formulas.MaskedValueIsZero r a) =
    (x : Operand) → operand_for binding r ≡ Some x → bit_and (number_of_term rule binding a) (known x).zeros ≡ number_of_term rule binding a
FactFollows known rule binding (formulas.IsKnownNonZero r) = (x : Operand) → operand_for binding r ≡ Some x → ¬ ((known x).ones ≡ 0)
FactFollows known rule binding formula = Unit {0}

-- the node says something of this register's bits, and a rule asks that of one
abbrev pub SaysOf : Name → Formula → Type 0
SaysOf r (formulas.MaskedValueIsZero q a) = q ≡ r
SaysOf r (formulas.IsKnownNonZero q) = q ≡ r
SaysOf r formula = ⊥

abbrev pub AsksBitsOf : Rule → Name → Type 0
AsksBitsOf rule r = (formula : Formula) × Contains rule.precondition formula × SaysOf r formula

-- one of these rules does
abbrev pub AskBits : List Rule → Type 0
AskBits rules = (i : ℕ) × (rule : Rule) × (r : Name) × (slice_get rules i ≡ Some rule) × AsksBitsOf rule r
