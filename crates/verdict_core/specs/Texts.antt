-- The texts of verdicts. Each line ends by a line feed, and numbers are unsigned decimal.
use Rattle.std.specs.Prelude.{ℕ, List, ◌++◌, map, flat_map, codes, decimal}
use Rattle.std.specs.List.{zip, enumerate_from, join_with_byte}
use Rattle.ops.specs.Number.{Number}
use Rattle.ops.specs.declared.value.Value.{Value}
use Rattle.ops.specs.declared.value.Value.TheVariants.{Poison, Bits}
use Rattle.ops.specs.declared.value.Effect.{Effect}
use Rattle.ops.specs.declared.value.Effect.TheVariants.{Undefined, Gives}
use Rattle.rule_core.specs.declared.rule.Rule.{Rule}
use Rattle.rule_core.specs.declared.example.Example.{Example}
use Rattle.verdict_core.specs.declared.verdicts.Verdict.{Verdict}
use Rattle.verdict_core.specs.declared.verdicts.Verdict.TheVariants.{Admitted, Refuted, WitnessFails, Budget}

-- a value: its number, or `poison`
unfoldable pub value_text : Value → List ℕ
value_text Poison = codes "poison"
value_text (Bits a) = decimal a.number

-- an effect: `undefined`, or the value that it gives
unfoldable pub effect_text : Effect → List ℕ
effect_text Undefined = codes "undefined"
effect_text (Gives v) = value_text v

-- the line of a name and its value: `NAME = V`
unfoldable pub line_text : List ℕ → Value → List ℕ
line_text name v = codes "  " ++ name ++ codes " = " ++ value_text v ++ codes "\n"

-- a line for each input: `%x = V`
unfoldable pub inputs_text : List (List ℕ) → List Value → List ℕ
inputs_text names values = flat_map (λ line. line_text (codes "%" ++ line.0) line.1) (zip names values)

-- a line for each constant: `C = V`
unfoldable pub constants_text : List (List ℕ) → List Number → List ℕ
constants_text names numbers = flat_map (λ line. line_text line.0 (Bits line.1)) (zip names numbers)

-- a line for each choice of a half, counted from 1 behind the half's letter: `t1 = V`
unfoldable pub choices_text : List ℕ → List Number → List ℕ
choices_text letter numbers = flat_map (λ line. line_text (letter ++ decimal line.0) (Bits line.1)) (enumerate_from 1 numbers)

-- the line of the effect of a half, the source or the target
unfoldable pub half_text : List ℕ → Effect → List ℕ
half_text half e = codes "  " ++ half ++ codes " " ++ effect_text e ++ codes "\n"

-- the lines of a counterexample of the rule: the values of its inputs, constants and choices, and the effects of both
-- halves
unfoldable pub example_text : Rule → Example → List ℕ
example_text rule e =
    inputs_text rule.inputs e.inputs
    ++ constants_text rule.constants e.constants
    ++ choices_text (codes "t") e.target_undefs
    ++ choices_text (codes "u") e.source_undefs
    ++ half_text (codes "source") e.source
    ++ half_text (codes "target") e.target

-- the word of the verdict, and behind it the lines of its counterexample where it has one
unfoldable pub answer_text : Rule → Verdict → List ℕ
answer_text rule Admitted = codes "admitted\n"
answer_text rule (Refuted e) = codes "refuted\n" ++ example_text rule e
answer_text rule (WitnessFails e) = codes "witness fails\n" ++ example_text rule e
answer_text rule (Budget t) = codes "budget\n"

-- the text of a verdict: `NAME [w ..]: ` with the widths of all classes in order, and then the verdict
unfoldable pub verdict_text : Rule → List ℕ → Verdict → List ℕ
verdict_text rule typing verdict =
    rule.name ++ codes " [" ++ join_with_byte 32 (map decimal typing) ++ codes "]: " ++ answer_text rule verdict

-- the line of a rule that has too many typings
unfoldable pub too_many_text : Rule → List ℕ
too_many_text rule = rule.name ++ codes ": too many typings\n"
