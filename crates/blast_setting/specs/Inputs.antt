-- The inputs of a rule's circuit at a typing, truth values: those of the value of each of the rule's inputs, then those
-- of the number of each constant, and then those of the number of each choice of the target.
use Rattle.std.specs.Prelude.{ℕ, ◌+◌, ◌==◌, Bool, false, List, length, map, sum_by, slice_index}
use Rattle.std.specs.List.{find, range_with_len}
use Rattle.std.specs.Option.{option_map_or}
use Rattle.rule_core.specs.declared.rule.Rule.{Rule}
use Rattle.rule_core.specs.declared.rule.Statement.{Statement}
use Rattle.rule_core.specs.declared.rule.Argument.{Argument}
use Rattle.rule_core.specs.declared.rule.Argument.TheVariants as arguments
use Rattle.rule_core.specs.declared.rule.Register.TheVariants as registers
use Rattle.rule_core.specs.declared.rule.Choice.{Choice}
use Rattle.rule_core.specs.Positions.{operands_among, choices_among}
use Rattle.blast_setting.specs.declared.named.Kind.{Kind}
use Rattle.blast_setting.specs.declared.named.Kind.TheVariants.{Input, Constant}

-- how an operand reads the k-th input or the k-th constant
abbrev pub argument_of : Kind → ℕ → Argument
argument_of Input k = arguments.Register (registers.Input k)
argument_of Constant k = arguments.Constant k

-- whether the argument reads it
abbrev pub names : Kind → ℕ → Argument → Bool
names Input k (arguments.Register (registers.Input i)) = i == k
names Constant k (arguments.Constant i) = i == k
names kind k argument = false

-- the width of the first operand of the statements that reads the k-th of the kind; 0 where none does
abbrev pub named_width : List ℕ → List Statement → Kind → ℕ → ℕ
named_width typing statements kind k =
    option_map_or (λ o. slice_index typing o.class) (find (λ o. names kind k o.value) (operands_among statements)) 0

-- the widths of the first `count` inputs, or constants
abbrev pub named_widths : List ℕ → List Statement → Kind → ℕ → List ℕ
named_widths typing statements kind count = map (named_width typing statements kind) (range_with_len 0 count)

-- the widths of choices, those of their classes
abbrev pub widths_chosen : List ℕ → List Choice → List ℕ
widths_chosen typing choices = map (λ c. slice_index typing c.class) choices

-- the widths of a rule's inputs, of its constants and of the choices of its target, in order
abbrev pub input_widths : Rule → List ℕ → List ℕ
input_widths rule typing = named_widths typing rule.source Input (length rule.inputs)

abbrev pub constant_widths : Rule → List ℕ → List ℕ
constant_widths rule typing = named_widths typing rule.source Constant (length rule.constants)

abbrev pub choice_widths : Rule → List ℕ → List ℕ
choice_widths rule typing = widths_chosen typing (choices_among rule.target)

-- how many truth values a value of iN is read from, those of its number and its poison bit, and how many a number of iN
abbrev pub value_bits : ℕ → ℕ
value_bits N = N + 1

abbrev pub number_bits : ℕ → ℕ
number_bits N = N

-- how many inputs the circuit has
abbrev pub input_bits : Rule → List ℕ → ℕ
input_bits rule typing =
    sum_by value_bits (input_widths rule typing) + sum_by number_bits (constant_widths rule typing) + sum_by number_bits (choice_widths rule typing)
