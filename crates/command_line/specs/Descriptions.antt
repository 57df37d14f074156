-- What the code's descriptions of commands stand for.
use Rattle.std.specs.Prelude.{◌≡◌, true, false, List, [], map, fold}
use Rattle.clap.specs.Words.{App, Rule, Shape, Text, rule_of, with_subcommand}
use Rattle.clap.specs.Simple.{new_shape}
use Rattle.clap.specs.declared.builder.Arg.{Arg}
use Rattle.command_line.specs.declared.descriptions.Argument.{Argument}
use Rattle.command_line.specs.declared.descriptions.Described.{Described}
use Rattle.command_line.specs.declared.descriptions.Kind.{Kind}
use Rattle.command_line.specs.declared.descriptions.Kind.TheVariants.{Required, RequiredNumber, Repeated, Optional, Defaulted, Number, Flag}
use Rattle.command_line.specs.Definition.{required_argument, required_number, repeated_argument, optional_argument, option_argument, number_argument, flag_argument, program}

-- the rule of an argument of this name and kind
abbrev pub rule_of_kind : Text → Kind → Rule
rule_of_kind name (Required shown) = required_argument name
rule_of_kind name (RequiredNumber shown most) = required_number name most
rule_of_kind name (Repeated shown) = repeated_argument name
rule_of_kind name (Optional shown) = optional_argument name
rule_of_kind name (Defaulted shown default) = option_argument name default.now
rule_of_kind name (Number most default) = number_argument name most default.now
rule_of_kind name Flag = flag_argument name

-- the rule of an argument
abbrev pub rule_described : Argument → Rule
rule_described argument = rule_of_kind argument.name.now argument.kind

-- the argument is the one that is described, and belongs to its own command alone
abbrev pub IsDescribedArgument : Argument → Arg → Type 0
IsDescribedArgument described argument = (rule_of argument ≡ rule_described described) × (argument.global ≡ false)

-- the shape of a command: its name, and its arguments in order
abbrev pub shape_described : Described → Shape
shape_described command = record (new_shape command.name.now) { rules = map rule_described command.arguments.now }

-- the program with these commands, in order
abbrev pub app_described : List Described → App
app_described commands =
    let alone : App = record { top = record program.top { is_leaf = true }; subs = [] } in
    fold (λ app command. with_subcommand app (shape_described command)) alone commands
