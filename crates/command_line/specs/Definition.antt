-- The definition of the command line, as the model of `clap` has it.
use Rattle.std.specs.Prelude.{ℕ, true, false, [], ◌∷◌, Some, codes, decimal}
use Rattle.clap.specs.Words.{App, Rule, Shape, Text, new_rule}
use Rattle.clap.specs.Simple.{new_shape}
use Rattle.clap.specs.declared.builder.action.ArgAction.TheVariants.{Append, SetTrue}
use Rattle.clap.specs.declared.builder.value_parser.ValueParser.TheVariants.{Unsigned}
use Rattle.command_line.specs.Limits.{most_conflicts, most_steps, most_blocks, most_number, default_conflicts, default_steps}

-- a positional argument that has to be given
abbrev pub required_argument : Text → Rule
required_argument name = record (new_rule name) { value_names = 1; required = true }

-- such an argument that is a number from 0 to `most`
abbrev pub required_number : Text → ℕ → Rule
required_number name most = record (required_argument name) { parser = Some (Unsigned 0 most) }

-- all further positional arguments, of which there may be none
abbrev pub repeated_argument : Text → Rule
repeated_argument name = record (new_rule name) { value_names = 1; action = Some Append }

-- an option `--NAME` with a value, which may be left out
abbrev pub optional_argument : Text → Rule
optional_argument name = record (new_rule name) { long = Some name; value_names = 1 }

-- an option `--NAME` with a value, and its default
abbrev pub option_argument : Text → Text → Rule
option_argument name default = record (optional_argument name) { defaults = default ∷ [] }

-- an option `--NAME` with a number from 0 to `most`, and its default
abbrev pub number_argument : Text → ℕ → Text → Rule
number_argument name most default = record (option_argument name default) { parser = Some (Unsigned 0 most) }

-- a flag `--NAME`
abbrev pub flag_argument : Text → Rule
flag_argument name = record (new_rule name) { long = Some name; action = Some SetTrue }

abbrev pub rules_argument : Rule
rules_argument = required_argument (codes "rules")

abbrev pub module_argument : Rule
module_argument = required_argument (codes "module")

abbrev pub widths_argument : Rule
widths_argument = option_argument (codes "widths") (codes "1-8,16,32,64")

abbrev pub conflicts_argument : Rule
conflicts_argument = number_argument (codes "conflicts") most_conflicts (decimal default_conflicts)

abbrev pub steps_argument : Rule
steps_argument = number_argument (codes "steps") most_steps (decimal default_steps)

abbrev pub name_argument : Rule
name_argument = required_argument (codes "name")

abbrev pub arguments_argument : Rule
arguments_argument = repeated_argument (codes "arguments")

abbrev pub blocks_argument : Rule
blocks_argument = number_argument (codes "blocks") most_blocks (codes "1000000")

abbrev pub logs_flag : Rule
logs_flag = flag_argument (codes "logs")

abbrev pub logs_argument : Rule
logs_argument = required_argument (codes "logs")

abbrev pub logs_option : Rule
logs_option = optional_argument (codes "logs")

abbrev pub fold_flag : Rule
fold_flag = flag_argument (codes "fold")

abbrev pub across_flag : Rule
across_flag = flag_argument (codes "across")

-- `verify RULES [--widths LIST] [--conflicts N] [--logs]`
abbrev pub verify_shape : Shape
verify_shape = record (new_shape (codes "verify")) {
  rules = rules_argument ∷ widths_argument ∷ conflicts_argument ∷ logs_flag ∷ [];
}

-- `optimise RULES MODULE [--conflicts N] [--steps N] [--logs LOGS] [--fold] [--across]`
abbrev pub optimise_shape : Shape
optimise_shape = record (new_shape (codes "optimise")) {
  rules = rules_argument ∷ module_argument ∷ conflicts_argument ∷ steps_argument ∷ logs_option ∷ fold_flag ∷ across_flag ∷ [];
}

-- `run [--blocks N] MODULE NAME [ARG..]`
abbrev pub run_shape : Shape
run_shape = record (new_shape (codes "run")) {
  rules = module_argument ∷ name_argument ∷ arguments_argument ∷ blocks_argument ∷ [];
}

-- `load NUMBER`
abbrev pub load_shape : Shape
load_shape = record (new_shape (codes "load")) {
  rules = required_number (codes "number") most_number ∷ [];
}

-- `recheck RULES LOGS [--conflicts N]`
abbrev pub recheck_shape : Shape
recheck_shape = record (new_shape (codes "recheck")) {
  rules = rules_argument ∷ logs_argument ∷ conflicts_argument ∷ [];
}

-- the program, which has to be given one of these commands
abbrev pub program : App
program = record {
  top = record (new_shape (codes "alive")) {
    is_leaf = false;
    has_version = true;
    disable_help_subcommand = true;
    subcommand_required = true;
  };
  subs = verify_shape ∷ optimise_shape ∷ run_shape ∷ load_shape ∷ recheck_shape ∷ [];
}
