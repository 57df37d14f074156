-- Laws of all command lines.
use Rattle.std.specs.Prelude.{◌≡◌, List, map, option_map}
use Rattle.clap.specs.Words.{Text}
use Rattle.command_line.specs.Words.{Says}
use Rattle.command_line.specs.declared.command.Command.{Command}
use Rattle.command_line.specs.declared.command.Command.TheVariants.{Verify, Optimise, Run, Load, Recheck}

-- the commands are the same, with the same files, name, arguments, options and number
abbrev pub SameCommand : Command → Command → Type 0
SameCommand (Verify rules options) (Verify rules' options') = (rules.now ≡ rules'.now) × (options ≡ options')
SameCommand (Optimise rules source logs options) (Optimise rules' source' logs' options') =
    (rules.now ≡ rules'.now) × (source.now ≡ source'.now) × (option_map (λ name. name.now) logs ≡ option_map (λ name. name.now) logs') × (options ≡ options')
SameCommand (Run source name arguments options) (Run source' name' arguments' options') =
    (source.now ≡ source'.now) × (name.now ≡ name'.now) × (map (λ argument. argument.now) arguments ≡ map (λ argument. argument.now) arguments') × (options ≡ options')
SameCommand (Load number) (Load number') = number ≡ number'
SameCommand (Recheck rules logs options) (Recheck rules' logs' options') = (rules.now ≡ rules'.now) × (logs.now ≡ logs'.now) × (options ≡ options')
SameCommand _ _ = ⊥

-- the words of a command line say at most one command
abbrev pub WordsSayOneCommand : Type 0
WordsSayOneCommand = (words : List Text) (a b : Command) → Says words a → Says words b → SameCommand a b
