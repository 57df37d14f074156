-- A command of the definition without commands of its own.
use Rattle.std.specs.Prelude.{◌≡◌, []}
use Rattle.clap.specs.Words.{Shape, app_of}
use Rattle.clap.specs.declared.builder.Command.{Command}

-- the command has this shape, and no subcommand
abbrev pub IsLeaf : Shape → Command → Type 0
IsLeaf shape command = app_of command ≡ record { top = shape; subs = [] }
