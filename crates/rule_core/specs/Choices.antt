-- A choice that may be missing, as a list of one or none.
use Rattle.std.specs.Prelude.{List, [], ◌∷◌, Option, Some, None}
use Rattle.rule_core.specs.declared.rule.Choice.{Choice}

abbrev pub if_any : Option Choice → List Choice
if_any None = []
if_any (Some choice) = choice ∷ []
