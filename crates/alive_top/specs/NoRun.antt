-- Runs of a function that is missing, or at arguments that do not fit it.
use Rattle.std.specs.Prelude.{ℕ, List, [], ◌∷◌}
use Rattle.run_text.specs.Runs.{IsMisnamed}
use Rattle.alive_top.specs.Task.{Task, Run}

-- the text is a module's, and that has no function of the run's name, or the arguments do not fit it
abbrev pub NamesNoRun : Task → List (List ℕ) → Type 0
NamesNoRun (Run source name arguments options) (text ∷ []) = IsMisnamed text name arguments
NamesNoRun task texts = ⊥
