use Rattle.draft_steps.proofs.Drafted.{of_the_untouched}
use Rattle.draft_steps.proofs.laws.matches_of_the_untouched.Goals as goal

pub returns : goal.returns
returns c = of_the_untouched
