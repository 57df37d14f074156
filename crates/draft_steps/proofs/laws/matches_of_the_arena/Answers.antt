use Rattle.draft_steps.proofs.Drafted.{of_the_arena}
use Rattle.draft_steps.proofs.laws.matches_of_the_arena.Goals as goal

pub returns : goal.returns
returns c = of_the_arena c.temporaries_stand_before_roots.ensures
