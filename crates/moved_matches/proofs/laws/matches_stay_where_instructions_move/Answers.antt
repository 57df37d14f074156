use Rattle.moved_matches.proofs.Common.{IsAvailable, IsInScope}
use Rattle.moved_matches.proofs.Staying.{matches_stay}
use Rattle.moved_matches.proofs.laws.matches_stay_where_instructions_move.Goals as goal

pub returns-clause-in_order : goal.returns-clause-in_order
returns-clause-in_order c = λ across known known' f f'. matches_stay (IsAvailable across f) (IsAvailable across f') known known' f f'

pub returns-clause-any_order : goal.returns-clause-any_order
returns-clause-any_order c = λ across. matches_stay (IsInScope across) (IsInScope across)
