use Rattle.strategy_core.proofs.Deciding.{strategy_decides}
use Rattle.strategy_core.proofs.laws.every_match_left_is_decided.Goals as goal

pub returns : goal.returns
returns c = strategy_decides
