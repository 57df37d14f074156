use Rattle.scan.proofs.KeptLemmas.{one_group}
use Rattle.scan.proofs.laws.every_bracket_is_closed_once.Goals as goal

pub returns : goal.returns
returns c = one_group
