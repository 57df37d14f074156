use Rattle.fold_branch.proofs.Again.{folded_again}
use Rattle.fold_branch.proofs.laws.folding_twice_is_folding_once.Goals as goal

pub returns : goal.returns
returns c = folded_again
