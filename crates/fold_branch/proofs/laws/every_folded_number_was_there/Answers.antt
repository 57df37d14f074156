use Rattle.fold_branch.proofs.Checking.{folded_numbers}
use Rattle.fold_branch.proofs.laws.every_folded_number_was_there.Goals as goal

pub returns : goal.returns
returns c = folded_numbers
