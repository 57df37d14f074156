use Rattle.fold_branch.proofs.Cleaning.{cleaned_stays_folded}
use Rattle.fold_branch.proofs.laws.cleaning_keeps_functions_folded.Goals as goal

pub returns : goal.returns
returns c = cleaned_stays_folded
