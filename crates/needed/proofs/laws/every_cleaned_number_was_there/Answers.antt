use Rattle.needed.proofs.Checking.{cleaned_numbers}
use Rattle.needed.proofs.laws.every_cleaned_number_was_there.Goals as goal

pub returns : goal.returns
returns c = cleaned_numbers
