use Rattle.optimised_forms.proofs.Numbers.{modules_fit}
use Rattle.optimised_forms.proofs.laws.formed_modules_numbers_fit.Goals as goal

pub returns : goal.returns
returns c = modules_fit
