use Rattle.optimised_forms.proofs.Rewritten.{rewritten_have_forms}
use Rattle.optimised_forms.proofs.laws.rewritten_functions_have_forms.Goals as goal

pub returns : goal.returns
returns c = rewritten_have_forms
