use Rattle.optimised_forms.proofs.Folded.{folded_have_forms}
use Rattle.optimised_forms.proofs.laws.folded_functions_have_forms.Goals as goal

pub returns : goal.returns
returns c = folded_have_forms
