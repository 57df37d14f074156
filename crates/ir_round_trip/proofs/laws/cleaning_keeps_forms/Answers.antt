use Rattle.ir_round_trip.proofs.FormedFunctions.{cleaned_have_forms}
use Rattle.ir_round_trip.proofs.FormedModules.{cleaned_modules}
use Rattle.ir_round_trip.proofs.laws.cleaning_keeps_forms.Goals as goal

pub returns-clause-functions : goal.returns-clause-functions
returns-clause-functions c = cleaned_have_forms

pub returns-clause-modules : goal.returns-clause-modules
returns-clause-modules c = cleaned_modules
