use Rattle.ir_resolve.proofs.Existence.{meaning_or_fault}
use Rattle.ir_resolve.proofs.Once.{one_meaning, one_fault, not_both}
use Rattle.ir_resolve.proofs.laws.every_function_has_one_meaning_or_one_fault.Goals as goal

pub returns : goal.returns
returns c = record { some = meaning_or_fault; one_meaning = one_meaning; one_fault = one_fault; not_both = not_both }
