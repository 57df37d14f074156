use Rattle.scan.proofs.ModuleLaws.{one_module_token}
use Rattle.scan.proofs.laws.every_place_of_a_module_has_one_token.Goals as goal

pub returns : goal.returns
returns c = one_module_token
