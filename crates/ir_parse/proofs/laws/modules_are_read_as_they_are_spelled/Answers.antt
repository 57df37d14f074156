use Rattle.ir_parse.proofs.FunctionReadings.{module_of-is}
use Rattle.ir_parse.proofs.FunctionSpellings.{module_of-of}
use Rattle.ir_parse.proofs.laws.modules_are_read_as_they_are_spelled.Goals as goal

pub returns : goal.returns
returns c = λ tokens m. (module_of-is tokens m, module_of-of m tokens)
