use Rattle.ir_parse.proofs.TakingParts.{parameter-takes}
use Rattle.ir_parse.proofs.parameter.some_parameters.Goals as goal

pub each-requires : goal.each-requires
each-requires c = parameter-takes
