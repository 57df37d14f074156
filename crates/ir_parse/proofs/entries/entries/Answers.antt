use Rattle.ir_parse.proofs.TakingParts.{entry-takes}
use Rattle.ir_parse.proofs.entries.entries.Goals as goal

pub each-requires : goal.each-requires
each-requires c = entry-takes
