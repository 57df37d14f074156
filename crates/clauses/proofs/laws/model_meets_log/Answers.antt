use Rattle.clauses.proofs.LogSoundness.{Meets-log}
use Rattle.clauses.proofs.laws.model_meets_log.Goals as goal

pub returns : goal.returns
returns c = λ follows v meets. Meets-log c.args.set.now c.args.log.now v follows meets
