use Rattle.clauses.proofs.LogSoundness.{refuted_no_model}
use Rattle.clauses.proofs.laws.refuted_has_no_model.Goals as goal

pub returns : goal.returns
returns c = refuted_no_model c.args.set.now c.args.log.now
