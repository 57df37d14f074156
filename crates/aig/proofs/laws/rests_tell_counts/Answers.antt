use Rattle.aig.proofs.GraphLemmas.{count_from_rests}
use Rattle.aig.proofs.laws.rests_tell_counts.Goals as goal

pub returns : goal.returns
returns c = λ m n same. count_from_rests m n same
