use Rattle.test_texts.proofs.Readiness.{insts_are_few}
use Rattle.test_texts.proofs.rewriting.reading.match_there.Goals as goal

pub match_at-requires-clause-insts : goal.match_at-requires-clause-insts
match_at-requires-clause-insts c = insts_are_few c.args.f.now c.requires.function
