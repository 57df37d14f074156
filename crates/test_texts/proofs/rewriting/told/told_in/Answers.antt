use Rattle.test_texts.proofs.Readiness.{insts_are_few}
use Rattle.test_texts.proofs.rewriting.told.told_in.Goals as goal

pub clean_at-requires-clause-insts : goal.clean_at-requires-clause-insts
clean_at-requires-clause-insts c = insts_are_few c.args.f.now c.requires.function
