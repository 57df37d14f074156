use Rattle.test_texts.proofs.Readiness.{insts_are_few}
use Rattle.test_texts.proofs.rewriting.told.told_with.Goals as goal

pub count_uses-requires-clause-insts : goal.count_uses-requires-clause-insts
count_uses-requires-clause-insts c = insts_are_few c.args.f.now c.requires
