use Rattle.test_texts.proofs.Common.{false}
use Rattle.test_texts.proofs.Readiness.{insts_are_few, is_match_there, numbers_fit, places_are_few}
use Rattle.test_texts.proofs.rewriting.told.apply_there.Goals as goal

pub apply_at-requires-clause-numbers : goal.apply_at-requires-clause-numbers
apply_at-requires-clause-numbers c = numbers_fit c.args.f.now c.requires.function.forms

pub apply_at-requires-clause-insts : goal.apply_at-requires-clause-insts
apply_at-requires-clause-insts c = insts_are_few c.args.f.now c.requires.function

pub apply_at-requires-clause-places : goal.apply_at-requires-clause-places
apply_at-requires-clause-places c = places_are_few c.args.f.now c.in-Some.binding.block c.requires.function

pub apply_at-requires-clause-matches : goal.apply_at-requires-clause-matches
apply_at-requires-clause-matches c = (false, is_match_there c.args.f.now c.args.block c.args.place c.args.rule.now c.in-Some.binding (rw c.in-Some.is at c.in_ok-binding.ensures))
