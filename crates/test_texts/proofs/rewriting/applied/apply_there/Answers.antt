use Rattle.test_texts.proofs.Common.{false}
use Rattle.test_texts.proofs.Readiness.{is_match_there, places_are_few}
use Rattle.test_texts.proofs.rewriting.applied.apply_there.Goals as goal

pub apply-requires-clause-places : goal.apply-requires-clause-places
apply-requires-clause-places c = places_are_few c.args.f.now c.in-Some.binding.block c.requires.function

pub apply-requires-clause-matches : goal.apply-requires-clause-matches
apply-requires-clause-matches c = (false, is_match_there c.args.f.now c.args.block c.args.place c.args.rule.now c.in-Some.binding (rw c.in-Some.is at c.in_ok-binding.ensures))
