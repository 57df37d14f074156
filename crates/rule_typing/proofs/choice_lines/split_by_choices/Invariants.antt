use Rattle.rule_typing.proofs.Common.{LineOf, choice_pairs, choice_naming}
use Rattle.rule_typing.proofs.Walks.{AreOne}
use Rattle.rule_typing.proofs.Among.{SoFar}
use Rattle.rule_typing.proofs.choice_lines.split_by_choices.Given as goal

abbrev pub invariant-loop-choice : goal.invariant-loop-choice
invariant-loop-choice l = SoFar (λ x. AreOne ((LineOf l.rule (choice_pairs l.rule l.half) (choice_naming l.half)) x)) l.choices l.choice-index
