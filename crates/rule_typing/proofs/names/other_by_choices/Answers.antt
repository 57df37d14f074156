use Rattle.rule_typing.proofs.Common.{◌≡◌, ℕ, get_or, Some, Choice, choice_naming}
use Rattle.rule_typing.proofs.Walks.{stands_still, other_here, none_other}
use Rattle.rule_typing.specs.declared.half.Half.TheVariants as halves
use Rattle.rule_typing.proofs.Among.{one_further}
use Rattle.rule_typing.proofs.names.other_by_choices.Goals as goal

-- the default for a place without a choice
abbrev none_choice : Choice
none_choice = record { place = 0; class = 0 }

pub returns-in-Some : goal.returns-in-Some
returns-in-Some c = other_here (λ (o : Choice) (d : ℕ). choice_naming halves.Target o ≡ Some (c.args.name, d)) c.args.choices.now c.loop-choice.choice-index (get_or c.args.choices.now c.loop-choice.choice-index none_choice) c.args.class c.in-Some.other (stands_still c.args.choices.now c.loop-choice.choice-index none_choice c.loop-choice-test.true) c.loop-choice-test.true (rw c.choice_naming.ensures at c.in-Some.ensures)

pub loop-choice-preserved : goal.loop-choice-preserved
loop-choice-preserved c = one_further (λ x. (d : ℕ) → (λ (o : Choice) (d : ℕ). choice_naming halves.Target o ≡ Some (c.args.name, d)) x d → c.args.class ≡ d) c.args.choices.now c.loop-choice.choice-index (get_or c.args.choices.now c.loop-choice.choice-index none_choice) (stands_still c.args.choices.now c.loop-choice.choice-index none_choice c.loop-choice-test.true) (rw c.choice_naming.ensures at c.in_default.ensures) c.loop-choice.invariant

pub returns : goal.returns
returns c = none_other (λ (o : Choice) (d : ℕ). choice_naming halves.Target o ≡ Some (c.args.name, d)) c.args.choices.now c.loop-choice.choice-index c.args.class c.loop-choice.invariant c.loop-choice-test.false
