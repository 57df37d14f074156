use Rattle.strategy.proofs.Common.{on_ok_weaker, cleaned_numbers_fit}
use Rattle.strategy.proofs.Cleanness.{cleaned_needed}
use Rattle.strategy.proofs.Sizes.{cleaned_countable, few_insts}
use Rattle.strategy.proofs.steps.clean_checked.Goals as goal

pub clean-requires-clause-insts : goal.clean-requires-clause-insts
clean-requires-clause-insts c = few_insts 0 c.args.f.now c.requires.countable

pub clean-requires-clause-registers : goal.clean-requires-clause-registers
clean-requires-clause-registers c = c.requires.checks.formed.registers

pub returns-clause-checks : goal.returns-clause-checks
returns-clause-checks c =
    on_ok_weaker c.clean.result (c.every_cleaned_function_refines_the_old.ensures.checks c.args.f.now c.clean.new.f c.requires.checks) c.clean.ensures.ok

pub returns-clause-numbers : goal.returns-clause-numbers
returns-clause-numbers c =
    on_ok_weaker c.clean.result (cleaned_numbers_fit c.every_cleaned_number_was_there.ensures c.args.f.now c.clean.new.f c.requires.checks c.requires.numbers) c.clean.ensures.ok

pub returns-clause-needed : goal.returns-clause-needed
returns-clause-needed c = on_ok_weaker c.clean.result (cleaned_needed c.args.f.now c.clean.new.f c.requires.checks) c.clean.ensures.ok

pub returns-clause-countable : goal.returns-clause-countable
returns-clause-countable c = on_ok_weaker c.clean.result (λ cleaned steps few. cleaned_countable steps c.args.f.now c.clean.new.f few cleaned) c.clean.ensures.ok
