use Rattle.strategy_core.proofs.Refining.{parts, strategy_refines, strategy_meets, strategy_fits}
use Rattle.strategy_core.proofs.laws.every_optimised_module_refines_the_old.Goals as goal

pub returns-clause-refines : goal.returns-clause-refines
returns-clause-refines c =
    strategy_refines (parts c.every_cleaned_function_refines_the_old.ensures.refines c.every_cleaned_function_refines_the_old.ensures.checks c.every_cleaned_number_was_there.ensures
    c.every_folded_function_refines_the_old.ensures.refines c.every_folded_function_refines_the_old.ensures.checks c.every_folded_number_was_there.ensures
    c.rewritten_functions_refine.ensures c.rewritten_functions_meet_checks.ensures.checks c.rewritten_functions_meet_checks.ensures.numbers
    c.refinement_is_an_order.ensures.reflexive c.refinement_is_an_order.ensures.transitive)

pub returns-clause-checks : goal.returns-clause-checks
returns-clause-checks c =
    strategy_meets (parts c.every_cleaned_function_refines_the_old.ensures.refines c.every_cleaned_function_refines_the_old.ensures.checks c.every_cleaned_number_was_there.ensures
    c.every_folded_function_refines_the_old.ensures.refines c.every_folded_function_refines_the_old.ensures.checks c.every_folded_number_was_there.ensures
    c.rewritten_functions_refine.ensures c.rewritten_functions_meet_checks.ensures.checks c.rewritten_functions_meet_checks.ensures.numbers
    c.refinement_is_an_order.ensures.reflexive c.refinement_is_an_order.ensures.transitive)

pub returns-clause-numbers : goal.returns-clause-numbers
returns-clause-numbers c =
    strategy_fits (parts c.every_cleaned_function_refines_the_old.ensures.refines c.every_cleaned_function_refines_the_old.ensures.checks c.every_cleaned_number_was_there.ensures
    c.every_folded_function_refines_the_old.ensures.refines c.every_folded_function_refines_the_old.ensures.checks c.every_folded_number_was_there.ensures
    c.rewritten_functions_refine.ensures c.rewritten_functions_meet_checks.ensures.checks c.rewritten_functions_meet_checks.ensures.numbers
    c.refinement_is_an_order.ensures.reflexive c.refinement_is_an_order.ensures.transitive)
