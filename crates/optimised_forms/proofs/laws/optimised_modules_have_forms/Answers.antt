use Rattle.optimised_forms.proofs.Common.{parts}
use Rattle.optimised_forms.proofs.Optimised.{optimised_have_forms}
use Rattle.optimised_forms.proofs.laws.optimised_modules_have_forms.Goals as goal

pub returns : goal.returns
returns c =
    optimised_have_forms
    (parts c.every_cleaned_function_refines_the_old.ensures.refines c.every_cleaned_function_refines_the_old.ensures.checks c.every_cleaned_number_was_there.ensures
    c.every_folded_function_refines_the_old.ensures.refines c.every_folded_function_refines_the_old.ensures.checks c.every_folded_number_was_there.ensures
    c.rewritten_functions_refine.ensures c.rewritten_functions_meet_checks.ensures.checks c.rewritten_functions_meet_checks.ensures.numbers
    c.refinement_is_an_order.ensures.reflexive c.refinement_is_an_order.ensures.transitive)
    c.cleaning_keeps_forms.ensures.functions c.folded_functions_have_forms.ensures c.rewritten_functions_have_forms.ensures
