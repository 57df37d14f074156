use Rattle.matcher.proofs.Common.{◌∙◌, ◌-◌, ℕ, Some, ap, slice_set, length-set}
use Rattle.matcher.proofs.SourceSlots.{are_slots, known_first}
use Rattle.matcher.proofs.slots.Slots.new.Goals as goal

pub returns-clause-slots : goal.returns-clause-slots
returns-clause-slots c =
    are_slots c.args.rule.now _ c.requires.rule
    (length-set c.in_ok-statements.statements.items _ _ ∙ c.in_ok-statements.ensures ∙ c.len.ensures)
    (c.in_ok-unfilled.ensures ∙ c.len-2.ensures)
    (c.in_ok-unfilled-2.ensures ∙ c.len-3.ensures)
    c.in_ok-fixed_widths.ensures.count

pub returns-clause-knows : goal.returns-clause-knows
returns-clause-knows c m typing root =
    known_first c.args.rule.now _ m c.in_ok-statements.statements.items c.args.root
    (c.in_ok-statements.ensures ∙ c.len.ensures)
    (ap (λ (n : ℕ). slice_set c.in_ok-statements.statements.items (n - 1) (Some c.args.root)) (c.len-last.ensures ∙ c.in_ok-statements.statements.ok.0))
    c.in_ok-fixed_widths.ensures.count c.in_ok-fixed_widths.ensures.fixed typing root
