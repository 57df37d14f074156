use Rattle.ir_instructions.proofs.Common.{◌∙◌, sym, err_from_is_err_and, seen, begins_late_item, late_item_at}
use Rattle.ir_instructions.proofs.Loops.{repeat-more, repeat-fault, repeat-done}
use Rattle.ir_instructions.proofs.Takings.{late-takes}
use Rattle.ir_instructions.proofs.late_items.each_late_item.Goals as goal

pub returns-in_err-late_item : goal.returns-in_err-late_item
returns-in_err-late_item c =
    let p = err_from_is_err_and c.from_residual.result c.from_residual.ensures.1 in
    rw (p.1, p.2) (sym c.items.invariant ∙ repeat-fault (begins_late_item c.args.line) (λ before. late_item_at c.args.line) tt (seen c.items.tokens.now) c.in_err-late_item.field-0.0 (sym c.begins_late_item.ensures ∙ c.items-test.true) c.in_err-late_item.ensures)

pub items-smaller : goal.items-smaller
items-smaller c = late-takes c.args.line (seen c.items.tokens.now) (tt, seen c.late_item.new.tokens.now) (sym c.begins_late_item.ensures ∙ c.items-test.true) c.in_ok-late_item.ensures

pub items-preserved : goal.items-preserved
items-preserved c =
    sym (repeat-more (begins_late_item c.args.line) (λ before. late_item_at c.args.line) (λ before. late-takes c.args.line) tt (seen c.items.tokens.now) (tt, seen c.late_item.new.tokens.now) (sym c.begins_late_item.ensures ∙ c.items-test.true) c.in_ok-late_item.ensures)
    ∙ c.items.invariant

pub returns : goal.returns
returns c = sym c.items.invariant ∙ repeat-done (begins_late_item c.args.line) (λ before. late_item_at c.args.line) tt (seen c.items.tokens.now) (sym c.begins_late_item.ensures ∙ c.items-test.false)
