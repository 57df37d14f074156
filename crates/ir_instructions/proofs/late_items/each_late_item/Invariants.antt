use Rattle.ir_instructions.proofs.Common.{◌≡◌, length, seen, begins_late_item, late_item_at, each_late_item_at, repeat_at}
use Rattle.ir_instructions.proofs.late_items.each_late_item.Given as goal

abbrev pub invariant-items : goal.invariant-items
invariant-items l = repeat_at (begins_late_item l.line) (λ before. late_item_at l.line) tt (seen l.tokens.now) ≡ each_late_item_at l.line (seen l.fn.tokens.now)

abbrev pub decreases-items : goal.decreases-items
decreases-items l = length (seen l.tokens.now)
