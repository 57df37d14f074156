use Rattle.blast_setting.proofs.Common.{◌≡◌, take, choices_among, widths_chosen}
use Rattle.blast_setting.proofs.choices.choice_widths.Given as goal

abbrev pub invariant-loop-statement : goal.invariant-loop-statement
invariant-loop-statement l = l.widths.items ≡ widths_chosen l.typing (choices_among (take l.statement-index l.statements))
