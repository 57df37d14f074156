use Rattle.blast_setting.proofs.Common.{◌≡◌, ◌++◌, take, widths_chosen}
use Rattle.blast_setting.proofs.choices.push_widths.Given as goal

abbrev pub invariant-loop-choice : goal.invariant-loop-choice
invariant-loop-choice l = l.widths.items ≡ l.initial.widths.items ++ widths_chosen l.typing (take l.choice-index l.choices)
