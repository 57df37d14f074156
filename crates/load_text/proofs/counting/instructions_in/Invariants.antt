use Rattle.load_text.proofs.Common.{◌≡◌, take, sum_by, instructions_of_entry}
use Rattle.load_text.proofs.counting.instructions_in.Given as goal

abbrev pub invariant-loop-entry : goal.invariant-loop-entry
invariant-loop-entry l = l.count ≡ sum_by instructions_of_entry (take l.entry-index l.entry-items)
