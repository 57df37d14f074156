-- the copies so far are those of the first texts
use Rattle.std.proofs.Common.{◌≡◌, take}
use Rattle.ir_core.proofs.copy.copy_texts.Given as goal

abbrev pub invariant-loop-text : goal.invariant-loop-text
invariant-loop-text l = l.copies ≡ take l.text-index l.text-items
