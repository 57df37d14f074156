use Rattle.ir_resolve.proofs.Common.{◌≡◌, take}
use Rattle.ir_resolve.proofs.building.text.texts.Given as goal

abbrev pub invariant-loop-written : goal.invariant-loop-written
invariant-loop-written l = l.copies ≡ take l.written-index l.written
