use Rattle.ir_resolve.proofs.Common.{map, take, IsFirst, SomeAt, known_by}
use Rattle.ir_resolve.proofs.Unknowns.{TargetIsUnknown}
use Rattle.ir_resolve.proofs.unknown.unknown_block.Given as goal

abbrev pub invariant-loop-target : goal.invariant-loop-target
invariant-loop-target l = IsFirst (SomeAt (map (λ w. w.now) (take l.target-index l.targets)) (TargetIsUnknown (known_by l.names))) l.found
