use Rattle.ir_resolve.proofs.Common.{map, take, IsFirst, SomeAt, known_by, seen_read}
use Rattle.ir_resolve.proofs.Unknowns.{ReadIsUnknown}
use Rattle.ir_resolve.proofs.unknown.unknown_register.Given as goal

abbrev pub invariant-loop-read : goal.invariant-loop-read
invariant-loop-read l = IsFirst (SomeAt (map seen_read (take l.read-index l.reads)) (ReadIsUnknown (known_by l.names))) l.found
