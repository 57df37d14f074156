use Rattle.ir_resolve.proofs.Common.{map, take, IsFirst, ReadClashesIn, known_by, CallsRegisterIn, seen_read}
use Rattle.ir_resolve.proofs.types.read_clash.Given as goal

abbrev pub invariant-loop-read : goal.invariant-loop-read
invariant-loop-read l = IsFirst (ReadClashesIn (CallsRegisterIn (known_by l.names)) (map seen_read (take l.read-index l.reads))) l.found
