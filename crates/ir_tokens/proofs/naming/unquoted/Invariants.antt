use Rattle.ir_tokens.proofs.Common.{◌≡◌, ◌++◌, length, unquoted}
use Rattle.ir_tokens.proofs.naming.unquoted.Given as goal

abbrev pub invariant-loop-byte : goal.invariant-loop-byte
invariant-loop-byte l = l.bytes.items ++ unquoted l.rest ≡ unquoted l.initial.rest

abbrev pub decreases-loop-byte : goal.decreases-loop-byte
decreases-loop-byte l = length l.rest
