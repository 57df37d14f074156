use Rattle.verdict.proofs.Common.{take, IsVerified}
use Rattle.verdict.proofs.verification.verify.Given as goal

abbrev pub invariant-loop-place : goal.invariant-loop-place
invariant-loop-place l = IsVerified (take l.place l.rules) l.widths l.conflicts l.verified
