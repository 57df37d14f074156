use Rattle.blast_setting.proofs.Common.{◌≡◌, ◌^◌, ◌<◌, take, number}
use Rattle.blast_setting.proofs.setting.number_read.Given as goal

abbrev pub invariant-loop-i : goal.invariant-loop-i
invariant-loop-i l = record { value : l.number ≡ number (take l.i l.bits); fits : l.number < 2 ^ l.i }
