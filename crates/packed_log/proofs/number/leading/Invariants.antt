use Rattle.packed_log.proofs.Common.{◌-◌, ◌≤◌, length, take, All}
use Rattle.packed_log.proofs.number.leading.Given as goal

-- each byte before this place has the high bit set
abbrev pub invariant-loop-count : goal.invariant-loop-count
invariant-loop-count l =
    record {
      within : l.count ≤ length l.bytes;
      more : All (λ byte. 128 ≤ byte) (take l.count l.bytes);
    }

abbrev pub decreases-loop-count : goal.decreases-loop-count
decreases-loop-count l = length l.bytes - l.count
