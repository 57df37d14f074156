use Rattle.outside.proofs.Common.{◌-◌, ◌≤◌, vec_len, Keeps, prepend_known}
use Rattle.outside.proofs.disk_files.read_up_to.Given as goal

-- what was read so far, with what the reader has left behind it, is what it had left at first
abbrev pub invariant-loop-chunk : goal.invariant-loop-chunk
invariant-loop-chunk g l =
    let remaining = g.F.Read.remaining in
    record {
      within : vec_len l.bytes ≤ l.most;
      told : Keeps (remaining l.fn.file) (prepend_known l.bytes.items (remaining l.file));
    }

-- how many bytes may still come
abbrev pub decreases-loop-chunk : goal.decreases-loop-chunk
decreases-loop-chunk g l = l.most - vec_len l.bytes
