use Rattle.outside.proofs.Common.{◌-◌, ◌≤◌, length, take, Appends}
use Rattle.outside.proofs.stream_sink.write_piece.Given as goal

-- the stream took this much of the piece
abbrev pub invariant-loop-taken : goal.invariant-loop-taken
invariant-loop-taken g l =
    let contents = g.W.Write.contents in
    record {
      within : l.taken ≤ length l.piece;
      gains : Appends (contents l.fn.stream) (contents l.stream) (take l.taken l.piece);
    }

-- what is left to write
abbrev pub decreases-loop-taken : goal.decreases-loop-taken
decreases-loop-taken g l = length l.piece - l.taken
