use Rattle.outside.proofs.Common.{arith, sym, subst, drop, take, Appends-trans, take-add, take_rest, Appends}
use Rattle.outside.proofs.stream_sink.write_piece.Goals as goal

pub loop-taken-preserved : goal.loop-taken-preserved
loop-taken-preserved g c =
    let contents = g.W.Write.contents in
    let taken = c.loop-taken.taken in
    let count = c.in-Ok.count in
    let piece = c.args.piece.now in
    let more = rw (take_rest piece taken) at c.in-Ok.ensures.bytes in
    let both = Appends-trans (contents c.args.stream.now) _ (contents c.write.new.self) (take taken piece) (take count (drop taken piece)) c.loop-taken.invariant.gains more in
    record {
      within = omega (arith, c.in-Ok.ensures.bound, c.loop-taken-test.true);
      gains = subst (Appends (contents c.args.stream.now) (contents c.write.new.self)) (sym (take-add taken count piece)) both;
    }
