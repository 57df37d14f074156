use Rattle.packed_log.proofs.Common.{◌≤◌, take, get_or, All, sym, subst, arith, take_more, All-push}
use Rattle.packed_log.proofs.number.leading.Goals as goal

pub loop-count-preserved : goal.loop-count-preserved
loop-count-preserved c =
    let bytes = c.args.bytes.now in
    let count = c.loop-count.count in
    record {
      within = omega (arith, c.loop-count-test.true);
      more = subst (All (λ byte. 128 ≤ byte)) (sym (take_more bytes count 0 c.loop-count-test.true))
          (All-push (λ byte. 128 ≤ byte) (take count bytes) (get_or bytes count 0) c.loop-count.invariant.more c.if-bytes-count-ge128.true);
    }
