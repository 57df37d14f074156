use Rattle.ir_resolve.proofs.Common.{arith, known_by, seen_read}
use Rattle.ir_resolve.proofs.Firsts.{first_more_seen, first_all_seen, first_if}
use Rattle.ir_resolve.proofs.Unknowns.{ReadIsUnknown}
use Rattle.ir_resolve.proofs.unknown.unknown_register.Goals as goal

pub loop-read-preserved : goal.loop-read-preserved
loop-read-preserved c =
    first_more_seen seen_read (ReadIsUnknown (known_by c.args.names.now)) c.args.reads.now c.loop-read.read-index c.read-item.result _ _ _ (omega arith) c.read-item.is c.loop-read.invariant
    (first_if _ _ _ _ c.is_unknown-is_unknown.ensures c.then_some.ensures) c.lesser-found.ensures

pub returns : goal.returns
returns c = first_all_seen seen_read (ReadIsUnknown (known_by c.args.names.now)) c.args.reads.now _ _ (omega arith) c.loop-read.invariant
