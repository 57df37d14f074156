use Rattle.ir_resolve.proofs.Common.{◌≡◌, ℕ, List, arith, Typed, ValueClashes, Known, known_by, CallsRegisterIn, seen_read}
use Rattle.ir_resolve.proofs.Firsts.{first_more_seen, first_all_seen, first_if}
use Rattle.ir_resolve.proofs.types.read_clash.Goals as goal

abbrev Clashes : List Known → Typed → ℕ → Type 0
Clashes known t at = ValueClashes (CallsRegisterIn known) t.width t.operand.value × (t.operand.line ≡ at)

pub loop-read-preserved : goal.loop-read-preserved
loop-read-preserved c =
    first_more_seen seen_read (Clashes (known_by c.args.names.now)) c.args.reads.now c.loop-read.read-index c.read-item.result _ _ _ (omega arith) c.read-item.is c.loop-read.invariant
    (first_if _ _ _ _ c.value_clashes-clashes.ensures c.then_some.ensures) c.lesser-found.ensures

pub returns : goal.returns
returns c = first_all_seen seen_read (Clashes (known_by c.args.names.now)) c.args.reads.now _ _ (omega arith) c.loop-read.invariant
