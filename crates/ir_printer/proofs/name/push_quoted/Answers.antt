use Rattle.ir_printer.proofs.Common.{[], ◌∷◌, ◌++◌, escaped}
use Rattle.ir_printer.proofs.Printed.{each_at}
use Rattle.ir_printer.proofs.name.push_quoted.Goals as goal

pub loop-byte-preserved : goal.loop-byte-preserved
loop-byte-preserved c =
    each_at escaped (c.args.out.now.items ++ 34 ∷ []) _ _ c.args.name.now c.loop-byte.byte-index _ c.loop-byte-test.true c.loop-byte.invariant c.in_ok-push_escaped.ensures
