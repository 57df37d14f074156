use Rattle.ir_reader.proofs.Common.{get_or, arith, slice_get-get_or}
use Rattle.ir_reader.proofs.Sets.{adds_one}
use Rattle.ir_reader.proofs.predecessors.add.Goals as goal

pub returns : goal.returns
returns c =
    let sets = c.args.sets.now in
    let old = c.index-sets-target.result in
    adds_one sets c.args.target c.args.block (get_or sets c.args.target old) c.insert.new.self (slice_get-get_or sets c.args.target old (omega arith)) c.in_ok-insert.ensures.updates
