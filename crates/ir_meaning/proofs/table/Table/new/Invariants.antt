use Rattle.ir_meaning.proofs.Common.{◌≡◌, length, take, sum_by}
use Rattle.ir_meaning.proofs.Tables.{AreFirsts, started}
use Rattle.ir_meaning.proofs.table.Table.new.Given as goal

abbrev pub invariant-loop-value : goal.invariant-loop-value
invariant-loop-value l = l.values.items ≡ take l.value-index l.args

abbrev pub invariant-loop-block : goal.invariant-loop-block
invariant-loop-block l =
    AreFirsts l.f l.block-index l.firsts.items × (l.values.items ≡ started l.args (sum_by (λ block. length block.insts) (take l.block-index l.f.blocks)))
