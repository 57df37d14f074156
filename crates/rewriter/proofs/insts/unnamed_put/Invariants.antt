use Rattle.rewriter.proofs.Common.{◌≡◌, take, None, flat_map, insts_with}
use Rattle.rewriter.proofs.insts.unnamed_put.Given as goal

-- the instructions of the statements before the index
abbrev pub invariant-loop-statement : goal.invariant-loop-statement
invariant-loop-statement l = l.insts ≡ flat_map (insts_with l.fn.rule l.fn.binding None) (take l.statement-index l.statement-items)
